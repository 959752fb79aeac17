-- What computes in the examples, by the part that it belongs to. None of these says anything: to unfold one is to unfold all that its own
-- line names, so that a proof by computing need not list them.
use Rattle.conf_lines.specs.Lines.{is_blank, lead, trail, is_remark, body, more, piece, onto, split, on_piece, lines_from, lines_at}
use Rattle.conf_content.specs.Content.{has, before, behind, last_is, but_last, header, keyed, assignment, content_of}
use Rattle.conf_typed.specs.Typed.{same, lower_byte, lower, section_name, section_of, all_digits, is_decimal, decimal_from}
use Rattle.conf_typed.specs.Typed.{timeout_of, maxseq_of, one_of, keepalive_of, link_typed, typed_of}
use Rattle.conf_list.specs.Listing.{counted, entry, listing, is_short, all_short}
use Rattle.conf_read.specs.Config.{setting_in, on_content, statements, statements_of, after, verdict}
use Rattle.conf_read.specs.Config.{link_with, maxseq_with, values_with, values_from, fits, answer_of, config_answer}

-- a text's lines
unfoldable pub cutting : Unit {0}
unfolding is_blank lead trail is_remark body more piece onto split on_piece lines_from lines_at
cutting = tt

-- what a line is
unfoldable pub parting : Unit {0}
unfolding is_blank lead trail has before behind last_is but_last header keyed assignment content_of
parting = tt

-- names of sections and keys
unfoldable pub naming : Unit {0}
unfolding same lower_byte lower section_name section_of
naming = tt

-- typed values
unfoldable pub typing : Unit {0}
unfolding naming all_digits is_decimal decimal_from timeout_of maxseq_of one_of keepalive_of link_typed typed_of
typing = tt

-- what a text says
unfoldable pub reading : Unit {0}
unfolding cutting parting typing setting_in on_content statements statements_of after verdict
reading = tt

-- the typed values of settings
unfoldable pub valuing : Unit {0}
unfolding typing link_with maxseq_with values_with values_from
valuing = tt

-- the list as bytes
unfoldable pub counting : Unit {0}
unfolding naming counted entry listing is_short all_short
counting = tt

-- the whole answer
unfoldable pub answering : Unit {0}
unfolding reading valuing counting fits answer_of config_answer
answering = tt
