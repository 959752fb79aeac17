-- The lengths of the list, the numbers and the bytes, each like its own, are added up by Lengths.like_append.
use Rattle.write_pieces.proofs.Lengths.{like_append}
use borrow.Author.Rules.{rules}
use Rattle.write_message.proofs.form.len_middle.Goals as goal

pub returns : goal.returns
returns c =
    (like_append c.len_list.ensures.0 (like_append c.len_numbers.ensures.0 c.len_raw.ensures.0), search rules)
