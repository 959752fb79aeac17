-- Hands the form that `plain_entry` ensures, and what `string_seen` or `other_seen` ensures, to `by_value`.
use mathlib.Core.Path.{◌≡◌, refl, ap, subst, ◌∙◌}
use Rattle.std.specs.Prelude.{Option, Some}
use Rattle.wire_check.specs.declared.entry.Plain.{Plain}
use Rattle.wire_check.specs.Entry.{Formed}
use Rattle.wire_fields.specs.Fields.{among}
use Rattle.wire_fields.specs.Items.{last_from, bytes_of}
use Rattle.wire_message.specs.Message.{entry, value_of}
use Rattle.wire_range.specs.Limits.{is_set}
use Rattle.session_fast_accept.specs.Summary.{is_string}
use Rattle.session_fast_accept.proofs.KeyLaws.{by_value}
use Rattle.session_fast_accept.proofs.entry_seen.Goals as goal
use Rattle.session_fast_accept.proofs.entry_seen.Goals.{After-plain_entry}

-- the entry's form, by what plain_entry answered
formed : (c : After-plain_entry) {x : Option Plain} → c.plain_entry.result ≡ x → Formed c.args.s.now x
formed c e = subst (Formed c.args.s.now) e c.plain_entry.ensures

pub other_seen-requires : goal.other_seen-requires
unfolding Formed
other_seen-requires c = (formed (goal.at.other_seen-requires c).After-plain_entry (c.in_ok-key.was ∙ ap Some c.in-Number.is)).0.ends

pub string_seen-requires : goal.string_seen-requires
unfolding Formed
string_seen-requires c = (formed (goal.at.string_seen-requires c).After-plain_entry (c.in_ok-key.was ∙ ap Some c.in-Text.is)).0.holds.ends

pub other_seen-requires-in-Texts : goal.other_seen-requires-in-Texts
unfolding Formed
other_seen-requires-in-Texts c = (formed (goal.at.other_seen-requires-in-Texts c).After-plain_entry (c.in_ok-key.was ∙ ap Some c.in-Texts.is)).0.holds.ends

pub other_seen-requires-in-Numbers : goal.other_seen-requires-in-Numbers
unfolding Formed
other_seen-requires-in-Numbers c = (formed (goal.at.other_seen-requires-in-Numbers c).After-plain_entry (c.in_ok-key.was ∙ ap Some c.in-Numbers.is)).0.holds.ends

pub returns-in-Number : goal.returns-in-Number
unfolding Formed entry last_from among bytes_of value_of is_set
returns-in-Number c = by_value (formed (goal.at.returns-in-Number c).After-plain_entry (c.in_ok-key.was ∙ ap Some c.in-Number.is)).0 is_set _ _ refl refl c.other_seen.ensures

pub returns-in-Text : goal.returns-in-Text
unfolding Formed entry last_from among bytes_of value_of is_string
returns-in-Text c = by_value (formed (goal.at.returns-in-Text c).After-plain_entry (c.in_ok-key.was ∙ ap Some c.in-Text.is)).0.holds is_string _ _ refl refl c.string_seen.ensures

pub returns-in-Texts : goal.returns-in-Texts
unfolding Formed entry last_from among bytes_of value_of is_set
returns-in-Texts c = by_value (formed (goal.at.returns-in-Texts c).After-plain_entry (c.in_ok-key.was ∙ ap Some c.in-Texts.is)).0.holds is_set _ _ refl refl c.other_seen-in-Texts.ensures

pub returns-in-Numbers : goal.returns-in-Numbers
unfolding Formed entry last_from among bytes_of value_of is_set
returns-in-Numbers c = by_value (formed (goal.at.returns-in-Numbers c).After-plain_entry (c.in_ok-key.was ∙ ap Some c.in-Numbers.is)).0.holds is_set _ _ refl refl c.other_seen-in-Numbers.ensures
