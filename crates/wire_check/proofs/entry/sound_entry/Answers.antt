-- What plain_entry ensures of its answer, `Formed`, holds of each case; a list of texts is sound where plain_strings says so.
use mathlib.Core.Path.{◌≡◌, ap, subst, ◌∙◌}
use Rattle.std.specs.Prelude.{Option, Some}
use Rattle.wire_check.specs.Entry.{Formed}
use Rattle.wire_check.specs.declared.entry.Plain.{Plain}
use Rattle.wire_check.proofs.entry.sound_entry.Goals as goal
use Rattle.wire_check.proofs.entry.sound_entry.Goals.{After-plain_entry}

-- the entry's form, by what plain_entry answered
formed : (c : After-plain_entry) {x : Option Plain} → c.plain_entry.result ≡ x → Formed c.args.s.now x
formed c e = subst (Formed c.args.s.now) e c.plain_entry.ensures

pub slice_bounds-plain_strings-count : goal.slice_bounds-plain_strings-count
unfolding Formed
slice_bounds-plain_strings-count c = (formed (goal.at.slice_bounds-plain_strings-count c).After-plain_entry (c.in-Some-Texts.is ∙ ap Some c.in-Some-Texts.field-0-is)).0.within

pub slice_bounds-plain_strings-start : goal.slice_bounds-plain_strings-start
unfolding Formed
slice_bounds-plain_strings-start c = (formed (goal.at.slice_bounds-plain_strings-start c).After-plain_entry (c.in-Some-Texts.is ∙ ap Some c.in-Some-Texts.field-0-is)).0.within

pub returns-in-Some-Number : goal.returns-in-Some-Number
unfolding Formed
returns-in-Some-Number c = λ _. (formed (goal.at.returns-in-Some-Number c).After-plain_entry (c.in-Some-Number.is ∙ ap Some c.in-Some-Number.field-0-is)).1

pub returns-in-Some-Text : goal.returns-in-Some-Text
unfolding Formed
returns-in-Some-Text c = λ _. (formed (goal.at.returns-in-Some-Text c).After-plain_entry (c.in-Some-Text.is ∙ ap Some c.in-Some-Text.field-0-is)).1

pub returns-in-Some-Texts : goal.returns-in-Some-Texts
unfolding Formed
returns-in-Some-Texts c =
    λ fine. (formed (goal.at.returns-in-Some-Texts c).After-plain_entry (c.in-Some-Texts.is ∙ ap Some c.in-Some-Texts.field-0-is)).1 (c.plain_strings.ensures fine)
