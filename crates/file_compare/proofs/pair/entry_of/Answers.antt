-- The flags, the place and the test give the entry's number: Entries.entry_same, Entries.entry_differs. It is small by
-- Entries.parting_within.
use native.Mathlib.Omega.{arith}
use mathlib.Core.Path.{sym, ◌∙◌}
use Rattle.file_compare.specs.Walk.{record_with}
use Rattle.file_compare.proofs.Entries.{parting_within, entry_same, entry_differs}
use Rattle.file_compare.proofs.pair.entry_of.Goals as goal

pub returns-then-ends_both : goal.returns-then-ends_both
returns-then-ends_both c =
    let a = c.args in
    entry_same (record_with a.head.kind a.head.delay a.contents.now) (record_with a.head2.kind a.head2.delay a.contents2.now) _ _ _
    c.flag.ensures.0 c.flag-2.ensures.0 c.first_difference-at.ensures
    (sym c.ends_both.ensures ∙ c.if-ends_both.true)

pub overflow_add-result-2 : goal.overflow_add-result-2
overflow_add-result-2 c =
    let a = c.args in
    omega (arith, c.first_difference-at.ensures, parting_within a.contents.now a.contents2.now)

pub returns : goal.returns
returns c =
    let a = c.args in
    entry_differs (record_with a.head.kind a.head.delay a.contents.now) (record_with a.head2.kind a.head2.delay a.contents2.now) _ _ _
    c.flag.ensures.0 c.flag-2.ensures.0 c.first_difference-at.ensures
    (sym c.ends_both.ensures ∙ c.if-ends_both.false)
