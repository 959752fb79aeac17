-- The loop keeps "the ends from here on are bad where all are"; a turn is Lists.ends_step, the end Lists.ends_done.
use mathlib.Core.Bool.{true, not}
use Rattle.write_lists.proofs.Lists.{ends_step, ends_done, not_not}
use Rattle.write_forms.specs.Draft.{bad_ends}
use borrow.Author.Tests.{lt-ltb, le-ltb}
use lib.ListN.{drop}
use mathlib.Core.Path.{◌≡◌, sym, ap, ◌∙◌}
use Rattle.write_lists.proofs.ends_fit.Goals as goal

pub returns-then-e-a : goal.returns-then-e-a
returns-then-e-a c =
    let a = c.args in
    let l = c.loop-e in
    let step = ends_step a.size l.a a.ends.now l.e-index c.loop-e-test.true in
    let bad : bad_ends a.size l.a (drop l.e-index a.ends.now) ≡ true = step ∙ rw (lt-ltb _ _ c.if-e-a.true) in
    sym (ap not (sym l.invariant ∙ bad))

pub loop-e-preserved : goal.loop-e-preserved
loop-e-preserved c =
    let a = c.args in
    let l = c.loop-e in
    let step = ends_step a.size l.a a.ends.now l.e-index c.loop-e-test.true in
    (sym (rw (le-ltb _ _ c.if-e-a.false) at step) ∙ l.invariant)

pub returns : goal.returns
returns c =
    let a = c.args in
    let l = c.loop-e in
    not_not _ ∙ ap not (sym (ends_done a.size l.a a.ends.now l.e-index c.loop-e-test.false) ∙ l.invariant)
