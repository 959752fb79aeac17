-- A step follows its field (Checks.next), the message within is the recursion's claim at a shorter one.
use mathlib.Core.List.{List}
use native.Mathlib.Omega.{arith}
use mathlib.Core.Path.{◌≡◌, refl, sym, ap, subst, ◌∙◌}
use Prim.Native.Nat.{ℕ}
use Rattle.std.specs.Prelude.{Result, Ok, Err}
use Rattle.std.proofs.lemmas.Result.{err_from_is_err_and}
use Rattle.base_laws.specs.Base.{part}
use Rattle.wire_types.specs.declared.Refused.{Refused}
use Rattle.wire_check_field.specs.Check.{before, on_step, check_at, check_of}
use Rattle.wire_check_field.specs.declared.Step.{Step}
use Rattle.wire_check_field.proofs.Steps.{StepRead, step_at_lem}
use Rattle.base_laws.proofs.Parts.{length_part}
use Rattle.wire_check_field.proofs.Checks.{next, at_end, Placed, placed}
use Rattle.wire_check.proofs.+check.Goals as goal
use Rattle.wire_check.proofs.+check.Goals.{After-step_at, In-Inside}

-- after a field's step: how far it reaches, and what is left to check
after : (t : ℕ) (c : After-step_at t) (x : Result Step Refused) → c.step_at.result ≡ x →
    (StepRead c.args.s.now c.loop-at.at x) × (on_step check_at c.args.message c.args.s.now x ≡ check_of c.args.message c.args.s.now)
after t c x e =
    let is = sym c.step_at.ensures ∙ e in (
      subst (StepRead c.args.s.now c.loop-at.at) is (step_at_lem c.args.s.now c.args.message c.loop-at.at c.loop-at.invariant.0),
      ap (λ (y : Result Step Refused). on_step check_at c.args.message c.args.s.now y) (sym is)
          ∙ sym (next c.args.message c.args.s.now c.loop-at.at c.loop-at-test.true)
          ∙ c.loop-at.invariant.1,
    )

pub loop-at-init : goal.loop-at-init
loop-at-init t c = (omega arith, refl)

pub returns-in_err-next : goal.returns-in_err-next
unfolding on_step
returns-in_err-next t c =
    let p = err_from_is_err_and c.from_residual.result c.from_residual.ensures.1 in
    rw (p.1, p.2) (after t (goal.at.returns-in_err-next t c).After-step_at _ c.in_err-next.was).1

pub loop-at-smaller-in-Next : goal.loop-at-smaller-in-Next
loop-at-smaller-in-Next t c =
    let h = (after t (goal.at.loop-at-smaller-in-Next t c).After-step_at _ (c.in_ok-next.was ∙ ap Ok c.in-Next.is)).0 in
    omega arith

pub loop-at-preserved-in-Next : goal.loop-at-preserved-in-Next
unfolding on_step
loop-at-preserved-in-Next t c =
    let h = after t (goal.at.loop-at-preserved-in-Next t c).After-step_at _ (c.in_ok-next.was ∙ ap Ok c.in-Next.is) in
    (h.0.1, h.1)

pub slice_bounds-check-count : goal.slice_bounds-check-count
slice_bounds-check-count t c =
    (after t (goal.at.slice_bounds-check-count t c).After-step_at _ (c.in_ok-next.was ∙ ap Ok c.in-Inside.is)).0.1

pub slice_bounds-check-start : goal.slice_bounds-check-start
slice_bounds-check-start t c =
    let h = (after t (goal.at.slice_bounds-check-start t c).After-step_at _ (c.in_ok-next.was ∙ ap Ok c.in-Inside.is)).0 in
    omega arith

pub slice_bounds-check-end : goal.slice_bounds-check-end
slice_bounds-check-end t c =
    let h = (after t (goal.at.slice_bounds-check-end t c).After-step_at _ (c.in_ok-next.was ∙ ap Ok c.in-Inside.is)).0 in
    omega arith

pub check-requires : goal.check-requires
check-requires t c =
    let h = (after t (goal.at.check-requires t c).After-step_at _ (c.in_ok-next.was ∙ ap Ok c.in-Inside.is)).0 in
    (omega (arith, length_part c.args.s.now c.in-Inside.start c.in-Inside.end h.1 h.2), tt)

pub loop-at-smaller : goal.loop-at-smaller
loop-at-smaller t c =
    let h = (after t (goal.at.loop-at-smaller t c).After-step_at _ (c.in_ok-next.was ∙ ap Ok c.in-Inside.is)).0 in
    omega arith

pub loop-at-preserved : goal.loop-at-preserved
unfolding before on_step
loop-at-preserved t c =
    let h = after t (goal.at.loop-at-preserved t c).After-step_at _ (c.in_ok-next.was ∙ ap Ok c.in-Inside.is) in
    (h.0.2, ap (λ (y : Result Unit Refused). before c.in-Inside.start y (check_at c.args.message c.args.s.now c.in-Inside.end)) (sym c.in-Ok.is ∙ c.check.ensures) ∙ h.1)

pub within-requires : goal.within-requires
within-requires t c =
    let h = (after t (goal.at.within-requires t c).After-step_at _ (c.in_ok-next.was ∙ ap Ok c.in-Inside.is)).0 in
    let p : List ℕ = part c.args.s.now c.in-Inside.start c.in-Inside.end in
    let place = subst (Placed p) (sym c.check.ensures ∙ c.in-Err.is) (placed c.in-Inside.inner p 0) in
    omega (arith, length_part c.args.s.now c.in-Inside.start c.in-Inside.end h.1 h.2, place)

pub returns-in-Err : goal.returns-in-Err
unfolding before on_step
returns-in-Err t c =
    let h = after t (goal.at.returns-in-Err t c).After-step_at _ (c.in_ok-next.was ∙ ap Ok c.in-Inside.is) in
    ap Err c.within.ensures
    ∙ ap (λ (y : Result Unit Refused). before c.in-Inside.start y (check_at c.args.message c.args.s.now c.in-Inside.end)) (sym c.in-Err.is ∙ c.check.ensures)
    ∙ h.1

pub returns : goal.returns
returns t c = sym (at_end c.args.message c.args.s.now c.loop-at.at c.loop-at-test.false) ∙ c.loop-at.invariant.1
