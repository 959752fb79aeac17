-- The loop keeps "the run's check from `at` on is the whole's"; an entry is Runs.reached and Runs.run_next, the end Runs.run_end.
use Rattle.write_run.proofs.Runs.{Reached, reached, run_next, run_end}
use Rattle.write_forms.specs.Run.{on_entry, run_at}
use Rattle.wire_check_field.proofs.Checks.{Placed, placed}
use Rattle.std.specs.Prelude.{Result, Err}
use Rattle.std.proofs.lemmas.Result.{err_from_is_err_and}
use Rattle.wire_types.specs.declared.Refused.{Refused}
use Rattle.wire_types.specs.declared.Span.{Span}
use Rattle.wire_check_field.specs.Check.{before}
use Rattle.base_laws.proofs.Parts.{length_part}
use Rattle.base_laws.specs.Base.{part}
use native.Mathlib.Omega.{arith}
use mathlib.Core.List.{List}
use Prim.Native.Nat.{ℕ}
use mathlib.Core.Path.{◌≡◌, refl, sym, ap, subst, ◌∙◌}
use Rattle.write_run.proofs.run_check.Goals as goal
use Rattle.write_run.proofs.run_check.Goals.{After-entry_at}

-- after an entry: how far it reaches, and what is left to check
after : (c : After-entry_at) (x : Result Span Refused) → c.entry_at.result ≡ x →
    let a = c.args in
    (Reached a.s.now c.loop-at.at x) × (on_entry (run_at a.field a.s.now) a.s.now x ≡ run_at a.field a.s.now 0)
after c x e = let a = c.args in
    let l = c.loop-at in
    let is = sym c.entry_at.ensures ∙ e in (
      subst (Reached a.s.now l.at) is (reached a.field a.s.now l.at l.invariant.0),
      ap (λ (y : Result Span Refused). on_entry (run_at a.field a.s.now) a.s.now y) (sym is)
          ∙ sym (run_next a.field a.s.now l.at c.loop-at-test.true)
          ∙ l.invariant.1,
    )

pub loop-at-init : goal.loop-at-init
loop-at-init c = (omega arith, refl)

pub returns-in_err-start : goal.returns-in_err-start
unfolding on_entry
returns-in_err-start c =
    let p = err_from_is_err_and c.from_residual.result c.from_residual.ensures.1 in
    rw (p.1, p.2) (after (goal.at.returns-in_err-start c).After-entry_at _ c.in_err-start.was).1

pub slice_bounds-check-count : goal.slice_bounds-check-count
slice_bounds-check-count c = (after (goal.at.slice_bounds-check-count c).After-entry_at _ c.in_ok-start.was).0.1

pub slice_bounds-check-start : goal.slice_bounds-check-start
slice_bounds-check-start c = let h = (after (goal.at.slice_bounds-check-start c).After-entry_at _ c.in_ok-start.was).0 in omega arith

pub slice_bounds-check-end : goal.slice_bounds-check-end
slice_bounds-check-end c = let h = (after (goal.at.slice_bounds-check-end c).After-entry_at _ c.in_ok-start.was).0 in omega arith

pub loop-at-smaller : goal.loop-at-smaller
loop-at-smaller c = let h = (after (goal.at.loop-at-smaller c).After-entry_at _ c.in_ok-start.was).0 in omega arith

pub loop-at-preserved : goal.loop-at-preserved
unfolding on_entry before
loop-at-preserved c =
    let a = c.args in
    let p : Span = c.in_ok-start.field-0 in
    let h = after (goal.at.loop-at-preserved c).After-entry_at _ c.in_ok-start.was in
    (h.0.2, ap (λ (y : Result Unit Refused). before p.start y (run_at a.field a.s.now p.end)) (sym c.in-Ok.is ∙ c.check.ensures) ∙ h.1)

pub within-requires : goal.within-requires
within-requires c =
    let h = (after (goal.at.within-requires c).After-entry_at _ c.in_ok-start.was).0 in
    let s = c.args.s.now in
    let p : List ℕ = part s c.in_ok-start.field-0.start c.in_ok-start.field-0.end in
    let place = subst (Placed p) (sym c.check.ensures ∙ c.in-Err.is) (placed 11 p 0) in
    omega (arith, length_part s c.in_ok-start.field-0.start c.in_ok-start.field-0.end h.1 h.2, place)

pub returns-in-Err : goal.returns-in-Err
unfolding on_entry before
returns-in-Err c =
    let a = c.args in
    let p : Span = c.in_ok-start.field-0 in
    let h = after (goal.at.returns-in-Err c).After-entry_at _ c.in_ok-start.was in
    ap Err c.within.ensures ∙ ap (λ (y : Result Unit Refused). before p.start y (run_at a.field a.s.now p.end)) (sym c.in-Err.is ∙ c.check.ensures) ∙ h.1

pub returns : goal.returns
returns c =
    let a = c.args in
    sym (run_end a.field a.s.now c.loop-at.at c.loop-at-test.false) ∙ c.loop-at.invariant.1
