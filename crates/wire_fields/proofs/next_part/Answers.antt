-- The loop keeps "the first from `at` on is the first of all"; a turn follows its field (Follow), the end is Follow.none.
use borrow.Author.Tests.{eq-eqb, ne_eqb}
use native.Mathlib.Omega.{arith}
use mathlib.Core.Path.{◌≡◌, refl, sym, ap, subst, ◌∙◌}
use mathlib.Core.List.{List}
use Rattle.wire_fields.specs.Fields.{on_field, fields_at, first_of}
use Rattle.wire_fields.specs.declared.Field.{Field}
use Rattle.std.specs.Prelude.{Option, Some, None}
use Rattle.wire_fields.proofs.Follow.{MaybeRead, field_read, follow, none}
use Rattle.wire_fields.proofs.next_part.Goals as goal
use Rattle.wire_fields.proofs.next_part.Goals.{After-field_at}

-- at a field: how far it reaches, and that the first of what it leads to is the answer
after : (c : After-field_at) (x : Option Field) → c.field_at.result ≡ x →
    let a = c.args in
    (MaybeRead a.s.now c.loop-at.at x)
    × (first_of a.number (on_field (fields_at a.s.now) x) ≡ first_of a.number (fields_at a.s.now a.from))
after c x e = let a = c.args in
    let l = c.loop-at in
    let is = sym c.field_at.ensures ∙ e in (
      subst (MaybeRead a.s.now l.at) is (field_read a.s.now l.at),
      ap (λ (y : Option Field). first_of a.number (on_field (fields_at a.s.now) y)) (sym is)
          ∙ ap (λ (y : List Field). first_of a.number y) (sym (follow a.s.now l.at c.loop-at-test.true))
          ∙ l.invariant,
    )

pub loop-at-init : goal.loop-at-init
loop-at-init c = refl

pub loop-at-smaller-in-Number : goal.loop-at-smaller-in-Number
loop-at-smaller-in-Number c = let h = (after (goal.at.loop-at-smaller-in-Number c).After-field_at _ (c.in_ok-next.was ∙ ap Some c.in-Number.is)).0 in omega arith

pub loop-at-preserved-in-Number : goal.loop-at-preserved-in-Number
unfolding on_field first_of
loop-at-preserved-in-Number c = (after (goal.at.loop-at-preserved-in-Number c).After-field_at _ (c.in_ok-next.was ∙ ap Some c.in-Number.is)).1

pub loop-at-smaller-in-Fixed : goal.loop-at-smaller-in-Fixed
loop-at-smaller-in-Fixed c = let h = (after (goal.at.loop-at-smaller-in-Fixed c).After-field_at _ (c.in_ok-next.was ∙ ap Some c.in-Fixed.is)).0 in omega arith

pub loop-at-preserved-in-Fixed : goal.loop-at-preserved-in-Fixed
unfolding on_field first_of
loop-at-preserved-in-Fixed c = (after (goal.at.loop-at-preserved-in-Fixed c).After-field_at _ (c.in_ok-next.was ∙ ap Some c.in-Fixed.is)).1

pub returns-then-found-number : goal.returns-then-found-number
unfolding on_field first_of
returns-then-found-number c = rw (eq-eqb _ _ c.if-found-number.true) at (after (goal.at.returns-then-found-number c).After-field_at _ (c.in_ok-next.was ∙ ap Some c.in-Part.is)).1

pub loop-at-smaller : goal.loop-at-smaller
loop-at-smaller c = let h = (after (goal.at.loop-at-smaller c).After-field_at _ (c.in_ok-next.was ∙ ap Some c.in-Part.is)).0 in omega arith

pub loop-at-preserved : goal.loop-at-preserved
unfolding on_field first_of
loop-at-preserved c = rw (ne_eqb _ _ c.if-found-number.false) at (after (goal.at.loop-at-preserved c).After-field_at _ (c.in_ok-next.was ∙ ap Some c.in-Part.is)).1

pub returns-in_err-next : goal.returns-in_err-next
unfolding on_field first_of
returns-in_err-next c =
    rw c.from_residual.ensures (after (goal.at.returns-in_err-next c).After-field_at None c.in_err-next.was).1

pub returns : goal.returns
unfolding first_of
returns c =
    let a = c.args in
    ap (λ (y : List Field). first_of a.number y) (sym (none a.s.now c.loop-at.at c.loop-at-test.false))
    ∙ c.loop-at.invariant
