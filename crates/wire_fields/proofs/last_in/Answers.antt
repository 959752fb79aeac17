-- The loop keeps "the last from `at` on, after what is found, is the last of all"; a turn follows its field (Follow), the end is Follow.none.
use native.Mathlib.Omega.{arith}
use mathlib.Core.Path.{◌≡◌, refl, sym, ap, subst, ◌∙◌}
use mathlib.Core.List.{List}
use Rattle.std.specs.Prelude.{Option, Some, None}
use Rattle.wire_fields.specs.Fields.{later, on_field, fields_at, last_of, last_in}
use Rattle.wire_fields.specs.declared.Field.{Field}
use Rattle.wire_fields.proofs.Follow.{MaybeRead, field_read, behind, follow, none}
use Rattle.wire_fields.proofs.last_in.Goals as goal
use Rattle.wire_fields.proofs.last_in.Goals.{After-field_at}

-- at a field, or where none can be read: the last of it and of what follows is the answer
after : (c : After-field_at) (x : Option Field) → c.field_at.result ≡ x →
    let a = c.args in
    let l = c.loop-at in
    (MaybeRead a.s.now l.at x) × (last_of a.lo a.hi l.found (on_field (fields_at a.s.now) x) ≡ last_in a.lo a.hi a.s.now)
after c x e = let a = c.args in
    let l = c.loop-at in
    let is = sym c.field_at.ensures ∙ e in (
      subst (MaybeRead a.s.now l.at) is (field_read a.s.now l.at),
      ap (λ (y : Option Field). last_of a.lo a.hi l.found (on_field (fields_at a.s.now) y)) (sym is)
          ∙ ap (λ (y : List Field). last_of a.lo a.hi l.found y) (sym (follow a.s.now l.at c.loop-at-test.true))
          ∙ l.invariant.1,
    )

pub loop-at-init : goal.loop-at-init
loop-at-init c = (omega arith, refl)

pub returns-in_default : goal.returns-in_default
unfolding on_field last_of
returns-in_default c = (after (goal.at.returns-in_default c).After-field_at None c.in_default.is).1

-- a fixed field is not the last, so what is found stays
pub loop-at-smaller-in-Fixed : goal.loop-at-smaller-in-Fixed
loop-at-smaller-in-Fixed c = let h = (after (goal.at.loop-at-smaller-in-Fixed c).After-field_at _ (c.in-Some.is ∙ ap Some c.in-Fixed.is)).0 in omega arith

pub loop-at-preserved-in-Fixed : goal.loop-at-preserved-in-Fixed
unfolding on_field last_of later
loop-at-preserved-in-Fixed c =
    let h = after (goal.at.loop-at-preserved-in-Fixed c).After-field_at _ (c.in-Some.is ∙ ap Some c.in-Fixed.is) in
    (h.0.1, h.1)

pub loop-at-smaller : goal.loop-at-smaller
loop-at-smaller c =
    let h = (after (goal.at.loop-at-smaller c).After-field_at _ c.in-Some.is).0 in
    let b = behind _ _ c.in-Some.e h in
    omega (arith, b.0, b.1, c.next-at.ensures)

pub loop-at-preserved : goal.loop-at-preserved
unfolding on_field last_of
loop-at-preserved c =
    let a = c.args in
    let h = after (goal.at.loop-at-preserved c).After-field_at _ c.in-Some.is in
    rw (c.next-at.ensures, c.later-found.ensures) ((behind _ _ c.in-Some.e h.0).1, h.1)

pub returns : goal.returns
unfolding last_of
returns c = let a = c.args in
    let l = c.loop-at in
    ap (λ (y : List Field). last_of a.lo a.hi l.found y) (sym (none a.s.now l.at c.loop-at-test.false)) ∙ l.invariant.1
