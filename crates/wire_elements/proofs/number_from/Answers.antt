-- The loop keeps "the fields from `at` on have the first number of those from `from` on"; a turn is Numbers.at_field, the end Numbers.at_end.
use borrow.Author.Tests.{eq-eqb, ne_eqb}
use native.Mathlib.Omega.{arith}
use mathlib.Core.Path.{◌≡◌, refl, sym, ap, ◌∙◌}
use Rattle.std.specs.Prelude.{Option, Some, None, Result}
use Rattle.wire_fields.specs.Fields.{on_field, fields_at}
use Rattle.wire_varint.specs.declared.Varint.{Varint}
use Rattle.wire_varint.specs.declared.VarintError.{VarintError}
use Rattle.wire_fields.specs.declared.Field.{Field}
use Rattle.wire_fields.specs.declared.Field.TheVariants as field
use Rattle.wire_elements.specs.Elements.{first_in, first_number}
use Rattle.wire_elements.proofs.Numbers.{Leaves, at_field, at_end, first_in_lem}
use Rattle.wire_elements.proofs.number_from.Goals as goal
use Rattle.wire_elements.proofs.number_from.Goals.{After-field_at, After-packed_in}

-- what a field leaves
after : (c : After-field_at) (x : Option Field) → c.field_at.result ≡ x →
    let a = c.args in
    Leaves a.s.now a.from c.loop-at.at x
after c x e = at_field _ _ _ x c.loop-at-test.true c.loop-at.invariant (sym c.field_at.ensures ∙ e)

-- a part: what is left of its packed numbers
at_packed : (c : After-packed_in) →
    let a = c.args in
    Leaves a.s.now a.from c.loop-at.at (Some (field.Part c.in-Part.number c.in-Part.start c.in-Part.end))
at_packed c = at_field _ _ _ _ c.loop-at-test.true c.loop-at.invariant (sym c.field_at.ensures ∙ c.in_ok-number.was ∙ ap Some c.in-Part.is)

-- its first number, or that of the fields past it
first_of : (c : After-packed_in) (r : Result Varint VarintError) → c.packed_in.result ≡ r →
    let a = c.args in
    first_in c.in-Part.end (first_number a.s.now (fields_at a.s.now c.in-Part.end)) r ≡ first_number a.s.now (fields_at a.s.now a.from)
unfolding on_field first_number
first_of c r e =
    let s = c.args.s.now in
    first_in_lem s c.in-Part.number c.in-Part.start c.in-Part.end (first_number s (fields_at s c.in-Part.end)) r (sym c.packed_in.ensures ∙ e)
    ∙ (at_packed c).1

pub loop-at-init : goal.loop-at-init
loop-at-init c = refl

pub returns-then-number-eq1 : goal.returns-then-number-eq1
unfolding on_field first_number
returns-then-number-eq1 c = rw (eq-eqb _ _ c.if-number-eq1.true) at (after (goal.at.returns-then-number-eq1 c).After-field_at _ (c.in_ok-number.was ∙ ap Some c.in-Number.is)).1

pub loop-at-smaller-in-Number : goal.loop-at-smaller-in-Number
loop-at-smaller-in-Number c = let h = (after (goal.at.loop-at-smaller-in-Number c).After-field_at _ (c.in_ok-number.was ∙ ap Some c.in-Number.is)).0 in omega arith

pub loop-at-preserved-in-Number : goal.loop-at-preserved-in-Number
unfolding on_field first_number
loop-at-preserved-in-Number c = rw (ne_eqb _ _ c.if-number-eq1.false) at (after (goal.at.loop-at-preserved-in-Number c).After-field_at _ (c.in_ok-number.was ∙ ap Some c.in-Number.is)).1

pub loop-at-smaller-in-Fixed : goal.loop-at-smaller-in-Fixed
loop-at-smaller-in-Fixed c = let h = (after (goal.at.loop-at-smaller-in-Fixed c).After-field_at _ (c.in_ok-number.was ∙ ap Some c.in-Fixed.is)).0 in omega arith

pub loop-at-preserved-in-Fixed : goal.loop-at-preserved-in-Fixed
unfolding on_field first_number
loop-at-preserved-in-Fixed c = (after (goal.at.loop-at-preserved-in-Fixed c).After-field_at _ (c.in_ok-number.was ∙ ap Some c.in-Fixed.is)).1

pub returns-in-Ok : goal.returns-in-Ok
unfolding first_in
returns-in-Ok c = first_of (goal.at.returns-in-Ok c).After-packed_in _ c.in-Ok.is

pub loop-at-smaller : goal.loop-at-smaller
loop-at-smaller c = let leaves = (at_packed (goal.at.loop-at-smaller c).After-packed_in).0 in omega arith

pub loop-at-preserved : goal.loop-at-preserved
unfolding first_in
loop-at-preserved c = first_of (goal.at.loop-at-preserved c).After-packed_in _ c.in-Err.is

pub returns-in_err-number : goal.returns-in_err-number
unfolding on_field first_number
returns-in_err-number c = rw c.from_residual.ensures (after (goal.at.returns-in_err-number c).After-field_at None c.in_err-number.was).1

pub returns : goal.returns
returns c = at_end _ _ c.loop-at-test.false ∙ c.loop-at.invariant
