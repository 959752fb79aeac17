-- The member that counts is what last_in answers: Items.last_is_lem for what it means, Follow.part_in_bounds for where it lies.
use Prim.Native.Nat.{◌-◌}
use Rattle.wire_range.specs.Range.{client_fits, body_fits}
use native.Mathlib.Omega.{arith}
use mathlib.Core.Path.{ap, ◌∙◌}
use Rattle.std.specs.Prelude.{Some}
use mathlib.Core.Path.{◌≡◌}
use Rattle.wire_fields.proofs.Items.{last_is_lem}
use Rattle.wire_fields.proofs.Follow.{part_in_bounds}
use Rattle.wire_range.proofs.client_fits.Goals as goal

pub slice_bounds-body_fits-count : goal.slice_bounds-body_fits-count
slice_bounds-body_fits-count c = (part_in_bounds _ 1 13 c.last_in.ensures (c.in-Some-Part.is ∙ ap Some c.in-Some-Part.field-0-is)).0

pub slice_bounds-body_fits-start : goal.slice_bounds-body_fits-start
slice_bounds-body_fits-start c =
    let in_bounds = part_in_bounds _ 1 13 c.last_in.ensures (c.in-Some-Part.is ∙ ap Some c.in-Some-Part.field-0-is) in
    omega arith

pub slice_bounds-body_fits-end : goal.slice_bounds-body_fits-end
slice_bounds-body_fits-end c =
    let in_bounds = part_in_bounds _ 1 13 c.last_in.ensures (c.in-Some-Part.is ∙ ap Some c.in-Some-Part.field-0-is) in
    omega arith

pub returns-then-kind-ge16 : goal.returns-then-kind-ge16
unfolding client_fits
returns-then-kind-ge16 c =
    let is = last_is_lem _ 1 13 c.last_in.ensures (c.in-Some-Part.is ∙ ap Some c.in-Some-Part.field-0-is) in
    rw (← is, ← c.kind_of-kind.ensures) c.body_fits.ensures

pub returns-in-None : goal.returns-in-None
unfolding client_fits
returns-in-None c = rw (← last_is_lem _ 1 13 c.last_in.ensures c.in-None.is)

pub returns-in-Some-Number : goal.returns-in-Some-Number
unfolding client_fits
returns-in-Some-Number c = rw (← last_is_lem _ 1 13 c.last_in.ensures (c.in-Some-Number.is ∙ ap Some c.in-Some-Number.field-0-is))

pub returns-else-kind-ge16 : goal.returns-else-kind-ge16
unfolding client_fits body_fits
returns-else-kind-ge16 c =
    let is = last_is_lem _ 1 13 c.last_in.ensures (c.in-Some-Part.is ∙ ap Some c.in-Some-Part.field-0-is) in
    let z : c.kind_of-kind.result - 16 ≡ 0 = omega arith in
    rw (← is, ← c.kind_of-kind.ensures, z)
