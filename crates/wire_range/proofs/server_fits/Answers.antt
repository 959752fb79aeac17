-- The member that counts is what last_in answers: Items.last_is_lem for what it means, Follow.part_in_bounds for where it lies.
use borrow.Author.Tests.{eq-eqb, ne_eqb}
use Rattle.wire_range.specs.Range.{server_fits}
use native.Mathlib.Omega.{arith}
use mathlib.Core.Path.{ap, ◌∙◌}
use Rattle.std.specs.Prelude.{Some}
use Rattle.wire_fields.proofs.Items.{last_is_lem}
use Rattle.wire_fields.proofs.Follow.{part_in_bounds}
use Rattle.wire_range.proofs.server_fits.Goals as goal

pub slice_bounds-time_spec_in-count : goal.slice_bounds-time_spec_in-count
slice_bounds-time_spec_in-count c = (part_in_bounds _ 1 5 c.last_in.ensures (c.in-Some-Part.is ∙ ap Some c.in-Some-Part.field-0-is)).0

pub slice_bounds-time_spec_in-start : goal.slice_bounds-time_spec_in-start
slice_bounds-time_spec_in-start c =
    let in_bounds = part_in_bounds _ 1 5 c.last_in.ensures (c.in-Some-Part.is ∙ ap Some c.in-Some-Part.field-0-is) in
    omega arith

pub slice_bounds-time_spec_in-end : goal.slice_bounds-time_spec_in-end
slice_bounds-time_spec_in-end c =
    let in_bounds = part_in_bounds _ 1 5 c.last_in.ensures (c.in-Some-Part.is ∙ ap Some c.in-Some-Part.field-0-is) in
    omega arith

pub returns-then-number-eq2 : goal.returns-then-number-eq2
unfolding server_fits
returns-then-number-eq2 c =
    let is = last_is_lem _ 1 5 c.last_in.ensures (c.in-Some-Part.is ∙ ap Some c.in-Some-Part.field-0-is) in
    rw (← is, eq-eqb _ _ c.if-number-eq2.true, ← c.time_spec_in.ensures.means) c.moment_fits.ensures

pub returns-in-None : goal.returns-in-None
unfolding server_fits
returns-in-None c = rw (← last_is_lem _ 1 5 c.last_in.ensures c.in-None.is)

pub returns-in-Some-Number : goal.returns-in-Some-Number
unfolding server_fits
returns-in-Some-Number c = rw (← last_is_lem _ 1 5 c.last_in.ensures (c.in-Some-Number.is ∙ ap Some c.in-Some-Number.field-0-is))

pub returns-else-number-eq2 : goal.returns-else-number-eq2
unfolding server_fits
returns-else-number-eq2 c =
    let is = last_is_lem _ 1 5 c.last_in.ensures (c.in-Some-Part.is ∙ ap Some c.in-Some-Part.field-0-is) in
    rw (← is, ne_eqb _ _ c.if-number-eq2.false)
