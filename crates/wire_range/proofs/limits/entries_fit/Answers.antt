-- The loop keeps "the entries from `at` on fit where all do"; an entry found is Elements.found_part, none Elements.found_none.
use Rattle.wire_range.specs.Limits.{entries_fit}
use Rattle.wire_message.specs.Message.{entries}
use Rattle.wire_elements.proofs.Elements.{all_elements, found_none, found_part, found_in_bounds}
use Rattle.wire_fields.specs.Fields.{fields_at, first_of}
use Rattle.std.specs.Prelude.{Some}
use native.Mathlib.Omega.{arith}
use mathlib.Core.Path.{◌≡◌, sym, ◌∙◌}
use Rattle.wire_range.proofs.limits.entries_fit.Goals as goal
use Rattle.wire_range.proofs.limits.entries_fit.Goals.{In-Some}

-- the entry that is found
entry_found : (c : In-Some) →
    let a = c.args in
    first_of a.number (fields_at a.s.now c.loop-start.at) ≡ Some c.in-Some.field-0
entry_found c = sym c.next_part.ensures ∙ c.in-Some.is

pub loop-start-init : goal.loop-start-init
unfolding entries
loop-start-init c = rw (all_elements c.args.number c.args.s.now)

pub slice_bounds-entry_fits-count : goal.slice_bounds-entry_fits-count
slice_bounds-entry_fits-count c = (found_in_bounds _ _ _ (entry_found c)).1

pub slice_bounds-entry_fits-start : goal.slice_bounds-entry_fits-start
slice_bounds-entry_fits-start c = let in_bounds = found_in_bounds _ _ _ (entry_found c) in omega arith

pub slice_bounds-entry_fits-end : goal.slice_bounds-entry_fits-end
slice_bounds-entry_fits-end c = let in_bounds = found_in_bounds _ _ _ (entry_found c) in omega arith

pub loop-start-smaller : goal.loop-start-smaller
loop-start-smaller c = let in_bounds = found_in_bounds _ _ _ (entry_found (goal.at.loop-start-smaller c).In-Some) in omega arith

pub loop-start-preserved : goal.loop-start-preserved
unfolding entries_fit
loop-start-preserved c =
    rw (found_part _ _ _ (entry_found (goal.at.loop-start-preserved c).In-Some), sym c.entry_fits.ensures ∙ c.if-not-entry_fits.false) at c.loop-start.invariant

pub returns-then-not-entry_fits : goal.returns-then-not-entry_fits
unfolding entries_fit
returns-then-not-entry_fits c =
    rw (found_part _ _ _ (entry_found (goal.at.returns-then-not-entry_fits c).In-Some), sym c.entry_fits.ensures ∙ c.if-not-entry_fits.true) at c.loop-start.invariant

pub returns : goal.returns
unfolding entries_fit
returns c =
    let none = found_none _ _ _ (sym c.next_part.ensures ∙ c.in_default.is) in
    rw none at c.loop-start.invariant
