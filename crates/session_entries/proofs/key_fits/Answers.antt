-- Invariant: `fits` and the entries from `at` on give the last entry's answer. Hands an entry to `fits_next`, the end to `entries_none`, bounds to `found_in_bounds`.
use Rattle.session_entries.proofs.Laws.{fits_next}
use native.Mathlib.Omega.{arith}
use mathlib.Core.Path.{sym, ◌∙◌}
use Rattle.wire_fields.specs.Items.{items}
use Rattle.wire_message.specs.Message.{entries}
use Rattle.wire_elements.proofs.Elements.{found_in_bounds}
use Rattle.session_entries.proofs.Laws.{all_entries, entries_none, fits_from, fits_all}
use Rattle.session_entries.proofs.key_fits.Goals as goal

pub loop-start-init : goal.loop-start-init
loop-start-init c = let a = c.args in rw (all_entries a.field a.s.now) (fits_all a.k (entries a.field (items a.s.now)))

pub slice_bounds-has_key-count : goal.slice_bounds-has_key-count
slice_bounds-has_key-count c =
    let a = c.args in
    let found = sym c.next_part.ensures ∙ c.in-Some.is in
    (found_in_bounds a.field a.s.now c.loop-start.at found).1

pub slice_bounds-has_key-start : goal.slice_bounds-has_key-start
slice_bounds-has_key-start c =
    let a = c.args in
    let found = sym c.next_part.ensures ∙ c.in-Some.is in
    let h = found_in_bounds a.field a.s.now c.loop-start.at found in
    omega arith

pub slice_bounds-has_key-end : goal.slice_bounds-has_key-end
slice_bounds-has_key-end c =
    let a = c.args in
    let found = sym c.next_part.ensures ∙ c.in-Some.is in
    let h = found_in_bounds a.field a.s.now c.loop-start.at found in
    omega arith

pub slice_bounds-has_string-count : goal.slice_bounds-has_string-count
slice_bounds-has_string-count c =
    let a = c.args in
    let found = sym c.next_part.ensures ∙ c.in-Some.is in
    (found_in_bounds a.field a.s.now c.loop-start.at found).1

pub slice_bounds-has_string-start : goal.slice_bounds-has_string-start
slice_bounds-has_string-start c =
    let a = c.args in
    let found = sym c.next_part.ensures ∙ c.in-Some.is in
    let h = found_in_bounds a.field a.s.now c.loop-start.at found in
    omega arith

pub slice_bounds-has_string-end : goal.slice_bounds-has_string-end
slice_bounds-has_string-end c =
    let a = c.args in
    let found = sym c.next_part.ensures ∙ c.in-Some.is in
    let h = found_in_bounds a.field a.s.now c.loop-start.at found in
    omega arith

pub loop-start-smaller-then-has_key : goal.loop-start-smaller-then-has_key
loop-start-smaller-then-has_key c =
    let a = c.args in
    let found = sym c.next_part.ensures ∙ c.in-Some.is in
    let h = found_in_bounds a.field a.s.now c.loop-start.at found in
    omega arith

pub loop-start-preserved-then-has_key : goal.loop-start-preserved-then-has_key
loop-start-preserved-then-has_key c =
    let a = c.args in
    let found = sym c.next_part.ensures ∙ c.in-Some.is in
    let l = c.loop-start in
    let its-key = sym c.has_key.ensures ∙ c.if-has_key.true in
    rw c.has_string-fits.ensures (sym (fits_next a.k l.fits _ a.field a.s.now l.at found its-key) ∙ l.invariant)

pub loop-start-smaller : goal.loop-start-smaller
loop-start-smaller c =
    let a = c.args in
    let found = sym c.next_part.ensures ∙ c.in-Some.is in
    let h = found_in_bounds a.field a.s.now c.loop-start.at found in
    omega arith

pub loop-start-preserved : goal.loop-start-preserved
loop-start-preserved c =
    let a = c.args in
    let found = sym c.next_part.ensures ∙ c.in-Some.is in
    let l = c.loop-start in
    let another = sym c.has_key.ensures ∙ c.if-has_key.false in
    sym (fits_next a.k l.fits _ a.field a.s.now l.at found another) ∙ l.invariant

pub returns : goal.returns
unfolding fits_from
returns c =
    let a = c.args in
    let none = sym c.next_part.ensures ∙ c.in_default.is in
    rw (entries_none a.field a.s.now c.loop-start.at none) at c.loop-start.invariant
