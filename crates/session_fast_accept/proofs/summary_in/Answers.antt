-- Invariant: `Told`, what the fields before `at` show. Hands a field to `flagged`, `entered` or `dated`, the end to `finish`.
use Prim.Native.Nat.{◌+◌, ◌≤◌}
use native.Mathlib.Omega.{arith}
use mathlib.Core.Path.{◌≡◌, refl, sym, subst, ◌∙◌}
use mathlib.Core.Bool.{false}
use lib.Dec.{lit≤}
use lib.ListN.{length}
use Rattle.std.specs.Prelude.{Some, Ok}
use Rattle.wire_types.specs.declared.Span.{Span}
use Rattle.wire_varint.specs.Varint.{varint_at}
use Rattle.wire_varint.specs.Tag.{tag_fits, tag_of}
use Rattle.wire_value.specs.Field.{part_of}
use Rattle.wire_fields.proofs.Lengths.{found_part}
use Rattle.wire_message.specs.Signed.{bool}
use Rattle.session_fast_accept.specs.Summary.{EntrySeen}
use Rattle.session_fast_accept.proofs.KeyLaws.{all_are_met}
use Rattle.session_fast_accept.proofs.Summaries.{part_in_bounds, number_in_bounds, part_item, number_item, Told, start, flagged, dated, entered, finish}
use Rattle.session_fast_accept.proofs.summary_in.Goals as goal
use Rattle.session_fast_accept.proofs.summary_in.Goals.{After-part_found}

-- the part that is found: it was read, and it lies past its tag and within the bytes
found : (c : After-part_found) {p : Span} → c.part_found.result ≡ Some p
    → part_of c.args.s.now (c.loop-at.at + 1) (varint_at c.args.s.now (c.loop-at.at + 1)) ≡ Ok p
found c e = found_part _ _ _ c.part_found.ensures _ e

reach : (c : After-part_found) {p : Span} → c.part_found.result ≡ Some p
    → (c.loop-at.at + 1 ≤ p.start) × (p.start ≤ p.end) × (p.end ≤ length c.args.s.now)
reach c e = part_in_bounds _ _ (omega (arith, c.loop-at-test.true)) (found c e)

pub loop-at-init : goal.loop-at-init
loop-at-init c =
    let none = c.default-keys.ensures in
    subst (Told _ 0 false)
    (λ j. record { command = sym none.0 j; runuser = sym none.1.0 j; submithost = sym none.1.1.0 j; submituser = sym none.1.1.1 j }) (start _)

pub loop-at-smaller-then-tag-eq24 : goal.loop-at-smaller-then-tag-eq24
loop-at-smaller-then-tag-eq24 c =
    let h = number_in_bounds c.args.s.now (c.loop-at.at + 1) (omega arith) (sym c.number_at.ensures ∙ c.in-Ok.is) in
    omega arith

pub loop-at-preserved-then-tag-eq24 : goal.loop-at-preserved-then-tag-eq24
unfolding tag_of tag_fits bool
loop-at-preserved-then-tag-eq24 c =
    flagged c.loop-at.invariant _ _
    (number_item _ _ c.loop-at-test.true 24 3 0 c.if-tag-eq24.true (lit≤ tt) (λ x. refl) refl (sym c.number_at.ensures ∙ c.in-Ok.is))

pub slice_bounds-entry_seen-count : goal.slice_bounds-entry_seen-count
slice_bounds-entry_seen-count c = (reach (goal.at.slice_bounds-entry_seen-count c).After-part_found c.in_ok-start.was).1

pub slice_bounds-entry_seen-start : goal.slice_bounds-entry_seen-start
slice_bounds-entry_seen-start c = let h = reach (goal.at.slice_bounds-entry_seen-start c).After-part_found c.in_ok-start.was in omega arith

pub slice_bounds-entry_seen-end : goal.slice_bounds-entry_seen-end
slice_bounds-entry_seen-end c = let h = reach (goal.at.slice_bounds-entry_seen-end c).After-part_found c.in_ok-start.was in omega arith

pub loop-at-smaller-then-tag-eq18 : goal.loop-at-smaller-then-tag-eq18
loop-at-smaller-then-tag-eq18 c = let h = reach (goal.at.loop-at-smaller-then-tag-eq18 c).After-part_found c.in_ok-start.was in omega arith

pub loop-at-preserved-then-tag-eq18 : goal.loop-at-preserved-then-tag-eq18
unfolding tag_of tag_fits
loop-at-preserved-then-tag-eq18 c =
    let read = found (goal.at.loop-at-preserved-then-tag-eq18 c).After-part_found c.in_ok-start.was in
    subst (Told _ _ _) (sym c.with_key-keys.ensures)
    (entered c.loop-at.invariant _ _ _ (part_item _ _ c.loop-at-test.true 18 2 2 c.if-tag-eq18.true (lit≤ tt) (λ x. refl) refl read)
    (subst (EntrySeen _) c.in_ok-k.was c.entry_seen.ensures))

pub slice_bounds-date_seen-count : goal.slice_bounds-date_seen-count
slice_bounds-date_seen-count c = (reach (goal.at.slice_bounds-date_seen-count c).After-part_found c.in_ok-start.was).1

pub slice_bounds-date_seen-start : goal.slice_bounds-date_seen-start
slice_bounds-date_seen-start c = let h = reach (goal.at.slice_bounds-date_seen-start c).After-part_found c.in_ok-start.was in omega arith

pub slice_bounds-date_seen-end : goal.slice_bounds-date_seen-end
slice_bounds-date_seen-end c = let h = reach (goal.at.slice_bounds-date_seen-end c).After-part_found c.in_ok-start.was in omega arith

pub loop-at-smaller : goal.loop-at-smaller
loop-at-smaller c = let h = reach (goal.at.loop-at-smaller c).After-part_found c.in_ok-start.was in omega arith

pub loop-at-preserved : goal.loop-at-preserved
unfolding tag_of tag_fits
loop-at-preserved c =
    let read = found (goal.at.loop-at-preserved c).After-part_found c.in_ok-start.was in
    dated c.loop-at.invariant _ _ (part_item _ _ c.loop-at-test.true 10 1 2 c.if-tag-eq10.true (lit≤ tt) (λ x. refl) refl read)
    (sym c.date_seen.ensures ∙ c.if-date_seen.true)

pub returns-then-all_met : goal.returns-then-all_met
returns-then-all_met c = finish c.loop-at.invariant c.loop-at-test.false (all_are_met _ (sym c.all_met.ensures ∙ c.if-all_met.true))
