-- Invariants: the entries from `at` on have key k as all of them do; the keys from k on decide `missing`. Hands over to `found_key`, `not_found` and `all_found`.
use Prim.Native.Nat.{◌-◌}
use native.Mathlib.Omega.{arith}
use mathlib.Core.Path.{◌≡◌, refl, sym, ap, ◌∙◌}
use mathlib.Core.Bool.{true, false}
use Rattle.wire_fields.specs.Items.{items}
use Rattle.wire_message.specs.Message.{entries}
use Rattle.wire_elements.proofs.Elements.{found_in_bounds}
use Rattle.session_entries.specs.Required.{has}
use Rattle.session_entries.proofs.Laws.{all_entries, entries_none, entries_next, found_key, not_found, all_found}
use Rattle.session_entries.proofs.missing_key.Goals as goal

pub keys-init : goal.keys-init
keys-init c = (omega arith, refl)

pub loop-start-init : goal.loop-start-init
loop-start-init c = let a = c.args in ap (has c.keys.k) (all_entries a.field a.s.now)

pub slice_bounds-has_key-count : goal.slice_bounds-has_key-count
slice_bounds-has_key-count c =
    let a = c.args in
    let found = sym c.next_part.ensures ∙ c.in-Some.is in
    (found_in_bounds a.field a.s.now c.loop-start.at found).1

pub slice_bounds-has_key-start : goal.slice_bounds-has_key-start
slice_bounds-has_key-start c =
    let a = c.args in
    let found = sym c.next_part.ensures ∙ c.in-Some.is in
    let h = found_in_bounds a.field a.s.now c.loop-start.at found in
    omega arith

pub slice_bounds-has_key-end : goal.slice_bounds-has_key-end
slice_bounds-has_key-end c =
    let a = c.args in
    let found = sym c.next_part.ensures ∙ c.in-Some.is in
    let h = found_in_bounds a.field a.s.now c.loop-start.at found in
    omega arith

pub loop-start-smaller : goal.loop-start-smaller
loop-start-smaller c =
    let a = c.args in
    let found = sym c.next_part.ensures ∙ c.in-Some.is in
    let h = found_in_bounds a.field a.s.now c.loop-start.at found in
    omega arith

pub loop-start-preserved : goal.loop-start-preserved
unfolding has
loop-start-preserved c =
    let a = c.args in
    let found = sym c.next_part.ensures ∙ c.in-Some.is in
    let another = sym c.has_key.ensures ∙ c.if-has_key.false in
    rw (entries_next a.field a.s.now c.loop-start.at found, another) at c.loop-start.invariant

pub keys-preserved : goal.keys-preserved
unfolding has
keys-preserved c =
    let a = c.args in
    let found = sym c.next_part.ensures ∙ c.in-Some.is in
    let es = entries a.field (items a.s.now) in
    let k = c.keys.k in
    let its-key = sym c.has_key.ensures ∙ c.if-has_key.true in
    let there : has k es ≡ true = sym (rw (entries_next a.field a.s.now c.loop-start.at found, its-key) at c.loop-start.invariant) in
    (omega arith, sym (found_key es k there (omega arith)) ∙ c.keys.invariant.1)

pub returns-after-keys : goal.returns-after-keys
returns-after-keys c = let a = c.args in
    sym (all_found (entries a.field (items a.s.now)) c.keys.k (omega arith)) ∙ c.keys.invariant.1

pub returns-in_default : goal.returns-in_default
unfolding has
returns-in_default c =
    let a = c.args in
    let es = entries a.field (items a.s.now) in
    let k = c.keys.k in
    let none = sym c.next_part.ensures ∙ c.in_default.is in
    let gone : has k es ≡ false = sym (rw (entries_none a.field a.s.now c.loop-start.at none) at c.loop-start.invariant) in
    sym (not_found es k {n = 3 - k} gone (omega arith)) ∙ c.keys.invariant.1
