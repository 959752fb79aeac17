-- How far a varint, a tag and a value reach: past their start and within the list.
use Prim.Native.Nat.{ℕ, zero, suc, ◌+◌, ◌-◌, ◌≤◌, ◌<◌}
use native.Mathlib.Omega.{arith}
use mathlib.Core.Path.{refl, subst}
use mathlib.Core.List.{List}
use mathlib.Core.Logic.{⊎_elim}
use lib.ListN.{length, get_or}
use lib.Dec.{leb, eqb}
use borrow.Author.Tests.{leb-true}
use Rattle.base_laws.proofs.Order.{lt_or_le, picked}
use Rattle.std.specs.Prelude.{Result, Ok, Err}
use Rattle.wire_types.specs.declared.Refusal.{Refusal}
use Rattle.wire_types.specs.declared.Refused.{Refused}
use Rattle.wire_types.specs.declared.Span.{Span}
use Rattle.wire_varint.specs.Varint.{varint_from, varint_at, above}
use Rattle.wire_value.specs.Field.{fixed_at, number_read, part_of, as_number, as_fixed, as_part, payload_at}
use Rattle.wire_varint.specs.Tag.{tag_fits, tag_of, tag_at}
use Rattle.wire_varint.specs.declared.Varint.{Varint}
use Rattle.wire_varint.specs.declared.VarintError.{VarintError}
use Rattle.wire_varint.specs.declared.tag.Tag.{Tag}
use Rattle.wire_value.specs.declared.Payload.{Payload}
use Rattle.wire_value.specs.declared.Payload.TheVariants as payload
use Rattle.wire_varint.proofs.Varints.{past, last_fits, last_long, ends, goes_on}

module _ (s : List ℕ) where
  abbrev pub Read : ℕ → Result Varint VarintError → Type 0
  Read at (Ok r) = (at < r.next) × (r.next ≤ length s)
  Read at (Err e) = Unit

  read_above : (at b : ℕ) → (r : Result Varint VarintError) → Read (at + 1) r → Read at (above b r)
  read_above at b (Ok r) w = (omega arith, w.1)
  read_above at b (Err e) w = tt

  pub read : (k at : ℕ) → Read at (varint_from k s at)
  read zero at =
      ⊎_elim
      (λ (h : at < length s).
      ⊎_elim (λ (b : 1 < get_or s at 0). subst (Read at) (last_long s at 0 refl h b) tt)
      (λ (b : get_or s at 0 ≤ 1). subst (Read at) (last_fits s at 0 refl h b) (omega arith, omega arith)) (lt_or_le 1 (get_or s at 0)))
      (λ (h : length s ≤ at). subst (Read at) (past s at 0 h) tt)
      (lt_or_le at (length s))
  read (suc k) at =
      ⊎_elim
      (λ (h : at < length s).
      ⊎_elim (λ (b : get_or s at 0 < 128). subst (Read at) (ends s at (suc k) (omega arith) h b) (omega arith, omega arith))
      (λ (b : 128 ≤ get_or s at 0). subst (Read at) (goes_on s at (suc k) k refl h b) (read_above at (get_or s at 0 - 128) (varint_from k s (at + 1)) (read k (at + 1))))
      (lt_or_le (get_or s at 0) 128))
      (λ (h : length s ≤ at). subst (Read at) (past s at (suc k) h) tt)
      (lt_or_le at (length s))

  abbrev pub TagRead : ℕ → Result Tag Refusal → Type 0
  TagRead at (Ok t) = (at < t.next) × (t.next ≤ length s)
  TagRead at (Err e) = Unit

  pub tag_of_lem : (at : ℕ) (r : Result Varint VarintError) → Read at r → TagRead at (tag_of r)
  unfolding tag_of
  tag_of_lem at (Ok r) h = picked (TagRead at) (tag_fits r.value) _ _ (λ _. h) (λ _. tt)
  tag_of_lem at (Err e) h = tt

  -- a value from `at` on
  abbrev pub PayloadRead : ℕ → Result Payload Refused → Type 0
  PayloadRead at (Ok (payload.Number r)) = (at ≤ r.next) × (r.next ≤ length s)
  PayloadRead at (Ok (payload.Fixed n)) = (at ≤ n) × (n ≤ length s)
  PayloadRead at (Ok (payload.Part p)) = (at ≤ p.start) × (p.start ≤ p.end) × (p.end ≤ length s)
  PayloadRead at (Err e) = e.place ≤ length s

  module _ (at : ℕ) (within : at ≤ length s) where
    number_lem : (r : Result Varint VarintError) → Read at r → PayloadRead at (as_number (number_read at r))
    unfolding number_read as_number
    number_lem (Ok r) h = (omega arith, omega arith)
    number_lem (Err e) h = within

    part_lem : (r : Result Varint VarintError) → Read at r → PayloadRead at (as_part (part_of s at r))
    unfolding part_of as_part
    part_lem (Ok r) h =
        picked (λ (p : Result Span Refused). PayloadRead at (as_part p)) (leb r.value (length s - r.next)) _ _
        (λ e. let l = leb-true r.value (length s - r.next) e in (omega arith, omega arith, omega arith))
        (λ _. within)
    part_lem (Err e) h = within

    fixed_lem : (p k : ℕ) → p ≤ length s → PayloadRead at (as_fixed (fixed_at s p at k))
    unfolding fixed_at as_fixed
    fixed_lem p k h =
        picked (λ (r : Result ℕ Refused). PayloadRead at (as_fixed r)) (leb k (length s - at)) _ _
        (λ e. let l = leb-true k (length s - at) e in (omega arith, omega arith))
        (λ _. h)

    pub payload_at_lem : (p w : ℕ) → p ≤ length s → PayloadRead at (payload_at s p at w)
    unfolding payload_at
    payload_at_lem p w h =
        picked (PayloadRead at) (eqb w 0) _ _ (λ _. number_lem _ (read 9 at))
        (λ _. picked (PayloadRead at) (eqb w 1) _ _ (λ _. fixed_lem p 8 h)
        (λ _. picked (PayloadRead at) (eqb w 5) _ _ (λ _. fixed_lem p 4 h) (λ _. part_lem _ (read 9 at))))

  pub tag_at_lem : (at : ℕ) → TagRead at (tag_at s at)
  unfolding tag_at
  tag_at_lem at = tag_of_lem at (varint_at s at) (read 9 at)
