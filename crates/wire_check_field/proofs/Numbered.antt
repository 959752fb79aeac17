-- A refusal of the check is one of 2 to 5.
use Prim.Native.Nat.{ℕ, zero, suc, ◌-◌, ◌≤◌}
use native.Mathlib.Omega.{arith}
use mathlib.Core.List.{List}
use lib.ListN.{length}
use lib.Dec.{ltb, leb, eqb}
use Rattle.std.specs.Prelude.{Result, Ok, Err}
use Rattle.base_laws.specs.Base.{part}
use Rattle.base_laws.proofs.Order.{picked}
use Rattle.wire_types.specs.Refusals.{number_of}
use Rattle.wire_types.specs.declared.Refusal.{Refusal}
use Rattle.wire_types.specs.declared.Refused.{Refused}
use Rattle.wire_types.specs.declared.Span.{Span}
use Rattle.wire_varint.specs.Varint.{varint_at}
use Rattle.wire_schema.specs.Schema.{kind_of, takes}
use Rattle.wire_value.specs.Field.{fixed_at, number_read, part_of, as_number, as_fixed, as_part, payload_at}
use Rattle.wire_varint.specs.Tag.{tag_fits, tag_of, tag_at}
use Rattle.wire_check_field.specs.Check.{step_read, step_from, step_at, before, on_step, check_from, check_at, check_of}
use Rattle.wire_varint.specs.declared.Varint.{Varint}
use Rattle.wire_varint.specs.declared.VarintError.{VarintError}
use Rattle.wire_varint.specs.declared.tag.Tag.{Tag}
use Rattle.wire_value.specs.declared.Payload.{Payload}
use Rattle.wire_check_field.specs.declared.Step.{Step}
use Rattle.wire_check_field.specs.declared.Step.TheVariants as step

abbrev pub Numbered : ℕ → Type 0
Numbered r = (2 ≤ r) × (r ≤ 5)

abbrev pub TagTold : Result Tag Refusal → Type 0
TagTold (Ok t) = Unit
TagTold (Err r) = Numbered (number_of r)

-- what is read of a field's value, or is refused
abbrev pub Told : {T : Type 0} → Result T Refused → Type 0
Told (Ok v) = Unit
Told (Err r) = Numbered (number_of r.refusal)

abbrev pub CheckTold : Result Unit Refused → Type 0
CheckTold x = Told x

module _ (s : List ℕ) where
  pub tag_told : (r : Result Varint VarintError) → TagTold (tag_of r)
  unfolding tag_of
  tag_told (Ok v) = picked TagTold (tag_fits v.value) _ _ (λ _. tt) (λ _. (omega arith, omega arith))
  tag_told (Err e) = (omega arith, omega arith)

  number_told : (x : ℕ) (r : Result Varint VarintError) → Told (as_number (number_read x r))
  unfolding as_number number_read
  number_told x (Ok v) = tt
  number_told x (Err e) = (omega arith, omega arith)

  part_told : (x : ℕ) (r : Result Varint VarintError) → Told (part_of s x r)
  unfolding part_of
  part_told x (Ok v) = picked Told (leb v.value (length s - v.next)) _ _ (λ _. tt) (λ _. (omega arith, omega arith))
  part_told x (Err e) = (omega arith, omega arith)

  as_part_told : (p : Result Span Refused) → Told p → Told (as_part p)
  unfolding as_part
  as_part_told (Ok p) h = tt
  as_part_told (Err r) h = h

  fixed_told : (at x width : ℕ) → Told (fixed_at s at x width)
  unfolding fixed_at
  fixed_told at x width = picked Told (leb width (length s - x)) _ _ (λ _. tt) (λ _. (omega arith, omega arith))

  as_fixed_told : (n : Result ℕ Refused) → Told n → Told (as_fixed n)
  unfolding as_fixed
  as_fixed_told (Ok n) h = tt
  as_fixed_told (Err r) h = h

  pub payload_told : (at x w : ℕ) → Told (payload_at s at x w)
  unfolding payload_at
  payload_told at x w =
      picked Told (eqb w 0) _ _ (λ _. number_told x (varint_at s x))
      (λ _. picked Told (eqb w 1) _ _ (λ _. as_fixed_told _ (fixed_told at x 8))
      (λ _. picked Told (eqb w 5) _ _ (λ _. as_fixed_told _ (fixed_told at x 4)) (λ _. as_part_told _ (part_told x (varint_at s x)))))

  step_of_told : (k : ℕ) (q : Result Payload Refused) → Told q → Told (step_read k q)
  unfolding step_read
  step_of_told k (Ok p) h = tt
  step_of_told k (Err r) h = h

  step_from_told : (m at : ℕ) (t : Result Tag Refusal) → TagTold t → Told (step_from m s at t)
  unfolding step_from
  step_from_told m at (Ok t) h =
      picked Told (takes (kind_of m t.number) t.wire) _ _
      (λ _. step_of_told (kind_of m t.number) (payload_at s at t.next t.wire) (payload_told at t.next t.wire)) (λ _. (omega arith, omega arith))
  step_from_told m at (Err r) h = h

  step_told : (m at : ℕ) → Told (step_at m s at)
  unfolding step_at tag_at
  step_told m at =
      picked Told (eqb m 16) _ _ (λ _. step_of_told 0 (as_number (number_read at (varint_at s at))) (number_told at (varint_at s at)))
      (λ _. step_from_told m at (tag_at s at) (tag_told (varint_at s at)))

pub before_told : (a : ℕ) (x y : Result Unit Refused) → CheckTold x → CheckTold y → CheckTold (before a x y)
unfolding before
before_told a (Ok fine) y h g = g
before_told a (Err r) y h g = h

on_step_told : (go : ℕ → List ℕ → ℕ → Result Unit Refused) → ((m : ℕ) (s : List ℕ) (at : ℕ) → CheckTold (go m s at))
    → (m : ℕ) (s : List ℕ) (t : Result Step Refused) → Told t → CheckTold (on_step go m s t)
unfolding on_step
on_step_told go f m s (Ok (step.Next n)) h = f m s n
on_step_told go f m s (Ok (step.Inside i a e)) h = before_told a _ _ (f i (part s a e) 0) (f m s e)
on_step_told go f m s (Err r) h = h

fields_told : (k m : ℕ) (s : List ℕ) (at : ℕ) → CheckTold (check_from k m s at)
unfolding check_from
fields_told zero m s at = tt
fields_told (suc k) m s at =
    picked CheckTold (ltb at (length s)) _ _ (λ _. on_step_told (check_from k) (fields_told k) m s (step_at m s at) (step_told s m at)) (λ _. tt)

pub check_told : (m : ℕ) (s : List ℕ) → CheckTold (check_of m s)
unfolding check_at
check_told m s = fields_told (suc _) m s 0
