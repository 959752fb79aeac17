-- How far a field reaches to the check: past its start and within the list.
use Prim.Native.Nat.{ℕ, ◌≤◌, ◌<◌}
use native.Mathlib.Omega.{arith}
use mathlib.Core.List.{List}
use lib.ListN.{length}
use lib.Dec.{leb, eqb}
use Rattle.std.specs.Prelude.{Result, Ok, Err}
use Rattle.wire_types.specs.declared.Refused.{Refused}
use Rattle.wire_types.specs.declared.Refusal.{Refusal}
use Rattle.wire_varint.specs.Varint.{varint_at}
use Rattle.wire_schema.specs.Schema.{kind_of, takes}
use Rattle.wire_value.specs.Field.{number_read, as_number}
use Rattle.wire_varint.specs.Tag.{tag_at}
use Rattle.wire_varint.specs.declared.Varint.{Varint}
use Rattle.wire_varint.specs.declared.VarintError.{VarintError}
use Rattle.wire_varint.specs.declared.tag.Tag.{Tag}
use Rattle.wire_value.specs.declared.Payload.{Payload}
use Rattle.wire_value.specs.declared.Payload.TheVariants as payload
use Rattle.base_laws.proofs.Order.{picked}
use Rattle.wire_fields.proofs.Reach.{Read, read, TagRead, tag_of_lem, PayloadRead, payload_at_lem}
use Rattle.wire_check_field.specs.Check.{step_of, step_read, step_from, step_at}
use Rattle.wire_check_field.specs.declared.Step.{Step}
use Rattle.wire_check_field.specs.declared.Step.TheVariants as step

module _ (s : List ℕ) where
  -- a field at `at`: the next one is past it, an embedded message too, and a refusal's place is within
  abbrev pub StepRead : ℕ → Result Step Refused → Type 0
  StepRead at (Ok (step.Next n)) = (at < n) × (n ≤ length s)
  StepRead at (Ok (step.Inside i a e)) = (at < a) × (a ≤ e) × (e ≤ length s)
  StepRead at (Err r) = r.place ≤ length s

  step_of_lem : (at x k : ℕ) → at < x → (p : Result Payload Refused) → PayloadRead s x p → StepRead at (step_read k p)
  unfolding step_read step_of
  step_of_lem at x k l (Ok (payload.Number v)) h = (omega arith, omega arith)
  step_of_lem at x k l (Ok (payload.Fixed n)) h = (omega arith, omega arith)
  step_of_lem at x k l (Ok (payload.Part p)) h =
      picked (λ (t : Step). StepRead at (Ok t)) (leb 16 k) _ _ (λ _. (omega arith, omega arith, omega arith)) (λ _. (omega arith, omega arith))
  step_of_lem at x k l (Err r) h = h

  step_from_lem : (m at : ℕ) → at ≤ length s → (t : Result Tag Refusal) → TagRead s at t → StepRead at (step_from m s at t)
  unfolding step_from
  step_from_lem m at l (Ok t) h =
      picked (StepRead at) (takes (kind_of m t.number) t.wire) _ _
      (λ _. step_of_lem at t.next (kind_of m t.number) h.0 _ (payload_at_lem s t.next h.1 at t.wire l)) (λ _. l)
  step_from_lem m at l (Err r) h = l

  number_step : (at : ℕ) → at ≤ length s → (r : Result Varint VarintError) → Read s at r → StepRead at (step_read 0 (as_number (number_read at r)))
  unfolding step_read step_of as_number number_read
  number_step at l (Ok v) h = h
  number_step at l (Err e) h = l

  pub step_at_lem : (m at : ℕ) → at ≤ length s → StepRead at (step_at m s at)
  unfolding step_at tag_at
  step_at_lem m at l =
      picked (StepRead at) (eqb m 16) _ _ (λ _. number_step at l (varint_at s at) (read s 9 at))
      (λ _. step_from_lem m at l (tag_at s at) (tag_of_lem s at (varint_at s at) (read s 9 at)))
