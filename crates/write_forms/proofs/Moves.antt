-- Bytes that lie within other bytes are read there as by themselves: a varint, a tag, a value, a field and its step that are
-- taken in s at a place are taken in S that far past the place where s lies.
use Prim.Native.Nat.{ℕ, zero, suc, ◌+◌, ◌-◌, ◌*◌, ◌/◌, ◌%◌, ◌≤◌, ◌<◌}
use native.Mathlib.Omega.{arith}
use mathlib.Core.Path.{◌≡◌, refl, sym, ap, ◌∙◌}
use mathlib.Core.List.{List, ◌++◌}
use mathlib.Core.Bool.{Bool, true, false}
use mathlib.Core.Logic.{⊎_elim}
use lib.ListN.{length, get_or, drop, length-append}
use lib.Seq.{get_or-take, get_or-drop, take_at, drop_at, take-length}
use lib.Dec.{leb, eqb}
use borrow.Author.Tests.{le-leb, leb-true}
use Rattle.base_laws.specs.Base.{pick, part}
use Rattle.base_laws.proofs.Order.{lt_or_le}
use Rattle.base_laws.proofs.Parts.{part_part}
use Rattle.std.specs.Prelude.{Option, Some, None, Result, Ok, Err}
use Rattle.wire_types.specs.Refusals.{at_place}
use Rattle.wire_types.specs.declared.Refusal.{Refusal}
use Rattle.wire_types.specs.declared.Refusal.TheVariants as refusal
use Rattle.wire_types.specs.declared.Refused.{Refused}
use Rattle.wire_varint.specs.Varint.{read, above, varint_from, varint_at}
use Rattle.wire_schema.specs.Schema.{kind_of, takes}
use Rattle.wire_value.specs.Field.{fixed_at, number_read, part_of, as_number, as_fixed, as_part, payload_at}
use Rattle.wire_varint.specs.Tag.{tag_fits, tag_of, tag_at}
use Rattle.wire_check_field.specs.Check.{step_of, step_read, step_from, step_at}
use Rattle.wire_fields.specs.Fields.{field_with, field_of, field_from, field_at}
use Rattle.wire_varint.specs.declared.Varint.{Varint}
use Rattle.wire_varint.specs.declared.VarintError.{VarintError}
use Rattle.wire_varint.specs.declared.tag.Tag.{Tag}
use Rattle.wire_value.specs.declared.Payload.{Payload}
use Rattle.wire_value.specs.declared.Payload.TheVariants as payload
use Rattle.wire_check_field.specs.declared.Step.{Step}
use Rattle.wire_check_field.specs.declared.Step.TheVariants as step
use Rattle.wire_fields.specs.declared.Field.{Field}
use Rattle.wire_fields.specs.declared.Field.TheVariants as field
use Rattle.wire_varint.proofs.Varints.{past, last_fits, last_long, ends, goes_on}
use Rattle.wire_check_field.proofs.Walk.{field_tag}

-- s lies in S from place p on
pub record InBounds (S s : List ℕ) (p : ℕ) : Type 0 where
  pub fits : p + length s ≤ length S
  pub same : part S p (p + length s) ≡ s

pub in_bounds_first : (a b : List ℕ) → InBounds (a ++ b) a 0
in_bounds_first a b =
    let n : 0 + length a - 0 ≡ length a = omega arith in
    record { fits = omega (arith, length-append a b); same = rw n (take_at a b (length a) refl) }

pub in_bounds_second : (a b : List ℕ) → InBounds (a ++ b) b (length a)
in_bounds_second a b =
    let n : length a + length b - length a ≡ length b = omega arith in
    record { fits = omega (arith, length-append a b); same = rw (n, drop_at a b (length a) refl) (take-length b) }

-- what stands before the rest of a varint, seen from the whole
above_value : (low v n : ℕ) (r : Result Varint VarintError) → above low r ≡ read v n → (x : ℕ) × (r ≡ read x n) × (low + 128 * x ≡ v)
above_value low v n (Ok r) e = let h : r.next ≡ n = grind arith in let q : low + 128 * r.value ≡ v = grind arith in (r.value, rw (sym h), q)
above_value low v n (Err d) e = grind arith

-- what a value, a field and its step are, p places further on
abbrev pub moved_payload : ℕ → Payload → Payload
moved_payload p (payload.Number r) = payload.Number (record { value = r.value; next = p + r.next })
moved_payload p (payload.Fixed n) = payload.Fixed (p + n)
moved_payload p (payload.Part q) = payload.Part (record { start = p + q.start; end = p + q.end })

abbrev pub moved_step : ℕ → Step → Step
moved_step p (step.Next n) = step.Next (p + n)
moved_step p (step.Inside i a e) = step.Inside i (p + a) (p + e)

abbrev pub moved_field : ℕ → Field → Field
moved_field p (field.Number f v n) = field.Number f v (p + n)
moved_field p (field.Fixed f n) = field.Fixed f (p + n)
moved_field p (field.Part f a e) = field.Part f (p + a) (p + e)

-- what is taken, by what is made of it
made : {A B : Type 0} → (A → B) → Result A Refused → Result B Refused
made f (Ok v) = Ok (f v)
made f (Err e) = Err e

made_option : {A B : Type 0} → (A → B) → Option A → Option B
made_option f (Some v) = Some (f v)
made_option f None = None

module _ {S s : List ℕ} {p : ℕ} (l : InBounds S s p) where
  byte_moves : (i : ℕ) → i < length s → get_or S (p + i) 0 ≡ get_or s i 0
  byte_moves i h =
      let w : i < p + length s - p = omega arith in
      sym (ap (λ (d : List ℕ). get_or d i 0) (sym l.same) ∙ get_or-take (p + length s - p) (drop p S) i 0 w ∙ get_or-drop p S i 0)

  pub part_moves : (a e : ℕ) → e ≤ length s → part S (p + a) (p + e) ≡ part s a e
  part_moves a e h = sym (part_part S p (p + length s) a e (omega arith)) ∙ ap (λ (d : List ℕ). part d a e) l.same

  pub varint_moves : (k at v n : ℕ) → varint_from k s at ≡ read v n → varint_from k S (p + at) ≡ read v (p + n)
  varint_moves zero at v n e =
      ⊎_elim
      (λ (i : at < length s).
      ⊎_elim
      (λ (b : 1 < get_or s at 0). let q = last_long s at 0 refl i b ∙ e in grind arith)
      (λ (b : get_or s at 0 ≤ 1).
      let q : read (get_or s at 0) (at + 1) ≡ read v n = last_fits s at 0 refl i b ∙ e in
      let g = byte_moves at i in
      let x : get_or S (p + at) 0 ≡ v = grind arith in
      let y : at + 1 ≡ n = grind arith in
      let m : p + at + 1 ≡ p + n = omega arith in
      sym (last_fits S (p + at) 0 refl (omega (arith, l.fits)) (omega arith)) ∙ rw (x, m))
      (lt_or_le 1 (get_or s at 0)))
      (λ (i : length s ≤ at). let q = past s at 0 i ∙ e in grind arith)
      (lt_or_le at (length s))
  varint_moves (suc k) at v n e =
      ⊎_elim
      (λ (i : at < length s).
      ⊎_elim
      (λ (b : get_or s at 0 < 128).
      let q : read (get_or s at 0) (at + 1) ≡ read v n = ends s at (suc k) (omega arith) i b ∙ e in
      let g = byte_moves at i in
      let x : get_or S (p + at) 0 ≡ v = grind arith in
      let y : at + 1 ≡ n = grind arith in
      let m : p + at + 1 ≡ p + n = omega arith in
      sym (ends S (p + at) (suc k) (omega arith) (omega (arith, l.fits)) (omega arith)) ∙ rw (x, m))
      (λ (b : 128 ≤ get_or s at 0).
      let q = above_value (get_or s at 0 - 128) v n (varint_from k s (at + 1)) (goes_on s at (suc k) k refl i b ∙ e) in
      let g = byte_moves at i in
      let m : p + at + 1 ≡ p + (at + 1) = omega arith in
      sym (goes_on S (p + at) (suc k) k refl (omega (arith, l.fits)) (omega arith))
      ∙ rw (g, m, varint_moves k (at + 1) q.0 n q.1, q.2))
      (lt_or_le (get_or s at 0) 128))
      (λ (i : length s ≤ at). let q = past s at (suc k) i ∙ e in grind arith)
      (lt_or_le at (length s))

  pub tag_moves : (at f w x : ℕ) → tag_at s at ≡ field_tag f w x → tag_at S (p + at) ≡ field_tag f w (p + x)
  unfolding tag_at tag_of
  tag_moves at f w x h = go (varint_at s at) refl h
    where
      fit : (t : Bool) (v n : ℕ) → pick t (field_tag (v / 8) (v % 8) n) (Err refusal.Tag) ≡ field_tag f w x
          → pick t (field_tag (v / 8) (v % 8) (p + n)) (Err refusal.Tag) ≡ field_tag f w (p + x)
      fit true v n e = let a : v / 8 ≡ f = grind arith in let b : v % 8 ≡ w = grind arith in let c : n ≡ x = grind arith in rw (a, b, c)
      fit false v n e = grind arith

      go : (r : Result Varint VarintError) → varint_at s at ≡ r → tag_of r ≡ field_tag f w x → tag_of (varint_at S (p + at)) ≡ field_tag f w (p + x)
      go (Ok r) e h = rw (varint_moves 9 at r.value r.next e) (fit (tag_fits r.value) r.value r.next h)
      go (Err d) e h = grind arith

  -- a value that is taken in s is taken in S, p places further on
  abbrev Moves : Result Payload Refused → Result Payload Refused → Type 0
  Moves a b = (v : Payload) → a ≡ Ok v → b ≡ Ok (moved_payload p v)

  pick_moves : (t : Bool) (a b c d : Result Payload Refused) → Moves a c → Moves b d → Moves (pick t a b) (pick t c d)
  pick_moves true a b c d f g = f
  pick_moves false a b c d f g = g

  number_moves : (x : ℕ) (r : Result Varint VarintError) → varint_at s x ≡ r → Moves (as_number (number_read x r)) (as_number (number_read (p + x) (varint_at S (p + x))))
  unfolding number_read as_number made
  number_moves x (Ok r) e v h = rw (varint_moves 9 x r.value r.next e) (ap (made (moved_payload p)) h)
  number_moves x (Err d) e v h = grind arith

  -- what has room in s has room in S
  room : (a y : ℕ) → leb y (length s - a) ≡ true → leb y (length S - (p + a)) ≡ true
  room a y e = let i = leb-true y (length s - a) e in le-leb y (length S - (p + a)) (omega (arith, l.fits))

  part_of_moves : (x : ℕ) (r : Result Varint VarintError) → varint_at s x ≡ r → Moves (as_part (part_of s x r)) (as_part (part_of S (p + x) (varint_at S (p + x))))
  unfolding part_of as_part made
  part_of_moves x (Ok r) e v h = rw (varint_moves 9 x r.value r.next e) (go (leb r.value (length s - r.next)) refl h)
    where
      go : (t : Bool) → leb r.value (length s - r.next) ≡ t
          → as_part (pick t (Ok (record { start = r.next; end = r.next + r.value })) (Err (at_place refusal.Length x))) ≡ Ok v
          → as_part (pick (leb r.value (length S - (p + r.next))) (Ok (record { start = p + r.next; end = p + r.next + r.value })) (Err (at_place refusal.Length (p + x))))
          ≡ Ok (moved_payload p v)
      go true k h = let m : p + r.next + r.value ≡ p + (r.next + r.value) = omega arith in rw (room r.next r.value k, m) (ap (made (moved_payload p)) h)
      go false k h = grind arith
  part_of_moves x (Err d) e v h = grind arith

  fixed_moves : (at x width : ℕ) → Moves (as_fixed (fixed_at s at x width)) (as_fixed (fixed_at S (p + at) (p + x) width))
  unfolding fixed_at as_fixed made
  fixed_moves at x width v h = go (leb width (length s - x)) refl h
    where
      go : (t : Bool) → leb width (length s - x) ≡ t → as_fixed (pick t (Ok (x + width)) (Err (at_place refusal.Length at))) ≡ Ok v
          → as_fixed (pick (leb width (length S - (p + x))) (Ok (p + x + width)) (Err (at_place refusal.Length (p + at)))) ≡ Ok (moved_payload p v)
      go true k h = let m : p + x + width ≡ p + (x + width) = omega arith in rw (room x width k, m) (ap (made (moved_payload p)) h)
      go false k h = grind arith

  pub payload_moves : (at x w : ℕ) (v : Payload) → payload_at s at x w ≡ Ok v → payload_at S (p + at) (p + x) w ≡ Ok (moved_payload p v)
  unfolding payload_at
  payload_moves at x w =
      pick_moves (eqb w 0) _ _ _ _ (number_moves x (varint_at s x) refl)
      (pick_moves (eqb w 1) _ _ _ _ (fixed_moves at x 8)
      (pick_moves (eqb w 5) _ _ _ _ (fixed_moves at x 4) (part_of_moves x (varint_at s x) refl)))

  -- the same of fields
  with_moves : (f : ℕ) (v : Payload) → field_with f (moved_payload p v) ≡ moved_field p (field_with f v)
  unfolding field_with
  with_moves f (payload.Number r) = refl
  with_moves f (payload.Fixed n) = refl
  with_moves f (payload.Part q) = refl

  of_field : (f : ℕ) (a b : Result Payload Refused) → Moves a b → (e : Field) → field_of f a ≡ Some e → field_of f b ≡ Some (moved_field p e)
  unfolding field_of made_option
  of_field f (Ok v) b h e t = rw (h v refl) (ap Some (with_moves f v) ∙ ap (made_option (moved_field p)) t)
  of_field f (Err r) b h e t = grind arith

  pub field_moves : (at : ℕ) (e : Field) → field_at s at ≡ Some e → field_at S (p + at) ≡ Some (moved_field p e)
  unfolding field_at field_from
  field_moves at e = go (tag_at s at) refl
    where
      go : (t : Result Tag Refusal) → tag_at s at ≡ t → field_from s at t ≡ Some e → field_from S (p + at) (tag_at S (p + at)) ≡ Some (moved_field p e)
      go (Ok t) k h =
          rw (tag_moves at t.number t.wire t.next k)
          (of_field t.number (payload_at s at t.next t.wire) (payload_at S (p + at) (p + t.next) t.wire) (payload_moves at t.next t.wire) e h)
      go (Err r) k h = grind arith

  -- and of steps
  step_with : (k : ℕ) (v : Payload) → step_of k (moved_payload p v) ≡ moved_step p (step_of k v)
  unfolding step_of
  step_with k (payload.Number r) = refl
  step_with k (payload.Fixed n) = refl
  step_with k (payload.Part q) = go (leb 16 k)
    where
      go : (u : Bool) → pick u (step.Inside (k - 16) (p + q.start) (p + q.end)) (step.Next (p + q.end)) ≡ moved_step p (pick u (step.Inside (k - 16) q.start q.end) (step.Next q.end))
      go true = refl
      go false = refl

  of_step : (k : ℕ) (a b : Result Payload Refused) → Moves a b → (t : Step) → step_read k a ≡ Ok t → step_read k b ≡ Ok (moved_step p t)
  unfolding step_read made
  of_step k (Ok v) b h t e = rw (h v refl) (ap Ok (step_with k v) ∙ ap (made (moved_step p)) e)
  of_step k (Err r) b h t e = grind arith

  from_step : (m at : ℕ) (g : Result Tag Refusal) → tag_at s at ≡ g → (t : Step) → step_from m s at g ≡ Ok t → step_from m S (p + at) (tag_at S (p + at)) ≡ Ok (moved_step p t)
  unfolding step_from
  from_step m at (Ok g) e t h = rw (tag_moves at g.number g.wire g.next e) (go (takes (kind_of m g.number) g.wire) h)
    where
      go : (u : Bool) → pick u (step_read (kind_of m g.number) (payload_at s at g.next g.wire)) (Err (at_place refusal.WireType at)) ≡ Ok t
          → pick u (step_read (kind_of m g.number) (payload_at S (p + at) (p + g.next) g.wire)) (Err (at_place refusal.WireType (p + at))) ≡ Ok (moved_step p t)
      go true h = of_step (kind_of m g.number) (payload_at s at g.next g.wire) (payload_at S (p + at) (p + g.next) g.wire) (payload_moves at g.next g.wire) t h
      go false h = grind arith
  from_step m at (Err r) e t h = grind arith

  pub step_moves : (m at : ℕ) (t : Step) → step_at m s at ≡ Ok t → step_at m S (p + at) ≡ Ok (moved_step p t)
  unfolding step_at
  step_moves m at t = go (eqb m 16)
    where
      go : (u : Bool) → pick u (step_read 0 (as_number (number_read at (varint_at s at)))) (step_from m s at (tag_at s at)) ≡ Ok t
          → pick u (step_read 0 (as_number (number_read (p + at) (varint_at S (p + at))))) (step_from m S (p + at) (tag_at S (p + at))) ≡ Ok (moved_step p t)
      go true = of_step 0 (as_number (number_read at (varint_at s at))) (as_number (number_read (p + at) (varint_at S (p + at)))) (number_moves at (varint_at s at) refl) t
      go false = from_step m at (tag_at s at) refl t
