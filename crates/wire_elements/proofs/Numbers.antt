-- The numbers of a NumberList at a cursor, and at a field.
use Prim.Native.Nat.{ℕ, zero, suc, ◌-◌, ◌≤◌, ◌<◌}
use native.Mathlib.Omega.{arith}
use mathlib.Core.Path.{◌≡◌, refl, sym, ap, subst, ◌∙◌}
use mathlib.Core.List.{List, ◌∷◌, ◌++◌, map}
use mathlib.Core.Bool.{Bool, true, false}
use mathlib.Core.Logic.{⊎_elim}
use lib.ListN.{length, take, length-take}
use lib.Dec.{ltb, eqb}
use borrow.Author.Tests.{lt-ltb, le-ltb}
use Rattle.base_laws.specs.Base.{pick, part}
use Rattle.base_laws.proofs.Order.{lt_or_le, picked}
use Rattle.wire_varint.specs.Varint.{varint_at}
use Rattle.wire_varint.specs.Varint as varint
use Rattle.wire_fields.specs.Fields.{field_at, on_field, fields_at}
use Rattle.wire_fields.specs.Items.{number, bytes, item_of, items}
use Rattle.wire_fields.specs.declared.Field.{Field}
use Rattle.wire_fields.specs.declared.Field.TheVariants as field
use Rattle.wire_varint.specs.declared.Varint.{Varint}
use Rattle.wire_varint.specs.declared.VarintError.{VarintError}
use Rattle.wire_varint.specs.declared.VarintError.TheVariants.{PastEnd}
use Rattle.std.specs.Prelude.{Option, Some, None, Result, Ok, Err}
use Rattle.wire_varint.proofs.Varints.{past}
use Rattle.wire_fields.proofs.Reach.{Read, read}
use Rattle.wire_fields.proofs.Follow.{MaybeRead, field_read, follow, none}
use Rattle.wire_elements.specs.Elements.{items_at, on_varint, varints_at, varints, numbers_of, numbers_at, element, first_in, first_number, next_number, told}
use Rattle.wire_elements.specs.declared.Element.{Element}
use Rattle.wire_elements.proofs.Packed.{varints_follow, packed}

-- up to its end a cursor leads to the fields past the end
resumes : (n e : ℕ) → n ≤ e → pick (ltb n e) e n ≡ e
resumes n e h =
    ⊎_elim (λ (l : n < e). simp (lt-ltb _ _ l))
    (λ (l : e ≤ n). simp (le-ltb _ _ l) (omega arith))
    (lt_or_le n e)

reach : (s : List ℕ) (e : ℕ) → length (take e s) ≤ e
reach s e = rw length-take (omega arith)

module _ (s : List ℕ) where
  -- a cursor up to its end: what is left of the packed part, then the fields past it
  within : (n e : ℕ) → n ≤ e → varints_at (take e s) n ++ numbers_of (items_at s e) ≡ numbers_at s n e
  unfolding numbers_at
  within n e h = rw (resumes n e h)

  -- a cursor at or past its end is at a field
  pub outside : (n e : ℕ) → e ≤ n → numbers_at s n e ≡ numbers_of (items_at s n)
  unfolding numbers_at on_varint
  outside n e h =
      rw (le-ltb n e h)
      (ap (λ (l : List ℕ). l ++ numbers_of (items_at s n))
      (varints_follow (take e s) n ∙ ap (λ (r : Result Varint VarintError). on_varint (varints_at (take e s)) r) (sym (past (take e s) n 9 (omega (arith, reach s e))))))

  -- the cursor 0, 0 stands before all numbers of a message
  pub whole : numbers_at s 0 0 ≡ numbers_of (items s)
  unfolding items
  whole = outside 0 0 (omega arith)

  -- at a cursor: the varint there, those past it, and those of the fields
  pub at_cursor : (at e : ℕ) (r : Result Varint VarintError) → varint_at (take e s) at ≡ r
      → on_varint (varints_at (take e s)) r ++ numbers_of (items_at s (pick (ltb at e) e at)) ≡ numbers_at s at e
  unfolding numbers_at
  at_cursor at e r h =
      ap (λ (l : List ℕ). l ++ numbers_of (items_at s (pick (ltb at e) e at)))
      (ap (λ (q : Result Varint VarintError). on_varint (varints_at (take e s)) q) (sym h) ∙ sym (varints_follow (take e s) at))

  -- the varint read there is the first of the numbers left, and the cursor past it leaves the others
  pub at_value : (at e v n : ℕ) → varint_at (take e s) at ≡ varint.read v n → told s (element v n e) ≡ numbers_at s at e
  unfolding told on_varint
  at_value at e v n h =
      let r = subst (Read (take e s) at) h (read (take e s) 9 at) in
      let l : n ≤ e = omega (arith, reach s e) in
      ap (λ (m : List ℕ). v ∷ m) (sym (within n e l))
      ∙ ap (λ (i : ℕ). v ∷ (varints_at (take e s) n ++ numbers_of (items_at s i))) (sym (resumes at e (omega arith)))
      ∙ at_cursor at e (varint.read v n) h

  -- at a field with bytes: the first varint of the list's own, those past it, and those of the fields
  pub at_part : (g a e : ℕ) (r : Result Varint VarintError) → pick (eqb g 1) (varint_at (take e s) a) (Err PastEnd) ≡ r
      → on_varint (varints_at (take e s)) r ++ numbers_of (items_at s e) ≡ numbers_of (bytes g (part s a e) ∷ items_at s e)
  unfolding numbers_of on_varint
  at_part g a e r h = inner (eqb g 1) h
    where
      inner : (t : Bool) → pick t (varint_at (take e s) a) (Err PastEnd) ≡ r
          → on_varint (varints_at (take e s)) r ++ numbers_of (items_at s e) ≡ pick t (varints (part s a e) ++ numbers_of (items_at s e)) (numbers_of (items_at s e))
      inner true q =
          ap (λ (l : List ℕ). l ++ numbers_of (items_at s e))
          (ap (λ (x : Result Varint VarintError). on_varint (varints_at (take e s)) x) (sym q) ∙ sym (varints_follow (take e s) a) ∙ sym (packed s a e))
      inner false q = ap (λ (x : Result Varint VarintError). on_varint (varints_at (take e s)) x ++ numbers_of (items_at s e)) (sym q)

  -- the varint read there, with the cursor past it
  pub part_value : (g a e v n : ℕ) → pick (eqb g 1) (varint_at (take e s) a) (Err PastEnd) ≡ varint.read v n
      → told s (element v n e) ≡ numbers_of (bytes g (part s a e) ∷ items_at s e)
  unfolding told on_varint
  part_value g a e v n h =
      let r = subst (Read (take e s) a) h (picked (Read (take e s) a) (eqb g 1) (varint_at (take e s) a) (Err PastEnd) (λ _. read (take e s) 9 a) (λ _. tt)) in
      let l : n ≤ e = omega (arith, reach s e) in
      ap (λ (m : List ℕ). v ∷ m) (sym (within n e l)) ∙ at_part g a e (varint.read v n) h

  -- at a field 1 with a number
  pub number_value : (g v n : ℕ) → eqb g 1 ≡ true → told s (element v n n) ≡ numbers_of (number g v ∷ items_at s n)
  unfolding told numbers_of
  number_value g v n h = rw h (ap (λ (m : List ℕ). v ∷ m) (outside n n (omega arith)))

  -- ---- one number after the other

  -- a field at `at`: how far it reaches, and that it and those that follow give the first number from `from` on
  abbrev pub Leaves : ℕ → ℕ → Option Field → Type 0
  Leaves from at x = MaybeRead s at x × (first_number s (on_field (fields_at s) x) ≡ first_number s (fields_at s from))

  pub at_field : (from at : ℕ) (x : Option Field) → at < length s → first_number s (fields_at s at) ≡ first_number s (fields_at s from) → field_at s at ≡ x → Leaves from at x
  at_field from at x i h e = (
    subst (MaybeRead s at) e (field_read s at),
    ap (λ (y : Option Field). first_number s (on_field (fields_at s) y)) (sym e) ∙ ap (first_number s) (sym (follow s at i)) ∙ h,
  )

  pub at_end : (at : ℕ) → length s ≤ at → None ≡ first_number s (fields_at s at)
  unfolding first_number
  at_end at h = ap (first_number s) (sym (none s at h))

  -- the first varint of a field's bytes where the field is the list's
  pub first_in_lem : (g a e : ℕ) (rest : Option Element) (r : Result Varint VarintError) → pick (eqb g 1) (varint_at (take e s) a) (Err PastEnd) ≡ r
      → first_in e rest r ≡ pick (eqb g 1) (first_in e rest (varint_at (take e s) a)) rest
  unfolding first_in
  first_in_lem g a e rest r h = inner (eqb g 1) h
    where
      inner : (t : Bool) → pick t (varint_at (take e s) a) (Err PastEnd) ≡ r → first_in e rest r ≡ pick t (first_in e rest (varint_at (take e s) a)) rest
      inner true q = ap (first_in e rest) (sym q)
      inner false q = ap (first_in e rest) (sym q)

  -- ---- the first number of some fields, and those left at its cursor, are their numbers

  abbrev Tells : ℕ → Type 0
  Tells at = told s (first_number s (fields_at s at)) ≡ numbers_of (items_at s at)

  -- a part: its first varint, or what the fields past it give
  part_tells : (g a e : ℕ) → Tells e → (r : Result Varint VarintError) → pick (eqb g 1) (varint_at (take e s) a) (Err PastEnd) ≡ r
      → told s (first_in e (first_number s (fields_at s e)) r) ≡ numbers_of (bytes g (part s a e) ∷ items_at s e)
  unfolding first_in on_varint
  part_tells g a e h (Ok r) q = part_value g a e r.value r.next q
  part_tells g a e h (Err d) q = h ∙ at_part g a e (Err d) q

  number_tells : (g v n : ℕ) → Tells n → told s (pick (eqb g 1) (element v n n) (first_number s (fields_at s n))) ≡ numbers_of (number g v ∷ items_at s n)
  unfolding numbers_of
  number_tells g v n h = inner (eqb g 1) refl
    where
      inner : (t : Bool) → eqb g 1 ≡ t → told s (pick t (element v n n) (first_number s (fields_at s n))) ≡ pick t (v ∷ numbers_of (items_at s n)) (numbers_of (items_at s n))
      inner true e = rw e at (number_value g v n e)
      inner false e = h

  field_tells : (at : ℕ) (x : Option Field) → MaybeRead s at x → ((n : ℕ) → at < n → n ≤ length s → Tells n)
      → told s (first_number s (on_field (fields_at s) x)) ≡ numbers_of (map (item_of s) (on_field (fields_at s) x))
  unfolding on_field first_number numbers_of told
  field_tells at (Some (field.Number g v n)) r h = number_tells g v n (h n r.0 r.1)
  field_tells at (Some (field.Fixed g n)) r h = h n r.0 r.1
  field_tells at (Some (field.Part g a e)) r h =
      ap (told s) (sym (first_in_lem g a e (first_number s (fields_at s e)) _ refl)) ∙ part_tells g a e (h e (omega (arith, r.0, r.1)) r.2) _ refl
  field_tells at None r h = refl

  tells_from : (k at : ℕ) → length s - at < k → Tells at
  unfolding first_number numbers_of told
  tells_from zero at h = absurd (omega arith)
  tells_from (suc k) at h =
      ⊎_elim
      (λ (i : at < length s).
      let x : Option Field = field_at s at in
      ap (λ (fs : List Field). told s (first_number s fs)) (follow s at i)
      ∙ field_tells at x (field_read s at) (λ n l m. tells_from k n (omega arith))
      ∙ ap (λ (fs : List Field). numbers_of (map (item_of s) fs)) (sym (follow s at i)))
      (λ (i : length s ≤ at).
      ap (λ (fs : List Field). told s (first_number s fs)) (none s at i) ∙ ap (λ (fs : List Field). numbers_of (map (item_of s) fs)) (sym (none s at i)))
      (lt_or_le at (length s))

  pub next_tells : (at end : ℕ) → told s (next_number s at end) ≡ numbers_at s at end
  unfolding next_number first_in on_varint
  next_tells at end = inner (varint_at (take end s) at) refl
    where
      tells : Tells (pick (ltb at end) end at)
      tells = tells_from (suc (length s - pick (ltb at end) end at)) (pick (ltb at end) end at) (omega arith)

      inner : (r : Result Varint VarintError) → varint_at (take end s) at ≡ r
          → told s (first_in end (first_number s (fields_at s (pick (ltb at end) end at))) r) ≡ numbers_at s at end
      inner (Ok r) e = at_value at end r.value r.next e
      inner (Err d) e = tells ∙ at_cursor at end (Err d) e
