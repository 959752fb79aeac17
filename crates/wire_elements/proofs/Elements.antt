-- The first field f with bytes, from a place on, is the first element of the list of all of them, and the others follow it.
use Prim.Native.Nat.{ℕ, zero, suc, ◌-◌, ◌≤◌, ◌<◌}
use native.Mathlib.Omega.{arith}
use mathlib.Core.Path.{◌≡◌, refl, sym, ap, subst, ◌∙◌}
use mathlib.Core.List.{List, [], ◌∷◌, map}
use mathlib.Core.Bool.{Bool, true, false}
use mathlib.Core.Logic.{⊎_elim}
use lib.ListN.{length}
use lib.Dec.{eqb}
use Rattle.base_laws.specs.Base.{pick, part}
use Rattle.base_laws.proofs.Order.{lt_or_le}
use Rattle.wire_fields.specs.Fields.{field_at, on_field, fields_at, first_of}
use Rattle.wire_fields.specs.Items.{item_of, items, every_bytes}
use Rattle.wire_fields.specs.declared.Field.{Field}
use Rattle.wire_fields.specs.declared.Field.TheVariants as field
use Rattle.std.specs.Prelude.{Option, Some, None}
use Rattle.wire_types.specs.declared.Span.{Span}
use Rattle.wire_fields.proofs.Follow.{MaybeRead, field_read, follow, none}
use Rattle.std.proofs.lemmas.Option.{same_Some}
use Rattle.wire_elements.specs.Elements.{elements_at}

-- where the bytes of a field are
abbrev span : ℕ → ℕ → Span
span a b = record { start = a; end = b }

-- the elements of a whole message
pub all_elements : (f : ℕ) (s : List ℕ) → elements_at f s 0 ≡ every_bytes f (items s)
unfolding items
all_elements f s = refl

none_of : (f : ℕ) (s : List ℕ) (es : List Field) → first_of f es ≡ None → every_bytes f (map (item_of s) es) ≡ []
unfolding first_of every_bytes
none_of f s [] e = refl
none_of f s (field.Number g v n ∷ es) e = none_of f s es e
none_of f s (field.Fixed g n ∷ es) e = none_of f s es e
none_of f s (field.Part g a b ∷ es) e = inner (eqb g f) e (none_of f s es)
  where
    inner : (t : Bool) → pick t (Some (span a b)) (first_of f es) ≡ None
        → (first_of f es ≡ None → every_bytes f (map (item_of s) es) ≡ [])
        → pick t (part s a b ∷ every_bytes f (map (item_of s) es)) (every_bytes f (map (item_of s) es)) ≡ []
    inner true h go = let z : ◌≡◌ {A = ℕ} 0 1 = cc in absurd (omega arith)
    inner false h go = go h

-- no field f with bytes: no element
pub found_none : (f : ℕ) (s : List ℕ) (at : ℕ) → first_of f (fields_at s at) ≡ None → elements_at f s at ≡ []
found_none f s at e = none_of f s (fields_at s at) e

module _ (f : ℕ) (s : List ℕ) (a e : ℕ) where
  -- what a field found from `at` on says, where `es` are the fields from there
  abbrev Says : ℕ → List Field → Type 0
  Says at es = (every_bytes f (map (item_of s) es) ≡ part s a e ∷ elements_at f s e) × (at < a) × (a ≤ e) × (e ≤ length s)

  sooner : (at n : ℕ) → at ≤ n → (es : List Field) → Says n es → Says at es
  sooner at n h es r = (r.0, omega arith, omega arith, omega arith)

  -- at a field, where the search goes on as `go` says
  at_field : (at : ℕ) → ((n : ℕ) → at < n → n ≤ length s → first_of f (fields_at s n) ≡ Some (span a e) → Says n (fields_at s n))
      → (x : Option Field) → MaybeRead s at x → first_of f (on_field (fields_at s) x) ≡ Some (span a e) → Says at (on_field (fields_at s) x)
  unfolding on_field first_of every_bytes
  at_field at go (Some (field.Number g v n)) r h = sooner at n (omega arith) (fields_at s n) (go n r.0 r.1 h)
  at_field at go (Some (field.Fixed g n)) r h = sooner at n (omega arith) (fields_at s n) (go n r.0 r.1 h)
  at_field at go (Some (field.Part g x y)) r h = inner (eqb g f) h
    where
      inner : (t : Bool) → pick t (Some (span x y)) (first_of f (fields_at s y)) ≡ Some (span a e)
          → (pick t (part s x y ∷ elements_at f s y) (elements_at f s y) ≡ part s a e ∷ elements_at f s e) × (at < a) × (a ≤ e) × (e ≤ length s)
      inner true q = let same = same_Some (span x y) (span a e) q in
          let i : x ≡ a = ap (λ (p : Span). p.start) same in
          let j : y ≡ e = ap (λ (p : Span). p.end) same in
          (rw (i, j), omega arith, omega arith, omega arith)
      inner false q = sooner at y (omega arith) (fields_at s y) (go y (omega arith) r.2 q)
  at_field at go None r h = let z : ◌≡◌ {A = ℕ} 0 1 = cc in absurd (omega arith)

  search_from : (k at : ℕ) → length s - at < k → first_of f (fields_at s at) ≡ Some (span a e) → Says at (fields_at s at)
  unfolding first_of
  search_from zero at l h = absurd (omega arith)
  search_from (suc k) at l h =
      ⊎_elim
      (λ (i : at < length s).
      subst (Says at) (sym (follow s at i))
      (at_field at (λ n lt le q. search_from k n (omega arith) q) (field_at s at) (field_read s at) (ap (λ (es : List Field). first_of f es) (sym (follow s at i)) ∙ h)))
      (λ (i : length s ≤ at).
      let q : None ≡ Some (span a e) = ap (λ (es : List Field). first_of f es) (sym (none s at i)) ∙ h in
      let z : ◌≡◌ {A = ℕ} 0 1 = cc in absurd (omega arith))
      (lt_or_le at (length s))

-- a field f with bytes: its element, and those past it
pub found_part : (f : ℕ) (s : List ℕ) (at : ℕ) {p : Span} → first_of f (fields_at s at) ≡ Some p
    → elements_at f s at ≡ part s p.start p.end ∷ elements_at f s p.end
found_part f s at {p} h = (search_from f s p.start p.end (suc (length s - at)) at (omega arith) h).0

-- its bytes lie past the place and within the message
pub found_in_bounds : (f : ℕ) (s : List ℕ) (at : ℕ) {p : Span} → first_of f (fields_at s at) ≡ Some p
    → (at < p.start) × (p.start ≤ p.end) × (p.end ≤ length s)
found_in_bounds f s at {p} h = let r = search_from f s p.start p.end (suc (length s - at)) at (omega arith) h in
    (r.1, r.2, r.3)
