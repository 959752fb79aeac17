-- Laws of the search for required entries.
use Prim.Native.Nat.{ℕ, suc, ◌+◌}
use mathlib.Core.Path.{◌≡◌, refl, sym, ap, ◌∙◌}
use mathlib.Core.List.{List, [], ◌∷◌, map}
use mathlib.Core.Bool.{Bool, true, false}
use lib.ListN.{length}
use lib.Dec.{eqb}
use Rattle.std.specs.Prelude.{bytes_eq, ◌&&◌}
use Rattle.base_laws.specs.Base.{pick, both, part}
use Rattle.wire_fields.specs.Fields.{fields_at, first_of}
use Rattle.wire_fields.specs.Items.{items}
use Rattle.std.specs.Prelude.{Some, None}
use Rattle.wire_types.specs.declared.Span.{Span}
use Rattle.wire_elements.specs.Elements.{elements_at}
use Rattle.wire_elements.proofs.Elements.{all_elements, found_none, found_part}
use Rattle.wire_message.specs.Message.{Bytes, Value, Entry, entry, entries}
use Rattle.session_entries.specs.Required.{same_bytes, key_bytes, last_value_from, string_or_none, types_from, last_value, has, missing_from}

-- ---- the same bytes

-- what `==` says of two slices
pub same_is : (a b : List ℕ) → bytes_eq a b ≡ same_bytes a b
unfolding same_bytes
same_is [] [] = refl
same_is [] (y ∷ ys) = refl
same_is (x ∷ xs) [] = refl
same_is (x ∷ xs) (y ∷ ys) = rw (same_is xs ys) (both_is (eqb x y) (same_bytes xs ys))
  where
    both_is : (p q : Bool) → (p && q) ≡ both p q
    both_is true q = refl
    both_is false q = refl

both_false : (t : Bool) → both t false ≡ false
both_false true = refl
both_false false = refl

pub same_length : (a b : List ℕ) → (length a ≡ length b → ⊥) → same_bytes a b ≡ false
unfolding same_bytes
same_length [] [] h = absurd (h refl)
same_length [] (y ∷ ys) h = refl
same_length (x ∷ xs) [] h = refl
same_length (x ∷ xs) (y ∷ ys) h =
    ap (both (eqb x y)) (same_length xs ys (λ (e : length xs ≡ length ys). h (ap suc e))) ∙ both_false (eqb x y)

-- ---- the entries from a place on

abbrev pub entries_at : ℕ → List ℕ → ℕ → List Entry
entries_at f s at = map (λ (d : Bytes). entry (items d)) (elements_at f s at)

pub all_entries : (f : ℕ) (s : List ℕ) → entries_at f s 0 ≡ entries f (items s)
unfolding entries
all_entries f s = ap (map (λ (d : Bytes). entry (items d))) (all_elements f s)

pub entries_none : (f : ℕ) (s : List ℕ) (at : ℕ) → first_of f (fields_at s at) ≡ None → entries_at f s at ≡ []
entries_none f s at h = ap (map (λ (d : Bytes). entry (items d))) (found_none f s at h)

pub entries_next : (f : ℕ) (s : List ℕ) (at : ℕ) {p : Span} → first_of f (fields_at s at) ≡ Some p
    → entries_at f s at ≡ entry (items (part s p.start p.end)) ∷ entries_at f s p.end
entries_next f s at h = ap (map (λ (d : Bytes). entry (items d))) (found_part f s at h)

-- ---- the last entry of a key

-- is the last entry of a key a string, where t says so of those before
unfoldable pub fits_from : ℕ → Bool → List Entry → Bool
fits_from k t [] = t
fits_from k t (e ∷ es) = fits_from k (pick (same_bytes e.key (key_bytes k)) (string_or_none e.value) t) es

spread : (t : Bool) (v w : Value) → string_or_none (pick t v w) ≡ pick t (string_or_none v) (string_or_none w)
spread true v w = refl
spread false v w = refl

fits_last : (k : ℕ) (v : Value) (es : List Entry) → fits_from k (string_or_none v) es ≡ string_or_none (last_value_from k v es)
unfolding fits_from last_value_from
fits_last k v [] = refl
fits_last k v (e ∷ es) =
    ap (λ (t : Bool). fits_from k t es) (sym (spread (same_bytes e.key (key_bytes k)) e.value v))
    ∙ fits_last k (pick (same_bytes e.key (key_bytes k)) e.value v) es

pub fits_all : (k : ℕ) (es : List Entry) → fits_from k true es ≡ string_or_none (last_value k es)
unfolding string_or_none
fits_all k es = fits_last k _ es

-- at an entry: q is whether it has the key
pub fits_next : (k : ℕ) (t q : Bool) (f : ℕ) (s : List ℕ) (at : ℕ) {p : Span} → first_of f (fields_at s at) ≡ Some p
    → same_bytes (entry (items (part s p.start p.end))).key (key_bytes k) ≡ q
    → fits_from k t (entries_at f s at) ≡ fits_from k (pick q (string_or_none (entry (items (part s p.start p.end))).value) t) (entries_at f s p.end)
unfolding fits_from
fits_next k t q f s at {p} h i =
    ap (fits_from k t) (entries_next f s at h)
    ∙ ap (λ (x : Bool). fits_from k (pick x (string_or_none (entry (items (part s p.start p.end))).value) t) (entries_at f s p.end)) i

-- ---- the keys from one on

module _ (es : List Entry) (k : ℕ) where
  pub type_fits : {n m : ℕ} → string_or_none (last_value k es) ≡ true → m ≡ suc n → types_from k m es ≡ types_from (k + 1) n es
  unfolding types_from
  type_fits {n} {m} h e = ap (λ (x : ℕ). types_from k x es) e ∙ ap (λ (t : Bool). both t (types_from (k + 1) n es)) h

  pub type_other : {n m : ℕ} → string_or_none (last_value k es) ≡ false → m ≡ suc n → types_from k m es ≡ false
  unfolding types_from
  type_other {n} {m} h e = ap (λ (x : ℕ). types_from k x es) e ∙ ap (λ (t : Bool). both t (types_from (k + 1) n es)) h

  pub types_done : {m : ℕ} → m ≡ 0 → types_from k m es ≡ true
  unfolding types_from
  types_done e = ap (λ (x : ℕ). types_from k x es) e

  pub found_key : {n m : ℕ} → has k es ≡ true → m ≡ suc n → missing_from k m es ≡ missing_from (k + 1) n es
  unfolding missing_from
  found_key {n} {m} h e = ap (λ (x : ℕ). missing_from k x es) e ∙ ap (λ (t : Bool). pick t (missing_from (k + 1) n es) k) h

  pub not_found : {n m : ℕ} → has k es ≡ false → m ≡ suc n → missing_from k m es ≡ k
  unfolding missing_from
  not_found {n} {m} h e = ap (λ (x : ℕ). missing_from k x es) e ∙ ap (λ (t : Bool). pick t (missing_from (k + 1) n es) k) h

  pub all_found : {m : ℕ} → m ≡ 0 → missing_from k m es ≡ k
  unfolding missing_from
  all_found e = ap (λ (x : ℕ). missing_from k x es) e
