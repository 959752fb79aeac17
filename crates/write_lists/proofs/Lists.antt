-- Laws of lists of strings that are lent as joined bytes and ends. Assumes nothing.
use mathlib.Core.Path.{◌≡◌, refl, sym, ap, ◌∙◌}
use Prim.Native.Nat.{ℕ, ◌+◌, ◌-◌, ◌≤◌, ◌<◌}
use native.Mathlib.Numerals.{add-one}
use native.Mathlib.Omega.{arith}
use mathlib.Core.List.{List, [], ◌∷◌, ◌++◌}
use mathlib.Core.Bool.{Bool, true, false, not}
use lib.ListN.{length, drop, get_or, length-append, drop_of_length-le}
use lib.Seq.{drop-cons}
use lib.Dec.{ltb, eqb}
use borrow.Author.Tests.{ltb-false, eqb-true, not-false}
use Rattle.base_laws.specs.Base.{pick, part}
use Rattle.base_laws.proofs.Parts.{length_part}
use Rattle.write_forms.specs.Pieces.{head, elements}
use Rattle.write_forms.specs.Draft.{cut_at, bad_ends}
use Rattle.base_copy.specs.Put.{Put}
use Rattle.write_pieces.specs.Parts.{Like, exact, beyond}
use Rattle.base_copy.proofs.Puts.{then, Filling, fill_room, fill_more, fill_end}

pub next_drop : (ends : List ℕ) (i : ℕ) → i < length ends → drop i ends ≡ get_or ends i 0 ∷ drop (i + 1) ends
next_drop ends i h = drop-cons ends i 0 h ∙ ap (λ (n : ℕ). get_or ends i 0 ∷ drop n ends) (sym (add-one i))

-- ---- ends

module _ (size a : ℕ) (ends : List ℕ) (i : ℕ) where
  pub ends_step : i < length ends
      → bad_ends size a (drop i ends) ≡ pick (ltb (get_or ends i 0) a) true (bad_ends size (get_or ends i 0) (drop (i + 1) ends))
  unfolding bad_ends
  ends_step h = ap (bad_ends size a) (next_drop ends i h)

  pub ends_done : length ends ≤ i → bad_ends size a (drop i ends) ≡ not (eqb a size)
  unfolding bad_ends
  ends_done h = ap (bad_ends size a) (drop_of_length-le ends h)

pub not_not : (b : Bool) → b ≡ not (not b)
not_not true = refl
not_not false = refl

ends_le : (size a : ℕ) (es : List ℕ) → bad_ends size a es ≡ false → a ≤ size
unfolding bad_ends
ends_le size a [] h = let e = eqb-true a size (not-false (eqb a size) h) in omega arith
ends_le size a (e ∷ es) h = go (ltb e a) refl h (ends_le size e es)
  where
    go : (t : Bool) → ltb e a ≡ t → pick t true (bad_ends size e es) ≡ false → (bad_ends size e es ≡ false → e ≤ size) → a ≤ size
    go true p h ih = let z : ◌≡◌ {A = ℕ} 0 1 = cc in absurd (omega arith)
    go false p h ih = let l = ltb-false e a p in let k = ih h in omega arith

-- the next end, where ends are good
pub record Next (size a : ℕ) (ends : List ℕ) (i : ℕ) : Type 0 where
  pub up : a ≤ get_or ends i 0
  pub within : get_or ends i 0 ≤ size
  pub rest : bad_ends size (get_or ends i 0) (drop (i + 1) ends) ≡ false

pub next_end : {size a : ℕ} {ends : List ℕ} {i : ℕ} → bad_ends size a (drop i ends) ≡ false → i < length ends → Next size a ends i
next_end {size} {a} {ends} {i} h l = go (ltb (get_or ends i 0) a) refl (sym (ends_step size a ends i l) ∙ h)
  where
    go : (t : Bool) → ltb (get_or ends i 0) a ≡ t → pick t true (bad_ends size (get_or ends i 0) (drop (i + 1) ends)) ≡ false → Next size a ends i
    go true p q = let z : ◌≡◌ {A = ℕ} 0 1 = cc in absurd (omega arith)
    go false p q = record { up = ltb-false (get_or ends i 0) a p; within = ends_le size (get_or ends i 0) (drop (i + 1) ends) q; rest = q }

-- ---- elements

-- the i-th element, which starts at a
abbrev pub element : ℕ → List ℕ → List ℕ → ℕ → ℕ → List ℕ
element f j ends a i = head f (get_or ends i 0 - a) ++ part j a (get_or ends i 0)

-- the elements from the i-th on
abbrev pub elements_from : ℕ → List ℕ → List ℕ → ℕ → ℕ → List ℕ
elements_from f j ends a i = elements f (cut_at j a (drop i ends))

module _ (f : ℕ) (j ends : List ℕ) (a i : ℕ) where
  pub next_element : bad_ends (length j) a (drop i ends) ≡ false → i < length ends
      → elements_from f j ends a i ≡ element f j ends a i ++ elements_from f j ends (get_or ends i 0) (i + 1)
  unfolding elements cut_at
  next_element h l =
      let n = next_end h l in
      let k : length (part j a (get_or ends i 0)) ≡ get_or ends i 0 - a = length_part j a (get_or ends i 0) n.up n.within in
      ap (λ (d : List ℕ). elements f (cut_at j a d)) (next_drop ends i l)
      ∙ ap (λ (x : ℕ). (head f x ++ part j a (get_or ends i 0)) ++ elements_from f j ends (get_or ends i 0) (i + 1)) k

  pub no_element : length ends ≤ i → elements_from f j ends a i ≡ []
  unfolding elements cut_at
  no_element h = ap (λ (d : List ℕ). elements f (cut_at j a d)) (drop_of_length-le ends h)

  pub length_element : bad_ends (length j) a (drop i ends) ≡ false → i < length ends
      → length (element f j ends a i) ≡ length (head f (get_or ends i 0 - a)) + (get_or ends i 0 - a)
  length_element h l =
      let n = next_end h l in
      omega (arith, length-append (head f (get_or ends i 0 - a)) (part j a (get_or ends i 0)), length_part j a (get_or ends i 0) n.up n.within)

-- ---- the loop that counts

pub record Counted (f : ℕ) (j ends : List ℕ) (a n i : ℕ) : Type 0 where
  pub good : bad_ends (length j) a (drop i ends) ≡ false
  pub small : n ≤ 2097152
  pub all : n + length (elements_from f j ends a i) ≡ length (elements_from f j ends 0 0)

module _ {f : ℕ} {j ends : List ℕ} {a n i : ℕ} (v : Counted f j ends a n i) where
  length_next : i < length ends
      → length (elements_from f j ends a i)
      ≡ length (head f (get_or ends i 0 - a)) + (get_or ends i 0 - a) + length (elements_from f j ends (get_or ends i 0) (i + 1))
  length_next l =
      omega (arith, ap length (next_element f j ends a i v.good l), length-append (element f j ends a i) (elements_from f j ends (get_or ends i 0) (i + 1)), length_element f j ends a i v.good l)

  pub counted_more : {r : ℕ} → i < length ends → r ≡ length (head f (get_or ends i 0 - a)) → n + (r + (get_or ends i 0 - a)) ≤ 2097152
      → Counted f j ends (get_or ends i 0) (n + (r + (get_or ends i 0 - a))) (i + 1)
  counted_more l e h =
      record { good = (next_end v.good l).rest; small = h; all = omega (arith, v.all, length_next l) }

  pub counted_long : i < length ends → 2097152 < n + (length (head f (get_or ends i 0 - a)) + (get_or ends i 0 - a))
      → Like 2097153 (elements_from f j ends 0 0)
  counted_long l h = beyond (omega arith) (omega (arith, v.all, length_next l))

  pub counted_end : length ends ≤ i → Like n (elements_from f j ends 0 0)
  counted_end l = exact (omega (arith, v.all, ap length (no_element f j ends a i l)))

-- ---- the loop that puts

pub record Listed (s : List ℕ) (at f : ℕ) (j ends s' : List ℕ) (a o i : ℕ) : Type 0 where
  pub good : bad_ends (length j) a (drop i ends) ≡ false
  pub filling : Filling s at (elements_from f j ends 0 0) s' o (elements_from f j ends a i)

module _ {s : List ℕ} {at f : ℕ} {j ends s' : List ℕ} {a o i : ℕ} (v : Listed s at f j ends s' a o i) where
  -- the next element has room
  pub listed_room : i < length ends → at + length (elements_from f j ends 0 0) ≤ length s
      → o + (length (head f (get_or ends i 0 - a)) + (get_or ends i 0 - a)) ≤ length s'
  listed_room l h =
      let next : List ℕ = elements_from f j ends (get_or ends i 0) (i + 1) in
      omega (arith, fill_room v.filling (element f j ends a i) next (next_element f j ends a i v.good l) h, length_element f j ends a i v.good l)

  pub listed_more : {s₁ s₂ : List ℕ} {p o' : ℕ} → i < length ends → Put s' o (head f (get_or ends i 0 - a)) s₁ p
      → Put s₁ p (part j a (get_or ends i 0)) s₂ o' → Listed s at f j ends s₂ (get_or ends i 0) o' (i + 1)
  listed_more l x y =
      record {
        good = (next_end v.good l).rest;
        filling = fill_more v.filling (elements_from f j ends (get_or ends i 0) (i + 1)) (next_element f j ends a i v.good l) (then x y);
      }

  pub listed_end : length ends ≤ i → at + length (elements_from f j ends 0 0) ≤ length s → Put s at (elements_from f j ends 0 0) s' o
  listed_end l h = fill_end v.filling (no_element f j ends a i l) h
