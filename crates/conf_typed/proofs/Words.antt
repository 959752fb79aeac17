-- The bytes of a span against a word.
use Prim.Native.Nat.{ℕ, suc, ◌+◌, ◌≤◌, ◌<◌}
use native.Mathlib.Numerals.{add-one}
use native.Mathlib.Omega.{arith}
use mathlib.Core.Logic.{◌⊎◌, inl, inr}
use Rattle.std.specs.Prelude.{◌&&◌}
use Rattle.std.specs.Char.{is_ascii_digit, to_ascii_lowercase}
use mathlib.Core.Path.{◌≡◌, refl, sym, ap, ◌∙◌}
use mathlib.Core.List.{[], ◌∷◌}
use mathlib.Core.Bool.{Bool, true, false}
use lib.ListN.{length, take, drop, get_or, drop_of_length-le}
use lib.Seq.{drop-cons, length-take-le}
use lib.Dec.{eqb, leb}
use borrow.Author.Tests.{eq-eqb, ne_eqb, lt-ltb, le-ltb, le-leb, lt-leb}
use Rattle.base_laws.specs.Base.{pick, both}
use Rattle.base_laws.proofs.Order.{lt_or_le}
use Rattle.conf_lines.specs.Lines.{Bytes}
use Rattle.conf_typed.specs.Typed.{same, is_digit, lower_byte, lower}
use Rattle.conf_typed.specs.Read.{cased}

pub length_lower : (bs : Bytes) → length (lower bs) ≡ length bs
unfolding lower
length_lower [] = refl
length_lower (b ∷ bs) = ap suc (length_lower bs)

pub length_cased : (k : Bool) (bs : Bytes) → length (cased k bs) ≡ length bs
length_cased true bs = length_lower bs
length_cased false bs = refl

both_false : (t : Bool) → both t false ≡ false
both_false true = refl
both_false false = refl

same_length : (a b : Bytes) → (length a ≡ length b → ⊥) → same a b ≡ false
unfolding same
same_length [] [] h = absurd (h refl)
same_length [] (y ∷ ys) h = refl
same_length (x ∷ xs) [] h = refl
same_length (x ∷ xs) (y ∷ ys) h =
    ap (both (eqb x y)) (same_length xs ys (λ (e : length xs ≡ length ys). h (ap suc e))) ∙ both_false (eqb x y)

-- a span of another length than the word's
pub other_length : (k : Bool) (j word : Bytes) (n : ℕ) → n ≤ length j
    → (n ≡ length word → ⊥) → same (cased k (take n j)) word ≡ false
other_length k j word n h other =
    let l = length_cased k (take n j) ∙ length-take-le n j h in
    same_length (cased k (take n j)) word (λ (e : length (cased k (take n j)) ≡ length word). other (sym l ∙ e))

-- a byte of the span, r in the case asked for
pub first_cased : (k : Bool) (b r : ℕ) (t : Bytes) → cased k (b ∷ []) ≡ r ∷ [] → cased k (b ∷ t) ≡ r ∷ cased k t
unfolding lower
first_cased true b r t e = ap (λ (l : Bytes). get_or l 0 0 ∷ lower t) e
first_cased false b r t e = ap (λ (l : Bytes). get_or l 0 0 ∷ t) e

word_step : (k : Bool) (j t word : Bytes) (i b r : ℕ) → j ≡ b ∷ t → cased k (b ∷ []) ≡ r ∷ [] → i < length word
    → same (cased k j) (drop i word) ≡ both (eqb r (get_or word i 0)) (same (cased k t) (drop (i + 1) word))
unfolding same
word_step k j t word i b r e f h =
    let d : drop i word ≡ get_or word i 0 ∷ drop (i + 1) word =
    drop-cons word i 0 h ∙ ap (λ (n : ℕ). get_or word i 0 ∷ drop n word) (sym (add-one i)) in
    ap (λ (l : Bytes). same (cased k l) (drop i word)) e
    ∙ ap (λ (l : Bytes). same l (drop i word)) (first_cased k b r t f)
    ∙ ap (same (r ∷ cased k t)) d

module _ (k : Bool) (j t word : Bytes) (i b r : ℕ) (e : j ≡ b ∷ t) (f : cased k (b ∷ []) ≡ r ∷ []) (h : i < length word) where
  pub word_other : (r ≡ get_or word i 0 → ⊥) → same (cased k j) (drop i word) ≡ false
  word_other other =
      word_step k j t word i b r e f h
      ∙ ap (λ (q : Bool). both q (same (cased k t) (drop (i + 1) word))) (ne_eqb r (get_or word i 0) other)

  pub word_next : r ≡ get_or word i 0 → same (cased k j) (drop i word) ≡ same (cased k t) (drop (i + 1) word)
  word_next one =
      word_step k j t word i b r e f h
      ∙ ap (λ (q : Bool). both q (same (cased k t) (drop (i + 1) word))) (eq-eqb r (get_or word i 0) one)

pub nothing_cased : (k : Bool) → cased k [] ≡ []
unfolding lower
nothing_cased true = refl
nothing_cased false = refl

pub word_done : (k : Bool) (j word : Bytes) (i : ℕ) → j ≡ [] → length word ≤ i → same (cased k j) (drop i word) ≡ true
unfolding same
word_done k j word i e h =
    ap (λ (l : Bytes). same (cased k l) (drop i word)) e
    ∙ ap (λ (l : Bytes). same l (drop i word)) (nothing_cased k)
    ∙ ap (same []) (drop_of_length-le word h)

-- ---- std's words for a byte's case and for a digit

pub lower_as : (b : ℕ) → to_ascii_lowercase b ≡ lower_byte b
unfolding lower_byte
lower_as b = go (lt_or_le b 65) (lt_or_le b 91)
  where
    go : (b < 65) ⊎ (65 ≤ b) → (b < 91) ⊎ (91 ≤ b) → to_ascii_lowercase b ≡ pick (both (leb 65 b) (leb b 90)) (b + 32) b
    go (inl h) k = rw (lt-ltb b 65 h, lt-leb 65 b h)
    go (inr h) (inl k) = rw (le-ltb b 65 h, lt-ltb b 91 k, le-leb 65 b h, le-leb b 90 (omega arith))
    go (inr h) (inr k) = rw (le-ltb b 65 h, le-ltb b 91 k, le-leb 65 b h, lt-leb b 90 (omega arith))

pub digit_as : (b : ℕ) → is_ascii_digit b ≡ is_digit b
digit_as b = go (leb 48 b)
  where
    go : (t : Bool) → (t && leb b 57) ≡ both t (leb b 57)
    go true = refl
    go false = refl
