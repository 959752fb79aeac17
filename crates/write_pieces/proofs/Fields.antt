-- Laws of single fields: where they are left out, and their lengths. Assumes nothing.
use mathlib.Core.Path.{◌≡◌, refl, sym, ap, ◌∙◌}
use Prim.Native.Nat.{ℕ, ◌+◌, ◌*◌, ◌≤◌}
use native.Mathlib.Omega.{arith}
use mathlib.Core.List.{List, [], ◌++◌}
use mathlib.Core.Bool.{Bool, true, false}
use lib.ListN.{length, length-append}
use lib.Dec.{eqb}
use borrow.Author.Tests.{eq-eqb, ne_eqb, eqb-true, eqb-false}
use Rattle.write_forms.specs.Pieces.{some, text, encode, varint, head}
use Rattle.write_forms.specs.Draft.{Stamp, time}
use Rattle.write_pieces.specs.Parts.{number_piece, left_out, time_piece, cover}

-- ---- numbers

module _ (f v : ℕ) where
  pub number_out : (always : Bool) {b : Bool} → b ≡ left_out v always → b ≡ true → encode (number_piece always f v) ≡ []
  unfolding encode left_out
  number_out true {b} p q = let z : ◌≡◌ {A = ℕ} 0 1 = cc in absurd (omega arith)
  number_out false {b} p q = let e : eqb v 0 ≡ true = sym p ∙ q in rw e

  pub number_in : (always : Bool) {b : Bool} → b ≡ left_out v always → b ≡ false
      → encode (number_piece always f v) ≡ varint (f * 8) ++ varint v
  unfolding encode left_out
  number_in true {b} p q = refl
  number_in false {b} p q = let e : eqb v 0 ≡ false = sym p ∙ q in rw e

  pub length_number : (always : Bool) {b : Bool} → b ≡ left_out v always → b ≡ false
      → length (encode (number_piece always f v)) ≡ length (varint (f * 8)) + length (varint v)
  length_number always p q = ap length (number_in always p q) ∙ length-append (varint (f * 8)) (varint v)

-- ---- bytes

pub length_head : (f n : ℕ) → length (head f n) ≡ length (varint (f * 8 + 2)) + length (varint n)
unfolding head
length_head f n = length-append (varint (f * 8 + 2)) (varint n)

pub cover_none : (f n : ℕ) → f ≡ 0 → cover f n ≡ []
unfolding cover
cover_none f n h = rw (eq-eqb f 0 h)

pub cover_some : (f n : ℕ) → (f ≡ 0 → ⊥) → cover f n ≡ head f n
unfolding cover
cover_some f n h = rw (ne_eqb f 0 h)

module _ (f : ℕ) (d : List ℕ) where
  pub text_none : length d ≡ 0 → encode (text f d) ≡ []
  unfolding encode
  text_none h = simp (eq-eqb (length d) 0 h)

  pub text_some : (length d ≡ 0 → ⊥) → encode (text f d) ≡ head f (length d) ++ d
  unfolding encode
  text_some h = simp (ne_eqb (length d) 0 h)

  pub length_text : (length d ≡ 0 → ⊥) → length (encode (text f d)) ≡ length (head f (length d)) + length d
  length_text h = ap length (text_some h) ∙ length-append (head f (length d)) d

  -- a text is at least as long as its bytes
  pub text_least : length d ≤ length (encode (text f d))
  text_least = go (eqb (length d) 0) refl
    where
      go : (t : Bool) → eqb (length d) 0 ≡ t → length d ≤ length (encode (text f d))
      go true e = let z = eqb-true (length d) 0 e in omega arith
      go false e = omega (arith, length_text (eqb-false (length d) 0 e))

-- ---- TimeSpecs

module _ (f : ℕ) (t : Stamp) where
  pub time_none : f ≡ 0 → encode (time_piece f t) ≡ []
  unfolding encode
  time_none h = rw (eq-eqb f 0 h)

  pub time_some : (f ≡ 0 → ⊥) → encode (time_piece f t) ≡ head f (length (time t)) ++ time t
  unfolding encode
  time_some h = rw (ne_eqb f 0 h)

  pub length_time : (n : ℕ) → (f ≡ 0 → ⊥) → n ≡ length (time t) → length (encode (time_piece f t)) ≡ length (head f n) + n
  length_time n h e = ap length (time_some h) ∙ length-append (head f (length (time t))) (time t) ∙ rw (← e)

pub length_stamp : (t : Stamp) → length (time t) ≡ length (encode (some 1 t.seconds)) + length (encode (some 2 t.nanos))
length_stamp t = simp length-append (omega arith)
