-- Laws of a text: byte by byte, and whether it fits. Assumes nothing.
use mathlib.Core.Path.{◌≡◌, refl, sym, ap, ◌∙◌}
use Rattle.std.specs.Prelude.{min, Some, None}
use Prim.Native.Nat.{ℕ, ◌+◌, ◌≤◌, ◌<◌}
use native.Mathlib.Numerals.{add-one}
use native.Mathlib.Omega.{arith}
use mathlib.Core.List.{List, [], ◌∷◌, ◌++◌}
use mathlib.Core.Bool.{Bool, true, false}
use lib.ListN.{length, drop, get_or, length-append, drop_of_length-le}
use lib.Seq.{drop-cons}
use lib.Dec.{leb}
use borrow.Author.Tests.{leb-true, leb-false, le-leb, lt-leb}
use Rattle.base_laws.specs.Base.{both}
use Rattle.base_laws.proofs.Order.{both_true}
use Rattle.base_copy.specs.Put.{Put}
use Rattle.show_escape.specs.Escape.{escaped_byte, escaped, text_fits, escape_answer, escape_out}

module _ (bs : List ℕ) (i : ℕ) where
  pub next_byte : i < length bs → escaped (drop i bs) ≡ escaped_byte (get_or bs i 0) ++ escaped (drop (i + 1) bs)
  unfolding escaped
  next_byte h = ap escaped (drop-cons bs i 0 h ∙ ap (λ (n : ℕ). get_or bs i 0 ∷ drop n bs) (sym (add-one i)))

  pub no_byte : length bs ≤ i → escaped (drop i bs) ≡ []
  unfolding escaped
  no_byte h = ap escaped (drop_of_length-le bs h)

-- ---- the loop that counts: of the most characters, as many are left as the bytes before i don't take

pub record Counting (bs : List ℕ) (most left i : ℕ) : Type 0 where
  pub all : length (escaped bs) + left ≡ most + length (escaped (drop i bs))

module _ {bs : List ℕ} {most left i n : ℕ} (v : Counting bs most left i) (l : i < length bs) (e : n ≡ length (escaped_byte (get_or bs i 0))) where
  length_next : length (escaped (drop i bs)) ≡ n + length (escaped (drop (i + 1) bs))
  length_next =
      ap length (next_byte bs i l)
      ∙ length-append (escaped_byte (get_or bs i 0)) (escaped (drop (i + 1) bs))
      ∙ ap (λ (k : ℕ). k + length (escaped (drop (i + 1) bs))) (sym e)

  pub count_more : {left' : ℕ} → n + left' ≡ left → Counting bs most left' (i + 1)
  count_more h = record { all = omega (arith, v.all, length_next) }

  pub count_long : left < n → most < length (escaped bs)
  count_long h = omega (arith, v.all, length_next)

pub count_end : {bs : List ℕ} {most left i : ℕ} → Counting bs most left i → length bs ≤ i → length (escaped bs) ≤ most
count_end {bs} {most} {left} {i} v l = omega (arith, v.all, ap length (no_byte bs i l))

-- ---- the room: at most the smaller of two numbers is at most both

smaller : (a n m : ℕ) → leb a (min n m) ≡ both (leb a n) (leb a m)
smaller a n m = go (leb a n) (leb a m) refl refl
  where
    go : (s t : Bool) → leb a n ≡ s → leb a m ≡ t → leb a (min n m) ≡ both (leb a n) (leb a m)
    go true true e f = let h = leb-true a n e in let k = leb-true a m f in rw (e, f) (le-leb a (min n m) (omega arith))
    go true false e f = let h = leb-false a m f in rw (e, f) (lt-leb a (min n m) (omega arith))
    go false t e f = let h = leb-false a n e in rw e (lt-leb a (min n m) (omega arith))

-- ---- what is answered and left, by the test t of the text's length

module _ (bs out : List ℕ) {t : Bool} {most : ℕ} (f : t ≡ leb (length (escaped bs)) most) (l : most ≡ min (length out) 4294967295) where
  told : t ≡ text_fits (escaped bs) out
  unfolding text_fits
  told = f ∙ ap (leb (length (escaped bs))) l ∙ smaller (length (escaped bs)) (length out) 4294967295

  pub room : t ≡ true → length (escaped bs) ≤ length out
  unfolding text_fits
  room h = leb-true (length (escaped bs)) (length out) (both_true _ _ (sym told ∙ h)).0

  pub no_room : t ≡ false → (None ≡ escape_answer bs out) × (out ≡ escape_out bs out)
  unfolding escape_answer escape_out
  no_room h = let e : text_fits (escaped bs) out ≡ false = sym told ∙ h in (rw e, rw e)

  pub stored : {out' : List ℕ} {r : ℕ} → t ≡ true → Put out 0 (escaped bs) out' r → (Some r ≡ escape_answer bs out) × (out' ≡ escape_out bs out)
  unfolding escape_answer escape_out
  stored {out'} {r} h p = let e : text_fits (escaped bs) out ≡ true = sym told ∙ h in (rw e (ap Some (p.next ∙ omega arith)), rw e p.list)
