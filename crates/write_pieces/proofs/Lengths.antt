-- Lengths that stand for others. Assumes nothing.
use mathlib.Core.Path.{◌≡◌, sym, ap, ◌∙◌}
use Prim.Native.Nat.{ℕ, ◌+◌, ◌≤◌}
use native.Mathlib.Omega.{arith}
use mathlib.Core.List.{List, [], ◌++◌}
use lib.ListN.{length, length-append}
use Rattle.write_forms.specs.Pieces.{head, text, encode}
use Rattle.write_pieces.specs.Parts.{Like, exact, beyond, cover, around}
use Rattle.write_pieces.proofs.Fields.{text_none, text_least, length_text}

pub like_exact : {n : ℕ} {xs : List ℕ} → Like n xs → n ≤ 2097152 → n ≡ length xs
like_exact (exact e) l = e
like_exact (beyond h k) l = absurd (omega arith)

pub like_within : {n : ℕ} {xs : List ℕ} → Like n xs → length xs ≤ 2097152 → n ≡ length xs
like_within (exact e) l = e
like_within (beyond h k) l = absurd (omega arith)

-- one after the other
pub like_append : {n m : ℕ} {xs ys : List ℕ} → Like n xs → Like m ys → Like (n + m) (xs ++ ys)
like_append {n} {m} {xs} {ys} (exact e) (exact f) = exact (omega (arith, length-append xs ys))
like_append {n} {m} {xs} {ys} (exact e) (beyond h l) = beyond (omega arith) (omega (arith, length-append xs ys))
like_append {n} {m} {xs} {ys} (beyond h l) (exact f) = beyond (omega arith) (omega (arith, length-append xs ys))
like_append {n} {m} {xs} {ys} (beyond h l) (beyond i j) = beyond (omega arith) (omega (arith, length-append xs ys))

pub like_end : {n : ℕ} {xs : List ℕ} → Like n xs → Like n (xs ++ [])
like_end {n} {xs} (exact e) = exact (omega (arith, length-append xs []))
like_end {n} {xs} (beyond h l) = beyond h (omega (arith, length-append xs []))

-- a field around what it holds
pub like_around : {n k : ℕ} {d : List ℕ} (f : ℕ) → Like n d → k ≡ length (cover f n) → Like (k + n) (around f d)
unfolding around
like_around {n} {k} {d} f (exact e) q =
    exact (omega (arith, q ∙ ap (λ (x : ℕ). length (cover f x)) e, length-append (cover f (length d)) d))
like_around {n} {k} {d} f (beyond h l) q = beyond (omega arith) (omega (arith, length-append (cover f (length d)) d))

-- a text by a length that stands for its bytes
pub like_none : (f : ℕ) {n : ℕ} {d : List ℕ} → Like n d → n ≡ 0 → Like 0 (encode (text f d))
like_none f {n} {d} (exact e) z = exact (ap length (sym (text_none f d (omega arith))))
like_none f {n} {d} (beyond h l) z = absurd (omega arith)

pub like_text : (f : ℕ) {n k : ℕ} {d : List ℕ} → Like n d → (n ≡ 0 → ⊥) → k ≡ length (head f n) → Like (k + n) (encode (text f d))
like_text f {n} {k} {d} (exact e) z q =
    exact (omega (arith, q ∙ ap (λ (x : ℕ). length (head f x)) e, length_text f d (λ (w : length d ≡ 0). z (omega arith))))
like_text f {n} {k} {d} (beyond h l) z q = beyond (omega arith) (omega (arith, text_least f d))
