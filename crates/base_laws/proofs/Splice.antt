-- Laws of splices.
use mathlib.Core.Path.{◌≡◌, sym, ap, ◌∙◌}
use Prim.Native.Nat.{ℕ, ◌+◌, ◌≤◌}
use native.Mathlib.Nat.{add_assoc}
use native.Mathlib.Omega.{arith}
use mathlib.Core.List.{List, ◌++◌, append_assoc}
use lib.ListN.{length, take, drop, length-append, length-drop}
use lib.Seq.{drop-drop, take_at, drop-append-add, length-take-le, sets, sets-eq}
use borrow.Rule.Slice.PartMut.{put_mid}
use Rattle.base_laws.specs.Base.{splice}

module _ {A : Type 0} where
  pub length_splice : (s : List A) (at : ℕ) (bs : List A) → at + length bs ≤ length s → length (splice s at bs) ≡ length s
  unfolding splice
  length_splice s at bs h =
      simp (length-append, length-drop) (omega (arith, length-take-le at s (omega arith)))

  -- stores one after the other are a splice
  pub sets_splice : (s : List A) (at : ℕ) (bs : List A) → at + length bs ≤ length s → sets s at bs ≡ splice s at bs
  unfolding splice
  sets_splice s at bs h = sets-eq bs s at h

  -- so is a write to `s[at..at + n]`: ys is what the part holds afterwards
  pub part_splice : (s : List A) (at n : ℕ) (ys bs : List A) → ys ≡ bs → n ≡ length bs → put_mid at n s ys ≡ splice s at bs
  unfolding splice
  part_splice s at n ys bs e h =
      ap (λ (l : List A). take at s ++ (l ++ drop n (drop at s))) e
      ∙ sym (append_assoc (take at s) bs (drop n (drop at s)))
      ∙ ap (λ (l : List A). take at s ++ bs ++ l) (drop-drop n at s ∙ ap (λ (k : ℕ). drop (at + k) s) h)

  -- two adjacent splices are one
  pub splice_splice : (s : List A) (at : ℕ) (xs ys : List A) → at + length xs ≤ length s
      → splice (splice s at xs) (at + length xs) ys ≡ splice s at (xs ++ ys)
  unfolding splice
  splice_splice s at xs ys h =
      let p : List A = take at s ++ xs in
      let rest : List A = drop (at + length xs) s in
      let lp : length p ≡ at + length xs = length-append (take at s) xs ∙ ap (λ (n : ℕ). n + length xs) (length-take-le at s (omega arith)) in
      ap (λ (l : List A). l ++ ys ++ drop (at + length xs + length ys) (p ++ rest)) (take_at p rest (at + length xs) lp)
      ∙ ap (λ (n : ℕ). p ++ ys ++ drop (n + length ys) (p ++ rest)) (sym lp)
      ∙ ap (λ (l : List A). p ++ ys ++ l) (drop-append-add p rest (length ys) ∙ drop-drop (length ys) (at + length xs) s)
      ∙ ap (λ (n : ℕ). p ++ ys ++ drop n s) (add_assoc at (length xs) (length ys) ∙ ap (λ (n : ℕ). at + n) (sym (length-append xs ys)))
      ∙ ap (λ (l : List A). l ++ drop (at + length (xs ++ ys)) s) (append_assoc (take at s) xs ys)

  -- the same of two stores in a row
  pub splice_next : (s s₁ s₂ : List A) (at at₁ : ℕ) (xs ys : List A) → at₁ ≡ at + length xs → at₁ ≤ length s
      → s₁ ≡ splice s at xs → s₂ ≡ splice s₁ at₁ ys → s₂ ≡ splice s at (xs ++ ys)
  splice_next s s₁ s₂ at at₁ xs ys e h p q =
      q ∙ ap (λ (l : List A). splice l at₁ ys) p ∙ ap (λ (n : ℕ). splice (splice s at xs) n ys) e ∙ splice_splice s at xs ys (omega arith)
