-- Bytes put one after the other. Assumes nothing.
use mathlib.Core.Path.{◌≡◌, refl, sym, ap, subst, ◌∙◌}
use Prim.Native.Nat.{ℕ, suc, ◌+◌, ◌≤◌, ◌<◌}
use native.Mathlib.Nat.{add-zero}
use native.Mathlib.Numerals.{add-one}
use native.Mathlib.Omega.{arith}
use mathlib.Core.List.{List, [], ◌∷◌, ◌++◌, append-nil}
use lib.ListN.{length, take, drop, set, length-append, take-append-drop}
use lib.Seq.{set_split, append_snoc}
use borrow.Author.Rules.{rules}
use Rattle.base_laws.specs.Base.{splice}
use Rattle.base_laws.proofs.Splice.{splice_next, length_splice}
use borrow.Author.Tests.{le-leb}
use Rattle.base_copy.specs.Copy.{fits, copied}
use Rattle.base_copy.specs.Put.{Put}

-- ---- a byte, and a copy

set_splice : (s : List ℕ) (i b : ℕ) → i < length s → set s i b ≡ splice s i (b ∷ [])
unfolding splice
set_splice s i b h =
    set_split s i b h
    ∙ sym (append_snoc (take i s) b (drop (suc i) s))
    ∙ ap (λ (n : ℕ). take i s ++ (b ∷ []) ++ drop n s) (sym (add-one i))

pub put_byte : (s : List ℕ) (i b : ℕ) → i < length s → Put s i (b ∷ []) (set s i b) (i + 1)
put_byte s i b h = record { list = set_splice s i b h; next = refl; fits = omega arith }

-- a copy that fits
pub put_copy : {s s' d : List ℕ} {at : ℕ} → at + length d ≤ length s → s' ≡ copied s at d → Put s at d s' (at + length d)
unfolding copied fits
put_copy {s} {s'} {d} {at} h e =
    record { list = e ∙ rw (le-leb (at + length d) (length s) h); next = refl; fits = h }

-- ---- none, two, and the last

pub nothing : (s : List ℕ) (at : ℕ) → at ≤ length s → Put s at [] s at
unfolding splice
nothing s at h =
    record {
      list = sym (ap (λ (l : List ℕ). l ++ drop (at + 0) s) (append-nil (take at s)) ∙ ap (λ (n : ℕ). take at s ++ drop n s) (add-zero at) ∙ take-append-drop at s);
      next = omega arith;
      fits = h;
    }

pub put_length : {s s' bs : List ℕ} {at at' : ℕ} → Put s at bs s' at' → length s' ≡ length s
put_length {s} {s'} {bs} {at} {at'} p = ap length p.list ∙ length_splice s at bs (omega arith)

pub then : {s s₁ s₂ : List ℕ} {at at₁ at₂ : ℕ} {xs ys : List ℕ} → Put s at xs s₁ at₁ → Put s₁ at₁ ys s₂ at₂ → Put s at (xs ++ ys) s₂ at₂
then {s} {s₁} {s₂} {at} {at₁} {at₂} {xs} {ys} p q =
    let same = put_length p in
    record {
      list = splice_next s s₁ s₂ at at₁ xs ys p.next p.fits p.list q.list;
      next = omega (arith, length-append xs ys);
      fits = omega arith;
    }

pub end : {s s₁ : List ℕ} {at at₁ : ℕ} {xs : List ℕ} → Put s at xs s₁ at₁ → Put s at (xs ++ []) s₁ at₁
end {s} {s₁} {at} {at₁} {xs} p = subst (λ (l : List ℕ). Put s at l s₁ at₁) (sym (append-nil xs)) p

pub ruleset puts = (rules, then, end, nothing)

-- ---- a loop that puts piece by piece: what is left, put at o, makes the whole

pub record Filling (s : List ℕ) (at : ℕ) (all s' : List ℕ) (o : ℕ) (left : List ℕ) : Type 0 where
  pub list : splice s' o left ≡ splice s at all
  pub next : o + length left ≡ at + length all
  pub size : length s' ≡ length s

pub fill_start : (s : List ℕ) (at : ℕ) (all : List ℕ) → Filling s at all s at all
fill_start s at all = record { list = refl; next = refl; size = refl }

module _ {s : List ℕ} {at : ℕ} {all s' : List ℕ} {o : ℕ} {left : List ℕ} (f : Filling s at all s' o left) where
  pub fill_room : (xs ys : List ℕ) → left ≡ xs ++ ys → at + length all ≤ length s → o + length xs ≤ length s'
  fill_room xs ys e h = omega (arith, f.next, f.size, ap length e, length-append xs ys)

  pub fill_more : {xs s'' : List ℕ} {o' : ℕ} (ys : List ℕ) → left ≡ xs ++ ys → Put s' o xs s'' o' → Filling s at all s'' o' ys
  fill_more {xs} {s''} {o'} ys e p =
      record {
        list = splice_next s' s'' (splice s'' o' ys) o o' xs ys p.next p.fits p.list refl ∙ ap (splice s' o) (sym e) ∙ f.list;
        next = omega (arith, p.next, f.next, ap length e, length-append xs ys);
        size = put_length p ∙ f.size;
      }

  pub fill_end : left ≡ [] → at + length all ≤ length s → Put s at all s' o
  fill_end e h =
      record {
        list = (nothing s' o (omega (arith, f.next, f.size))).list ∙ ap (splice s' o) (sym e) ∙ f.list;
        next = omega (arith, f.next, ap length e);
        fits = omega (arith, f.next, ap length e);
      }
