-- Laws of where two lists part: a byte that is the same is passed, the first that differs or the end of either is the place.
use mathlib.Core.Path.{◌≡◌, refl, sym, ap, subst, ◌∙◌}
use mathlib.Core.List.{List, [], ◌∷◌}
use mathlib.Core.Logic.{⊎_elim}
use Prim.Native.Nat.{ℕ, zero, suc, ◌+◌, ◌-◌, ◌≤◌, ◌<◌, min}
use native.Mathlib.Numerals.{add-one}
use native.Mathlib.Omega.{arith}
use lib.ListN.{length, drop, get_or, drop_of_length-le}
use lib.Seq.{drop-cons}
use lib.Dec.{eqb}
use borrow.Author.Tests.{eq-eqb, ne_eqb}
use Rattle.base_laws.specs.Base.{pick}
use Rattle.base_laws.proofs.Order.{lt_or_le}
use Rattle.file_parting.specs.Parting.{parting, Agree}

-- ---- one byte

next_drop : (l : List ℕ) (i : ℕ) → i < length l → drop i l ≡ get_or l i 0 ∷ drop (i + 1) l
next_drop l i h = drop-cons l i 0 h ∙ ap (λ (n : ℕ). get_or l i 0 ∷ drop n l) (sym (add-one i))

step : (a b : List ℕ) (i : ℕ) → i < length a → i < length b
    → parting (drop i a) (drop i b) ≡ pick (eqb (get_or a i 0) (get_or b i 0)) (suc (parting (drop (i + 1) a) (drop (i + 1) b))) 0
unfolding parting
step a b i h k = ap (λ (x : List ℕ). parting x (drop i b)) (next_drop a i h) ∙ ap (parting (get_or a i 0 ∷ drop (i + 1) a)) (next_drop b i k)

pub same_byte : (a b : List ℕ) (i : ℕ) → i < length a → i < length b → get_or a i 0 ≡ get_or b i 0
    → parting (drop i a) (drop i b) ≡ suc (parting (drop (i + 1) a) (drop (i + 1) b))
same_byte a b i h k e = step a b i h k ∙ rw (eq-eqb (get_or a i 0) (get_or b i 0) e)

pub other_byte : (a b : List ℕ) (i : ℕ) → i < length a → i < length b → (get_or a i 0 ≡ get_or b i 0 → ⊥) → parting (drop i a) (drop i b) ≡ 0
other_byte a b i h k e = step a b i h k ∙ rw (ne_eqb (get_or a i 0) (get_or b i 0) e)

nothing_left : (x : List ℕ) → parting x [] ≡ 0
unfolding parting
nothing_left [] = refl
nothing_left (b ∷ bs) = refl

first_ends : (a b : List ℕ) (i : ℕ) → length a ≤ i → parting (drop i a) (drop i b) ≡ 0
unfolding parting
first_ends a b i h = ap (λ (x : List ℕ). parting x (drop i b)) (drop_of_length-le a h)

second_ends : (a b : List ℕ) (i : ℕ) → length b ≤ i → parting (drop i a) (drop i b) ≡ 0
second_ends a b i h = ap (parting (drop i a)) (drop_of_length-le b h) ∙ nothing_left (drop i a)

pub shorter_ends : (a b : List ℕ) (i : ℕ) → min (length a) (length b) ≤ i → parting (drop i a) (drop i b) ≡ 0
shorter_ends a b i h =
    ⊎_elim (λ (lt : length a < length b). first_ends a b i (omega arith)) (λ (le : length b ≤ length a). second_ends a b i (omega arith))
    (lt_or_le (length a) (length b))

-- ---- blocks

-- n bytes that are the same are passed
pub passed : (a b : List ℕ) (at n : ℕ) → at + n ≤ length a → at + n ≤ length b → Agree a b at n
    → parting (drop at a) (drop at b) ≡ n + parting (drop (at + n) a) (drop (at + n) b)
passed a b at zero h k e =
    let z : at + 0 ≡ at = omega arith in
    let p : parting (drop (at + 0) a) (drop (at + 0) b) ≡ parting (drop at a) (drop at b) = ap (λ (i : ℕ). parting (drop i a) (drop i b)) z in
    omega (arith, p)
passed a b at (suc n) h k e =
    let i : parting (drop at a) (drop at b) ≡ n + parting (drop (at + n) a) (drop (at + n) b) = passed a b at n (omega arith) (omega arith) (λ j l. e j (omega arith)) in
    let s : parting (drop (at + n) a) (drop (at + n) b) ≡ suc (parting (drop (at + n + 1) a) (drop (at + n + 1) b)) =
    same_byte a b (at + n) (omega arith) (omega arith) (e n (omega arith)) in
    let z : at + n + 1 ≡ at + suc n = omega arith in
    let p : parting (drop (at + n + 1) a) (drop (at + n + 1) b) ≡ parting (drop (at + suc n) a) (drop (at + suc n) b) = ap (λ (j : ℕ). parting (drop j a) (drop j b)) z in
    omega (arith, i, s, p)

-- one byte more of a block
pub more_agree : (a b : List ℕ) (at k : ℕ) → Agree a b at k → get_or a (at + k) 0 ≡ get_or b (at + k) 0 → Agree a b at (k + 1)
more_agree a b at k h e i l =
    ⊎_elim (λ (lt : i < k). h i lt) (λ (le : k ≤ i). let z : k ≡ i = omega arith in subst (λ (n : ℕ). get_or a (at + n) 0 ≡ get_or b (at + n) 0) z e) (lt_or_le i k)

-- ---- blocks laid over each other

-- a block that begins within the bytes that agree, or right behind them
pub joined : (a b : List ℕ) (i at k : ℕ) → Agree a b 0 i → at ≤ i → Agree a b at k → Agree a b 0 (at + k)
joined a b i at k f h g j l =
    ⊎_elim (λ (lt : j < i). f j lt)
    (λ (le : i ≤ j).
    let z : at + (j - at) ≡ 0 + j = omega arith in
    subst (λ (x : ℕ). get_or a x 0 ≡ get_or b x 0) z (g (j - at) (omega arith)))
    (lt_or_le j i)

-- two blocks, one behind the other
pub twice_joined : (a b : List ℕ) (i at : ℕ) → Agree a b 0 i → at ≤ i → Agree a b at 16 → Agree a b (at + 16) 16 → Agree a b 0 (at + 32)
twice_joined a b i at f h g k =
    let z : at + 16 + 16 ≡ at + 32 = omega arith in
    subst (Agree a b 0) z (joined a b (at + 16) (at + 16) 16 (joined a b i at 16 f h g) (omega arith) k)

-- where all before a place agrees, the rest decides
pub from_there : (a b : List ℕ) (i at : ℕ) → Agree a b 0 i → at ≤ i → at ≤ length a → at ≤ length b → at + parting (drop at a) (drop at b) ≡ parting a b
from_there a b i at f h k m =
    let p = passed a b 0 at (omega arith) (omega arith) (λ j l. f j (omega arith)) in
    let here : 0 + at ≡ at = omega arith in
    let z : parting (drop (0 + at) a) (drop (0 + at) b) ≡ parting (drop at a) (drop at b) = ap (λ (x : ℕ). parting (drop x a) (drop x b)) here in
    omega (arith, p, z)

-- where all up to the end of the shorter one agrees, they part there
pub at_the_end : (a b : List ℕ) (n : ℕ) → n ≡ min (length a) (length b) → Agree a b 0 n → n ≡ parting a b
at_the_end a b n e f =
    let p = from_there a b n n f (omega arith) (omega arith) (omega arith) in
    omega (arith, p, shorter_ends a b n (omega arith))
