-- The number that a span's digits are, up to 2^32.
use Prim.Native.Nat.{ℕ, zero, suc, ◌+◌, ◌*◌, ◌-◌, ◌≤◌, ◌<◌, min}
use native.Mathlib.Omega.{arith}
use mathlib.Core.Path.{◌≡◌, refl, sym, ap, ◌∙◌}
use mathlib.Core.List.{[], ◌∷◌}
use mathlib.Core.Bool.{Bool, true, false}
use mathlib.Core.Logic.{◌⊎◌, inl, inr}
use lib.ListN.{length, take}
use lib.Dec.{leb}
use borrow.Author.Tests.{le-leb, lt-leb}
use Rattle.base_laws.specs.Base.{pick, both}
use Rattle.base_laws.proofs.Order.{lt_or_le}
use Rattle.conf_lines.specs.Lines.{Bytes}
use Rattle.conf_typed.specs.Typed.{is_digit, all_digits, is_decimal, decimal_from, decimal, bad, timeout_of, maxseq_of}
use Rattle.conf_typed.specs.Read.{capped, decimal_of}
use Rattle.conf_typed.specs.declared.BadValue.{BadValue}
use Rattle.std.specs.Prelude.{Option, Some, None, Result, Ok, Err}

-- ---- up to 2^32

capped_small : (a : ℕ) → a ≤ 4294967296 → capped a ≡ a
unfolding capped
capped_small a h = ap (λ (t : Bool). pick t a 4294967296) (le-leb a 4294967296 h)

capped_big : (a : ℕ) → 4294967296 < a → capped a ≡ 4294967296
unfolding capped
capped_big a h = ap (λ (t : Bool). pick t a 4294967296) (lt-leb a 4294967296 h)

pub capped_bound : (a : ℕ) → capped a ≤ 4294967296
capped_bound a = go (lt_or_le 4294967296 a)
  where
    go : (4294967296 < a) ⊎ (a ≤ 4294967296) → capped a ≤ 4294967296
    go (inl h) = let e = capped_big a h in omega arith
    go (inr h) = let e = capped_small a h in omega arith

-- a digit more
capped_digit : (a d : ℕ) → capped (capped a * 10 + d) ≡ capped (a * 10 + d)
capped_digit a d = go (lt_or_le 4294967296 a)
  where
    go : (4294967296 < a) ⊎ (a ≤ 4294967296) → capped (capped a * 10 + d) ≡ capped (a * 10 + d)
    go (inl h) =
        ap (λ (x : ℕ). capped (x * 10 + d)) (capped_big a h)
        ∙ capped_big (4294967296 * 10 + d) (omega arith)
        ∙ sym (capped_big (a * 10 + d) (omega arith))
    go (inr h) = ap (λ (x : ℕ). capped (x * 10 + d)) (capped_small a h)

capped_from : (a : ℕ) (bs : Bytes) → capped (decimal_from (capped a) bs) ≡ capped (decimal_from a bs)
unfolding decimal_from
capped_from a [] = capped_small (capped a) (capped_bound a)
capped_from a (b ∷ bs) =
    sym (capped_from (capped a * 10 + (b - 48)) bs)
    ∙ ap (λ (x : ℕ). capped (decimal_from x bs)) (capped_digit a (b - 48))
    ∙ capped_from (a * 10 + (b - 48)) bs

-- ---- the digits from one on, after those that give v

unfoldable pub number_from : ℕ → Bytes → Option ℕ
number_from v bs = pick (all_digits bs) (Some (capped (decimal_from v bs))) None

pub number_digit : (v b : ℕ) (j t : Bytes) → j ≡ b ∷ t → is_digit b ≡ true → number_from v j ≡ number_from (capped (v * 10 + (b - 48))) t
unfolding number_from all_digits decimal_from
number_digit v b j t e d =
    ap (number_from v) e
    ∙ ap (λ (q : Bool). pick (both q (all_digits t)) (Some (capped (decimal_from (v * 10 + (b - 48)) t))) None) d
    ∙ ap (λ (x : ℕ). pick (all_digits t) (Some x) None) (sym (capped_from (v * 10 + (b - 48)) t))

pub number_other : (v b : ℕ) (j t : Bytes) → j ≡ b ∷ t → is_digit b ≡ false → number_from v j ≡ None
unfolding number_from all_digits
number_other v b j t e d =
    ap (number_from v) e
    ∙ ap (λ (q : Bool). pick (both q (all_digits t)) (Some (capped (decimal_from v (b ∷ t)))) None) d

pub number_done : (v : ℕ) (j : Bytes) → j ≡ [] → v ≤ 4294967296 → number_from v j ≡ Some v
unfolding number_from all_digits decimal_from
number_done v j e h = ap (number_from v) e ∙ ap Some (capped_small v h)

pub decimal_empty : (j : Bytes) (n : ℕ) → n ≡ 0 → decimal_of (take n j) ≡ None
unfolding decimal_of is_decimal
decimal_empty j n e = ap (λ (m : ℕ). decimal_of (take m j)) e

pub decimal_start : (j : Bytes) (n : ℕ) → n ≤ length j → (n ≡ 0 → ⊥) → number_from 0 (take n j) ≡ decimal_of (take n j)
unfolding decimal_of is_decimal number_from
decimal_start j zero h some = absurd (some refl)
decimal_start [] (suc n) h some = absurd (omega arith)
decimal_start (b ∷ j) (suc n) h some = refl

-- ---- what the typed settings make of it

abbrev timeout_in : ℕ → Result ℕ BadValue
timeout_in n = pick (leb n 4294967295) (Ok n) (Err bad)

abbrev pub timeout_from : Option ℕ → Result ℕ BadValue
timeout_from (Some n) = timeout_in n
timeout_from None = (Err bad)

timeout_capped : (x : ℕ) → timeout_in (capped x) ≡ timeout_in x
timeout_capped x = go (lt_or_le 4294967296 x)
  where
    go : (4294967296 < x) ⊎ (x ≤ 4294967296) → timeout_in (capped x) ≡ timeout_in x
    go (inl h) = ap timeout_in (capped_big x h) ∙ sym (ap (λ (t : Bool). pick t (Ok x) (Err bad)) (lt-leb x 4294967295 (omega arith)))
    go (inr h) = ap timeout_in (capped_small x h)

pub timeout_from_lem : (v : Bytes) → timeout_from (decimal_of v) ≡ timeout_of v
unfolding decimal_of timeout_of
timeout_from_lem v = go (is_decimal v)
  where
    go : (t : Bool) → timeout_from (pick t (Some (capped (decimal v))) None)
        ≡ pick (both t (leb (decimal v) 4294967295)) (Ok (decimal v)) (Err bad)
    go true = timeout_capped (decimal v)
    go false = refl

-- the least of two numbers
pub least : (x n : ℕ) → min x n ≡ pick (leb x n) x n
least x n = go (lt_or_le n x)
  where
    go : (n < x) ⊎ (x ≤ n) → min x n ≡ pick (leb x n) x n
    go (inl h) = let e : min x n ≡ n = omega arith in e ∙ sym (ap (λ (t : Bool). pick t x n) (lt-leb x n h))
    go (inr h) = let e : min x n ≡ x = omega arith in e ∙ sym (ap (λ (t : Bool). pick t x n) (le-leb x n h))

abbrev maxseq_in : ℕ → Result ℕ BadValue
maxseq_in n = pick (leb 1 n) (Ok (pick (leb n 2176782336) n 2176782336)) (Err bad)

abbrev pub maxseq_from : Option ℕ → Result ℕ BadValue
maxseq_from (Some n) = maxseq_in n
maxseq_from None = (Err bad)

maxseq_capped : (x : ℕ) → maxseq_in (capped x) ≡ maxseq_in x
maxseq_capped x = go (lt_or_le 4294967296 x)
  where
    go : (4294967296 < x) ⊎ (x ≤ 4294967296) → maxseq_in (capped x) ≡ maxseq_in x
    go (inl h) =
        ap maxseq_in (capped_big x h)
        ∙ sym (ap (λ (t : Bool). pick t (Ok 2176782336) (Err bad)) (le-leb 1 x (omega arith)))
        ∙ sym (ap (λ (t : Bool). pick (leb 1 x) (Ok (pick t x 2176782336)) (Err bad)) (lt-leb x 2176782336 (omega arith)))
    go (inr h) = ap maxseq_in (capped_small x h)

pub maxseq_from_lem : (v : Bytes) → maxseq_from (decimal_of v) ≡ maxseq_of v
unfolding decimal_of maxseq_of
maxseq_from_lem v = go (is_decimal v)
  where
    go : (t : Bool) → maxseq_from (pick t (Some (capped (decimal v))) None)
        ≡ pick (both t (leb 1 (decimal v))) (Ok (pick (leb (decimal v) 2176782336) (decimal v) 2176782336)) (Err bad)
    go true = maxseq_capped (decimal v)
    go false = refl
