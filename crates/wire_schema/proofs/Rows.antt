-- The kinds that the code holds packed are those of the schema: one test that antt computes over all messages and numbers.
use Prim.Native.Nat.{ℕ, zero, suc, ◌+◌, ◌-◌, ◌*◌, ◌/◌, ◌%◌, ◌^◌, ◌≤◌, ◌<◌}
use native.Mathlib.Omega.{arith}
use native.Mathlib.Nat.{zero-div}
use mathlib.Core.Path.{◌≡◌, refl, sym, subst, ◌∙◌}
use mathlib.Core.List.{[], ◌∷◌}
use mathlib.Core.Bool.{Bool, true, false}
use mathlib.Core.Logic.{⊎_elim}
use lib.ListN.{length, get_or, replicate, get_or-eq_default}
use lib.Dec.{T, ltb, leb, eqb, eqb→eq, leb→le}
use borrow.Author.Tests.{le-ltb, ne_eqb}
use Rattle.base_laws.specs.Base.{pick}
use Rattle.base_laws.proofs.Order.{lt_or_le}
use Rattle.base_laws.proofs.Table.{every, below}
use Rattle.wire_schema.specs.Schema.{schema, kind_of, unknown}
use Rattle.wire_schema.specs.Rows.{lows, low_of, high_of, kind_in}

same : ℕ → Bool
same i = eqb (kind_in (low_of (i / 16)) (high_of (i / 16)) (i % 16)) (kind_of (i / 16) (i % 16))

same_eq : (i : ℕ) → T (same i) → kind_in (low_of (i / 16)) (high_of (i / 16)) (i % 16) ≡ kind_of (i / 16) (i % 16)
unfolding same
same_eq i t = eqb→eq _ _ t

inside : (m n : ℕ) → m < 16 → n < 16 → kind_in (low_of m) (high_of m) n ≡ kind_of m n
unfolding same schema lows low_of high_of kind_in kind_of
inside m n h l =
    let d : (m * 16 + n) / 16 ≡ m = omega arith in
    let r : (m * 16 + n) % 16 ≡ n = omega arith in
    rw (d, r) at (same_eq (m * 16 + n) (below same 256 tt (m * 16 + n) (omega arith)))

pub low_past : (m : ℕ) → 16 ≤ m → 0 ≡ low_of m
unfolding low_of lows
low_past m h = sym (get_or-eq_default lows 0 h)

none : (k : ℕ) → 0 / k % 256 ≡ 0
none k = rw (zero-div k)

past : (m n : ℕ) → 16 ≤ m → kind_in (low_of m) (high_of m) n ≡ 0
unfolding kind_in high_of
past m n h = rw (sym (low_past m h), ne_eqb m 0 (omega arith)) (go (ltb n 8) (ltb n 16))
  where
    go : (t u : Bool) → pick t (0 / 2 ^ (8 * n) % 256) (pick u (0 / 2 ^ (8 * (n - 8)) % 256) 0) ≡ 0
    go true u = none (2 ^ (8 * n))
    go false true = none (2 ^ (8 * (n - 8)))
    go false false = refl

high : (m n : ℕ) → 16 ≤ n → kind_in (low_of m) (high_of m) n ≡ 0
unfolding kind_in
high m n l = let k : 8 ≤ n = omega arith in simp (le-ltb _ _ l, le-ltb _ _ k)

-- no message has a field above 13
short : ℕ → Bool
short m = leb (length (get_or schema m [])) 13

row : (m : ℕ) → length (get_or schema m []) ≤ 13
unfolding short schema
row m =
    ⊎_elim
    (λ (h : m < 16). leb→le _ _ (below short 16 tt m h))
    (λ (h : 16 ≤ m). let e : get_or schema m [] ≡ [] = get_or-eq_default schema [] h in rw e (omega arith))
    (lt_or_le m 16)

pub no_kind : (m n : ℕ) → 14 ≤ n → kind_of m n ≡ 0
unfolding kind_of
no_kind m n l = let h : suc (length (get_or schema m [])) ≤ n = omega (arith, row m) in get_or-eq_default (unknown ∷ get_or schema m []) unknown h

no_row : (m n : ℕ) → 16 ≤ m → kind_of m n ≡ 0
unfolding kind_of schema
no_row m n h = let e : get_or schema m [] ≡ [] = get_or-eq_default schema [] h in rw e (single n)
  where
    single : (k : ℕ) → get_or (unknown ∷ []) k unknown ≡ 0
    single zero = refl
    single (suc k) = refl

pub kind_in_lem : (m n : ℕ) → kind_in (low_of m) (high_of m) n ≡ kind_of m n
kind_in_lem m n =
    ⊎_elim
    (λ (l : n < 16).
    ⊎_elim (λ (h : m < 16). inside m n h l) (λ (h : 16 ≤ m). past m n h ∙ sym (no_row m n h)) (lt_or_le m 16))
    (λ (l : 16 ≤ n). high m n l ∙ sym (no_kind m n (omega arith)))
    (lt_or_le n 16)

-- a rule of a message's kinds, shown by one test of its numbers below 14 and, beyond, of the unknown kind
pub kinds : (m : ℕ) (P : ℕ → ℕ → Bool) → T (every (λ n x. P n (kind_of m n)) 0 (replicate 14 0)) → ((n : ℕ) → 14 ≤ n → T (P n 0))
    → (n : ℕ) → T (P n (kind_of m n))
kinds m P t h n =
    ⊎_elim
    (λ (l : n < 14). below (λ i. P i (kind_of m i)) 14 t n l)
    (λ (l : 14 ≤ n). subst (λ (k : ℕ). T (P n k)) (sym (no_kind m n l)) (h n l))
    (lt_or_le n 14)
