-- The digits of a number, the last one after the others. Assumes nothing.
use Prim.Native.Nat.{ℕ, zero, suc, ◌-◌, ◌/◌, ◌%◌, ◌≤◌, ◌<◌}
use native.Mathlib.Omega.{arith}
use mathlib.Core.Path.{◌≡◌, refl}
use mathlib.Core.List.{[], ◌∷◌, ◌++◌}
use borrow.Author.Tests.{lt-ltb, le-ltb}
use Rattle.replay_text.specs.Words.{digit, decimal_digits}

pub digits_one : (k n : ℕ) → (k ≡ 0 → ⊥) → n < 10 → decimal_digits k n ≡ digit (n % 10) ∷ []
unfolding decimal_digits
digits_one zero n more h = absurd (more refl)
digits_one (suc k) n more h = let e : n % 10 ≡ n = omega arith in rw (lt-ltb n 10 h, e)

pub digits_more : (k n : ℕ) → (k ≡ 0 → ⊥) → 10 ≤ n → decimal_digits k n ≡ decimal_digits (k - 1) (n / 10) ++ (digit (n % 10) ∷ [])
unfolding decimal_digits
digits_more zero n more h = absurd (more refl)
digits_more (suc k) n more h = let e : suc k - 1 ≡ k = omega arith in rw (e, le-ltb n 10 h)
