-- Which of two cases holds.
use Prim.Native.Nat.{ℕ, zero, suc, ◌+◌, ◌≤◌, ◌<◌}
use native.Mathlib.Omega.{arith}
use mathlib.Core.Path.{◌≡◌, refl}
use mathlib.Core.Logic.{◌⊎◌, inl, inr}
use mathlib.Core.Bool.{Bool, true, false}
use lib.Dec.{ltb}
use borrow.Author.Tests.{ltb-true, ltb-false}
use Rattle.base_laws.specs.Base.{pick, both}

pub lt_or_le : (a b : ℕ) → (a < b) ⊎ (b ≤ a)
lt_or_le a b = go (ltb a b) refl
  where
    go : (t : Bool) → ltb a b ≡ t → (a < b) ⊎ (b ≤ a)
    go true e = inl (ltb-true a b e)
    go false e = inr (ltb-false a b e)

-- what holds of either holds of the one picked
pub picked : {A : Type 0} (P : A → Type 0) (t : Bool) (a b : A) → (t ≡ true → P a) → (t ≡ false → P b) → P (pick t a b)
picked P true a b f g = f refl
picked P false a b f g = g refl

pub both_true : (a b : Bool) → both a b ≡ true → (a ≡ true) × (b ≡ true)
both_true true b e = (refl, e)
both_true false b e = let z : ◌≡◌ {A = ℕ} 0 1 = cc in absurd (omega arith)

-- m is none of the n numbers from lo on, as the last arm of a match says it
abbrev pub Apart : ℕ → ℕ → ℕ → Type 0
Apart m lo zero = Unit
Apart m lo (suc n) = Apart m lo n × (m ≡ lo + n → ⊥)

pub apart_past : (m n : ℕ) → Apart m 0 n → n ≤ m
apart_past m zero h = omega arith
apart_past m (suc n) h = let l = apart_past m n h.0 in omega (arith, h.1)
