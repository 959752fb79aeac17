-- Laws of `varint_from`: what it gives by the tests, and how far it reads.
use Prim.Native.Nat.{ℕ, zero, suc, ◌+◌, ◌-◌, ◌*◌, ◌^◌, ◌≤◌, ◌<◌}
use native.Mathlib.Omega.{arith}
use native.Mathlib.Nat.{le_trans}
use mathlib.Core.Path.{◌≡◌, refl, sym, subst, ◌∙◌}
use mathlib.Core.List.{List}
use mathlib.Core.Logic.{◌⊎◌, inl, inr, ⊎_elim}
use mathlib.Core.Bool.{Bool, true, false}
use lib.ListN.{length, get_or}
use lib.Dec.{ltb, lit≤}
use borrow.Author.Tests.{lt-ltb, le-ltb, le-leb, lt-leb, ltb-true, ltb-false}
use Rattle.std.specs.Prelude.{Result, Ok, Err}
use Rattle.wire_varint.specs.Varint.{varint_from, varint_at, above, read}
use Rattle.wire_varint.specs.declared.Varint.{Varint}
use Rattle.wire_varint.specs.declared.VarintError.{VarintError}
use Rattle.wire_varint.specs.declared.VarintError.TheVariants.{PastEnd, TooLong}

-- which of two orders holds
pub lt_or_le : (a b : ℕ) → (a < b) ⊎ (b ≤ a)
lt_or_le a b = go (ltb a b) refl
  where
    go : (t : Bool) → ltb a b ≡ t → (a < b) ⊎ (b ≤ a)
    go true e = inl (ltb-true a b e)
    go false e = inr (ltb-false a b e)

module _ (s : List ℕ) (at : ℕ) where
  pub past : (k : ℕ) → length s ≤ at → Err PastEnd ≡ varint_from k s at
  unfolding varint_from
  past zero h = simp (varint_from, le-ltb _ _ h)
  past (suc k) h = simp (varint_from, le-ltb _ _ h)

  pub last_fits : (k : ℕ) → k ≡ 0 → at < length s → get_or s at 0 ≤ 1 → read (get_or s at 0) (at + 1) ≡ varint_from k s at
  unfolding varint_from
  last_fits k e h b = rw e (simp (varint_from, lt-ltb _ _ h, le-leb _ _ b))

  pub last_long : (k : ℕ) → k ≡ 0 → at < length s → 1 < get_or s at 0 → Err TooLong ≡ varint_from k s at
  unfolding varint_from
  last_long k e h b = rw e (simp (varint_from, lt-ltb _ _ h, lt-leb _ _ b))

  pub ends : (k : ℕ) → (k ≡ 0 → ⊥) → at < length s → get_or s at 0 < 128 → read (get_or s at 0) (at + 1) ≡ varint_from k s at
  unfolding varint_from
  ends zero e h b = absurd (e refl)
  ends (suc k) e h b = simp (varint_from, lt-ltb _ _ h, lt-ltb _ _ b)

  pub goes_on : (k j : ℕ) → k ≡ suc j → at < length s → 128 ≤ get_or s at 0
      → above (get_or s at 0 - 128) (varint_from j s (at + 1)) ≡ varint_from k s at
  unfolding varint_from
  goes_on k j e h b = rw e (simp (varint_from, lt-ltb _ _ h, le-ltb _ _ b))

-- a byte below 128 is a varint of one byte, whatever its value is known by
pub one_byte : (s : List ℕ) (at t : ℕ) → at < length s → get_or s at 0 ≡ t → t < 128 → varint_at s at ≡ read t (at + 1)
one_byte s at t i e l = sym (ends s at 9 (omega arith) i (omega arith)) ∙ rw e

-- the values of a varint of at most 1 + k bytes are below this
unfoldable pub lim : ℕ → ℕ
lim zero = 2
lim (suc k) = 128 * lim k

pub lim_pos : (k : ℕ) → 0 < lim k
unfolding lim
lim_pos zero = lit≤ tt
lim_pos (suc k) = omega (arith, lim_pos k)

up : (d k : ℕ) → k + d ≡ 8 → lim k ≤ 2 ^ 57
unfolding lim
up zero k e = let f : k ≡ 8 = omega arith in rw f (lit≤ tt)
up (suc d) k e = le_trans (omega (arith, lim_pos k)) (up d (suc k) (omega arith))

-- a value was read within the list, past `at`, and is below the limit
abbrev pub Within : List ℕ → ℕ → ℕ → Result Varint VarintError → Type 0
Within s at k (Ok r) = (at < r.next) × (r.next ≤ length s) × (r.value < lim k)
Within s at k (Err e) = Unit

module _ (s : List ℕ) (bytes : (i : ℕ) → get_or s i 0 < 256) where
  within_above : (at k b : ℕ) → b < 128 → (r : Result Varint VarintError) → Within s (at + 1) k r → Within s at (suc k) (above b r)
  unfolding lim
  within_above at k b h (Ok r) w = (omega arith, w.1, omega arith)
  within_above at k b h (Err e) w = tt

  pub within : (k at : ℕ) → Within s at k (varint_from k s at)
  unfolding lim
  within zero at =
      ⊎_elim
      (λ (h : at < length s).
      ⊎_elim (λ (b : 1 < get_or s at 0). subst (Within s at 0) (last_long s at 0 refl h b) tt)
      (λ (b : get_or s at 0 ≤ 1). subst (Within s at 0) (last_fits s at 0 refl h b) (omega arith, omega arith, omega arith)) (lt_or_le 1 (get_or s at 0)))
      (λ (h : length s ≤ at). subst (Within s at 0) (past s at 0 h) tt)
      (lt_or_le at (length s))
  within (suc k) at =
      ⊎_elim
      (λ (h : at < length s).
      ⊎_elim (λ (b : get_or s at 0 < 128). subst (Within s at (suc k)) (ends s at (suc k) (omega arith) h b) (omega arith, omega arith, omega (arith, lim_pos k)))
      (λ (b : 128 ≤ get_or s at 0). subst (Within s at (suc k)) (goes_on s at (suc k) k refl h b) (within_above at k (get_or s at 0 - 128) (omega (arith, bytes at)) (varint_from k s (at + 1)) (within k (at + 1))))
      (lt_or_le (get_or s at 0) 128))
      (λ (h : length s ≤ at). subst (Within s at (suc k)) (past s at (suc k) h) tt)
      (lt_or_le at (length s))
