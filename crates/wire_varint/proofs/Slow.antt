-- A varint read byte by byte: the value so far, and the scale of what follows.
use Prim.Native.Nat.{ℕ, zero, suc, ◌+◌, ◌-◌, ◌*◌, ◌^◌, ◌≤◌, ◌<◌}
use native.Mathlib.Omega.{arith}
use native.Mathlib.Nat.{mul_assoc, add-mul, mul-le-mul_left, mul-le-mul_right}
use mathlib.Core.Path.{◌≡◌, refl}
use lib.Dec.{lit≤}
use Rattle.std.specs.Prelude.{Result, Ok, Err}
use Rattle.wire_varint.specs.Varint.{above, read}
use Rattle.wire_varint.specs.declared.Varint.{Varint}
use Rattle.wire_varint.specs.declared.VarintError.{VarintError}
use Rattle.wire_varint.proofs.Varints.{lim}

-- the rest of a varint, scaled, above the value so far
abbrev pub under : ℕ → ℕ → Result Varint VarintError → Result Varint VarintError
under v k (Ok r) = read (v + r.value * k) r.next
under v k (Err e) = Err e

pub under_start : (r : Result Varint VarintError) → under 0 1 r ≡ r
under_start (Ok r) = let e : 0 + r.value * 1 ≡ r.value = omega arith in rw e
under_start (Err e) = refl

pub under_above : (v k low : ℕ) (r : Result Varint VarintError) → under v k (above low r) ≡ under (v + low * k) (k * 128) r
under_above v k low (Ok r) =
    let x : ℕ = r.value in
    let e : v + (low + 128 * x) * k ≡ v + low * k + x * (k * 128) = omega (arith, add-mul low (128 * x) k, mul_assoc 128 x k, mul_assoc x k 128) in
    rw e
under_above v k low (Err e) = refl

lim_two : (k : ℕ) → 2 ≤ lim k
unfolding lim
lim_two zero = lit≤ tt
lim_two (suc k) = omega (arith, lim_two k)

-- one more byte and one bit more have room above a scale that is not the last
room : (k more : ℕ) → k * lim more ≡ 2 ^ 64 → (more ≡ 0 → ⊥) → k * 256 ≤ 2 ^ 64
unfolding lim
room k zero e h = absurd (h refl)
room k (suc j) e h = let l : 256 ≤ 128 * lim j = omega (arith, lim_two j) in omega (arith, e, mul-le-mul_left k l)

room_last : (k more : ℕ) → k * lim more ≡ 2 ^ 64 → more ≡ 0 → k * 2 ≤ 2 ^ 64
unfolding lim
room_last k zero e h = omega (arith, e)
room_last k (suc j) e h = absurd (omega arith)

pub room_next : (k more : ℕ) → k * lim more ≡ 2 ^ 64 → (more ≡ 0 → ⊥) → k * 128 * lim (more - 1) ≡ 2 ^ 64
unfolding lim
room_next k zero e h = absurd (h refl)
room_next k (suc j) e h = let f : suc j - 1 ≡ j = omega arith in rw f (omega (arith, e, mul_assoc k 128 (lim j)))

-- what a byte adds to the value, at the last place and before it, leaves it within 64 bits
module _ (b k more v : ℕ) (e : k * lim more ≡ 2 ^ 64) (h : v < k) where
  pub last_sum : more ≡ 0 → b ≤ 1 → v + b * k < 2 ^ 64
  last_sum z l = omega (arith, room_last k more e z, mul-le-mul_right k l)

  pub next_sum : (more ≡ 0 → ⊥) → b ≤ 127 → (v + b * k < k * 128) × (k * 256 ≤ 2 ^ 64)
  next_sum n l = let r = room k more e n in (omega (arith, mul-le-mul_right k l), r)
