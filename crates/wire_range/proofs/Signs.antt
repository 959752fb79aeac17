-- A range from 0 up, asked of the bits.
use Prim.Native.Nat.{ℕ, ◌+◌, ◌-◌, ◌<◌}
use native.Mathlib.Omega.{arith}
use mathlib.Core.Path.{◌≡◌, refl, sym}
use mathlib.Core.Bool.{Bool, true, false}
use lib.IntN.{pos, negsuc}
use lib.Dec.{ltb, leb}
use borrow.Author.Tests.{ltb-false, lt-leb}
use Rattle.base_laws.specs.Base.{pick}
use Rattle.wire_message.specs.Signed.{signed}
use Rattle.wire_range.specs.Limits.{up_to}

-- for every width: where the range ends below the first negative number, the bits are compared as they are
pub up_to_lem : (most half v : ℕ) → most < half → up_to most (signed half v) ≡ leb v most
unfolding up_to signed
up_to_lem most half v h = go (ltb v half) refl
  where
    go : (t : Bool) → ltb v half ≡ t → up_to most (pick t (pos v) (negsuc (half + half - 1 - v))) ≡ leb v most
    go true e = refl
    go false e = let l = ltb-false v half e in let g : most < v = omega arith in sym (lt-leb _ _ g)
