-- Frames are counted as `saturating_add` counts. Assumes nothing.
use Prim.Native.Nat.{ℕ, ◌+◌, ◌-◌, ◌^◌, ◌<◌, min}
use native.Mathlib.Omega.{arith}
use mathlib.Core.Path.{◌≡◌}
use lib.Dec.{ltb}
use borrow.Author.Tests.{ltb-true, ltb-false}
use Rattle.base_laws.proofs.Order.{picked}
use Rattle.replay_turn.specs.Turn.{frame_counted}

pub saturated : (n : ℕ) → n < 2 ^ 64 → min (n + 1) (2 ^ 64 - 1) ≡ frame_counted n
unfolding frame_counted
saturated n h =
    picked (λ (k : ℕ). min (n + 1) (2 ^ 64 - 1) ≡ k) (ltb n 18446744073709551615) (n + 1) n
    (λ e. let l = ltb-true n 18446744073709551615 e in omega arith)
    (λ e. let l = ltb-false n 18446744073709551615 e in omega arith)
