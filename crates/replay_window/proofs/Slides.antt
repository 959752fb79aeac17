-- Bytes of a window moved to its start, as `copy_within` moves them. Assumes nothing.
use Prim.Native.Nat.{ℕ, ◌-◌, ◌≤◌, ◌<◌}
use native.Mathlib.Omega.{arith}
use mathlib.Core.Path.{◌≡◌, refl}
use mathlib.Core.Bool.{Bool, true, false}
use lib.Dec.{leb}
use mathlib.Core.List.{List}
use lib.ListN.{length, take, drop, length-drop}
use lib.Seq.{length-take-le}
use borrow.Author.Tests.{le-leb, lt-leb}
use Rattle.std.specs.List.{copy_within}
use Rattle.base_laws.specs.Base.{pick, both, part, splice}
use Rattle.replay_window.specs.Window.{slid}

module _ (w : List ℕ) (from : ℕ) where
  pub all_moved : (held : ℕ) → held ≤ length w → from ≤ held → copy_within w from held 0 ≡ slid w from held
  unfolding slid splice
  all_moved held h l =
      let n : length (take (held - from) (drop from w)) ≡ held - from = length-take-le (held - from) (drop from w) (omega (arith, length-drop from w)) in
      rw (le-leb held (length w) h, le-leb from held l, n)

  pub not_held : (held : ℕ) → length w < held → w ≡ slid w from held
  unfolding slid
  not_held held h = rw (lt-leb held (length w) h)

  pub turned_round : (held : ℕ) → held < from → w ≡ slid w from held
  unfolding slid
  turned_round held l = go (leb held (length w))
    where
      go : (t : Bool) → w ≡ pick (both t (leb from held)) (splice w 0 (part w from held)) w
      go true = rw (lt-leb from held l)
      go false = refl
