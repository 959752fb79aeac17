-- How far the cut of a frame reaches, and so each decision. Assumes nothing.
use Prim.Native.Nat.{ℕ, ◌+◌, ◌-◌, ◌≤◌}
use native.Mathlib.Omega.{arith}
use mathlib.Core.List.{List}
use lib.ListN.{length}
use lib.Dec.{ltb}
use borrow.Author.Tests.{ltb-true, ltb-false}
use Rattle.base_laws.proofs.Order.{picked}
use Rattle.wire_frame.specs.Frame.{cut_of, length_of, largest}
use Rattle.wire_frame.specs.declared.Cut.{Cut}
use Rattle.wire_frame.specs.declared.Cut.TheVariants as cut
use Rattle.replay_window.specs.Window.{by_cut, next_of, FrameWithin}
use Rattle.replay_window.specs.declared.Next.TheVariants.{Wait, Beyond}

abbrev pub Sized : ℕ → Cut → Type 0
Sized n (cut.Wait missing) = n + missing ≤ 2097156
Sized n (cut.Frame size) = 4 + size ≤ n
Sized n cut.Refused = Unit

pub sized : (s : List ℕ) → Sized (length s) (cut_of s)
unfolding cut_of
sized s =
    picked (Sized (length s)) (ltb (length s) 4) (cut.Wait (4 - length s)) _
    (λ e. let h = ltb-true (length s) 4 e in omega arith)
    (λ e. let h = ltb-false (length s) 4 e in
    picked (Sized (length s)) (ltb largest (length_of s)) cut.Refused _ (λ _. tt)
    (λ f. let k = ltb-false largest (length_of s) f in
    picked (Sized (length s)) (ltb (length s) (4 + length_of s)) (cut.Wait (4 + length_of s - length s)) (cut.Frame (length_of s))
    (λ g. let l = ltb-true (length s) (4 + length_of s) g in omega arith)
    (λ g. ltb-false (length s) (4 + length_of s) g)))

pub by_cut_within : (n window : ℕ) (c : Cut) → Sized n c → FrameWithin n (by_cut n window c)
unfolding by_cut FrameWithin
by_cut_within n window (cut.Wait missing) h = picked (FrameWithin n) (ltb window (n + missing)) (Beyond (n + missing)) Wait (λ _. tt) (λ _. tt)
by_cut_within n window (cut.Frame size) h = (omega arith, h)
by_cut_within n window cut.Refused h = tt

pub within : (s : List ℕ) (window : ℕ) → FrameWithin (length s) (next_of s window)
unfolding next_of
within s window = by_cut_within (length s) window (cut_of s) (sized s)
