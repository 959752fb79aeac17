-- Lines in a lent buffer. Assumes nothing.
use Prim.Native.Nat.{ℕ, ◌≤◌}
use native.Mathlib.Omega.{arith}
use mathlib.Core.Path.{◌≡◌, refl}
use mathlib.Core.List.{List, []}
use mathlib.Core.Bool.{Bool, true, false}
use lib.ListN.{length}
use lib.Dec.{leb}
use Rattle.base_copy.proofs.Puts.{nothing}
use Rattle.session.specs.Step.{outcome}
use Rattle.session.specs.declared.Answer.{Answer}
use Rattle.replay_lines.specs.Wording.{frame_line, written, line_length}

-- what a function that writes a line answers: the buffer afterwards and the line's length
abbrev pub Answers : List ℕ → List ℕ → List ℕ → ℕ → Type 0
Answers line out out' r = (out' ≡ written line out) × ((r ≡ line_length line out) × (r ≤ length out))

-- no line: nothing is written
pub silent : (out : List ℕ) → Answers [] out out 0
unfolding written line_length
silent out = go (leb 256 (length out)) refl
  where
    go : (t : Bool) → leb 256 (length out) ≡ t → Answers [] out out 0
    go true e = rw e ((nothing out 0 (omega arith)).list, (refl, omega arith))
    go false e = rw e (refl, (refl, omega arith))

-- a frame's line says nothing of the area
pub same_line : (n m : ℕ) (a : Answer) (x y : List ℕ) → frame_line n m (outcome a x) ≡ frame_line n m (outcome a y)
unfolding frame_line
same_line n m a x y = refl
