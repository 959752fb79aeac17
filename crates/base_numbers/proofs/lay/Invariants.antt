-- The loop keeps "the first i numbers are laid".
use mathlib.Core.Path.{◌≡◌}
use lib.ListN.{take}
use Rattle.base_laws.specs.Base.{splice}
use Rattle.base_numbers.specs.Eight.{eights}
use Rattle.base_numbers.proofs.lay.Given as goal

abbrev pub invariant-loop-i : goal.invariant-loop-i
invariant-loop-i g l = l.out ≡ splice l.initial.out 0 (eights (take l.i l.numbers))
