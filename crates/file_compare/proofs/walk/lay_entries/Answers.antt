-- The loop keeps Turns.Laying: k entries are stored, and the others are those of the records left; a turn is lay_more, the end lay_end.
use native.Mathlib.Omega.{arith}
use mathlib.Core.Path.{refl, ◌∙◌}
use Rattle.file_compare.proofs.Turns.{lay_start, lay_more, lay_end}
use Rattle.file_compare.proofs.walk.lay_entries.Goals as goal

pub loop-k-init : goal.loop-k-init
loop-k-init c = (refl, λ rs qs x y n. lay_start _ _ _ rs qs x y)

pub loop-k-preserved : goal.loop-k-preserved
loop-k-preserved c = (
  c.put.auto.out ∙ c.loop-k.invariant.0,
  λ rs qs x y n.
      lay_more _ _ _ _ _ _ _ _ rs qs _ c.step_on-step.ensures (omega arith) (omega arith) c.put.ensures (c.loop-k.invariant.1 rs qs x y n),
)

pub returns : goal.returns
returns c rs qs x y n =
    lay_end _ _ _ _ _ _ _ rs qs (omega arith) (c.loop-k.invariant.1 rs qs x y n)
