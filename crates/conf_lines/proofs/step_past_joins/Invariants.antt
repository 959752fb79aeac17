-- The loop keeps: what is left to read at c is the line from w on. A join is Cursors.same_then, a step Cursors.stepped_then, over
-- pass_byte's contract.
use Prim.Native.Nat.{◌-◌}
use lib.ListN.{length}
use Rattle.conf_lines.specs.Scan.{line_from, Same}
use Rattle.conf_lines.proofs.step_past_joins.Given as goal

abbrev pub invariant-loop-step : goal.invariant-loop-step
invariant-loop-step l = Same l.text l.initial.w (line_from l.text l.initial.w) l.w

abbrev pub decreases-loop-step : goal.decreases-loop-step
decreases-loop-step l = length l.text - l.w.at
