-- The loop keeps: from its place on the pass gives what it gives of the whole text. It starts by Ends.survey_starts, goes on by survey_line's
-- contract, and ends by Ends.survey_ends.
use mathlib.Core.Path.{◌≡◌}
use Prim.Native.Nat.{◌-◌}
use lib.ListN.{length}
use Rattle.conf_read.specs.Config.{statements_of}
use Rattle.conf_read.specs.Passes.{start_tally, survey_of, survey_from}
use Rattle.conf_read.proofs.survey.survey_text.Given as goal

abbrev pub invariant-loop-p : goal.invariant-loop-p
invariant-loop-p l = survey_from l.text l.p ≡ survey_of (start_tally l.room) (statements_of l.text)

abbrev pub decreases-loop-p : goal.decreases-loop-p
decreases-loop-p l = length l.text - l.p.cursor.at
