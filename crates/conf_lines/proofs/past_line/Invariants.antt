-- The loop keeps Cursors.Left. A line feed is Cursors.ended_feed, the end of the text Cursors.ended_out.
use Rattle.conf_lines.proofs.Cursors.{Left}
use Rattle.conf_lines.proofs.past_line.Given as goal

abbrev pub invariant-loop-at : goal.invariant-loop-at
invariant-loop-at l = Left l.text l.c.at l.at
