-- The four parts, one behind the other: Puts.then.
use native.Mathlib.Omega.{arith}
use Rattle.base_copy.proofs.Puts.{then}
use Rattle.replay_lines.proofs.frame.put_standing.Goals as goal

pub returns : goal.returns
returns c =
    let begun = then (then c.put_raw-a.ensures c.put_state-b.ensures.0) c.put_raw-c.ensures in
    (then begun c.put_decimal.ensures.0, omega arith)
