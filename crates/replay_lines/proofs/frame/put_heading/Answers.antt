-- The three parts, one behind the other: Puts.then.
use native.Mathlib.Omega.{arith}
use Rattle.base_copy.proofs.Puts.{then}
use Rattle.replay_lines.proofs.frame.put_heading.Goals as goal

pub returns : goal.returns
returns c = (
  then (then c.put_raw-a.ensures c.put_decimal-b.ensures.0) c.put_raw.ensures,
  omega arith,
)
