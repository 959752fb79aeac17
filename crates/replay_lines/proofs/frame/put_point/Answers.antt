-- No point puts nothing; a point is its four parts, joined by Puts.then.
use Rattle.replay_lines.specs.Wording.{point_text}
use native.Mathlib.Omega.{arith}
use Rattle.base_copy.proofs.Puts.{then, nothing}
use Rattle.replay_lines.proofs.frame.put_point.Goals as goal

pub returns-in_default : goal.returns-in_default
unfolding point_text
returns-in_default c = let a = c.args in rw c.in_default.is (nothing a.out.now a.at (omega arith), omega arith)

pub returns : goal.returns
unfolding point_text
returns c =
    let begun = then (then c.put_raw-a.ensures c.put_decimal-b.ensures.0) c.put_raw-c.ensures in
    rw c.in-Some.is (then begun c.put_nine.ensures, omega arith)
