-- The six parts of the line, one behind the other, are `frame_line`: Puts.then.
use Rattle.replay_lines.specs.Wording.{frame_line}
use Rattle.base_copy.proofs.Puts.{then}
use Rattle.replay_lines.proofs.frame.put_frame.Goals as goal

pub returns : goal.returns
unfolding frame_line
returns c =
    let b = rw c.refusal.ensures at c.put_verdict-b.ensures.0 in
    let e = rw (c.refusal-2.ensures, c.key.ensures) at c.put_key-e.ensures.0 in
    then (then (then (then (then c.put_heading-a.ensures.0 b) c.put_standing-c.ensures.0) c.put_point-d.ensures.0) e) c.put_raw.ensures
