-- The five parts of the line, one behind the other, are `end_line`: Puts.then.
use Rattle.replay_lines.specs.Ending.{end_line}
use Rattle.base_copy.proofs.Puts.{then}
use Rattle.replay_lines.proofs.end.put_end.Goals as goal

pub returns : goal.returns
unfolding end_line
returns c =
    let begun = then (then c.put_raw-a.ensures c.put_decimal-b.ensures.0) c.put_raw-c.ensures in
    then (then begun c.put_ending-d.ensures.0) c.put_raw.ensures
