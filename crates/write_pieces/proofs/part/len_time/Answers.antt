-- Field 0 has no time, Fields.time_none; any other is Fields.length_time.
use Rattle.write_pieces.proofs.Fields.{time_none, length_time}
use Rattle.write_pieces.specs.Parts.{stamp}
use native.Mathlib.Omega.{arith}
use borrow.Author.Rules.{rules}
use Rattle.write_pieces.proofs.part.len_time.Goals as goal

pub returns-then-f-eq0 : goal.returns-then-f-eq0
returns-then-f-eq0 c = let a = c.args in rw (time_none a.f (stamp a.t.seconds a.t.nanos) c.if-f-eq0.true) (search rules)

pub returns : goal.returns
returns c =
    let a = c.args in
    omega (arith, length_time a.f (stamp a.t.seconds a.t.nanos) _ c.if-f-eq0.false c.len_stamp-n.ensures.0)
