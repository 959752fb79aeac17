-- Field 0 puts nothing, Fields.time_none; any other is head and two numbers, Fields.time_some, with the room of Fields.length_time.
use Rattle.write_pieces.proofs.Fields.{time_none, time_some, length_time, length_stamp}
use Rattle.base_copy.proofs.Puts.{nothing, puts}
use Rattle.write_pieces.specs.Parts.{stamp}
use native.Mathlib.Omega.{arith}
use Rattle.write_pieces.proofs.part.put_time.Goals as goal

pub returns-then-f-eq0 : goal.returns-then-f-eq0
returns-then-f-eq0 c =
    let a = c.args in
    rw (time_none a.f (stamp a.t.seconds a.t.nanos) c.if-f-eq0.true) (nothing a.out.now a.at (omega arith))

pub put_head-a-requires : goal.put_head-a-requires
put_head-a-requires c =
    let a = c.args in
    let t = stamp a.t.seconds a.t.nanos in
    omega (arith, length_time a.f t _ c.if-f-eq0.false c.len_stamp.ensures.0, length_stamp t)

pub put_number-b-requires : goal.put_number-b-requires
put_number-b-requires c =
    let a = c.args in
    let t = stamp a.t.seconds a.t.nanos in
    omega (arith, length_time a.f t _ c.if-f-eq0.false c.len_stamp.ensures.0, length_stamp t)

pub put_number-requires : goal.put_number-requires
put_number-requires c =
    let a = c.args in
    let t = stamp a.t.seconds a.t.nanos in
    omega (arith, length_time a.f t _ c.if-f-eq0.false c.len_stamp.ensures.0, length_stamp t)

pub returns : goal.returns
returns c =
    let a = c.args in
    rw (time_some a.f (stamp a.t.seconds a.t.nanos) c.if-f-eq0.false, ← c.len_stamp.ensures.0) (search puts)
