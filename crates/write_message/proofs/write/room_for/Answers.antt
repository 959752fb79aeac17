-- `Front-length` is what len_front ensures; with it each case is a test of the definition `room_refusal`.
use Rattle.write_forms.specs.Pieces.{front}
use Rattle.write_forms.specs.Outcome.{room_refusal}
use borrow.Author.Tests.{lt-ltb, le-ltb}
use lib.ListN.{length}
use native.Mathlib.Omega.{arith}
use Prim.Native.Nat.{◌+◌, ◌≤◌, ◌<◌}
use Rattle.write_message.proofs.write.room_for.Goals as goal

pub returns-then-room-len_front : goal.returns-then-room-len_front
unfolding room_refusal
returns-then-room-len_front c =
    let a = c.args in
    let Front-length = c.len_front.ensures.0 a.n in
    let h : a.room < length (front a.framed a.n) + a.n = omega arith in
    rw (le-ltb 2097152 a.n c.if-n-gt-MESSAGE_LIMIT.false, lt-ltb a.room (length (front a.framed a.n) + a.n) h)

pub returns : goal.returns
unfolding room_refusal
returns c =
    let a = c.args in
    let Front-length = c.len_front.ensures.0 a.n in
    let h : length (front a.framed a.n) + a.n ≤ a.room = omega arith in
    rw (le-ltb 2097152 a.n c.if-n-gt-MESSAGE_LIMIT.false, le-ltb a.room (length (front a.framed a.n) + a.n) h)
