-- Each case of the end is one of `end_text`; its parts are joined by Puts.then, an end at 0 puts nothing.
use Rattle.replay_lines.specs.Ending.{end_text}
use Rattle.wire_frame.specs.Frame.{refusal_of}
use Rattle.replay_text.specs.Words.{decimal, decimal_digits}
use borrow.Author.Tests.{eq-eqb, ne_eqb}
use native.Mathlib.Omega.{arith}
use Rattle.base_copy.proofs.Puts.{then, nothing}
use Rattle.replay_lines.proofs.end.put_ending.Goals as goal

pub returns-then-left-eq0 : goal.returns-then-left-eq0
unfolding end_text
returns-then-left-eq0 c =
    let a = c.args in
    rw (c.in-Input.is, eq-eqb _ 0 c.if-left-eq0.true) (nothing a.out.now a.at (omega arith), omega arith)

pub returns-else-left-eq0 : goal.returns-else-left-eq0
unfolding end_text
returns-else-left-eq0 c =
    let put = then (then c.put_raw-a.ensures c.put_decimal-b.ensures.0) c.put_raw.ensures in
    rw (c.in-Input.is, ne_eqb _ 0 c.if-left-eq0.false) (put, omega arith)

pub returns-in-Beyond : goal.returns-in-Beyond
unfolding end_text
returns-in-Beyond c =
    let begun = then (then c.put_raw-a-in-Beyond.ensures c.put_decimal-b-in-Beyond.ensures.0) c.put_raw-c.ensures in
    rw c.in-Beyond.is (then begun c.put_decimal.ensures.0, omega arith)

pub returns-in-Refused : goal.returns-in-Refused
unfolding end_text refusal_of decimal decimal_digits
returns-in-Refused c = rw c.in-Refused.is (c.put_raw-in-Refused.ensures, omega arith)

pub returns-in-Unread : goal.returns-in-Unread
unfolding end_text
returns-in-Unread c = rw c.in-Unread.is (c.put_raw-in-Unread.ensures, omega arith)
