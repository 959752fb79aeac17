-- The loop keeps Texts.Counting: what the bytes before its place leave of `most`; a turn is count_more, a text too long count_long, the end count_end.
use mathlib.Core.Path.{sym}
use native.Mathlib.Omega.{arith}
use borrow.Author.Tests.{le-leb, lt-leb}
use Rattle.show_escape.proofs.Texts.{count_more, count_long, count_end}
use Rattle.show_escape.proofs.fits_in.Goals as goal

pub loop-b-init : goal.loop-b-init
loop-b-init c = record { all = omega arith }

pub returns-then-left-n : goal.returns-then-left-n
returns-then-left-n c =
    sym (lt-leb _ _ (count_long c.loop-b.invariant c.loop-b-test.true c.len_byte-n.ensures c.if-left-n.true))

pub loop-b-preserved : goal.loop-b-preserved
loop-b-preserved c = count_more c.loop-b.invariant c.loop-b-test.true c.len_byte-n.ensures (omega arith)

pub returns : goal.returns
returns c = sym (le-leb _ _ (count_end c.loop-b.invariant c.loop-b-test.false))
