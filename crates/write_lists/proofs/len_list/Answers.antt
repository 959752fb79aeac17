-- The loop keeps Lists.Counted: n bytes for the elements so far; a turn is counted_more, a list too long counted_long, the end counted_end.
use Rattle.write_lists.proofs.Lists.{next_end, counted_more, counted_long, counted_end}
use native.Mathlib.Omega.{arith}
use Rattle.write_lists.proofs.len_list.Goals as goal

pub loop-e-init : goal.loop-e-init
loop-e-init c = record { good = c.args.list.now.fit; small = omega arith; all = omega arith }

pub overflow_sub-e : goal.overflow_sub-e
overflow_sub-e c = omega (arith, (next_end c.loop-e.invariant.good c.loop-e-test.true).up)

pub returns-then-e-a-gt-MESSAGE_LIMIT : goal.returns-then-e-a-gt-MESSAGE_LIMIT
returns-then-e-a-gt-MESSAGE_LIMIT c = (counted_long c.loop-e.invariant c.loop-e-test.true (omega arith), omega arith)

pub overflow_sub-e-in-loop-e : goal.overflow_sub-e-in-loop-e
overflow_sub-e-in-loop-e c = omega (arith, (next_end c.loop-e.invariant.good c.loop-e-test.true).up)

pub overflow_sub-n : goal.overflow_sub-n
overflow_sub-n c = omega (arith, (next_end c.loop-e.invariant.good c.loop-e-test.true).up)

pub overflow_add-n-in-loop-e : goal.overflow_add-n-in-loop-e
overflow_add-n-in-loop-e c = omega (arith, c.loop-e.invariant.small)

pub returns-then-n-gt-MESSAGE_LIMIT : goal.returns-then-n-gt-MESSAGE_LIMIT
returns-then-n-gt-MESSAGE_LIMIT c =
    (counted_long c.loop-e.invariant c.loop-e-test.true (omega arith), omega arith)

pub loop-e-preserved : goal.loop-e-preserved
loop-e-preserved c =
    (counted_more c.loop-e.invariant c.loop-e-test.true c.len_head.ensures.0 c.if-n-gt-MESSAGE_LIMIT.false)

pub returns : goal.returns
returns c = (counted_end c.loop-e.invariant c.loop-e-test.false, omega (arith, c.loop-e.invariant.small))
