-- The loop keeps Packed.Counted: n bytes for the numbers so far; a turn is counted_more, a list too long counted_long, the end counted_end.
use Rattle.write_lists.proofs.Packed.{counted_more, counted_long, counted_end}
use native.Mathlib.Omega.{arith}
use Rattle.write_lists.proofs.len_packed.Goals as goal

pub loop-v-init : goal.loop-v-init
loop-v-init c = record { small = omega arith; all = omega arith }

pub overflow_add-n : goal.overflow_add-n
overflow_add-n c = omega (arith, c.loop-v.invariant.small)

pub returns-then-n-gt-MESSAGE_LIMIT : goal.returns-then-n-gt-MESSAGE_LIMIT
returns-then-n-gt-MESSAGE_LIMIT c = (
  counted_long c.loop-v.invariant c.loop-v-test.true c.len_varint-n.ensures.0 c.if-n-gt-MESSAGE_LIMIT.true,
  omega arith,
)

pub loop-v-preserved : goal.loop-v-preserved
loop-v-preserved c =
    counted_more c.loop-v.invariant c.loop-v-test.true c.len_varint-n.ensures.0 c.if-n-gt-MESSAGE_LIMIT.false

pub returns : goal.returns
returns c = (counted_end c.loop-v.invariant c.loop-v-test.false, omega (arith, c.loop-v.invariant.small))
