-- The loop keeps Packed.Counted: n bytes for the numbers so far; a turn is counted_more, a list too long counted_long, the end counted_end.
use Rattle.write_lists.proofs.Packed.{Counted}
use Rattle.write_lists.proofs.len_packed.Given as goal

abbrev pub invariant-loop-v : goal.invariant-loop-v
invariant-loop-v l = Counted l.numbers l.n l.v-index
