-- The loop keeps Lists.Counted: n bytes for the elements so far; a turn is counted_more, a list too long counted_long, the end counted_end.
use Rattle.write_lists.proofs.Lists.{Counted}
use Rattle.write_lists.proofs.len_list.Given as goal

abbrev pub invariant-loop-e : goal.invariant-loop-e
invariant-loop-e l = Counted l.f l.list.joined.now l.list.ends.now l.a l.n l.e-index
