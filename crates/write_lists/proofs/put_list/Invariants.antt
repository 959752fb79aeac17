-- The loop keeps Lists.Listed: what is put, with the elements from here on behind it, is the list; a turn is listed_more, the end listed_end.
use Rattle.write_lists.proofs.Lists.{Listed}
use Rattle.write_lists.proofs.put_list.Given as goal

abbrev pub invariant-loop-e : goal.invariant-loop-e
invariant-loop-e l = Listed l.initial.out l.at l.f l.list.joined.now l.list.ends.now l.out l.a l.o l.e-index
