-- The loop keeps Puts.Filling: what is put, with the numbers from here on behind it, is all; a turn is fill_more, the end fill_end.
use Rattle.write_forms.specs.Pieces.{packed}
use lib.ListN.{drop}
use Rattle.base_copy.proofs.Puts.{Filling}
use Rattle.write_lists.proofs.put_packed.Given as goal

abbrev pub invariant-loop-v : goal.invariant-loop-v
invariant-loop-v l = Filling l.initial.out l.at (packed l.numbers) l.out l.o (packed (drop l.v-index l.numbers))
