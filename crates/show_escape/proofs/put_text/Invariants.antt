-- The loop keeps Puts.Filling: what is put, with the text of the bytes from its place on behind it, is all; a turn is fill_more, the end fill_end.
use lib.ListN.{drop}
use Rattle.base_copy.proofs.Puts.{Filling}
use Rattle.show_escape.specs.Escape.{escaped}
use Rattle.show_escape.proofs.put_text.Given as goal

abbrev pub invariant-loop-b : goal.invariant-loop-b
invariant-loop-b l = Filling l.initial.out 0 (escaped l.bytes) l.out l.at (escaped (drop l.b-index l.bytes))
