-- The loop keeps Turns.Laying: k entries are stored, and the others are those of the records left; a turn is lay_more, the end lay_end.
use mathlib.Core.Path.{◌≡◌}
use mathlib.Core.List.{List}
use Prim.Native.Nat.{max}
use lib.ListN.{length}
use Rattle.file_format.specs.Record.{Record}
use Rattle.file_format.specs.File.{all, records_of}
use Rattle.file_compare.proofs.Turns.{Laying}
use Rattle.file_compare.proofs.walk.lay_entries.Given as goal

abbrev pub invariant-loop-k : goal.invariant-loop-k
invariant-loop-k l =
    (length l.out ≡ length l.initial.out)
    × ((rs qs : List Record) → records_of l.a ≡ all rs → records_of l.b ≡ all qs → l.count ≡ max (length rs) (length qs) → Laying l.a l.b l.initial.out l.out l.i l.j l.k rs qs)
