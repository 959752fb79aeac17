-- The loop keeps: where all so far were the same the bytes so far agree. A turn is Laws.more_agree.
use mathlib.Core.Path.{◌≡◌}
use mathlib.Core.Bool.{true}
use Rattle.file_parting.specs.Parting.{Agree}
use Rattle.file_parting.proofs.same_block.Given as goal

abbrev pub invariant-loop-k : goal.invariant-loop-k
invariant-loop-k l = l.same ≡ true → Agree l.a l.b l.at l.k
