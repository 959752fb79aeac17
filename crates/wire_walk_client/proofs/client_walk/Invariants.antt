-- The loop keeps Clients.Told; what a turn is at is one of the records of Clients, FieldAt to IoAt, and each need is a lemma on it.
use Prim.Native.Nat.{◌-◌}
use lib.ListN.{length}
use Rattle.wire_walk_client.proofs.Clients.{Told}
use Rattle.wire_walk_client.proofs.client_walk.Given as goal

abbrev pub invariant-loop-at : goal.invariant-loop-at
invariant-loop-at l = Told l.s l.at l.found

abbrev pub decreases-loop-at : goal.decreases-loop-at
decreases-loop-at l = length l.s - l.at
