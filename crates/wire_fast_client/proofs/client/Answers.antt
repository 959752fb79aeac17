-- What plain_client found is the message's, by its `ClientSaid`; where it found nothing, client_walk's contract is this one's.
use mathlib.Core.Path.{subst}
use Rattle.wire_fast_client.specs.Plain.{ClientSaid}
use Rattle.wire_fast_client.proofs.client.Goals as goal

pub returns-in-Some : goal.returns-in-Some
unfolding ClientSaid
returns-in-Some c = subst (ClientSaid c.args.s.now) c.in-Some.is c.plain_client.ensures
