-- What nanos_at found is Plains.only_nanos; anything else says nothing.
use Rattle.wire_fast_client.proofs.Plains.{only_nanos}
use Rattle.wire_fast_client.proofs.below_second.Goals as goal

pub returns : goal.returns
returns c = only_nanos _ _ c.nanos_at.ensures _ c.in_ok-nanos.was
