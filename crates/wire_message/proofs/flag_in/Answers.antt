-- The flag is `bool` of what number_in ensures.
use Rattle.wire_message.specs.Signed.{bool}
use Rattle.wire_message.proofs.flag_in.Goals as goal

pub returns : goal.returns
unfolding bool
returns c = rw c.number_in.ensures
