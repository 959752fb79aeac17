-- The answer is what its callees ensure of both fields; it means the message by Meaning.accept_means.
use mathlib.Core.Path.{refl}
use Rattle.wire_message.specs.Places.{accept_at}
use Rattle.wire_message.proofs.Meaning.{accept_means}
use Rattle.wire_message.proofs.accept_in.Goals as goal

pub returns : goal.returns
unfolding accept_at
returns c = let s = c.args.s.now in record { places = rw (c.time_in.ensures, c.flag_in.ensures) (refl); means = rw (c.time_in.ensures, c.flag_in.ensures) (accept_means s) }
