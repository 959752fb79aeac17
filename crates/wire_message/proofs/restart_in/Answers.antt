-- The answer is what its callees ensure of both fields; it means the message by Meaning.restart_means.
use mathlib.Core.Path.{refl}
use Rattle.wire_message.specs.Places.{restart_at}
use Rattle.wire_message.proofs.Meaning.{restart_means}
use Rattle.wire_message.proofs.restart_in.Goals as goal

pub returns : goal.returns
unfolding restart_at
returns c = let s = c.args.s.now in record { places = rw (c.part_in.ensures, c.time_in.ensures) (refl); means = rw (c.part_in.ensures, c.time_in.ensures) (restart_means s) }
