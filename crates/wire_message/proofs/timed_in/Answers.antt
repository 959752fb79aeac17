-- The answer is what its callees ensure of both fields; it means the message by Meaning.timed_means.
use mathlib.Core.Path.{refl}
use Rattle.wire_message.specs.Places.{timed_at}
use Rattle.wire_message.proofs.Meaning.{timed_means}
use Rattle.wire_message.proofs.timed_in.Goals as goal

pub returns : goal.returns
unfolding timed_at
returns c = let s = c.args.s.now in record { places = rw (c.time_in.ensures, c.part_in.ensures) (refl); means = rw (c.time_in.ensures, c.part_in.ensures) (timed_means s) }
