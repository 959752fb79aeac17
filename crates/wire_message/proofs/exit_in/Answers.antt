-- The answer is what its callees ensure of the five fields; it means the message by Meaning.exit_means.
use mathlib.Core.Path.{refl}
use Rattle.wire_message.specs.Places.{exit_at}
use Rattle.wire_message.proofs.Meaning.{exit_means}
use Rattle.wire_message.proofs.exit_in.Goals as goal

pub returns : goal.returns
unfolding exit_at
returns c =
    let s = c.args.s.now in
    record { places = rw (c.time_in.ensures, c.number_in.ensures, c.flag_in.ensures, c.part_in.ensures, c.part_in-2.ensures) (refl); means = rw (c.time_in.ensures, c.number_in.ensures, c.flag_in.ensures, c.part_in.ensures, c.part_in-2.ensures) (exit_means s) }
