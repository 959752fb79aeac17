-- The answer is what its callees ensure of the three fields; it means the message by Meaning.window_means.
use mathlib.Core.Path.{refl}
use Rattle.wire_message.specs.Places.{window_at}
use Rattle.wire_message.proofs.Meaning.{window_means}
use Rattle.wire_message.proofs.window_size_in.Goals as goal

pub returns : goal.returns
unfolding window_at
returns c =
    let s = c.args.s.now in
    record { places = rw (c.time_in.ensures, c.number_in.ensures, c.number_in-2.ensures) (refl); means = rw (c.time_in.ensures, c.number_in.ensures, c.number_in-2.ensures) (window_means s) }
