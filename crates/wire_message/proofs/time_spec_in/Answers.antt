-- The answer is what number_in ensures of both fields; they mean what the definition `time_spec` reads: Meaning.time_is.
use Rattle.wire_message.proofs.Meaning.{time_is}
use mathlib.Core.Path.{refl}
use Rattle.wire_message.proofs.time_spec_in.Goals as goal

pub returns : goal.returns
returns c =
    let s = c.args.s.now in
    record { places = rw (c.number_in.ensures, c.number_in-2.ensures) (refl); means = rw (c.number_in.ensures, c.number_in-2.ensures) (time_is s) }
