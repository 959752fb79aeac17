-- moment_fits' contract, of the time that Meaning.time_means says the field is.
use Rattle.wire_message.proofs.Meaning.{time_means}
use mathlib.Core.Path.{◌∙◌}
use Rattle.wire_range.proofs.limits.moment_in.Goals as goal

pub returns : goal.returns
returns c = let a = c.args in c.moment_fits.ensures ∙ rw (c.time_in.ensures, time_means a.number a.s.now)
