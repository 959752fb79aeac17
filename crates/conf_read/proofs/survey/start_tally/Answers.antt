-- The values are the defaults.
use Rattle.conf_read.proofs.survey.start_tally.Goals as goal

pub returns : goal.returns
returns c = rw c.default_values.ensures
