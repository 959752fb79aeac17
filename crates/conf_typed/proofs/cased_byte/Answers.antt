-- std's lower case is the definition's.
use mathlib.Core.Path.{◌∙◌}
use Rattle.conf_typed.specs.Typed.{lower}
use Rattle.conf_typed.proofs.Words.{lower_as}
use Rattle.conf_typed.proofs.cased_byte.Goals as goal

pub returns-then-any_case : goal.returns-then-any_case
unfolding lower
returns-then-any_case c = rw (c.if-any_case.true, c.to_ascii_lowercase.ensures.value ∙ lower_as c.args.b)
