-- Each case of what last_in answers means what `is_absent` reads: Items.last_is_lem.
use mathlib.Core.Path.{ap, ◌∙◌}
use Rattle.std.specs.Prelude.{Some}
use Rattle.wire.specs.Read.{is_absent}
use Rattle.wire_fields.proofs.Items.{last_is_lem}
use Rattle.wire.proofs.is_absent.Goals as goal

pub returns-in-None : goal.returns-in-None
unfolding is_absent
returns-in-None c = rw (← last_is_lem _ _ _ c.last_in.ensures c.in-None.is)

pub returns-in-Some-Number : goal.returns-in-Some-Number
unfolding is_absent
returns-in-Some-Number c = rw (← last_is_lem _ _ _ c.last_in.ensures (c.in-Some-Number.is ∙ ap Some c.in-Some-Number.field-0-is))

pub returns-in-Some-Part : goal.returns-in-Some-Part
unfolding is_absent
returns-in-Some-Part c = rw (← last_is_lem _ _ _ c.last_in.ensures (c.in-Some-Part.is ∙ ap Some c.in-Some-Part.field-0-is))
