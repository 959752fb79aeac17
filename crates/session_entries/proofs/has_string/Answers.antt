-- Each arm hands the value that it matched, and what `value_in` ensures, to `string_or_none`.
use Rattle.session_entries.specs.Required.{string_or_none}
use Rattle.wire_message.specs.Message.{entry}
use Rattle.wire_message.specs.Places.{value_at}
use Rattle.std.specs.Prelude.{Some}
use mathlib.Core.Path.{ap, ◌∙◌}
use Rattle.session_entries.proofs.has_string.Goals as goal

pub returns-in-None : goal.returns-in-None
unfolding string_or_none value_at entry
returns-in-None c = rw (← c.value_in.ensures.means, c.in-None.is)

pub returns-in-Some-Number : goal.returns-in-Some-Number
unfolding string_or_none value_at entry
returns-in-Some-Number c = rw (← c.value_in.ensures.means, c.in-Some-Number.is ∙ ap Some c.in-Some-Number.field-0-is)

pub returns-in-Some-String : goal.returns-in-Some-String
unfolding string_or_none value_at entry
returns-in-Some-String c = rw (← c.value_in.ensures.means, c.in-Some-String.is ∙ ap Some c.in-Some-String.field-0-is)

pub returns-in-Some-Strings : goal.returns-in-Some-Strings
unfolding string_or_none value_at entry
returns-in-Some-Strings c = rw (← c.value_in.ensures.means, c.in-Some-Strings.is ∙ ap Some c.in-Some-Strings.field-0-is)

pub returns-in-Some-Numbers : goal.returns-in-Some-Numbers
unfolding string_or_none value_at entry
returns-in-Some-Numbers c = rw (← c.value_in.ensures.means, c.in-Some-Numbers.is ∙ ap Some c.in-Some-Numbers.field-0-is)
