-- A kind read from the two halves of its row is the schema's: Rows.kind-in.
use mathlib.Core.Path.{◌∙◌}
use Rattle.wire_schema.proofs.Rows.{kind_in_lem}
use Rattle.wire_schema.proofs.kind_of.Goals as goal

pub returns : goal.returns
returns c = c.kind_in.ensures ∙ rw (c.low_of.ensures, c.high_of.ensures) (kind_in_lem _ _)
