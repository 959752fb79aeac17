-- Both cases are the test of `tag_of`, by what tag_fits ensures.
use mathlib.Core.Path.{sym, ◌∙◌}
use Rattle.wire_varint.specs.Tag.{tag_of}
use Rattle.wire_varint.proofs.tag.tag_of.Goals as goal

pub returns-then-tag_fits : goal.returns-then-tag_fits
unfolding tag_of
returns-then-tag_fits c = simp (sym c.tag_fits.ensures ∙ c.if-tag_fits.true)

pub returns-else-tag_fits : goal.returns-else-tag_fits
unfolding tag_of
returns-else-tag_fits c = simp (sym c.tag_fits.ensures ∙ c.if-tag_fits.false)
