-- No byte is left, or a tag (Plains.tag_there) with a part that ends the buffer (Lengths.found_part); anything else says nothing.
use native.Mathlib.Omega.{arith}
use mathlib.Core.Path.{sym, ◌∙◌}
use mathlib.Core.Logic.{inl}
use Rattle.wire_fast_client.specs.Plain.{Tailed}
use Rattle.wire_fields.proofs.Lengths.{found_part}
use Rattle.wire_fast_client.proofs.Plains.{tag_there}
use Rattle.wire_fast_client.proofs.data_at.Goals as goal

pub returns-then-data-s : goal.returns-then-data-s
unfolding Tailed
returns-then-data-s c = inl (
  tag_there _ _ _ (sym c.has_tag.ensures ∙ c.if-has_tag.true) (omega arith),
  found_part _ _ _ c.part_found.ensures _ c.in_ok-data.was,
  c.if-data-s.true,
)
