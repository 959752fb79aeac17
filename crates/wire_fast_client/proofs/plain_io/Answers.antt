-- from_delay's requirements are Plains.tag_there and Lengths.found_part; where it is not called, nothing is said.
use mathlib.Core.Path.{sym, ◌∙◌}
use native.Mathlib.Omega.{arith}
use Rattle.wire_fields.proofs.Lengths.{found_part}
use Rattle.wire_fast_client.proofs.Plains.{tag_there}
use Rattle.wire_fast_client.proofs.plain_io.Goals as goal

pub from_delay-requires : goal.from_delay-requires
from_delay-requires c = record {
  has_tag = tag_there _ _ _ (sym c.has_tag.ensures ∙ c.if-has_tag.true) (omega arith);
  s_value = found_part _ _ _ c.part_found.ensures _ c.in_ok-part_found.was;
}
