-- from_member's requirements are Plains.io-tag, Varints.one_byte and Lengths.found_part; where it is not called, nothing is said.
use native.Mathlib.Omega.{arith}
use mathlib.Core.Path.{sym, ◌∙◌}
use Prim.Native.Nat.{◌<◌}
use lib.ListN.{length}
use borrow.Author.Tests.{eqb-false}
use Rattle.wire_varint.proofs.Varints.{one_byte}
use Rattle.wire_fields.proofs.Lengths.{found_part}
use Rattle.wire_fast_client.proofs.Plains.{io_tag}
use Rattle.wire_fast_client.proofs.plain_client.Goals as goal

pub from_member-requires : goal.from_member-requires
from_member-requires c =
    let tag = io_tag _ (sym c.is_io.ensures ∙ c.if-is_io.true) in
    let some : 0 < length c.args.s.now = omega (arith, eqb-false _ _ (sym c.is_empty.ensures ∙ c.if-is_empty.false)) in
    record {
      io_tag = (tag, record { within = some; tagged = one_byte _ 0 _ some (sym c.from-tag.ensures) (omega (arith, tag.most)) });
      s_value = found_part _ _ _ c.part_found.ensures _ c.in_ok-bytes.was;
      end_value = c.if-bytes-s.true;
    }
