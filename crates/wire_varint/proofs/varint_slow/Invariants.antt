-- The loop keeps "what is read so far, under the rest scaled, is the varint", and a scale with room (Slow); each byte is one case of Varints.
use Prim.Native.Nat.{◌-◌, ◌*◌, ◌^◌, ◌<◌}
use mathlib.Core.Path.{◌≡◌}
use lib.ListN.{length}
use Rattle.wire_varint.specs.Varint.{varint_from, varint_at}
use Rattle.wire_varint.proofs.Varints.{lim}
use Rattle.wire_varint.proofs.Slow.{under}
use Rattle.wire_varint.proofs.varint_slow.Given as goal

abbrev pub invariant-loop-at : goal.invariant-loop-at
invariant-loop-at l =
    (l.value < l.scale) × (l.scale * lim l.more ≡ 2 ^ 64) × (under l.value l.scale (varint_from l.more l.s l.at) ≡ varint_at l.s l.from)

abbrev pub decreases-loop-at : goal.decreases-loop-at
decreases-loop-at l = length l.s - l.at
