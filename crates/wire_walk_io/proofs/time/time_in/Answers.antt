-- Follow.part_in_bounds puts the last field within the message.
use native.Mathlib.Omega.{arith}
use Prim.Native.Nat.{◌≤◌}
use lib.ListN.{length}
use mathlib.Core.Path.{ap, ◌∙◌}
use Rattle.std.specs.Prelude.{Some}
use Rattle.wire_fields.proofs.Follow.{part_in_bounds}
use Rattle.wire_walk_io.proofs.time.time_in.Goals as goal
use Rattle.wire_walk_io.proofs.time.time_in.Goals.{In-Some-Part}

-- where the last field lies that is a part
inside : (c : In-Some-Part) →
    (c.in-Some-Part.start ≤ c.in-Some-Part.end) × (c.in-Some-Part.end ≤ length c.args.s.now)
inside c = part_in_bounds _ _ _ c.last_in.ensures (c.in-Some-Part.is ∙ ap Some c.in-Some-Part.field-0-is)

pub slice_bounds-t-count : goal.slice_bounds-t-count
slice_bounds-t-count c = (inside c).0

pub slice_bounds-t-start : goal.slice_bounds-t-start
slice_bounds-t-start c = let h = inside c in omega arith

pub slice_bounds-t-end : goal.slice_bounds-t-end
slice_bounds-t-end c = let h = inside c in omega arith
