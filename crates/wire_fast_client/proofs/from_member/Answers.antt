-- The member is in bounds (Plains.member_in_bounds), its data too (member_within), and what plain_io found is Plains.member_io.
use native.Mathlib.Omega.{arith}
use Prim.Native.Nat.{◌+◌, ◌≤◌}
use lib.ListN.{length}
use Rattle.wire_fast_client.proofs.Plains.{member_in_bounds, member_within, member_io}
use Rattle.wire_fast_client.proofs.from_member.Goals as goal
use Rattle.wire_fast_client.proofs.from_member.Goals.{In_ok-delay, Start}

-- where the member is
in_bounds : (c : Start) → (c.args.bytes.start ≤ c.args.bytes.end) × (c.args.bytes.end ≤ length c.args.s.now)
in_bounds c = member_in_bounds _ _ c.requires.io_tag.0 c.requires.io_tag.1 _ c.requires.s_value

-- the places of the data are the message's
within : (c : In_ok-delay) →
    let a = c.args in
    (a.bytes.start + c.in_ok-delay.field-0.contents.start ≤ length a.s.now) × (a.bytes.start + c.in_ok-delay.field-0.contents.end ≤ length a.s.now)
within c = let pre = c.requires in
    member_within _ _ pre.io_tag.0 pre.io_tag.1 _ pre.s_value _ c.plain_io.ensures _ c.in_ok-delay.was

pub slice_bounds-plain_io-count : goal.slice_bounds-plain_io-count
slice_bounds-plain_io-count c = (in_bounds (goal.at.slice_bounds-plain_io-count c).Start).0

pub slice_bounds-plain_io-start : goal.slice_bounds-plain_io-start
slice_bounds-plain_io-start c = let h = in_bounds (goal.at.slice_bounds-plain_io-start c).Start in omega arith

pub overflow_add-result : goal.overflow_add-result
overflow_add-result c = omega (arith, (within (goal.at.overflow_add-result c).In_ok-delay).0, c.well_formed.0)

pub overflow_add-result-2 : goal.overflow_add-result-2
overflow_add-result-2 c = omega (arith, (within (goal.at.overflow_add-result-2 c).In_ok-delay).1, c.well_formed.0)

pub returns : goal.returns
returns c =
    let pre = c.requires in
    member_io _ _ pre.io_tag.0 pre.io_tag.1 _ pre.s_value pre.end_value _ c.plain_io.ensures _ c.in_ok-delay.was
