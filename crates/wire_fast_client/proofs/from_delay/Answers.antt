-- The delay lies in the buffer (Plains.delay_in_bounds); with it and what data_at ensures the buffer is Plains.delay_data.
use native.Mathlib.Omega.{arith}
use Rattle.wire_fast_client.proofs.Plains.{delay_in_bounds, delay_data}
use Rattle.wire_fast_client.proofs.from_delay.Goals as goal

pub slice_bounds-plain_time-count : goal.slice_bounds-plain_time-count
slice_bounds-plain_time-count c = let pre = c.requires in (delay_in_bounds _ pre.has_tag _ pre.s_value).0

pub slice_bounds-plain_time-start : goal.slice_bounds-plain_time-start
slice_bounds-plain_time-start c = let pre = c.requires in let in_bounds = delay_in_bounds _ pre.has_tag _ pre.s_value in omega arith

pub slice_bounds-plain_time-end : goal.slice_bounds-plain_time-end
slice_bounds-plain_time-end c = let pre = c.requires in let in_bounds = delay_in_bounds _ pre.has_tag _ pre.s_value in omega arith

pub returns : goal.returns
returns c =
    let pre = c.requires in
    delay_data _ pre.has_tag _ pre.s_value _ c.plain_time.ensures _ c.in_ok-time.was _ c.data_at.ensures _ c.in_ok-contents.was
