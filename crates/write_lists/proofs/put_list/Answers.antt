-- The loop keeps Lists.Listed: what is put, with the elements from here on behind it, is the list; a turn is listed_more, the end listed_end.
use Rattle.write_lists.proofs.Lists.{listed_room, listed_more, listed_end, elements_from, next_end}
use Rattle.base_copy.proofs.Puts.{fill_start}
use Rattle.base_laws.proofs.Parts.{length_part}
use borrow.Author.Rules.{rules}
use lib.ListN.{get_or}
use native.Mathlib.Omega.{arith}
use Rattle.write_lists.proofs.put_list.Goals as goal

pub loop-e-init : goal.loop-e-init
loop-e-init c =
    let a = c.args in
    let filling = fill_start a.out.now a.at (elements_from a.f a.list.now.joined.now a.list.now.ends.now 0 0) in
    record { good = a.list.now.fit; filling = filling }

pub overflow_sub-e : goal.overflow_sub-e
overflow_sub-e c = omega (arith, (next_end c.loop-e.invariant.good c.loop-e-test.true).up)

pub put_head-p-requires : goal.put_head-p-requires
put_head-p-requires c =
    omega (arith, listed_room c.loop-e.invariant c.loop-e-test.true c.requires)

pub slice_bounds-put_raw-count : goal.slice_bounds-put_raw-count
slice_bounds-put_raw-count c =
    omega (arith, (next_end c.loop-e.invariant.good c.loop-e-test.true).up)

pub slice_bounds-put_raw-start : goal.slice_bounds-put_raw-start
slice_bounds-put_raw-start c =
    let n = next_end c.loop-e.invariant.good c.loop-e-test.true in
    search rules

pub slice_bounds-put_raw-end : goal.slice_bounds-put_raw-end
slice_bounds-put_raw-end c =
    let n = next_end c.loop-e.invariant.good c.loop-e-test.true in
    search rules

pub put_raw-o-requires : goal.put_raw-o-requires
put_raw-o-requires c =
    let l = c.loop-e in
    let n = next_end l.invariant.good c.loop-e-test.true in
    let part_length = length_part c.args.list.now.joined.now l.a (get_or c.args.list.now.ends.now l.e-index 0) n.up n.within in
    omega (arith, listed_room l.invariant c.loop-e-test.true c.requires, part_length)

pub loop-e-preserved : goal.loop-e-preserved
loop-e-preserved c =
    listed_more c.loop-e.invariant c.loop-e-test.true c.put_head-p.ensures c.put_raw-o.ensures

pub shape_of-out : goal.shape_of-out
shape_of-out c = omega (arith, c.loop-e.invariant.filling.size)

pub returns : goal.returns
returns c = listed_end c.loop-e.invariant c.loop-e-test.false c.requires
