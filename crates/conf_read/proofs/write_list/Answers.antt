-- The loop keeps Puts.Filling: what is put, with the list of the lines from the cursor on behind it, is the whole list. A turn is fill_more over
-- write_line's contract, the end fill_end.
use mathlib.Core.Path.{sym, subst, ap}
use mathlib.Core.List.{List}
use native.Mathlib.Omega.{arith}
use Rattle.base_copy.proofs.Puts.{Filling, fill_start, fill_more, fill_end}
use Rattle.conf_list.specs.Listing.{listing}
use Rattle.conf_read.specs.Config.{Statement, statements_of}
use Rattle.conf_read.specs.Passes.{Good, listed}
use Rattle.conf_read.proofs.Ends.{starts, ends}
use Rattle.conf_read.proofs.write_list.Goals as goal

pub loop-w-init : goal.loop-w-init
loop-w-init c =
    let s = c.args.text.now in
    let out = c.args.out.now in
    let all = listing (listed (statements_of s)) in
    let e = starts s c.at.result c.at.ensures.place c.at.ensures.feeds in (
      subst Good (sym e) c.requires.good,
      subst (λ (ss : List Statement). Filling out 0 all out 0 (listing (listed ss))) (sym e) (fill_start out 0 all),
    )

pub write_line-w-requires : goal.write_line-w-requires
write_line-w-requires c =
    let v = c.loop-w.invariant in
    record { cursor = c.loop-w-test.true; good = v.0; room = omega (arith, v.1.next, v.1.size, c.requires.room) }

pub loop-w-smaller : goal.loop-w-smaller
loop-w-smaller c = omega (arith, c.write_line-w.ensures.moved, c.loop-w-test.true)

pub loop-w-preserved : goal.loop-w-preserved
loop-w-preserved c =
    let w = c.write_line-w.ensures in
    (w.good, fill_more c.loop-w.invariant.1 _ w.rest w.put)

pub shape_of-out : goal.shape_of-out
shape_of-out c = omega (arith, c.loop-w.invariant.1.size)

pub returns : goal.returns
unfolding listed listing
returns c =
    let s = c.args.text.now in
    let w = c.loop-w.w in
    fill_end c.loop-w.invariant.1 (ap (λ (ss : List Statement). listing (listed ss)) (ends s w.cursor w.section c.loop-w-test.false)) (omega (arith, c.requires.room))
