-- The loop keeps Ios.Walked: the check, the last delay and the last data from `at` on are the whole's; each turn is one lemma of Ios on its TagAt or DelayAt.
use native.Mathlib.Omega.{arith}
use mathlib.Core.Path.{sym, ap, ◌∙◌}
use Rattle.std.specs.Prelude.{Ok}
use Rattle.std.proofs.lemmas.Result.{err_from_is_err_and}
use Rattle.wire_walk_io.proofs.Times.{read_ok}
use Rattle.wire_walk_io.proofs.Ios.{start, finish, tag_refused, TagAt, DelayAt, delay_in_bounds, delayed, delay_refused, delay_place}
use Rattle.wire_walk_io.proofs.Ios.{delay_past, ranged, range_past, rest, rest_refused, never_inside}
use Rattle.wire_walk_io.proofs.io.io_buffer.Goals as goal
use Rattle.wire_walk_io.proofs.io.io_buffer.Goals.{In_ok-start, In_ok-tag}

-- what a turn is at, once its tag is read
tag : (c : In_ok-tag) → TagAt c.args.s.now c.loop-at.at c.loop-at.delay c.loop-at.contents c.in_ok-tag.field-0.value c.in_ok-tag.field-0.next
tag c = record {
  walked = c.loop-at.invariant;
  more = c.loop-at-test.true;
  tagged = read_ok _ _ _ (sym c.number_at.ensures ∙ c.in_ok-tag.was);
}

-- and at the delay, once its bytes are found
delay : (c : In_ok-start) →
    DelayAt c.in_ok-start.field-0 c.args.s.now c.loop-at.at c.loop-at.delay c.loop-at.contents c.in_ok-tag.field-0.value c.in_ok-tag.field-0.next
delay c = record {
  tag = record {
    walked = c.loop-at.invariant;
    more = c.loop-at-test.true;
    tagged = read_ok _ _ _ (sym c.number_at.ensures ∙ c.in_ok-tag.was);
  };
  ten = c.if-tag-eq10.true;
  holds = sym c.part_at.ensures ∙ c.in_ok-start.was;
}

pub loop-at-init : goal.loop-at-init
loop-at-init c = start _

pub returns-in_err-tag : goal.returns-in_err-tag
returns-in_err-tag c =
    let p = err_from_is_err_and c.from_residual.result c.from_residual.ensures.1 in
    rw (p.1, p.2) (tag_refused c.loop-at.invariant c.loop-at-test.true (sym c.number_at.ensures ∙ c.in_err-tag.was))

pub returns-in_err-start : goal.returns-in_err-start
returns-in_err-start c =
    let p = err_from_is_err_and c.from_residual-in_err-start.result c.from_residual-in_err-start.ensures.1 in
    rw (p.1, p.2)
    (delay_past (tag (goal.at.returns-in_err-start c).In_ok-tag) c.if-tag-eq10.true (sym c.part_at.ensures ∙ c.in_err-start.was))

pub slice_bounds-time_spec-count : goal.slice_bounds-time_spec-count
slice_bounds-time_spec-count c = (delay_in_bounds (delay c)).0

pub slice_bounds-time_spec-start : goal.slice_bounds-time_spec-start
slice_bounds-time_spec-start c = let in_bounds = delay_in_bounds (delay c) in omega arith

pub slice_bounds-time_spec-end : goal.slice_bounds-time_spec-end
slice_bounds-time_spec-end c = let in_bounds = delay_in_bounds (delay c) in omega arith

pub loop-at-smaller-in-Ok : goal.loop-at-smaller-in-Ok
loop-at-smaller-in-Ok c =
    let next = delayed (delay (goal.at.loop-at-smaller-in-Ok c).In_ok-start) (sym c.time_spec.ensures ∙ c.in-Ok.is) in
    omega (arith, next.0, next.1.within)

pub loop-at-preserved-in-Ok : goal.loop-at-preserved-in-Ok
loop-at-preserved-in-Ok c =
    (delayed (delay (goal.at.loop-at-preserved-in-Ok c).In_ok-start) (sym c.time_spec.ensures ∙ c.in-Ok.is)).1

pub within-requires : goal.within-requires
within-requires c =
    let place = delay_place (delay (goal.at.within-requires c).In_ok-start) (sym c.time_spec.ensures ∙ c.in-Err.is) in
    omega (arith, place, c.well_formed)

pub returns-in-Err : goal.returns-in-Err
returns-in-Err c =
    rw c.within.ensures (delay_refused (delay (goal.at.returns-in-Err c).In_ok-start) (sym c.time_spec.ensures ∙ c.in-Err.is))

pub returns-in_err-contents : goal.returns-in_err-contents
returns-in_err-contents c =
    let p = err_from_is_err_and c.from_residual-in_err-contents.result c.from_residual-in_err-contents.ensures.1 in
    rw (p.1, p.2)
    (range_past (tag (goal.at.returns-in_err-contents c).In_ok-tag) c.if-tag-eq18.true (sym c.part_at-then-tag-eq18.ensures ∙ c.in_err-contents.was))

pub loop-at-smaller-then-tag-eq18 : goal.loop-at-smaller-then-tag-eq18
loop-at-smaller-then-tag-eq18 c =
    let next = ranged (tag (goal.at.loop-at-smaller-then-tag-eq18 c).In_ok-tag) c.if-tag-eq18.true (sym c.part_at-then-tag-eq18.ensures ∙ c.in_ok-contents.was) in
    omega (arith, next.0, next.1.within)

pub loop-at-preserved-then-tag-eq18 : goal.loop-at-preserved-then-tag-eq18
loop-at-preserved-then-tag-eq18 c =
    (ranged (tag (goal.at.loop-at-preserved-then-tag-eq18 c).In_ok-tag) c.if-tag-eq18.true (sym c.part_at-then-tag-eq18.ensures ∙ c.in_ok-contents.was)).1

pub returns-in_err-after : goal.returns-in_err-after
returns-in_err-after c =
    let p = err_from_is_err_and c.from_residual-in_err-after.result c.from_residual-in_err-after.ensures.1 in
    rw (p.1, p.2) (rest_refused (tag (goal.at.returns-in_err-after c).In_ok-tag) (sym c.rest_at.ensures ∙ c.in_err-after.was))

pub loop-at-smaller-in-Next : goal.loop-at-smaller-in-Next
loop-at-smaller-in-Next c =
    let next = rest (tag (goal.at.loop-at-smaller-in-Next c).In_ok-tag) c.if-tag-eq10.false c.if-tag-eq18.false (sym c.rest_at.ensures ∙ c.in_ok-after.was ∙ ap Ok c.in-Next.is) in
    omega (arith, next.0, next.1.within)

pub loop-at-preserved-in-Next : goal.loop-at-preserved-in-Next
loop-at-preserved-in-Next c =
    (rest (tag (goal.at.loop-at-preserved-in-Next c).In_ok-tag) c.if-tag-eq10.false c.if-tag-eq18.false (sym c.rest_at.ensures ∙ c.in_ok-after.was ∙ ap Ok c.in-Next.is)).1

pub loop-at-smaller : goal.loop-at-smaller
loop-at-smaller c =
    absurd (never_inside (tag (goal.at.loop-at-smaller c).In_ok-tag) c.if-tag-eq10.false (sym c.rest_at.ensures ∙ c.in_ok-after.was ∙ ap Ok c.in-Inside.is))

pub loop-at-preserved : goal.loop-at-preserved
loop-at-preserved c =
    absurd (never_inside (tag (goal.at.loop-at-preserved c).In_ok-tag) c.if-tag-eq10.false (sym c.rest_at.ensures ∙ c.in_ok-after.was ∙ ap Ok c.in-Inside.is))

pub returns : goal.returns
returns c = finish c.loop-at.invariant c.loop-at-test.false
