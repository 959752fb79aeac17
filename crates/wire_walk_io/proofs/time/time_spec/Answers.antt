-- The loop keeps Times.Going: the check and the last numbers from `at` on are the whole's; each turn is one lemma of Times on its TagAt.
use native.Mathlib.Omega.{arith}
use mathlib.Core.Path.{sym, ap, ◌∙◌}
use Rattle.std.specs.Prelude.{Ok}
use Rattle.std.proofs.lemmas.Result.{err_from_is_err_and}
use Rattle.wire_walk_io.proofs.Times.{read_ok, start, finish, tag_refused, TagAt, second, nano, second_refused, nano_refused, rest, rest_refused, never_inside}
use Rattle.wire_walk_io.proofs.time.time_spec.Goals as goal
use Rattle.wire_walk_io.proofs.time.time_spec.Goals.{In-Inside, In_ok-tag}

-- what a turn is at, once its tag is read
tag : (c : In_ok-tag) → TagAt c.args.s.now c.loop-at.at c.loop-at.time c.in_ok-tag.field-0.value c.in_ok-tag.field-0.next
tag c = record {
  going = c.loop-at.invariant;
  more = c.loop-at-test.true;
  tagged = read_ok _ _ _ (sym c.number_at.ensures ∙ c.in_ok-tag.was);
}

entered : (c : In-Inside) → ⊥
entered c = never_inside _ _ _ _ (sym c.rest_at.ensures ∙ c.in_ok-after.was ∙ ap Ok c.in-Inside.is)

pub loop-at-init : goal.loop-at-init
loop-at-init c = start _

pub returns-in_err-tag : goal.returns-in_err-tag
returns-in_err-tag c =
    let p = err_from_is_err_and c.from_residual.result c.from_residual.ensures.1 in
    rw (p.1, p.2) (tag_refused c.loop-at.invariant c.loop-at-test.true (sym c.number_at.ensures ∙ c.in_err-tag.was))

pub returns-in_err-value : goal.returns-in_err-value
returns-in_err-value c =
    let p = err_from_is_err_and c.from_residual-in_err-value.result c.from_residual-in_err-value.ensures.1 in
    rw (p.1, p.2)
    (second_refused (tag (goal.at.returns-in_err-value c).In_ok-tag) c.if-tag-eq8.true (sym c.number_at-then-tag-eq8.ensures ∙ c.in_err-value.was))

pub loop-at-smaller-then-tag-eq8 : goal.loop-at-smaller-then-tag-eq8
loop-at-smaller-then-tag-eq8 c =
    let read = read_ok _ _ _ (sym c.number_at-then-tag-eq8.ensures ∙ c.in_ok-value.was) in
    let next = second (tag (goal.at.loop-at-smaller-then-tag-eq8 c).In_ok-tag) c.if-tag-eq8.true read in
    omega (arith, next.0, next.1.within)

pub loop-at-preserved-then-tag-eq8 : goal.loop-at-preserved-then-tag-eq8
loop-at-preserved-then-tag-eq8 c =
    let read = read_ok _ _ _ (sym c.number_at-then-tag-eq8.ensures ∙ c.in_ok-value.was) in
    (second (tag (goal.at.loop-at-preserved-then-tag-eq8 c).In_ok-tag) c.if-tag-eq8.true read).1

pub returns-in_err-value-2 : goal.returns-in_err-value-2
returns-in_err-value-2 c =
    let p = err_from_is_err_and c.from_residual-in_err-value-2.result c.from_residual-in_err-value-2.ensures.1 in
    rw (p.1, p.2)
    (nano_refused (tag (goal.at.returns-in_err-value-2 c).In_ok-tag) c.if-tag-eq16.true (sym c.number_at-then-tag-eq16.ensures ∙ c.in_err-value-2.was))

pub loop-at-smaller-then-tag-eq16 : goal.loop-at-smaller-then-tag-eq16
loop-at-smaller-then-tag-eq16 c =
    let read = read_ok _ _ _ (sym c.number_at-then-tag-eq16.ensures ∙ c.in_ok-value-2.was) in
    let next = nano (tag (goal.at.loop-at-smaller-then-tag-eq16 c).In_ok-tag) c.if-tag-eq16.true read in
    omega (arith, next.0, next.1.within)

pub loop-at-preserved-then-tag-eq16 : goal.loop-at-preserved-then-tag-eq16
loop-at-preserved-then-tag-eq16 c =
    let read = read_ok _ _ _ (sym c.number_at-then-tag-eq16.ensures ∙ c.in_ok-value-2.was) in
    (nano (tag (goal.at.loop-at-preserved-then-tag-eq16 c).In_ok-tag) c.if-tag-eq16.true read).1

pub returns-in_err-after : goal.returns-in_err-after
returns-in_err-after c =
    let p = err_from_is_err_and c.from_residual-in_err-after.result c.from_residual-in_err-after.ensures.1 in
    rw (p.1, p.2) (rest_refused (tag (goal.at.returns-in_err-after c).In_ok-tag) (sym c.rest_at.ensures ∙ c.in_err-after.was))

pub loop-at-smaller-in-Next : goal.loop-at-smaller-in-Next
loop-at-smaller-in-Next c =
    let next = rest (tag (goal.at.loop-at-smaller-in-Next c).In_ok-tag) c.if-tag-eq8.false c.if-tag-eq16.false (sym c.rest_at.ensures ∙ c.in_ok-after.was ∙ ap Ok c.in-Next.is) in
    omega (arith, next.0, next.1.within)

pub loop-at-preserved-in-Next : goal.loop-at-preserved-in-Next
loop-at-preserved-in-Next c =
    (rest (tag (goal.at.loop-at-preserved-in-Next c).In_ok-tag) c.if-tag-eq8.false c.if-tag-eq16.false (sym c.rest_at.ensures ∙ c.in_ok-after.was ∙ ap Ok c.in-Next.is)).1

pub loop-at-smaller : goal.loop-at-smaller
loop-at-smaller c = absurd (entered c)

pub loop-at-preserved : goal.loop-at-preserved
loop-at-preserved c = absurd (entered c)

pub returns : goal.returns
returns c = finish c.loop-at.invariant c.loop-at-test.false
