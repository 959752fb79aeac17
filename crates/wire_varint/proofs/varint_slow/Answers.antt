-- The loop keeps "what is read so far, under the rest scaled, is the varint", and a scale with room (Slow); each byte is one case of Varints.
use Prim.Native.Nat.{◌+◌, ◌-◌, ◌*◌, ◌^◌, ◌≤◌, ◌<◌}
use native.Mathlib.Omega.{arith}
use mathlib.Core.Path.{refl, sym, ap, ◌∙◌}
use Rattle.wire_varint.specs.Varint.{varint_from}
use Rattle.wire_varint.proofs.Varints.{past, last_fits, last_long, ends, goes_on, lim}
use Rattle.wire_varint.proofs.Slow.{under, under_start, under_above, room_next, last_sum, next_sum}
use Rattle.wire_varint.proofs.varint_slow.Goals as goal

last : (c : goal.Then-b-le1) → let l = c.loop-at in
    l.value + c.from-b.result * l.scale < 2 ^ 64
last c = let l = c.loop-at in
    last_sum c.from-b.result l.scale l.more l.value l.invariant.1 l.invariant.0 c.if-more-eq0.true c.if-b-le1.true

ended : (c : goal.Then-b-lt128) → let l = c.loop-at in
    (l.value + c.from-b.result * l.scale < l.scale * 128) × (l.scale * 256 ≤ 2 ^ 64)
ended c = let l = c.loop-at in
    next_sum c.from-b.result l.scale l.more l.value l.invariant.1 l.invariant.0 c.if-more-eq0.false (omega arith)

more : (c : goal.Else-b-lt128) → let l = c.loop-at in
    (l.value + (c.from-b.result - 128) * l.scale < l.scale * 128) × (l.scale * 256 ≤ 2 ^ 64)
more c = let l = c.loop-at in
    let byte = c.shared_slice_known-in-loop-at-1.given l.at in
    next_sum (c.from-b.result - 128) l.scale l.more l.value l.invariant.1 l.invariant.0 c.if-more-eq0.false
    (omega (arith, c.from-b.ensures, byte))

pub loop-at-init : goal.loop-at-init
unfolding lim
loop-at-init c = (omega arith, refl, under_start _)

pub overflow_mul-result : goal.overflow_mul-result
overflow_mul-result c = omega (arith, last c)

pub overflow_add-result : goal.overflow_add-result
overflow_add-result c = omega (arith, last c)

pub returns-then-b-le1 : goal.returns-then-b-le1
returns-then-b-le1 c =
    let l = c.loop-at in
    let s = c.args.s.now in
    let few = c.if-b-le1.true in
    let fits = last_fits s l.at l.more c.if-more-eq0.true c.loop-at-test.true (omega (arith, few, c.from-b.ensures)) in
    rw c.from-b.ensures (ap (under l.value l.scale) fits ∙ l.invariant.2)

pub returns-then-more-eq0 : goal.returns-then-more-eq0
returns-then-more-eq0 c =
    let l = c.loop-at in
    let s = c.args.s.now in
    let long = last_long s l.at l.more c.if-more-eq0.true c.loop-at-test.true (omega (arith, c.from-b.ensures)) in
    ap (under l.value l.scale) long ∙ l.invariant.2

pub overflow_mul-result-then-b-lt128 : goal.overflow_mul-result-then-b-lt128
overflow_mul-result-then-b-lt128 c = omega (arith, ended c)

pub overflow_add-result-then-b-lt128 : goal.overflow_add-result-then-b-lt128
overflow_add-result-then-b-lt128 c = omega (arith, ended c)

pub returns-then-b-lt128 : goal.returns-then-b-lt128
returns-then-b-lt128 c =
    let l = c.loop-at in
    let s = c.args.s.now in
    let end = ends s l.at l.more c.if-more-eq0.false c.loop-at-test.true (omega (arith, c.from-b.ensures)) in
    rw c.from-b.ensures (ap (under l.value l.scale) end ∙ l.invariant.2)

pub overflow_mul-value : goal.overflow_mul-value
overflow_mul-value c = omega (arith, more c)

pub overflow_add-value : goal.overflow_add-value
overflow_add-value c = omega (arith, more c)

pub overflow_mul-scale : goal.overflow_mul-scale
overflow_mul-scale c = omega (arith, more c)

pub loop-at-preserved : goal.loop-at-preserved
loop-at-preserved c =
    let l = c.loop-at in
    let s = c.args.s.now in
    let b = c.from-b.result in
    let on = goes_on s l.at l.more (l.more - 1) (omega arith) c.loop-at-test.true (omega (arith, c.from-b.ensures)) in (
      (more c).0,
      room_next l.scale l.more l.invariant.1 c.if-more-eq0.false,
      sym (under_above l.value l.scale (b - 128) (varint_from (l.more - 1) s (l.at + 1)))
          ∙ rw c.from-b.ensures (ap (under l.value l.scale) on ∙ l.invariant.2),
    )

pub returns : goal.returns
returns c =
    let l = c.loop-at in
    ap (under l.value l.scale) (past _ l.at l.more c.loop-at-test.false) ∙ l.invariant.2
