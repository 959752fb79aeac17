-- The loop keeps Clients.Told; what a turn is at is one of the records of Clients, FieldAt to IoAt, and each need is a lemma on it.
use native.Mathlib.Omega.{arith}
use Prim.Native.Nat.{◌-◌, ◌<◌}
use mathlib.Core.Path.{◌≡◌, sym, ap, ◌∙◌}
use Rattle.std.specs.Prelude.{Some, Ok, Err}
use Rattle.std.proofs.lemmas.Result.{err_from_is_err_and}
use Rattle.wire_check_field.proofs.Walk.{misfits, bad_tag}
use Rattle.base_laws.specs.Base.{part}
use Rattle.wire_schema.specs.Schema.{kind_of}
use Rattle.wire_check_field.specs.Check.{check_of}
use Rattle.wire_types.specs.declared.ClientMember.TheVariants as client
use Rattle.wire_walk_client.proofs.Clients.{Told, start, finish, stop, FieldAt, PartAt, MemberAt, IoAt, number_passes, fixed_passes, field_refused}
use Rattle.wire_walk_client.proofs.Clients.{part_passes, member_in_bounds, member_in_lem, member_refused, member_place, io_member, io_in, io_in_bounds, io_refused, io_place}
use Rattle.wire_walk_client.proofs.client_walk.Goals as goal
use Rattle.wire_walk_client.proofs.client_walk.Goals.{After-payload_at, In-Err-check, In-Ok-check, In-Part, Then-kind-eq22, Then-kind-ge16}

field : (c : After-payload_at) → FieldAt c.args.s.now c.loop-at.at c.loop-at.found c.in-Ok.tag.number c.in-Ok.tag.wire c.in-Ok.tag.next
field c = record {
  told = c.loop-at.invariant;
  more = c.loop-at-test.true;
  tagged = sym c.tag_at.ensures ∙ c.in-Ok.is;
  fits = rw (← c.kind_of-kind.ensures) (sym c.takes.ensures ∙ c.if-not-takes.false);
}

bytes : (c : In-Part) → PartAt c.in-Part.field-0 c.args.s.now c.loop-at.at c.loop-at.found c.in-Ok.tag.number c.in-Ok.tag.wire c.in-Ok.tag.next
bytes c = record {
  field = record {
    told = c.loop-at.invariant;
    more = c.loop-at-test.true;
    tagged = sym c.tag_at.ensures ∙ c.in-Ok.is;
    fits = rw (← c.kind_of-kind.ensures) (sym c.takes.ensures ∙ c.if-not-takes.false);
  };
  holds = sym c.payload_at.ensures ∙ c.in_ok-payload.was ∙ ap Ok c.in-Part.is;
}

buffer : (c : Then-kind-eq22) → IoAt c.in-Part.field-0 c.args.s.now c.loop-at.at c.loop-at.found c.in-Ok.tag.number c.in-Ok.tag.wire c.in-Ok.tag.next
buffer c = record {
  bytes = bytes (goal.at.slice_bounds-io_buffer-count c).In-Part;
  io = sym c.kind_of-kind.ensures ∙ c.if-kind-eq22.true;
}

member : (c : Then-kind-ge16) → MemberAt c.in-Part.field-0 c.args.s.now c.loop-at.at c.loop-at.found c.in-Ok.tag.number c.in-Ok.tag.wire c.in-Ok.tag.next
member c = record {
  bytes = bytes (goal.at.slice_bounds-check-count c).In-Part;
  inner = omega (arith, c.kind_of-kind.ensures);
}

entered : (c : In-Ok-check) →
    (c.loop-at.at < c.in-Part.field-0.end) × Told c.args.s.now c.in-Part.field-0.end (Some (client.Other c.in-Ok.tag.number c.in-Part.field-0))
entered c =
    member_in_lem (member (goal.at.loop-at-smaller-in-Ok-check c).Then-kind-ge16) (λ e. c.if-kind-eq22.false (c.kind_of-kind.ensures ∙ e))
    (rw (← c.kind_of-kind.ensures) (sym c.check.ensures ∙ c.in-Ok-check.is))

refused : (c : In-Err-check) →
    check_of (kind_of 0 c.in-Ok.tag.number - 16) (part c.args.s.now c.in-Part.field-0.start c.in-Part.field-0.end) ≡ Err c.in-Err-check.refused
refused c = rw (← c.kind_of-kind.ensures) (sym c.check.ensures ∙ c.in-Err-check.is)

pub loop-at-init : goal.loop-at-init
loop-at-init c = start _

pub returns-in-Err : goal.returns-in-Err
returns-in-Err c =
    stop c.loop-at.invariant c.loop-at-test.true _
    (bad_tag 0 _ _ _ (omega arith) (sym c.tag_at.ensures ∙ c.in-Err.is))

pub returns-then-not-takes : goal.returns-then-not-takes
returns-then-not-takes c =
    stop c.loop-at.invariant c.loop-at-test.true _
    (misfits 0 _ _ _ _ _ (omega arith) (sym c.tag_at.ensures ∙ c.in-Ok.is)
    (rw (← c.kind_of-kind.ensures) (sym c.takes.ensures ∙ c.if-not-takes.true)))

pub returns-in_err-payload : goal.returns-in_err-payload
returns-in_err-payload c =
    let p = err_from_is_err_and c.from_residual.result c.from_residual.ensures.1 in
    rw (p.1, p.2) (field_refused (field (goal.at.returns-in_err-payload c).After-payload_at) (sym c.payload_at.ensures ∙ c.in_err-payload.was))

pub slice_bounds-io_buffer-count : goal.slice_bounds-io_buffer-count
slice_bounds-io_buffer-count c = (member_in_bounds (io_member (buffer c))).0

pub slice_bounds-io_buffer-start : goal.slice_bounds-io_buffer-start
slice_bounds-io_buffer-start c = let in_bounds = member_in_bounds (io_member (buffer c)) in omega arith

pub slice_bounds-io_buffer-end : goal.slice_bounds-io_buffer-end
slice_bounds-io_buffer-end c = let in_bounds = member_in_bounds (io_member (buffer c)) in omega arith

pub overflow_add-found : goal.overflow_add-found
overflow_add-found c =
    let in_bounds = io_in_bounds (buffer (goal.at.overflow_add-found c).Then-kind-eq22) (sym c.io_buffer.ensures ∙ c.in-Ok-io_buffer.is) in
    omega (arith, in_bounds.0, c.well_formed)

pub overflow_add-found-in-Ok-io_buffer : goal.overflow_add-found-in-Ok-io_buffer
overflow_add-found-in-Ok-io_buffer c =
    let in_bounds = io_in_bounds (buffer (goal.at.overflow_add-found-in-Ok-io_buffer c).Then-kind-eq22) (sym c.io_buffer.ensures ∙ c.in-Ok-io_buffer.is) in
    omega (arith, in_bounds.1, c.well_formed)

pub loop-at-smaller-in-Ok-io_buffer : goal.loop-at-smaller-in-Ok-io_buffer
loop-at-smaller-in-Ok-io_buffer c =
    let next = io_in (buffer (goal.at.loop-at-smaller-in-Ok-io_buffer c).Then-kind-eq22) (sym c.io_buffer.ensures ∙ c.in-Ok-io_buffer.is) in
    omega (arith, next.0, next.1.within)

pub loop-at-preserved-in-Ok-io_buffer : goal.loop-at-preserved-in-Ok-io_buffer
loop-at-preserved-in-Ok-io_buffer c =
    (io_in (buffer (goal.at.loop-at-preserved-in-Ok-io_buffer c).Then-kind-eq22) (sym c.io_buffer.ensures ∙ c.in-Ok-io_buffer.is)).1

pub within-requires : goal.within-requires
within-requires c =
    let place = io_place (buffer (goal.at.within-requires c).Then-kind-eq22) (sym c.io_buffer.ensures ∙ c.in-Err-io_buffer.is) in
    omega (arith, place, c.well_formed)

pub returns-in-Err-io_buffer : goal.returns-in-Err-io_buffer
returns-in-Err-io_buffer c =
    rw c.within.ensures (io_refused (buffer (goal.at.returns-in-Err-io_buffer c).Then-kind-eq22) (sym c.io_buffer.ensures ∙ c.in-Err-io_buffer.is))

pub slice_bounds-check-count : goal.slice_bounds-check-count
slice_bounds-check-count c = (member_in_bounds (member c)).0

pub slice_bounds-check-start : goal.slice_bounds-check-start
slice_bounds-check-start c = let in_bounds = member_in_bounds (member c) in omega arith

pub slice_bounds-check-end : goal.slice_bounds-check-end
slice_bounds-check-end c = let in_bounds = member_in_bounds (member c) in omega arith

pub loop-at-smaller-in-Ok-check : goal.loop-at-smaller-in-Ok-check
loop-at-smaller-in-Ok-check c = let next = entered c in omega (arith, next.0, next.1.within)

pub loop-at-preserved-in-Ok-check : goal.loop-at-preserved-in-Ok-check
loop-at-preserved-in-Ok-check c = (entered c).1

pub within-requires-in-Err-check : goal.within-requires-in-Err-check
within-requires-in-Err-check c =
    let place = member_place (member (goal.at.within-requires-in-Err-check c).Then-kind-ge16) (refused c) in
    omega (arith, place, c.well_formed)

pub returns-in-Err-check : goal.returns-in-Err-check
returns-in-Err-check c =
    rw c.within-in-Err-check.ensures (member_refused (member (goal.at.returns-in-Err-check c).Then-kind-ge16) (refused (goal.at.returns-in-Err-check c).In-Err-check))

pub loop-at-smaller-else-kind-ge16 : goal.loop-at-smaller-else-kind-ge16
loop-at-smaller-else-kind-ge16 c =
    let next = part_passes (bytes (goal.at.loop-at-smaller-else-kind-ge16 c).In-Part) (omega (arith, c.kind_of-kind.ensures)) in
    omega (arith, next.0, next.1.within)

pub loop-at-preserved-else-kind-ge16 : goal.loop-at-preserved-else-kind-ge16
loop-at-preserved-else-kind-ge16 c =
    (part_passes (bytes (goal.at.loop-at-preserved-else-kind-ge16 c).In-Part) (omega (arith, c.kind_of-kind.ensures))).1

pub loop-at-smaller-in-Number : goal.loop-at-smaller-in-Number
loop-at-smaller-in-Number c =
    let next = number_passes (field (goal.at.loop-at-smaller-in-Number c).After-payload_at) (sym c.payload_at.ensures ∙ c.in_ok-payload.was ∙ ap Ok c.in-Number.is) in
    omega (arith, next.0, next.1.within)

pub loop-at-preserved-in-Number : goal.loop-at-preserved-in-Number
loop-at-preserved-in-Number c =
    (number_passes (field (goal.at.loop-at-preserved-in-Number c).After-payload_at) (sym c.payload_at.ensures ∙ c.in_ok-payload.was ∙ ap Ok c.in-Number.is)).1

pub loop-at-smaller : goal.loop-at-smaller
loop-at-smaller c =
    let next = fixed_passes (field (goal.at.loop-at-smaller c).After-payload_at) (sym c.payload_at.ensures ∙ c.in_ok-payload.was ∙ ap Ok c.in-Fixed.is) in
    omega (arith, next.0, next.1.within)

pub loop-at-preserved : goal.loop-at-preserved
loop-at-preserved c =
    (fixed_passes (field (goal.at.loop-at-preserved c).After-payload_at) (sym c.payload_at.ensures ∙ c.in_ok-payload.was ∙ ap Ok c.in-Fixed.is)).1

pub returns : goal.returns
returns c = finish c.loop-at.invariant c.loop-at-test.false
