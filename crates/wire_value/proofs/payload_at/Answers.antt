-- Each wire type is its case of `payload_at`, by what fixed_at and varint_at ensure; Varints.within gives the room that is left.
use mathlib.Core.Path.{sym, subst, ◌∙◌}
use borrow.Author.Tests.{le-leb, lt-leb, ne_eqb, eq-eqb}
use Rattle.std.proofs.lemmas.Result.{err_from_is_err_and}
use Rattle.wire_value.specs.Field.{payload_at, number_read, part_of, as_number, as_fixed, as_part}
use Rattle.wire_value.proofs.Values.{either}
use lib.Dec.{eqb}
use Rattle.wire_varint.proofs.Varints.{Within, within}
use Rattle.wire_value.proofs.payload_at.Goals as goal

pub returns-in_err-fixed_at : goal.returns-in_err-fixed_at
unfolding payload_at as_fixed
returns-in_err-fixed_at c =
    let p = err_from_is_err_and c.from_residual.result c.from_residual.ensures.1 in
    rw (p.1, p.2, c.if-wire-eq1.true, sym c.fixed_at.ensures ∙ c.in_err-fixed_at.was)

pub returns-then-wire-eq1 : goal.returns-then-wire-eq1
unfolding payload_at as_fixed
returns-then-wire-eq1 c = rw (c.if-wire-eq1.true, sym c.fixed_at.ensures ∙ c.in_ok-fixed_at.was)

pub returns-in_err-fixed_at-2 : goal.returns-in_err-fixed_at-2
unfolding payload_at as_fixed
returns-in_err-fixed_at-2 c =
    let p = err_from_is_err_and c.from_residual-in_err-fixed_at-2.result c.from_residual-in_err-fixed_at-2.ensures.1 in
    rw (p.1, p.2, c.if-wire-eq5.true, sym c.fixed_at-then-wire-eq5.ensures ∙ c.in_err-fixed_at-2.was)

pub returns-then-wire-eq5 : goal.returns-then-wire-eq5
unfolding payload_at as_fixed
returns-then-wire-eq5 c = rw (c.if-wire-eq5.true, sym c.fixed_at-then-wire-eq5.ensures ∙ c.in_ok-fixed_at-2.was)

pub returns-then-wire-eq0 : goal.returns-then-wire-eq0
unfolding payload_at as_number number_read
returns-then-wire-eq0 c = rw (eq-eqb _ _ c.if-wire-eq0.true, sym c.varint_at.ensures ∙ c.in-Ok.is)

pub overflow_sub-left : goal.overflow_sub-left
overflow_sub-left c =
    let a = c.args in
    let is = sym c.varint_at.ensures ∙ c.in-Ok.is in
    (subst (Within a.s.now a.from 9) is (within a.s.now (λ i. (c.shared_slice_known-1.given i).fits) 9 a.from)).1

pub returns-then-value-left : goal.returns-then-value-left
unfolding payload_at part_of as_part
returns-then-value-left c =
    rw (ne_eqb _ _ c.if-wire-eq0.false, ne_eqb _ _ c.if-wire-eq1.false, ne_eqb _ _ c.if-wire-eq5.false)
    (rw (sym c.varint_at.ensures ∙ c.in-Ok.is) (simp (le-leb _ _ c.if-value-left.true)))

pub returns-else-value-left : goal.returns-else-value-left
unfolding payload_at part_of as_part
returns-else-value-left c =
    rw (ne_eqb _ _ c.if-wire-eq0.false, ne_eqb _ _ c.if-wire-eq1.false, ne_eqb _ _ c.if-wire-eq5.false)
    (rw (sym c.varint_at.ensures ∙ c.in-Ok.is) (simp (lt-leb _ _ c.if-value-left.false)))

pub returns-in-Err : goal.returns-in-Err
unfolding payload_at number_read part_of as_number as_part
returns-in-Err c =
    rw (c.at_place.ensures, ne_eqb _ _ c.if-wire-eq1.false, ne_eqb _ _ c.if-wire-eq5.false, sym c.varint_at.ensures ∙ c.in-Err.is)
    (either (eqb c.args.wire 0) _)
