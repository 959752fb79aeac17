-- Varints.within puts the place after the length within the message; each case of what number_at answers is one of `part_of`.
use mathlib.Core.Path.{sym, subst, ◌∙◌}
use borrow.Author.Tests.{le-leb, lt-leb}
use Rattle.std.proofs.lemmas.Result.{err_from_is_err_and}
use Rattle.wire_value.specs.Field.{part_of}
use Rattle.wire_value.proofs.Values.{read_ok, part_err}
use Rattle.wire_varint.proofs.Varints.{Within, within}
use Rattle.wire_value.proofs.part_slow.Goals as goal

pub overflow_sub-left : goal.overflow_sub-left
overflow_sub-left c =
    let a = c.args in
    let is = read_ok a.at _ _ (sym c.number_at.ensures ∙ c.in_ok-value.was) in
    (subst (Within a.s.now a.at 9) is (within a.s.now (λ i. (c.shared_slice_known-1.given i).fits) 9 a.at)).1

pub returns-in_err-value : goal.returns-in_err-value
returns-in_err-value c =
    let p = err_from_is_err_and c.from_residual.result c.from_residual.ensures.1 in
    rw (p.1, p.2) (part_err _ _ _ _ (sym c.number_at.ensures ∙ c.in_err-value.was))

pub returns-then-value-left : goal.returns-then-value-left
unfolding part_of
returns-then-value-left c =
    rw (read_ok c.args.at _ _ (sym c.number_at.ensures ∙ c.in_ok-value.was)) (simp (le-leb _ _ c.if-value-left.true))

pub returns-else-value-left : goal.returns-else-value-left
unfolding part_of
returns-else-value-left c =
    rw (read_ok c.args.at _ _ (sym c.number_at.ensures ∙ c.in_ok-value.was)) (simp (lt-leb _ _ c.if-value-left.false))
