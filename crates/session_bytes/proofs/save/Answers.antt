-- `number_most` bounds the first number; hands the five numbers to `wrote`, and a slice of another length to `unwritten`.
use native.Mathlib.Omega.{arith}
use mathlib.Core.Path.{sym, ◌∙◌}
use lib.ListN.{length}
use borrow.Author.Tests.{le-leb, eq-eqb, ne_eqb}
use Rattle.session_bytes.proofs.Slices.{number_most, wrote, unwritten}
use Rattle.session_bytes.proofs.save.Goals as goal

pub overflow_add-state_number : goal.overflow_add-state_number
overflow_add-state_number c = let se = c.args.se in omega (arith, number_most se.state se.mark _ _ c.state_number.ensures c.mark_number.ensures)

pub returns-then-slice-eq40 : goal.returns-then-slice-eq40
returns-then-slice-eq40 c =
    let a = c.args in
    let h = c.if-slice-eq40.true in
    let laid = c.lay.ensures in record { answer = laid.room ∙ le-leb 40 (length a.slice.now) (omega arith) ∙ sym (eq-eqb (length a.slice.now) 40 h); slice = wrote a.se a.slice.now h _ _ _ _ c.state_number.ensures c.mark_number.ensures c.mark_point.ensures laid.buffer }

pub returns : goal.returns
returns c = let a = c.args in record { answer = sym (ne_eqb _ 40 c.if-slice-eq40.false); slice = unwritten a.se a.slice.now c.if-slice-eq40.false }
