-- The tests are those of the definition, at the end of the text or at its next byte.
use mathlib.Core.Path.{sym, ap, ◌∙◌}
use native.Mathlib.Omega.{arith}
use lib.ListN.{drop_of_length-le}
use borrow.Author.Tests.{le-leb}
use Rattle.base_laws.proofs.Tests.{tests}
use Rattle.conf_lines.specs.Scan.{piece_ends}
use Rattle.conf_lines.proofs.Steps.{next_drop}
use Rattle.conf_lines.proofs.piece_ends.Goals as goal

pub returns-then-text-at : goal.returns-then-text-at
unfolding piece_ends
returns-then-text-at c = le-leb _ _ c.if-text-at.true ∙ sym (ap piece_ends (drop_of_length-le c.args.text.now c.if-text-at.true))

pub returns-in-10 : goal.returns-in-10
unfolding piece_ends
returns-in-10 c =
    let a = c.args in
    rw (ap piece_ends (next_drop a.text.now a.at (omega (arith, c.if-text-at.false)))) (search tests)

pub returns-in_default : goal.returns-in_default
unfolding piece_ends
returns-in_default c =
    let a = c.args in
    rw (ap piece_ends (next_drop a.text.now a.at (omega (arith, c.if-text-at.false)))) (search tests)
