-- Both cases are the test of `verdict`; the parts are joined by Puts.then.
use Rattle.replay_lines.specs.Wording.{verdict}
use borrow.Author.Tests.{eq-eqb, ne_eqb}
use mathlib.Core.Path.{sym}
use native.Mathlib.Omega.{arith}
use Rattle.base_copy.proofs.Puts.{then}
use Rattle.replay_lines.proofs.frame.put_verdict.Goals as goal

pub returns-then-refusal-eq0 : goal.returns-then-refusal-eq0
unfolding verdict
returns-then-refusal-eq0 c =
    rw (eq-eqb c.args.refusal 0 c.if-refusal-eq0.true)
    (then c.put_member-a.ensures.0 c.put_raw.ensures, omega arith)

pub returns : goal.returns
unfolding verdict
returns c =
    rw (ne_eqb c.args.refusal 0 c.if-refusal-eq0.false, sym c.from.ensures)
    (then c.put_raw-a.ensures c.put_decimal.ensures.0, omega arith)
