-- A refusal 8 puts the key's number (Puts.then), any other nothing.
use Rattle.replay_lines.specs.Wording.{key_text}
use borrow.Author.Tests.{eq-eqb, ne_eqb}
use mathlib.Core.Path.{sym}
use native.Mathlib.Omega.{arith}
use Rattle.base_copy.proofs.Puts.{then, nothing}
use Rattle.replay_lines.proofs.frame.put_key.Goals as goal

pub returns-then-refusal-eq8 : goal.returns-then-refusal-eq8
unfolding key_text
returns-then-refusal-eq8 c =
    rw (eq-eqb c.args.refusal 8 c.if-refusal-eq8.true, sym c.from.ensures)
    (then c.put_raw-a.ensures c.put_decimal.ensures.0, omega arith)

pub returns : goal.returns
unfolding key_text
returns c = let a = c.args in rw (ne_eqb a.refusal 8 c.if-refusal-eq8.false) (nothing a.out.now a.at (omega arith), omega arith)
