-- A framed message puts the four bytes of its length, put_raw's contract; any other puts nothing, Puts.nothing.
use native.Mathlib.Omega.{arith}
use borrow.Author.Rules.{rules}
use Rattle.write_forms.specs.Pieces.{front}
use Rattle.base_copy.proofs.Puts.{nothing}
use Rattle.write_pieces.proofs.part.put_front.Goals as goal

pub put_raw-requires : goal.put_raw-requires
unfolding front
put_raw-requires c = omega (arith, simp c.if-framed.true at c.requires)

pub returns-then-framed : goal.returns-then-framed
unfolding front
returns-then-framed c = rw c.if-framed.true (search rules)

pub returns : goal.returns
unfolding front
returns c = rw c.if-framed.false (nothing c.args.out.now 0 (omega arith))
