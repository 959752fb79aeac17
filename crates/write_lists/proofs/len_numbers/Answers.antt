-- No numbers are Lengths.like_none, any other Lengths.like_text over len_packed's contract.
use Rattle.write_pieces.proofs.Lengths.{like_none, like_text}
use native.Mathlib.Omega.{arith}
use Rattle.write_lists.proofs.len_numbers.Goals as goal

pub returns-then-n-eq0 : goal.returns-then-n-eq0
returns-then-n-eq0 c = (like_none 1 c.len_packed-n.ensures.0 c.if-n-eq0.true, omega arith)

pub returns : goal.returns
returns c = (like_text 1 c.len_packed-n.ensures.0 c.if-n-eq0.false c.len_head.ensures.0, omega arith)
