-- Field 0 puts nothing, Fields.cover_none; any other is its head, Fields.cover_some.
use Rattle.write_pieces.proofs.Fields.{cover_none, cover_some}
use Rattle.base_copy.proofs.Puts.{nothing}
use native.Mathlib.Omega.{arith}
use lib.ListN.{length}
use mathlib.Core.Path.{ap}
use borrow.Author.Rules.{rules}
use Rattle.write_pieces.proofs.part.put_cover.Goals as goal

pub returns-then-f-eq0 : goal.returns-then-f-eq0
returns-then-f-eq0 c = let a = c.args in rw (cover_none a.f a.n c.if-f-eq0.true) (nothing a.out.now a.at (omega arith))

pub put_head-requires : goal.put_head-requires
put_head-requires c =
    omega (arith, ap length (cover_some c.args.f c.args.n c.if-f-eq0.false))

pub returns : goal.returns
returns c =
    rw (cover_some c.args.f c.args.n c.if-f-eq0.false) (search rules)
