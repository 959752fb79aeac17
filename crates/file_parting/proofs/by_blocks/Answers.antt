-- The loop keeps: the bytes before i agree. A block that does not differ is Laws.twice_joined; where one differs the place is
-- parting_from's by Laws.from_there, and where none does it is the end by Laws.at_the_end.
use mathlib.Core.Path.{◌∙◌}
use native.Mathlib.Omega.{arith}
use Rattle.std.proofs.lemmas.Bool.{and_parts}
use Rattle.file_parting.proofs.Laws.{twice_joined, from_there, at_the_end}
use Rattle.file_parting.proofs.by_blocks.Goals as goal

pub loop-i-init : goal.loop-i-init
loop-i-init c = (omega arith, λ j l. absurd (omega arith))

pub returns-then-not-same : goal.returns-then-not-same
returns-then-not-same c =
    let a = c.args in
    c.parting_from.ensures
    ∙ from_there a.a.now a.b.now c.loop-i.i _ c.loop-i.invariant.1 (omega (arith, c.min-at.ensures))
    (omega (arith, c.min-at.ensures, c.requires.1)) (omega (arith, c.min-at.ensures, c.requires.1))

pub loop-i-preserved : goal.loop-i-preserved
loop-i-preserved c =
    let a = c.args in
    let all = and_parts _ _ c.if-not-same.false in (
      omega (arith, c.min-at.ensures, c.requires.0),
      twice_joined a.a.now a.b.now c.loop-i.i _ c.loop-i.invariant.1 (omega (arith, c.min-at.ensures)) (c.same_block.ensures all.0) (c.same_block-in-loop-i.ensures all.1),
    )

pub returns : goal.returns
returns c =
    let a = c.args in
    at_the_end a.a.now a.b.now a.n c.requires.1 (λ j l. c.loop-i.invariant.1 j (omega arith))
