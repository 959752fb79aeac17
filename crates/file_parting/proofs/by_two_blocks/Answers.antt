-- The two blocks meet by Laws.joined. Where one differs the place is parting_from's by Laws.from_there, where none does it is the end by
-- Laws.at_the_end.
use mathlib.Core.Path.{◌≡◌, subst, ◌∙◌}
use Prim.Native.Nat.{◌+◌, ◌-◌}
use native.Mathlib.Omega.{arith}
use Rattle.file_parting.specs.Parting.{Agree}
use Rattle.std.proofs.lemmas.Bool.{and_parts}
use Rattle.file_parting.proofs.Laws.{joined, from_there, at_the_end}
use Rattle.file_parting.proofs.by_two_blocks.Goals as goal

pub returns-then-not-same : goal.returns-then-not-same
returns-then-not-same c = c.parting_from.ensures ∙ from_there _ _ 0 0 (λ j l. absurd (omega arith)) (omega arith) (omega arith) (omega arith)

pub returns : goal.returns
returns c =
    let a = c.args in
    let all : a.n - 16 + 16 ≡ a.n = omega (arith, c.requires.0) in
    let same = and_parts _ _ c.if-not-same.false in
    at_the_end a.a.now a.b.now a.n c.requires.2
    (subst (Agree a.a.now a.b.now 0) all
    (joined a.a.now a.b.now 16 (a.n - 16) 16 (c.same_block.ensures same.0) (omega (arith, c.requires.1)) (c.same_block-2.ensures same.1)))
