-- The loop keeps: where all so far were the same the bytes so far agree. A turn is Laws.more_agree.
use mathlib.Core.Path.{◌≡◌, subst}
use native.Mathlib.Omega.{arith}
use borrow.Author.Tests.{eqb-true}
use Rattle.std.proofs.lemmas.Bool.{and_parts}
use Rattle.file_parting.specs.Parting.{Agree}
use Rattle.file_parting.proofs.Laws.{more_agree}
use Rattle.file_parting.proofs.same_block.Goals as goal

pub loop-k-init : goal.loop-k-init
loop-k-init c z = λ i l. absurd (omega arith)

pub loop-k-preserved : goal.loop-k-preserved
loop-k-preserved c z =
    let l = c.loop-k in
    let a = c.args in
    let all = and_parts _ _ z in
    more_agree a.a.now a.b.now a.at l.k (l.invariant all.0) (eqb-true _ _ all.1)

pub returns : goal.returns
returns c h =
    let l = c.loop-k in
    let a = c.args in
    let all : l.k ≡ 16 = omega arith in
    subst (Agree a.a.now a.b.now a.at) all (l.invariant h)
