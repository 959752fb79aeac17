-- A turn is Laid.one_turn; with room the whole list is laid (Laid.has_room), without it nothing (Laid.no_room).
use mathlib.Core.Path.{refl, ap, ◌∙◌}
use mathlib.Core.List.{List}
use Prim.Native.Nat.{ℕ}
use native.Mathlib.Omega.{arith}
use lib.Seq.{take_all}
use Rattle.base_laws.specs.Base.{splice}
use Rattle.base_numbers.specs.Eight.{eights}
use Rattle.base_numbers.proofs.Laid.{one_turn, has_room, no_room}
use Rattle.base_numbers.proofs.lay.Goals as goal

pub returns-then-out-clause-buffer : goal.returns-then-out-clause-buffer
returns-then-out-clause-buffer g c = (no_room c.args.numbers.now c.args.out.now (omega arith)).1

pub loop-i-init : goal.loop-i-init
unfolding eights splice
loop-i-init g c = refl

pub loop-i-preserved : goal.loop-i-preserved
loop-i-preserved g c =
    let a = c.args in
    one_turn a.out.now c.loop-i.out _ a.numbers.now c.loop-i.i (omega arith) (omega arith) c.loop-i.invariant c.put.ensures

pub returns-clause-buffer : goal.returns-clause-buffer
returns-clause-buffer g c =
    let a = c.args in
    (has_room a.numbers.now a.out.now _ (omega arith) (c.loop-i.invariant ∙ ap (λ (l : List ℕ). splice a.out.now 0 (eights l)) (take_all c.loop-i.i a.numbers.now (omega arith)))).1
