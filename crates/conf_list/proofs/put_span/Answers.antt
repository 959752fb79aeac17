-- The loop keeps Spans.Copying: what is put, with the bytes of the span from i on behind it, is all. A turn is copy_more, the end copy_end.
use mathlib.Core.Path.{◌≡◌, subst}
use Prim.Native.Nat.{ℕ, ◌+◌}
use native.Mathlib.Omega.{arith}
use lib.ListN.{set}
use Rattle.base_copy.specs.Put.{Put}
use Rattle.conf_lines.specs.Span.{spanned}
use Rattle.conf_typed.specs.Read.{cased}
use Rattle.conf_lines.specs.Scan.{Stepped}
use Rattle.conf_list.proofs.Spans.{Copying, copy_room, copy_more, copy_end}
use Rattle.conf_list.proofs.put_span.Goals as goal

pub bounds-out-at : goal.bounds-out-at
bounds-out-at c =
    let l = c.loop-i in
    let g = subst (Stepped c.args.text.now l.w) c.in-Byte.is c.next_byte.ensures in
    copy_room l.invariant c.loop-i-test.true _ _ _ g c.cased_byte.ensures c.requires.1

pub loop-i-preserved : goal.loop-i-preserved
loop-i-preserved c =
    let l = c.loop-i in
    let g = subst (Stepped c.args.text.now l.w) c.in-Byte.is c.next_byte.ensures in
    let room = copy_room l.invariant c.loop-i-test.true _ _ _ g c.cased_byte.ensures c.requires.1 in
    let e : c.args.at + l.i + 1 ≡ c.args.at + (l.i + 1) = omega arith in
    subst (λ (o : ℕ). Copying c.args.out.now c.args.at c.args.text.now c.args.in_lower c.args.p.length c.args.p.at (set l.out (c.args.at + l.i) c.cased_byte.result) c.in-Byte.next o (l.i + 1)) e
    (copy_more l.invariant c.loop-i-test.true _ _ _ g c.cased_byte.ensures room)

pub returns : goal.returns
returns c =
    let a = c.args in
    let l = c.loop-i in
    let e : l.i ≡ a.p.length = omega (arith, l.invariant.reading.bound, c.loop-i-test.false) in
    subst (λ (n : ℕ). Put a.out.now a.at (cased a.in_lower (spanned a.text.now a.p)) l.out (a.at + n)) e
    (copy_end l.invariant c.loop-i-test.false c.requires.1)
