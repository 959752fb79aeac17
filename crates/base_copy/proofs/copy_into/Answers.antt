-- The code's two tests are `fits`, one test: lt-leb where one of them fails, le-leb where both hold. A write to a part is a splice: Splice.part_splice.
use Prim.Native.Nat.{◌+◌, ◌<◌}
use native.Mathlib.Omega.{arith}
use mathlib.Core.Path.{◌≡◌, sym}
use mathlib.Core.Bool.{true}
use lib.ListN.{length}
use borrow.Author.Tests.{le-leb, lt-leb}
use Rattle.base_laws.proofs.Splice.{part_splice}
use Rattle.base_copy.specs.Copy.{fits, copied}
use Rattle.base_copy.proofs.copy_into.Goals as goal
use Rattle.base_copy.proofs.copy_into.Goals.{then-area-at-via-then-area-at, then-area-at-via-else-area-at+then-area-at-2}

pub returns-then-area-at : goal.returns-then-area-at
unfolding fits copied
returns-then-area-at c =
    let a = c.args in
    let h : length a.area.now < a.at + length a.bytes.now =
    elim c.then-area-at.branch [ then-area-at-via-then-area-at w ↦ omega arith | then-area-at-via-else-area-at+then-area-at-2 w ↦ omega arith ] in
    let e = lt-leb (a.at + length a.bytes.now) (length a.area.now) h in record { answer = sym e; area = rw e }

pub returns : goal.returns
unfolding fits copied
returns c =
    let a = c.args in
    let e : fits a.area.now a.at a.bytes.now ≡ true = le-leb (a.at + length a.bytes.now) (length a.area.now) (omega arith) in record { answer = sym e; area = rw e (part_splice a.area.now a.at _ _ a.bytes.now c.copy_from_slice.ensures.after (omega arith)) }
