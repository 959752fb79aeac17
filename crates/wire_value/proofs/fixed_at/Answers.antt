-- Each case is a test of `fixed_at`: room, or none, from the start or for the width.
use Rattle.base_laws.proofs.Tests.{tests}
use Prim.Native.Nat.{◌-◌, ◌<◌}
use lib.ListN.{length}
use borrow.Author.Tests.{lt-leb}
use native.Mathlib.Omega.{arith}
use Rattle.wire_value.specs.Field.{fixed_at}
use Rattle.wire_value.proofs.fixed_at.Goals as goal
use Rattle.wire_value.proofs.fixed_at.Goals.{else-from-s-via-then-from-s+else-width-s, else-from-s-via-else-from-s}

pub returns-then-width-s : goal.returns-then-width-s
unfolding fixed_at
returns-then-width-s c = search tests

pub returns-else-from-s : goal.returns-else-from-s
unfolding fixed_at
returns-else-from-s c =
    let short : length c.args.s.now - c.args.from < c.args.width =
    elim c.else-from-s.branch [ else-from-s-via-then-from-s+else-width-s w ↦ omega arith | else-from-s-via-else-from-s w ↦ omega arith ]
    in
    rw (lt-leb _ _ short)
