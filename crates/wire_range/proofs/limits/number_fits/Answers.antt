-- The number means what the item reads (Items.number_means), and its signed comparison is the unsigned one (Signs.up-to).
use Rattle.wire_range.proofs.Signs.{up_to_lem}
use Rattle.wire_fields.proofs.Items.{number_means}
use Rattle.wire_message.specs.Signed.{int32}
use Prim.Native.Nat.{◌%◌}
use native.Mathlib.Omega.{arith}
use mathlib.Core.Path.{sym}
use Rattle.wire_range.proofs.limits.number_fits.Goals as goal

pub returns : goal.returns
unfolding int32
returns c =
    let a = c.args in
    rw (← number_means a.s.now a.number, ← c.number_in.ensures)
    (sym (up_to_lem a.most 2147483648 (c.number_in.result % 4294967296) (omega arith)))
