-- The signed comparison of the definition is the unsigned one: Signs.up-to.
use Rattle.wire_range.proofs.Signs.{up_to_lem}
use Rattle.wire_range.specs.Limits.{date_fits}
use Rattle.wire_message.specs.Places.{time_value}
use Rattle.wire_message.specs.Signed.{int32}
use Prim.Native.Nat.{◌%◌}
use lib.Dec.{lit≤}
use mathlib.Core.Path.{sym}
use Rattle.wire_range.proofs.limits.date_fits.Goals as goal

pub returns : goal.returns
unfolding date_fits time_value int32
returns c = sym (up_to_lem 999999999 2147483648 (c.args.t.nanos % 4294967296) (lit≤ tt))
