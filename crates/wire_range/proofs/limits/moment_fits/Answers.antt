-- The signed comparison of the definition is the unsigned one, Signs.up-to; the rest is date_fits' contract.
use Rattle.wire_range.proofs.Signs.{up_to_lem}
use Rattle.wire_range.specs.Limits.{moment_fits}
use Rattle.wire_message.specs.Places.{time_value}
use Rattle.wire_message.specs.Signed.{int64}
use borrow.Author.Tests.{le-leb, lt-leb}
use lib.Dec.{lit≤}
use Rattle.wire_range.proofs.limits.moment_fits.Goals as goal

pub returns-then-t-le-SECONDS_LIMIT : goal.returns-then-t-le-SECONDS_LIMIT
unfolding moment_fits time_value int64
returns-then-t-le-SECONDS_LIMIT c =
    rw (up_to_lem 4294967295 9223372036854775808 c.args.t.seconds (lit≤ tt), le-leb _ _ c.if-t-le-SECONDS_LIMIT.true)
    c.date_fits.ensures

pub returns-else-t-le-SECONDS_LIMIT : goal.returns-else-t-le-SECONDS_LIMIT
unfolding moment_fits time_value int64
returns-else-t-le-SECONDS_LIMIT c =
    rw (up_to_lem 4294967295 9223372036854775808 c.args.t.seconds (lit≤ tt), lt-leb _ _ c.if-t-le-SECONDS_LIMIT.false)
