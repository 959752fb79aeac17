-- Hands what `time_spec_in` ensures to `date_fits`, and the low 32 bits to `up_to_lem`.
use Prim.Native.Nat.{◌%◌}
use mathlib.Core.Path.{sym, ap, ◌∙◌}
use lib.Dec.{lit≤}
use Rattle.wire_message.specs.Message.{TimeSpec}
use Rattle.wire_message.specs.Places.{time_value}
use Rattle.wire_message.specs.Signed.{int32}
use Rattle.wire_range.specs.Limits.{date_fits}
use Rattle.wire_range.proofs.Signs.{up_to_lem}
use Rattle.session_fast_accept.proofs.date_seen.Goals as goal

pub returns : goal.returns
unfolding date_fits time_value int32
returns c = let t = c.time_spec_in in
    sym (up_to_lem 999999999 2147483648 (t.result.nanos % 4294967296) (lit≤ tt)) ∙ ap (λ (x : TimeSpec). date_fits x) t.ensures.means
