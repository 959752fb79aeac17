-- Seconds alone are Plains.only_seconds, with nanoseconds behind them Plains.seconds_nanos; anything else says nothing.
use native.Mathlib.Omega.{arith}
use mathlib.Core.Path.{sym, ◌∙◌}
use Rattle.wire_fast_client.proofs.Plains.{tag_there, only_seconds, seconds_nanos}
use Rattle.wire_fast_client.specs.Plain.{HasTag}
use Rattle.wire_fast_client.proofs.from_seconds.Goals as goal
use Rattle.wire_fast_client.proofs.from_seconds.Goals.{Then-has_tag}

-- the tag of the seconds is there
tagged : (c : Then-has_tag) → HasTag c.args.s.now 0 8
tagged c = tag_there _ _ _ (sym c.has_tag.ensures ∙ c.if-has_tag.true) (omega arith)

pub returns-then-next-s : goal.returns-then-next-s
returns-then-next-s c =
    only_seconds _ (tagged (goal.at.returns-then-next-s c).Then-has_tag) _ (sym c.varint_at.ensures ∙ c.in-Ok.is) c.if-next-s.true

pub returns-then-has_tag : goal.returns-then-has_tag
returns-then-has_tag c =
    seconds_nanos _ (tagged (goal.at.returns-then-has_tag c).Then-has_tag) _ (sym c.varint_at.ensures ∙ c.in-Ok.is)
    _ c.nanos_at.ensures _ c.in_ok-nanos.was
