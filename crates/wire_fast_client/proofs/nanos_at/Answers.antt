-- A tag (Plains.tag_there) and a varint that ends the bytes are `Ends`; anything else says nothing.
use native.Mathlib.Omega.{arith}
use mathlib.Core.Path.{sym, ap, ◌∙◌}
use Prim.Native.Nat.{ℕ}
use Rattle.wire_varint.specs.Varint.{read}
use Rattle.wire_fast_client.specs.Plain.{HasTag, Ends}
use Rattle.wire_fast_client.proofs.Plains.{tag_there}
use Rattle.wire_fast_client.proofs.nanos_at.Goals as goal
use Rattle.wire_fast_client.proofs.nanos_at.Goals.{Then-has_tag}

tagged : (c : Then-has_tag) → HasTag c.args.s.now c.args.at 16
tagged c = tag_there _ _ _ (sym c.has_tag.ensures ∙ c.if-has_tag.true) (omega arith)

pub overflow_add-at : goal.overflow_add-at
overflow_add-at c = omega (arith, (tagged c).within, c.well_formed.0)

pub returns-then-next-s : goal.returns-then-next-s
unfolding Ends
returns-then-next-s c = (
  tagged (goal.at.returns-then-next-s c).Then-has_tag,
  sym c.varint_at.ensures ∙ c.in-Ok.is ∙ ap (λ (n : ℕ). read c.in-Ok.field-0.value n) c.if-next-s.true,
)
