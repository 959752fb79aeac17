-- Hands a key that fits to `type_fits`, one that does not to `type_other`, the end to `types_done`.
use Prim.Native.Nat.{◌-◌}
use native.Mathlib.Omega.{arith}
use mathlib.Core.Path.{sym, ◌∙◌}
use Rattle.wire_fields.specs.Items.{items}
use Rattle.wire_message.specs.Message.{entries}
use Rattle.session_entries.proofs.Laws.{type_fits, type_other, types_done}
use Rattle.session_entries.proofs.types_fit.Goals as goal

pub loop-k-preserved : goal.loop-k-preserved
loop-k-preserved c =
    let es = entries c.args.field (items c.args.s.now) in
    (omega arith, sym (type_fits es c.loop-k.k (sym c.if-not-key_fits.ensures) (omega arith)) ∙ c.loop-k.invariant.1)

pub returns-then-not-key_fits : goal.returns-then-not-key_fits
returns-then-not-key_fits c =
    let es = entries c.args.field (items c.args.s.now) in
    let k = c.loop-k.k in
    sym (type_other es k {n = 3 - k} (sym c.if-not-key_fits.ensures) (omega arith)) ∙ c.loop-k.invariant.1

pub returns : goal.returns
returns c = let es = entries c.args.field (items c.args.s.now) in
    sym (types_done es c.loop-k.k (omega arith)) ∙ c.loop-k.invariant.1
