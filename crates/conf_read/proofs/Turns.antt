-- What a setting does in a section, by the tests of the code. Assumes nothing.
use mathlib.Core.Path.{◌≡◌, refl, sym, ap}
use Prim.Native.Nat.{ℕ}
use Rattle.std.specs.Prelude.{Option, Result, Ok, Err}
use mathlib.Core.Bool.{true, false}
use Rattle.conf_lines.specs.Lines.{Bytes}
use Rattle.conf_lines.specs.Span.{spanned, Within}
use Rattle.conf_lines.specs.declared.span.Span.{Span}
use Rattle.conf_typed.specs.Typed.{Reading, lower, typed_of}
use Rattle.conf_typed.specs.declared.Section.{Section}
use Rattle.conf_typed.specs.declared.Typed.{Typed}
use Rattle.conf_typed.specs.declared.BadValue.{BadValue}
use Rattle.conf_list.specs.Entry.{setting_of, room_for}
use Rattle.conf_list.proofs.Spans.{length_span}
use Rattle.conf_read.specs.Config.{is_unknown, is_wrong, setting_in, values_with}
use Rattle.conf_read.specs.Passes.{tallied, turn_set, setting_turn}
use Rattle.conf_read.specs.Refusals.{bad_value}
use Rattle.conf_read.specs.declared.refusal.ConfRefusal.{ConfRefusal}
use Rattle.conf_read.specs.declared.refusal.ConfRefusal.TheVariants.{NoSection}
use Rattle.conf_read.specs.declared.values.Values.{Values}
use Rattle.conf_read.specs.declared.survey.Tally.{Tally}

pub unknown : (t : Tally) (s : Section) (k v : Bytes) → is_unknown s ≡ true → Err NoSection ≡ setting_turn t s k v
unfolding turn_set setting_in
unknown t s k v e = rw e

pub wrong : (t : Tally) (s : Section) (k v : Bytes) {r : ConfRefusal} {e : BadValue} → r ≡ bad_value → is_unknown s ≡ false
    → Err e ≡ typed_of s (lower k) v → Err r ≡ setting_turn t s k v
unfolding turn_set setting_in
wrong t s k v g u h = rw (g, u, sym h)

module _ (s : Bytes) (t : Tally) (c : Section) (k v : Span) (hk : Within s k) (hv : Within s v) where
  added : {y : Reading} {vs : Values} {r : Result ℕ ℕ} → y ≡ typed_of c (lower (spanned s k)) (spanned s v) → vs ≡ values_with t.values c y → r ≡ room_for t.room c k.length v.length
      → record { values = vs; room = r } ≡ tallied t (setting_of s c k v)
  unfolding tallied
  added h a b = rw (a, b, h, length_span true s k hk, length_span false s v hv) refl

  pub is_set : is_unknown c ≡ false → {y : Option Typed} → Ok y ≡ typed_of c (lower (spanned s k)) (spanned s v)
      → {vs : Values} → vs ≡ values_with t.values c (Ok y) → {r : Result ℕ ℕ} → r ≡ room_for t.room c k.length v.length
      → Ok (record { values = vs; room = r }) ≡ setting_turn t c (spanned s k) (spanned s v)
  unfolding turn_set setting_in
  is_set e {y} h {vs} a {r} b = rw (e, ap is_wrong (sym h)) (ap Ok (added h a b))
