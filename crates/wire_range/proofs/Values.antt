-- An entry has a value where the reader finds one.
use Prim.Native.Nat.{ℕ}
use mathlib.Core.Path.{◌≡◌, refl}
use mathlib.Core.List.{List}
use Rattle.std.specs.Prelude.{Option, Some, None, is_some}
use Rattle.wire_message.specs.Places.{value_at}
use Rattle.wire_message.specs.declared.Value.{Value}
use Rattle.wire_message.specs.declared.Value.TheVariants as held
use Rattle.wire_range.specs.Limits.{is_set}

pub is_set_by : (s : List ℕ) (v : Option Value) → is_some v ≡ is_set (value_at s v)
unfolding value_at is_set
is_set_by s None = refl
is_set_by s (Some (held.Number n)) = refl
is_set_by s (Some (held.String p)) = refl
is_set_by s (Some (held.Strings p)) = refl
is_set_by s (Some (held.Numbers p)) = refl
