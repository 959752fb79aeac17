-- The greatest number of 64 bits, which stands for no point of a tick, is no point of any slice's session.
use Rattle.std.specs.Prelude.{Option, Some, None}
use Prim.Native.Nat.{ℕ}
use native.Mathlib.Omega.{arith}
use mathlib.Core.Path.{◌≡◌, refl, subst}
use mathlib.Core.List.{List}
use Rattle.session.specs.Step.{tick}
use Rattle.session.specs.declared.Session.{Session}
use Rattle.session_bytes.specs.Saved.{session_of}
use Rattle.session_bytes.specs.Sound.{Sound}
use Rattle.session_bytes.proofs.Ticks.{PointSound, tick_sound, slice_tick_sound}
use Rattle.c_session.specs.Session.{tick_number}

pub never_a_point : (se : Session) → Sound se → (t : ℕ) → tick se ≡ Some t → t ≡ 18446744073709551615 → ⊥
never_a_point se h t e z = let l = subst PointSound e (tick_sound se h) in omega arith

none_told : (p : Option ℕ) → PointSound p → tick_number p ≡ 18446744073709551615 → p ≡ None
unfolding tick_number
none_told None h e = refl
none_told (Some t) h e = absurd (omega arith)

-- so that number says that there is none
pub tick_none : (s : List ℕ) → tick_number (tick (session_of s)) ≡ 18446744073709551615 → tick (session_of s) ≡ None
tick_none s e = none_told (tick (session_of s)) (slice_tick_sound s) e
