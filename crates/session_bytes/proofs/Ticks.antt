-- A tick of a sound session has no point above the limit, whatever slice it was read from.
use Rattle.std.specs.Prelude.{Option, Some, None}
use Prim.Native.Nat.{ℕ, ◌≤◌}
use mathlib.Core.List.{List}
use lib.Dec.{eqb}
use Rattle.base_laws.proofs.Order.{picked}
use Rattle.file_format.specs.File.{limit}
use Rattle.session.specs.Step.{logging_point, point_in, tick}
use Rattle.session_turn.specs.declared.State.{State}
use Rattle.session_turn.specs.declared.State.TheVariants.{New, Greeted, Logging, EventsOnly, Closed}
use Rattle.session.specs.declared.Session.{Session}
use Rattle.session_bytes.specs.Saved.{session_of}
use Rattle.session_bytes.specs.Sound.{MarkSound, Sound}
use Rattle.session_bytes.proofs.Numbers.{loaded_sound}

abbrev pub PointSound : Option ℕ → Type 0
PointSound None = Unit
PointSound (Some t) = t ≤ limit

logging_sound : (m : Option ℕ) (total low : ℕ) → MarkSound m → low ≤ limit → PointSound (logging_point m total low)
unfolding logging_point
logging_sound (Some t) total low h l = h
logging_sound None total low h l = picked PointSound (eqb total 0) None (Some low) (λ _. tt) (λ _. l)

in_state_sound : (st : State) (p : Option ℕ) → PointSound p → PointSound (point_in st p)
unfolding point_in
in_state_sound New p h = tt
in_state_sound Greeted p h = tt
in_state_sound Logging p h = h
in_state_sound EventsOnly p h = tt
in_state_sound Closed p h = tt

pub tick_sound : (se : Session) → Sound se → PointSound (tick se)
unfolding tick
tick_sound se h = in_state_sound se.state (logging_point se.mark se.total se.low) (logging_sound se.mark se.total se.low h.mark h.low)

-- of the session that a slice keeps
pub slice_tick_sound : (s : List ℕ) → PointSound (tick (session_of s))
slice_tick_sound s = tick_sound (session_of s) (loaded_sound s)
