-- A session as 40 bytes: five numbers of eight bytes, most significant first, so that a host in C keeps it between calls.
--   0  the state: 0 new, 1 greeted, 2 logging, 3 events only, 4 closed; 8 more while the point of a restart stands
--   8  the used length      16  the total      24  the greatest lower total      32  the restart's point, 0 where none stands
-- Totals and points are in nanoseconds.
use Rattle.std.specs.Prelude.{ℕ, ◌+◌, ◌-◌, List, [], ◌∷◌, Bool, length, leb, eqb, Option, Some, None}
use Rattle.base_laws.specs.Base.{pick, both}
use Rattle.base_numbers.specs.Eight.{eights, number_at}
use Rattle.file_format.specs.File.{limit}
use Rattle.session_turn.specs.declared.State.{State}
use Rattle.session_turn.specs.declared.State.TheVariants.{New, Greeted, Logging, EventsOnly, Closed}
use Rattle.session.specs.declared.Session.{Session}

-- ---- from a session to its bytes

unfoldable pub state_number : State → ℕ
state_number New = 0
state_number Greeted = 1
state_number Logging = 2
state_number EventsOnly = 3
state_number Closed = 4

unfoldable pub mark_number : Option ℕ → ℕ
mark_number None = 0
mark_number (Some t) = 8

unfoldable pub mark_point : Option ℕ → ℕ
mark_point None = 0
mark_point (Some t) = t

unfoldable pub session_numbers : Session → List ℕ
session_numbers se = (state_number se.state + mark_number se.mark) ∷ se.used ∷ se.total ∷ se.low ∷ mark_point se.mark ∷ []

unfoldable pub session_bytes : Session → List ℕ
session_bytes se = eights (session_numbers se)

-- a slice that a session is kept in, afterwards: one of another length than 40 can't hold it and stays as it was
unfoldable pub kept : Session → List ℕ → List ℕ
kept se slice = pick (eqb (length slice) 40) (session_bytes se) slice

-- ---- from bytes to the session

-- what stands for bytes that are no session
abbrev pub closed : Session
closed = record { state = Closed; used = 0; total = 0; low = 0; mark = None }

unfoldable pub saved_state : ℕ → State
saved_state n = pick (eqb n 0) New (pick (eqb n 1) Greeted (pick (eqb n 2) Logging (pick (eqb n 3) EventsOnly Closed)))

-- 8 and more says that the point stands
unfoldable pub saved_mark : ℕ → ℕ → Option ℕ
saved_mark n t = pick (leb 8 n) (Some t) None

-- are the numbers those of a session: each within document 01's limits, and no point where none stands
unfoldable pub are_session : ℕ → ℕ → ℕ → ℕ → ℕ → Bool
are_session n used total low t =
    both (pick (leb 8 n) (leb n 12) (both (leb n 4) (eqb t 0)))
    (both (leb used 1073741824) (both (leb total limit) (both (leb low limit) (leb t limit))))

unfoldable pub from_numbers : ℕ → ℕ → ℕ → ℕ → ℕ → Session
from_numbers n used total low t =
    pick (are_session n used total low t)
    (record { state = saved_state (pick (leb 8 n) (n - 8) n); used = used; total = total; low = low; mark = saved_mark n t })
    closed

unfoldable pub session_of : List ℕ → Session
session_of s =
    pick (eqb (length s) 40)
    (from_numbers (number_at s 0) (number_at s 8) (number_at s 16) (number_at s 24) (number_at s 32))
    closed
