-- The line that `replay` prints of a frame, as bytes. Texts in quotes are the page's wording (docs/DECISIONS.md, replay).
use Rattle.std.specs.Prelude.{ℕ, ◌/◌, ◌%◌, List, [], ◌++◌, Bool, Option, Some, None, length, leb, eqb}
use Rattle.base_laws.specs.Base.{pick, splice}
use Rattle.session.specs.Step.{Outcome}
use Rattle.session_turn.specs.declared.State.{State}
use Rattle.replay_text.specs.Words.{text, decimal, nine}
use Rattle.replay_text.specs.Names.{member_name, state_name}

-- ---- the line of a frame

abbrev pub heading : ℕ → List ℕ
heading n = text "frame " ++ decimal n ++ text ": "

-- taken, by its member's name, or refused, by its number
unfoldable pub verdict : ℕ → ℕ → List ℕ
verdict m refusal = pick (eqb refusal 0) (member_name m ++ text " taken") (text "refused " ++ decimal refusal)

-- the state and the used length afterwards
abbrev pub standing : State → ℕ → List ℕ
standing state used = text ", " ++ state_name state ++ text ", used " ++ decimal used

-- the commit point, which an exit in logging has
unfoldable pub point_text : Option ℕ → List ℕ
point_text None = []
point_text (Some t) = text ", commit point " ++ decimal (t / 1000000000) ++ text "." ++ nine (t % 1000000000)

-- the missing key that refusal 8 names
unfoldable pub key_text : ℕ → ℕ → List ℕ
key_text refusal key = pick (eqb refusal 8) (text ", key " ++ decimal key) []

-- the n-th frame, whose message has the member m, and what the session answered to it
unfoldable pub frame_line : ℕ → ℕ → Outcome → List ℕ
frame_line n m o =
    heading n
    ++ verdict m o.refusal
    ++ standing o.session.state o.used
    ++ point_text o.point
    ++ key_text o.refusal o.key
    ++ text "\n"

-- ---- a line in a lent buffer

-- has a buffer room for any line
abbrev pub has_room : List ℕ → Bool
has_room out = leb 256 (length out)

-- the buffer with a line at its start, and the line's length; a shorter buffer stays as it was
unfoldable pub written : List ℕ → List ℕ → List ℕ
written line out = pick (has_room out) (splice out 0 line) out

unfoldable pub line_length : List ℕ → List ℕ → ℕ
line_length line out = pick (has_room out) (length line) 0
