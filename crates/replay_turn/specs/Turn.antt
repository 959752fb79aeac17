-- What a replay does with the bytes at hand.
use Rattle.std.specs.Prelude.{ℕ, ◌+◌, List, [], ltb}
use Rattle.base_laws.specs.Base.{pick, part}
use Rattle.session.specs.Step.{Outcome, new_session, step}
use Rattle.replay_text.specs.Names.{shown_member}
use Rattle.replay_lines.specs.Wording.{frame_line}
use Rattle.replay_lines.specs.Ending.{end_line}
use Rattle.replay_lines.specs.declared.end.End.TheVariants as end
use Rattle.replay_window.specs.Window.{next_of}
use Rattle.replay_window.specs.declared.Next.{Next}
use Rattle.replay_window.specs.declared.Next.TheVariants.{Wait, Frame, Beyond, Refused}
use Rattle.replay_turn.specs.declared.Replay.{Replay}

-- what a turn gives: the replay afterwards, the decision, the line to print, the area
pub record Turned : Type 0 where
  pub replay : Replay
  pub next : Next
  pub line : List ℕ
  pub area : List ℕ

abbrev pub started : Replay
started = record { session = new_session; used = 0; frames = 0 }

-- frames are counted up to the greatest number of 64 bits
unfoldable pub frame_counted : ℕ → ℕ
frame_counted n = pick (ltb n 18446744073709551615) (n + 1) n

-- a frame of this size is handed to the session, whatever the session answered before, with the used length last answered
module _ (re : Replay) (s area : List ℕ) (size : ℕ) where
  abbrev pub frame_answer : Outcome
  frame_answer = step re.session area re.used (part s 4 size)

  unfoldable pub handed : Turned
  handed = record {
    replay = record { session = frame_answer.session; used = frame_answer.used; frames = frame_counted re.frames };
    next = Frame size;
    line = frame_line (frame_counted re.frames) (shown_member (part s 4 size)) frame_answer;
    area = frame_answer.area;
  }

unfoldable pub by_next : Replay → List ℕ → ℕ → List ℕ → Next → Turned
by_next re s window area Wait = record { replay = re; next = Wait; line = []; area = area }
by_next re s window area (Frame size) = handed re s area size
by_next re s window area (Beyond size) =
    record { replay = re; next = Beyond size; line = end_line re.frames (end.Beyond size window); area = area }
by_next re s window area Refused = record { replay = re; next = Refused; line = end_line re.frames end.Refused; area = area }

-- the bytes at hand s, in a window of a size
unfoldable pub turned : Replay → List ℕ → ℕ → List ℕ → Turned
turned re s window area = by_next re s window area (next_of s window)
