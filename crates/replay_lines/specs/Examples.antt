-- Whole lines, each shown of the definitions.
use Rattle.std.specs.Prelude.{ℕ, ◌≡◌, [], Option, Some, None}
use Rattle.session.specs.Step.{Outcome}
use Rattle.session_turn.specs.declared.State.{State}
use Rattle.session_turn.specs.declared.State.TheVariants.{Logging, Closed}
use Rattle.replay_text.specs.Words.{text}
use Rattle.replay_lines.specs.Wording.{frame_line}
use Rattle.replay_lines.specs.Ending.{end_line}
use Rattle.replay_lines.specs.declared.end.End.TheVariants as end

-- an answer, by what a line shows of it
abbrev pub answer : ℕ → ℕ → Option ℕ → State → ℕ → Outcome
answer refusal key p state used = record {
  refusal = refusal;
  key = key;
  point = p;
  session = record { state = state; used = used; total = 0; low = 0; mark = None };
  used = used;
  area = [];
}

pub record LineExamples : Type 0 where
  pub taken : frame_line 3 7 (answer 0 0 None Logging 520) ≡ text "frame 3: ttyout_buf taken, logging, used 520\n"
  pub exit :
      frame_line 11 3 (answer 0 0 (Some 3000000000) Closed 533)
      ≡ text "frame 11: exit_msg taken, closed, used 533, commit point 3.000000000\n"
  pub refused : frame_line 4 7 (answer 9 0 None Closed 520) ≡ text "frame 4: refused 9, closed, used 520\n"
  pub missing : frame_line 2 1 (answer 8 2 None Closed 0) ≡ text "frame 2: refused 8, closed, used 0, key 2\n"
  pub whole : end_line 17 (end.Input 0) ≡ text "end: 17 frames\n"
  pub left : end_line 17 (end.Input 3) ≡ text "end: 17 frames, 3 bytes left over\n"
  pub beyond : end_line 17 (end.Beyond 70004 65536) ≡ text "end: 17 frames, then a frame of 70004 bytes, beyond the window of 65536\n"
  pub too_long : end_line 17 end.Refused ≡ text "end: 17 frames, then refused 1\n"
