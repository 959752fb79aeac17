-- Each line computes to the one that is shown. Assumes nothing.
use mathlib.Core.Path.{refl}
use Rattle.replay_lines.specs.Examples.{LineExamples}
use Rattle.wire_frame.specs.Frame.{refusal_of}
use Rattle.replay_text.specs.Words.{decimal_digits, decimal}
use Rattle.replay_text.specs.Names.{member_name, state_name}
use Rattle.replay_lines.specs.Wording.{verdict, point_text, key_text, frame_line}
use Rattle.replay_lines.specs.Ending.{end_text, end_line}

pub line_examples : LineExamples
unfolding refusal_of decimal_digits decimal member_name state_name verdict point_text key_text frame_line end_text end_line
line_examples =
    record { taken = refl; exit = refl; refused = refl; missing = refl; whole = refl; left = refl; beyond = refl; too_long = refl }
