-- The last line that `replay` prints, as bytes. Texts in quotes are the page's wording (docs/DECISIONS.md, replay).
use Rattle.std.specs.Prelude.{ℕ, List, [], ◌++◌, eqb}
use Rattle.base_laws.specs.Base.{pick}
use Rattle.wire_frame.specs.Frame.{refusal_of}
use Rattle.wire_frame.specs.declared.Cut.TheVariants as cut
use Rattle.replay_text.specs.Words.{text, decimal}
use Rattle.replay_lines.specs.declared.end.End.{End}
use Rattle.replay_lines.specs.declared.end.End.TheVariants as end

unfoldable pub end_text : End → List ℕ
end_text (end.Input left) = pick (eqb left 0) [] (text ", " ++ decimal left ++ text " bytes left over")
end_text (end.Beyond size window) =
    text ", then a frame of " ++ decimal size ++ text " bytes, beyond the window of " ++ decimal window
end_text end.Refused = text ", then refused " ++ decimal (refusal_of cut.Refused)
end_text end.Unread = text ", then the input could not be read"

unfoldable pub end_line : ℕ → End → List ℕ
end_line n e = text "end: " ++ decimal n ++ text " frames" ++ end_text e ++ text "\n"
