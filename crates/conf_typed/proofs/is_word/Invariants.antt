-- Invariant: the rest of the span against the rest of the word decides. A pair of bytes is Words.word_next or word_other, the end
-- word_done; the line cannot end before the span does.
use mathlib.Core.Path.{◌≡◌}
use lib.ListN.{take, drop}
use Rattle.conf_lines.specs.Span.{joined_from}
use Rattle.conf_typed.specs.Typed.{same}
use Rattle.conf_typed.specs.Read.{cased}
use Rattle.conf_typed.proofs.Reading.{rest, Reading}
use Rattle.conf_typed.proofs.is_word.Given as goal

abbrev pub invariant-loop-expected : goal.invariant-loop-expected
invariant-loop-expected l =
    Reading l.text l.fn.p.length l.expected-index l.w
    × (same (cased l.any_case (rest l.text l.fn.p.length l.expected-index l.w)) (drop l.expected-index l.word) ≡ same (cased l.any_case (take l.fn.p.length (joined_from l.text l.fn.p.at))) l.word)
