-- The loop keeps: the words from the index on decide.
use Rattle.std.specs.Prelude.{◌≡◌, map, drop}
use Rattle.conf_lines.specs.Span.{spanned}
use Rattle.conf_typed.specs.Typed.{one_of}
use Rattle.conf_typed.proofs.is_one_of.Given as goal

abbrev pub invariant-loop-word : goal.invariant-loop-word
invariant-loop-word l =
    one_of (spanned l.text l.v) (map (λ w. w.now) (drop l.word-index l.words)) ≡ one_of (spanned l.text l.v) (map (λ w. w.now) l.words)
