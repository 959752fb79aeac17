-- The loop keeps: the words from the index on decide. A word is Sections.word_here or word_behind, the end no_word.
use mathlib.Core.Path.{sym, ◌∙◌}
use Rattle.conf_typed.proofs.Sections.{word_here, word_behind, no_word}
use Rattle.conf_typed.proofs.is_one_of.Goals as goal

pub loop-word-preserved : goal.loop-word-preserved
loop-word-preserved c =
    word_behind _ c.args.words.now _ _ c.loop-word-test.true (sym c.is_word.ensures ∙ c.if-is_word.false) ∙ c.loop-word.invariant

pub returns-then-is_word : goal.returns-then-is_word
returns-then-is_word c =
    word_here _ c.args.words.now _ _ c.loop-word-test.true (sym c.is_word.ensures ∙ c.if-is_word.true) ∙ c.loop-word.invariant

pub returns : goal.returns
returns c = no_word _ c.args.words.now _ c.loop-word-test.false ∙ c.loop-word.invariant
