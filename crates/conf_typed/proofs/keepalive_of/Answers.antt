-- Hands what `is_one_of` returns of the words for true and for false to the definition `keepalive_of`.
use mathlib.Core.Path.{sym, ◌∙◌}
use Rattle.conf_typed.specs.Typed.{keepalive_of}
use Rattle.conf_typed.proofs.keepalive_of.Goals as goal

pub returns-then-is_one_of : goal.returns-then-is_one_of
unfolding keepalive_of
returns-then-is_one_of c = rw (sym c.is_one_of.ensures ∙ c.if-is_one_of.true)

pub returns-then-is_one_of-2 : goal.returns-then-is_one_of-2
unfolding keepalive_of
returns-then-is_one_of-2 c =
    rw (sym c.is_one_of.ensures ∙ c.if-is_one_of.false, sym c.is_one_of-2.ensures ∙ c.if-is_one_of-2.true)

pub returns : goal.returns
unfolding keepalive_of
returns c =
    rw (sym c.is_one_of.ensures ∙ c.if-is_one_of.false, sym c.is_one_of-2.ensures ∙ c.if-is_one_of-2.false)
