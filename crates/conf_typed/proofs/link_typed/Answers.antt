-- Hands what `is_word` returns of both keys to the definition `link_typed`.
use mathlib.Core.Path.{sym, ap, ◌∙◌}
use Rattle.std.proofs.lemmas.Result.{err_from_is_err_and}
use Rattle.conf_typed.specs.Typed.{read_as, link_typed}
use Rattle.conf_typed.specs.declared.Typed.TheVariants.{Timeout, Keepalive}
use Rattle.conf_typed.proofs.link_typed.Goals as goal

pub returns-then-is_word : goal.returns-then-is_word
unfolding link_typed
returns-then-is_word c =
    rw (sym c.is_word.ensures ∙ c.if-is_word.true) (ap (read_as Timeout) (sym c.in_ok-timeout_of.was ∙ c.timeout_of.ensures))

pub returns-in_err-timeout_of : goal.returns-in_err-timeout_of
unfolding link_typed
returns-in_err-timeout_of c =
    let p = err_from_is_err_and c.from_residual.result c.from_residual.ensures.1 in
    rw (sym c.is_word.ensures ∙ c.if-is_word.true, p.1) (ap (read_as Timeout) (sym c.in_err-timeout_of.was ∙ c.timeout_of.ensures))

pub returns-then-is_word-2 : goal.returns-then-is_word-2
unfolding link_typed
returns-then-is_word-2 c =
    let t1 = sym c.is_word.ensures ∙ c.if-is_word.false in
    let t2 = sym c.is_word-2.ensures ∙ c.if-is_word-2.true in
    rw (t1, t2) (ap (read_as Keepalive) (sym c.in_ok-keepalive_of.was ∙ c.keepalive_of.ensures))

pub returns-in_err-keepalive_of : goal.returns-in_err-keepalive_of
unfolding link_typed
returns-in_err-keepalive_of c =
    let t1 = sym c.is_word.ensures ∙ c.if-is_word.false in
    let t2 = sym c.is_word-2.ensures ∙ c.if-is_word-2.true in
    let p = err_from_is_err_and c.from_residual-in_err-keepalive_of.result c.from_residual-in_err-keepalive_of.ensures.1 in
    rw (t1, t2, p.1) (ap (read_as Keepalive) (sym c.in_err-keepalive_of.was ∙ c.keepalive_of.ensures))

pub returns : goal.returns
unfolding link_typed
returns c =
    let t1 = sym c.is_word.ensures ∙ c.if-is_word.false in
    let t2 = sym c.is_word-2.ensures ∙ c.if-is_word-2.false in
    rw (t1, t2)
