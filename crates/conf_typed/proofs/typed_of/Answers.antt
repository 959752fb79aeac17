-- Each arm is a case of the definition `typed_of`; in `iolog` what `is_word` returns of `maxseq` decides.
use mathlib.Core.Path.{sym, ap, ◌∙◌}
use Rattle.std.proofs.lemmas.Result.{err_from_is_err_and}
use Rattle.conf_typed.specs.declared.Typed.TheVariants.{Maxseq}
use Rattle.conf_typed.specs.Typed.{read_as, typed_of}
use Rattle.conf_typed.proofs.typed_of.Goals as goal

pub returns-then-is_word : goal.returns-then-is_word
unfolding typed_of
returns-then-is_word c =
    let section = c.in-Iolog.is in
    let t = sym c.is_word.ensures ∙ c.if-is_word.true in
    rw (section, t) (ap (read_as Maxseq) (sym c.in_ok-maxseq_of-in-Iolog.was ∙ c.maxseq_of.ensures))

pub returns-in_err-maxseq_of-in-Iolog : goal.returns-in_err-maxseq_of-in-Iolog
unfolding typed_of
returns-in_err-maxseq_of-in-Iolog c =
    let section = c.in-Iolog.is in
    let t = sym c.is_word.ensures ∙ c.if-is_word.true in
    let p = err_from_is_err_and c.from_residual.result c.from_residual.ensures.1 in
    rw (section, t, p.1) (ap (read_as Maxseq) (sym c.in_err-maxseq_of-in-Iolog.was ∙ c.maxseq_of.ensures))

pub returns-else-is_word : goal.returns-else-is_word
unfolding typed_of
returns-else-is_word c =
    let section = c.in-Iolog.is in
    let t = sym c.is_word.ensures ∙ c.if-is_word.false in
    rw (section, t)
