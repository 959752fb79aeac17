-- By what survey_text returns: Answers.refused; or Answers.whole, and then no_room, or write_list's contract and stored.
use mathlib.Core.Path.{sym, ap, ◌∙◌}
use mathlib.Core.Bool.{not}
use Rattle.std.proofs.lemmas.Result.{err_from_is_err_and}
use Rattle.conf_read.proofs.Answers.{refused, whole, all_good, has_room, no_room, stored}
use Rattle.conf_read.proofs.read_config.Goals as goal

pub returns-in_err-tally : goal.returns-in_err-tally
returns-in_err-tally c =
    let a = c.args in
    let p = err_from_is_err_and c.from_residual.result c.from_residual.ensures.1 in
    let both = refused a.text.now a.out.now _ (sym c.in_err-tally.was ∙ c.survey_text.ensures) in
    record { answer = rw (p.1, p.2) both.0; out = both.1 }

pub returns-then-is_err : goal.returns-then-is_err
returns-then-is_err c =
    let a = c.args in
    let k = whole a.text.now a.out.now _ (sym c.in_ok-tally.was ∙ c.survey_text.ensures) in
    let both = no_room a.text.now a.out.now k (c.is_err.ensures.negation ∙ ap not c.if-is_err.true) in
    record { answer = both.0; out = both.1 }

pub write_list-size-requires : goal.write_list-size-requires
write_list-size-requires c =
    let a = c.args in
    let k = whole a.text.now a.out.now _ (sym c.in_ok-tally.was ∙ c.survey_text.ensures) in
    record { good = all_good a.text.now a.out.now k; room = has_room a.text.now a.out.now k (c.is_err.ensures.negation ∙ ap not c.if-is_err.false) }

pub returns : goal.returns
returns c =
    let a = c.args in
    let k = whole a.text.now a.out.now _ (sym c.in_ok-tally.was ∙ c.survey_text.ensures) in
    let both = stored a.text.now a.out.now k (c.is_err.ensures.negation ∙ ap not c.if-is_err.false) c.write_list-size.ensures in
    record { answer = both.0; out = both.1 }
