-- Each case of the check, then of entries_fit, is one of `run_refusal`.
use Rattle.write_forms.specs.Run.{run_refusal}
use Rattle.wire.specs.Read.{check_number}
use mathlib.Core.Path.{sym, ◌∙◌}
use Rattle.write_run.proofs.run_refusal.Goals as goal

pub returns-then-entries_fit : goal.returns-then-entries_fit
unfolding run_refusal check_number
returns-then-entries_fit c =
    let fine = sym c.run_check.ensures ∙ c.in-Ok.is in
    rw (fine, sym c.entries_fit.ensures ∙ c.if-entries_fit.true)

pub returns-in-Err : goal.returns-in-Err
unfolding run_refusal check_number
returns-in-Err c = rw (sym c.run_check.ensures ∙ c.in-Err.is) c.from.ensures

pub returns-else-entries_fit : goal.returns-else-entries_fit
unfolding run_refusal check_number
returns-else-entries_fit c =
    let fine = sym c.run_check.ensures ∙ c.in-Ok.is in
    rw (fine, sym c.entries_fit.ensures ∙ c.if-entries_fit.false)
