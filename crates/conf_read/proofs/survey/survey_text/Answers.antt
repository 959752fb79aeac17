-- The loop keeps: from its place on the pass gives what it gives of the whole text. It starts by Ends.survey_starts, goes on by survey_line's
-- contract, and ends by Ends.survey_ends.
use mathlib.Core.Path.{sym, subst, ◌∙◌}
use native.Mathlib.Omega.{arith}
use Rattle.conf_read.specs.Passes.{Surveys}
use Rattle.conf_read.proofs.Ends.{survey_starts, survey_ends}
use Rattle.conf_read.proofs.survey.survey_text.Goals as goal

pub loop-p-init : goal.loop-p-init
loop-p-init c =
    let a = c.args in
    let e = c.at.ensures in
    survey_starts a.text.now a.room c.at.result e.place e.feeds c.start_tally.ensures

pub loop-p-smaller : goal.loop-p-smaller
loop-p-smaller c =
    let s = c.args.text.now in
    let f = subst (Surveys s c.loop-p.p) c.in_ok-p.was c.survey_line.ensures in
    omega (arith, f.moved, c.loop-p-test.true)

pub loop-p-preserved : goal.loop-p-preserved
loop-p-preserved c =
    let s = c.args.text.now in
    let f = subst (Surveys s c.loop-p.p) c.in_ok-p.was c.survey_line.ensures in
    sym f.same ∙ c.loop-p.invariant

pub returns : goal.returns
returns c =
    let s = c.args.text.now in
    sym (survey_ends s c.loop-p.p c.loop-p-test.false) ∙ c.loop-p.invariant
