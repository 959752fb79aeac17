-- By whether there was a `=` before, and whether a blank stands at the start of the value: the cases of Sees.
use mathlib.Core.Path.{sym, ◌∙◌}
use Rattle.conf_content.proofs.Sees.{none_opens, none_still, value_moves, value_inside, value_stays}
use Rattle.conf_content.proofs.equals_with.Goals.{else-is_blank-via-then-is_blank+else-e-m, else-is_blank-via-else-is_blank}
use Rattle.conf_content.proofs.equals_with.Goals as goal

pub returns-then-b-eq61 : goal.returns-then-b-eq61
returns-then-b-eq61 c = none_opens c.args.m c.args.b c.in_default.is c.if-b-eq61.true

pub returns-in_default : goal.returns-in_default
returns-in_default c = none_still c.args.m c.args.b c.in_default.is c.if-b-eq61.false

pub returns-then-e-m : goal.returns-then-e-m
returns-then-e-m c = value_moves c.args.m c.args.b c.in-Some.is (sym c.is_blank.ensures ∙ c.if-is_blank.true) c.if-e-m.true

pub returns : goal.returns
returns c =
    elim c.else-is_blank.branch [
      | else-is_blank-via-then-is_blank+else-e-m w ↦ value_inside c.args.m c.args.b c.in-Some.is (sym c.is_blank.ensures ∙ w.if-is_blank.true) w.if-e-m.false
      | else-is_blank-via-else-is_blank w ↦ value_stays c.args.m c.args.b c.in-Some.is (sym c.is_blank.ensures ∙ w.if-is_blank.false)
    ]
