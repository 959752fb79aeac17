-- By what read_config returns: Answers.read, refused or no_room; Answers.no_numbers before it.
use mathlib.Core.Path.{ap, ◌∙◌}
use Rattle.std.specs.Prelude.{Err}
use Rattle.c_config.proofs.Answers.{no_numbers, read, refused, no_room}
use Rattle.c_config.proofs.sudolog_read_config.Goals as goal

pub returns-then-numbers-lt56 : goal.returns-then-numbers-lt56
returns-then-numbers-lt56 c = let both = let a = c.args in no_numbers a.text.now a.out.now a.numbers.now c.if-numbers-lt56.true in record { answer = both.0; out = both.1.0; numbers = both.1.1 }

pub returns-in-Ok : goal.returns-in-Ok
returns-in-Ok c =
    let both = let a = c.args in
    let e = c.read_config.ensures in
    read a.text.now a.out.now a.numbers.now c.if-numbers-lt56.false e.answer e.out c.in-Ok.is c.put_seven.ensures in record { answer = both.0; out = both.1.0; numbers = both.1.1 }

pub returns-in-Err-Refused : goal.returns-in-Err-Refused
returns-in-Err-Refused c =
    let both = let a = c.args in
    let e = c.read_config.ensures in
    refused a.text.now a.out.now a.numbers.now c.if-numbers-lt56.false e.answer e.out (c.in-Err-Refused.is ∙ ap Err c.in-Err-Refused.field-0-is)
    c.from.ensures c.default_values.ensures c.put_seven-in-Err-Refused.ensures in record { answer = both.0; out = both.1.0; numbers = both.1.1 }

pub returns-in-Err-NoRoom : goal.returns-in-Err-NoRoom
returns-in-Err-NoRoom c =
    let both = let a = c.args in
    let e = c.read_config.ensures in
    no_room a.text.now a.out.now a.numbers.now c.if-numbers-lt56.false e.answer e.out (c.in-Err-NoRoom.is ∙ ap Err c.in-Err-NoRoom.field-0-is) in record { answer = both.0; out = both.1.0; numbers = both.1.1 }
