-- By the tests of the definition `room_in`: Entries.long_key, long_value, no_room and room_left, over the contract of `name`.
use mathlib.Core.Path.{ap}
use lib.ListN.{length}
use Rattle.conf_list.proofs.Entries.{long_key, long_value, no_room, room_left}
use Rattle.conf_list.proofs.room_behind.Goals as goal

pub returns-then-key-gt4294967295 : goal.returns-then-key-gt4294967295
returns-then-key-gt4294967295 c =
    let a = c.args in
    long_key a.left a.section a.key a.value c.if-key-gt4294967295.true

pub returns-then-value-gt4294967295 : goal.returns-then-value-gt4294967295
returns-then-value-gt4294967295 c =
    let a = c.args in
    long_value a.left a.section a.key a.value c.if-key-gt4294967295.false c.if-value-gt4294967295.true

pub returns-then-left-size : goal.returns-then-left-size
returns-then-left-size c =
    let a = c.args in
    no_room a.left a.section a.key a.value c.if-key-gt4294967295.false c.if-value-gt4294967295.false (ap length c.name.ensures)
    c.if-left-size.true

pub returns : goal.returns
returns c =
    let a = c.args in
    room_left a.left a.section a.key a.value c.if-key-gt4294967295.false c.if-value-gt4294967295.false (ap length c.name.ensures)
    c.if-left-size.false
