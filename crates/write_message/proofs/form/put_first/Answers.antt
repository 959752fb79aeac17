-- Puts.rest takes the room for all the pieces past each that is put, Puts.first gives the next its own; the five puts are joined by Puts.then.
use Rattle.base_copy.proofs.Puts.{then, end}
use Rattle.write_pieces.proofs.Room.{Room, first, rest}
use Rattle.write_message.specs.Form.{first_pieces}
use Rattle.write_message.proofs.form.put_first.Goals as goal
use Rattle.write_message.proofs.form.put_first.Goals.{Start}

-- at the first piece: there is room for all
room : (c : Start) → Room c.args.out.now c.args.at (first_pieces c.args.p.now)
room c = record { fits = c.requires }

pub put_text-a-requires : goal.put_text-a-requires
put_text-a-requires c = first (room (goal.at.put_text-a-requires c).Start)

pub put_time-b-requires : goal.put_time-b-requires
put_time-b-requires c =
    first (rest (room (goal.at.put_time-b-requires c).Start) c.put_text-a.ensures)

pub put_number-c-requires : goal.put_number-c-requires
put_number-c-requires c =
    first (rest (rest (room (goal.at.put_number-c-requires c).Start) c.put_text-a.ensures) c.put_time-b.ensures)

pub put_number-d-requires : goal.put_number-d-requires
put_number-d-requires c =
    let left = rest (rest (room (goal.at.put_number-d-requires c).Start) c.put_text-a.ensures) c.put_time-b.ensures in
    first (rest left c.put_number-c.ensures)

pub put_text-requires : goal.put_text-requires
put_text-requires c =
    let left = rest (rest (room (goal.at.put_text-requires c).Start) c.put_text-a.ensures) c.put_time-b.ensures in
    first (rest (rest left c.put_number-c.ensures) c.put_number-d.ensures)

pub returns : goal.returns
returns c =
    let numbers = then c.put_number-c.ensures (then c.put_number-d.ensures (end c.put_text.ensures)) in
    then c.put_text-a.ensures (then c.put_time-b.ensures numbers)
