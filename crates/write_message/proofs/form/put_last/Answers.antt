-- As put_first: Puts.rest and Puts.first give each of the four pieces its room, Puts.then joins their puts.
use Rattle.base_copy.proofs.Puts.{then, end}
use Rattle.write_pieces.proofs.Room.{Room, first, rest}
use Rattle.write_message.specs.Form.{last_pieces}
use Rattle.write_message.proofs.form.put_last.Goals as goal
use Rattle.write_message.proofs.form.put_last.Goals.{Start}

-- at the first piece: there is room for all
room : (c : Start) → Room c.args.out.now c.args.at (last_pieces c.args.p.now)
room c = record { fits = c.requires }

pub put_number-a-requires : goal.put_number-a-requires
put_number-a-requires c = first (room (goal.at.put_number-a-requires c).Start)

pub put_text-b-requires : goal.put_text-b-requires
put_text-b-requires c =
    first (rest (room (goal.at.put_text-b-requires c).Start) c.put_number-a.ensures)

pub put_number-c-requires : goal.put_number-c-requires
put_number-c-requires c =
    first (rest (rest (room (goal.at.put_number-c-requires c).Start) c.put_number-a.ensures) c.put_text-b.ensures)

pub put_text-requires : goal.put_text-requires
put_text-requires c =
    let left = rest (rest (room (goal.at.put_text-requires c).Start) c.put_number-a.ensures) c.put_text-b.ensures in
    first (rest left c.put_number-c.ensures)

pub returns : goal.returns
returns c =
    then c.put_number-a.ensures
    (then c.put_text-b.ensures (then c.put_number-c.ensures (end c.put_text.ensures)))
