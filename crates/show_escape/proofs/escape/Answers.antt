-- By the test that fits_in answers: a text with room is Texts.stored, over put_text's contract, any other Texts.no_room.
use Rattle.show_escape.proofs.Texts.{room, stored, no_room}
use Rattle.show_escape.proofs.escape.Goals as goal

pub put_text-requires : goal.put_text-requires
put_text-requires c =
    let a = c.args in
    room a.«data».now a.out.now c.fits_in.ensures c.min.ensures c.if-fits_in.true

pub returns-then-fits_in : goal.returns-then-fits_in
returns-then-fits_in c =
    let both = let a = c.args in
    stored a.«data».now a.out.now c.fits_in.ensures c.min.ensures c.if-fits_in.true
    c.put_text.ensures in record { answer = both.0; out = both.1 }

pub returns-else-fits_in : goal.returns-else-fits_in
returns-else-fits_in c =
    let both = let a = c.args in
    no_room a.«data».now a.out.now c.fits_in.ensures c.min.ensures c.if-fits_in.false in record { answer = both.0; out = both.1 }
