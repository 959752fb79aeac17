-- The one form from which every message is written: at each field number whatever a message may have there.
-- These are inner definitions: they follow the code, and no sentence of document 01. An auditor can skip them, since the contract of
-- each writer (as `write_accept` of crates/write_client/src/lib.rt) is by the pieces of its message (crates/write_forms/specs/Draft.antt).
-- What proves them against those: crates/write_message/proofs/Outcomes.antt: `same_wrapped`, `same_outcome`, in the proof of each writer.
use Rattle.std.specs.Prelude.{ℕ, List, [], ◌∷◌, ◌++◌}
use Rattle.wire_message.specs.Message.{Bytes}
use Rattle.write_forms.specs.Pieces.{Piece, some, text, run, elements, encode, packed}
use Rattle.write_forms.specs.Draft.{cut_at}
use Rattle.write_pieces.specs.Parts.{number_piece, time_piece, stamp, around}
use Rattle.write_message.specs.declared.form.Form.{Form}

-- up to the text at 2
abbrev pub first_pieces : Form → List Piece
first_pieces p =
    text 1 p.text_one.now
    ∷ time_piece p.time (stamp p.stamp.seconds p.stamp.nanos)
    ∷ some 1 p.one
    ∷ number_piece p.always 2 p.two
    ∷ text 2 p.text_two.now
    ∷ []

-- the middle: a list of strings, packed numbers, and bytes as they are lent (a run of entries or a string). A message has one
-- of them at most.
abbrev pub middle : Form → Bytes → List ℕ → Bytes
middle p joined ends = elements p.list (cut_at joined 0 ends) ++ (encode (text 1 (packed p.numbers.now)) ++ p.lent.now)

-- from the number at 3 on
abbrev pub last_pieces : Form → List Piece
last_pieces p = some 3 p.three ∷ text 4 p.text_four.now ∷ some 4 p.four ∷ text 5 p.text_five.now ∷ []

-- the whole: the middle m stands by itself, or as the field `inner`
abbrev pub form_pieces : Form → Bytes → List Piece
form_pieces p m = first_pieces p ++ (run (around p.inner m) ∷ last_pieces p)
