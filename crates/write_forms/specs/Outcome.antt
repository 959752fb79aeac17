-- What a writer returns and what it leaves in the buffer. Document 01: "A writer gives its run's refusal, then 7, then 1 for a
-- message too long, then 12", and "Readers and writers answer with the number and write nothing."
use Rattle.std.specs.Prelude.{ℕ, ◌+◌, List, ◌++◌, Bool, length, ltb, eqb}
use Rattle.base_laws.specs.Base.{pick, splice}
use Rattle.write_forms.specs.Pieces.{front}

-- the refusal of a message of n bytes in a buffer: 1 above 2,097,152, then 12 where it and its frame have no room, else 0
unfoldable pub room_refusal : Bool → ℕ → ℕ → ℕ
room_refusal framed n room = pick (ltb 2097152 n) 1 (pick (ltb room (length (front framed n) + n)) 12 0)

-- the refusal of a writer, by its run's refusal, whether its values are in range, and its message; 0 for none
unfoldable pub refusal : ℕ → Bool → Bool → List ℕ → ℕ → ℕ
refusal r fits framed m room = pick (eqb r 0) (pick fits (room_refusal framed (length m) room) 7) r

-- how many bytes are written: none on a refusal
unfoldable pub size : ℕ → Bool → Bool → List ℕ → ℕ → ℕ
size r fits framed m room = pick (eqb (refusal r fits framed m room) 0) (length (front framed (length m)) + length m) 0

-- the buffer afterwards
unfoldable pub buffer : ℕ → Bool → Bool → List ℕ → List ℕ → List ℕ
buffer r fits framed m out =
    pick (eqb (refusal r fits framed m (length out)) 0) (splice out 0 (front framed (length m) ++ m)) out
