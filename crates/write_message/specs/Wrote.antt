-- What a writer returns, in the types of the code: how many bytes it wrote, or why it refused.
use Rattle.std.specs.Prelude.{ℕ, ◌≡◌, List, Bool, Result, Ok, Err, length, eqb}
use Rattle.base_laws.specs.Base.{pick}
use Rattle.write_forms.specs.Outcome.{room_refusal, refusal, size, buffer}
use Rattle.write_message.specs.declared.outcome.WriteError.{WriteError}
use Rattle.write_message.specs.declared.outcome.WriteError.TheVariants.{Run, Range, TooLong, NoRoom}

-- the refusal by its number in document 01
abbrev pub number_of : WriteError → ℕ
number_of (Run r) = r
number_of Range = 7
number_of TooLong = 1
number_of NoRoom = 12

-- the refusal n of a writer whose run's refusal is r
abbrev pub error_of : ℕ → ℕ → WriteError
error_of r n = pick (eqb r 0) (pick (eqb n 7) Range (pick (eqb n 1) TooLong NoRoom)) (Run n)

-- how many bytes are written, or the refusal, by a run's refusal, whether the values are in range, and the message
abbrev pub wrote : ℕ → Bool → Bool → List ℕ → ℕ → Result ℕ WriteError
wrote r fits framed m room =
    pick (eqb (refusal r fits framed m room) 0) (Ok (size r fits framed m room)) (Err (error_of r (refusal r fits framed m room)))

-- the same of the room alone, of a message of n bytes
abbrev pub room_for : Bool → ℕ → ℕ → Result Unit WriteError
room_for framed n room = pick (eqb (room_refusal framed n room) 0) (Ok tt) (Err (error_of 0 (room_refusal framed n room)))

-- the answer w, and the buffer before and after
pub record WriteOutcome (r : ℕ) (fits framed : Bool) (m out : List ℕ) (w : Result ℕ WriteError) (out' : List ℕ) : Type 0 where
  pub answer : w ≡ wrote r fits framed m (length out)
  pub leaves : out' ≡ buffer r fits framed m out
