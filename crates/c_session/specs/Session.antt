-- What the session's functions for C return.
use Rattle.std.specs.Prelude.{ℕ, List, [], ◌∷◌, length, leb, Option, Some, None, Result, Ok, Err}
use Rattle.base_laws.specs.Base.{pick}
use Rattle.wire_message.specs.Message.{Bytes}
use Rattle.base_numbers.specs.Eight.{laid}
use Rattle.session.specs.Step.{Outcome, refuse, step}
use Rattle.session.specs.Refusals.{number_of}
use Rattle.session.specs.declared.Refusal.{Refusal}
use Rattle.session.specs.declared.FileCheck.{FileCheck}
use Rattle.session.specs.declared.FileCheck.TheVariants as check
use Rattle.session_bytes.specs.Saved.{state_number, session_of, kept}

unfoldable pub has_point : Option ℕ → ℕ
has_point None = 0
has_point (Some t) = 1

unfoldable pub point_number : Option ℕ → ℕ
point_number None = 0
point_number (Some t) = t

-- a message's answer beside its refusal: the used length, the key that refusal 8 names, whether there is a point, the point in
-- nanoseconds, and the state that the session is in
unfoldable pub answer_numbers : Outcome → List ℕ
answer_numbers o = o.used ∷ o.key ∷ has_point o.point ∷ point_number o.point ∷ state_number o.session.state ∷ []

-- one message. Where its five numbers have no room in `out` it is refused with 12 and not looked at: this 12 is of the call's own room, and
-- comes before all other refusals
module _ (slice message area : Bytes) (used : ℕ) (out : Bytes) where
  unfoldable pub stepped : Outcome
  stepped = pick (leb 40 (length out)) (step (session_of slice) area used message) (refuse (session_of slice) area used 12 0)

  unfoldable pub message_answer : ℕ
  message_answer = stepped.refusal

  unfoldable pub message_slice : Bytes
  message_slice = kept stepped.session slice

  unfoldable pub message_area : Bytes
  message_area = stepped.area

  unfoldable pub message_out : Bytes
  message_out = laid (answer_numbers stepped) out

-- a tick's point in nanoseconds; the greatest number of 64 bits for none, which no point is
unfoldable pub tick_number : Option ℕ → ℕ
tick_number None = 18446744073709551615
tick_number (Some t) = t

-- what the used bytes of an area are as a file: 0 unfinished, 1 finished, or 15
unfoldable pub file_number : Result FileCheck Refusal → ℕ
file_number (Ok check.Unfinished) = 0
file_number (Ok check.Finished) = 1
file_number (Err r) = number_of r
