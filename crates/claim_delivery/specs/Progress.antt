-- Beyond the letter of demand 3: a sender that has stopped has its whole recording in a file, and from any state that a list can
-- reach it can go on to a finished file and its stop. So a session that refuses all, or answers nothing, does not do.
use Rattle.std.specs.Prelude.{ℕ, ◌<◌, ◌≡◌, true, List, [], ◌++◌, Option, Some, None}
use Rattle.base_laws.specs.Base.{All}
use Rattle.wire_message.specs.Message.{Bytes}
use Rattle.file_format.specs.File.{file_bytes}
use Rattle.claim_values.specs.Values.{TimedRecord}
use Rattle.claim_delivery.specs.Recording.{Recording, records, total_of}
use Rattle.claim_delivery.specs.Sender.{accept, timed, exit, Says}
use Rattle.claim_delivery.specs.Host.{Answer, to_tick, to_message}
use Rattle.claim_delivery.specs.World.{Connection, World, Event, file}
use Rattle.claim_delivery.specs.Demand.{Listed, after, Delivery, end}

-- some message says each of the recording's records. Document 01: "A valid message fits a frame and passes reader, ..".
pub record Sendable (R : Recording) : Type 0 where
  pub accepts : (s : Bytes) × Says s (accept R.accept)
  pub times : All (λ (t : TimedRecord). (s : Bytes) × Says s (timed t)) R.timed
  pub exits : (s : Bytes) × Says s (exit R.exit)

-- what is under way
abbrev pub under_way : Option Connection → List Answer
under_way None = []
under_way (Some c) = c.out

-- a tick's point is never the whole total; an exit's point is
abbrev pub TellsEnd : Recording → Answer → Type 0
TellsEnd R (to_tick T) = T < total_of R.timed
TellsEnd R (to_message k p) = (T : ℕ) → p ≡ Some T → T ≡ total_of R.timed

-- an area's file holds the whole recording
pub record Done (R : Recording) (w : World) : Type 0 where
  pub area : ℕ
  pub whole : file w area ≡ file_bytes (records R)

-- the list goes on to one, and the sender to its stop
pub record GoesOn (d : Delivery) : Type 0 where
  pub more : List Event
  pub listed : Listed d.every d.blank d.recording (d.events ++ more)
  pub done : Done d.recording (after d.every d.blank d.recording (d.events ++ more))
  pub stops : (after d.every d.blank d.recording (d.events ++ more)).stopped ≡ true

pub record Progress : Type 0 where
  -- "It stops at its exit's point or at the refusal "finished"": by then a file holds all
  pub stopped : (d : Delivery) → (end d).stopped ≡ true → Done d.recording (end d)
  -- the sender could tell its exit's point from a tick's by its value
  pub points : (d : Delivery) → All (TellsEnd d.recording) (under_way (end d).connection)
  pub goes_on : (d : Delivery) → Sendable d.recording → GoesOn d
