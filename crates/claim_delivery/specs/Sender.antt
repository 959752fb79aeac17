-- The sender. The request: "After a break its sender resumes with a valid restart at the latest commit point it received, in that
-- point's area, then sends all records with a greater total, and the exit; having received none, it begins in a fresh area."
use Rattle.std.specs.Prelude.{ℕ, ◌≤◌, ◌≡◌, Bool, true, false, List, [], ◌∷◌, ◌++◌, map, length, Option, Some, None}
use Rattle.wire_fields.specs.Items.{items}
use Rattle.wire_message.specs.Message as m
use Rattle.wire_message.specs.Message.{Bytes, Exit, Restart, Client, accept_msg, exit_msg, restart_msg, hello_msg}
use Rattle.wire_range.specs.Range.{restart_fits}
use Rattle.wire.specs.Read.{value, client_message, received}
use Rattle.session.specs.Step.{moment}
use Rattle.claim_values.specs.Values.{TimedRecord, timed_member}
use Rattle.claim_delivery.specs.Recording.{Recording, greater}

-- a commit point, in nanoseconds, with the area that it is about
pub record Place : Type 0 where
  pub area : ℕ
  pub at : ℕ

-- what a message of this sender says
pub data Sent : Type 0 where
  hello : Sent
  accept : Bytes → Sent
  restart : ℕ → Sent
  timed : TimedRecord → Sent
  exit : Exit → Sent

-- some timed records, "and the exit"
unfoldable pub rest : Recording → List TimedRecord → List Sent
rest R ts = map timed ts ++ (exit R.exit ∷ [])

-- the sender's messages, by the latest commit point it received
unfoldable pub messages : Recording → Option Place → List Sent
messages R None = accept R.accept ∷ rest R R.timed
messages R (Some p) = restart p.at ∷ rest R (greater 0 p.at R.timed)

-- "a valid hello or none"
abbrev pub with_hello : Bool → List Sent → List Sent
with_hello true ms = hello ∷ ms
with_hello false ms = ms

-- ---- "in any frames that give its records": any message whose reading is this one

-- it fits a frame and passes the reader
pub record Reads (s : Bytes) (c : Client) : Type 0 where
  pub fits : length s ≤ 2097152
  pub read : client_message s ≡ value c

-- "a valid restart", at T
pub record SaysRestart (s : Bytes) (T : ℕ) : Type 0 where
  pub values : Restart
  pub reads : Reads s (restart_msg values)
  pub in_range_lem : restart_fits values ≡ true
  pub is_at : moment values.resume_point ≡ T

-- ranges and entries of the recording's own messages are said once, of the recording
abbrev pub Says : Bytes → Sent → Type 0
Says s hello = (id : Bytes) × Reads s (hello_msg id)
Says s (accept d) = Reads s (accept_msg (m.accept (items d))) × (received s ≡ d)
Says s (restart T) = SaysRestart s T
Says s (timed t) = Reads s (timed_member t)
Says s (exit e) = Reads s (exit_msg e)

abbrev pub Lines : List Bytes → List Sent → Type 0
Lines [] [] = Unit {0}
Lines [] (m ∷ ms) = ⊥
Lines (b ∷ bs) [] = ⊥
Lines (b ∷ bs) (m ∷ ms) = Says b m × Lines bs ms
