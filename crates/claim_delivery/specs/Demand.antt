-- Demand 3, as one statement about the list.
use Rattle.std.specs.Prelude.{ℕ, ◌≤◌, ◌≡◌, Bool, List, length, take}
use Rattle.base_laws.specs.Base.{pick, All}
use Rattle.wire_message.specs.Message.{Bytes}
use Rattle.file_format.specs.File as f
use Rattle.file_format.specs.File.{file_bytes, file_kind}
use Rattle.claim_delivery.specs.Recording.{Recording, Valid, records}
use Rattle.claim_delivery.specs.Host.{WholeRestart}
use Rattle.claim_delivery.specs.World.{World, Event, AllProper, run, fresh, file}

-- "all valid, its delays summing within the limit, its file fitting each area, the areas in range"; blank is what bytes the
-- areas have when fresh
pub record Given (blank : ℕ → Bytes) (R : Recording) : Type 0 where
  pub valid : Valid R
  pub fits : (a : ℕ) → length (file_bytes (records R)) ≤ length (blank a)
  pub in_range_lem : (a : ℕ) → length (blank a) ≤ 1073741824

-- "document 01's openings, bytes, ticks, arrivals and breaks", from fresh areas with these bytes
abbrev pub Listed : Bool → (ℕ → Bytes) → Recording → List Event → Type 0
Listed every blank R es = AllProper R es (fresh every blank)

-- the world after a list
abbrev pub after : Bool → (ℕ → Bytes) → Recording → List Event → World
after every blank R es = run R es (fresh every blank)

-- "Take any recording"; "For every list of document 01's openings, bytes, ticks, arrivals and breaks, refused messages included,
-- from a fresh area with no connection, nobody else writing, whichever byte the line breaks at"
pub record Delivery : Type 0 where
  pub recording : Recording
  pub blank : ℕ → Bytes
  pub given : Given blank recording
  pub events : List Event
  -- both readings of "answers under way"
  pub every : Bool
  pub listed : Listed every blank recording events

-- "after it"
abbrev pub end : Delivery → World
end d = after d.every d.blank d.recording d.events

-- an area's file carries an exit
abbrev pub Carries : World → ℕ → Type 0
Carries w a = file_kind (file w a) ≡ f.finished

pub record Demand3 : Type 0 where
  -- "each area's used bytes are exactly the recording's first n records, in order, n being the count in 01's book"
  pub files : (d : Delivery) (a : ℕ) → file (end d) a ≡ file_bytes (take ((end d).book a) (records d.recording))
  -- and the used length is theirs, in an area that they fill too
  pub lengths : (d : Delivery) (a : ℕ) → (end d).used a ≡ length (file_bytes (take ((end d).book a) (records d.recording)))
  -- "A whole restart is taken exactly when the file carries no exit."; else its refusal is 13, "finished"
  pub restarts : (d : Delivery) → All (λ (r : WholeRestart). r.refusal ≡ pick r.carried 13 0) (end d).restarts
  -- "So a file that carries one holds every record once."
  pub finished : (d : Delivery) (a : ℕ) → Carries (end d) a → file (end d) a ≡ file_bytes (records d.recording)
  -- "Recordings that differ in the accept's bytes or in any later record's values never give the same finished file."
  pub apart : (d e : Delivery) (a b : ℕ) → Carries (end d) a → Carries (end e) b → file (end d) a ≡ file (end e) b → d.recording ≡ e.recording
