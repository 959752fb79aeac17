-- What an area holds over all its connections, and that what a session carries is its file's. Document 01: "From accept or restart on
-- the session carries used length, total, the greatest lower total and restart point, so a tick reads no area. A stored record is said
-- over these for any area bytes; statements about the whole file need a host that hasn't changed the used bytes since." These are the
-- statements about the whole file.
use Rattle.std.specs.Prelude.{ℕ, ◌≤◌, ◌<◌, ◌≡◌, ◌⊎◌, true, List, ◌++◌, length, take, get_or, Some, None}
use Rattle.base_laws.specs.Base.{All}
use Rattle.wire_message.specs.Message.{Bytes, Exit, Client, exit_msg}
use Rattle.wire.specs.Read.{value, client_message, received}
use Rattle.file_format.specs.Record.{Record}
use Rattle.file_format.specs.File as file
use Rattle.file_format.specs.File.{records_of, file_bytes, total, low_total, unfinished, finished, records_kind}
use Rattle.file_store.specs.Store.{fits_header}
use Rattle.session.specs.Step as session
use Rattle.session.specs.Step.{Outcome, record_for}
use Rattle.session_turn.specs.declared.State.{State}
use Rattle.session_turn.specs.declared.State.TheVariants.{New, Greeted, Logging, EventsOnly, Closed}
use Rattle.claim_agreement.specs.Calls.{Call, Host, answered, after, after_all, begin}

-- ---- what an area holds, whatever state its session is in

abbrev pub AreBytes : Bytes → Type 0
AreBytes s = (i : ℕ) → get_or s i 0 < 256

-- the used bytes are a valid file. Document 01: "A file is valid when it reads so to its end, with all ranges above kept"; "An unfinished
-- valid file has no exit"
pub record HoldsFile (area : Bytes) (used : ℕ) : Type 0 where
  pub records : List Record
  pub are_in_range : All (λ (r : Record). fits_header r.kind r.delay (length r.contents) ≡ true) records
  pub is_valid : (records_kind records ≡ unfinished) ⊎ (records_kind records ≡ finished)
  -- its bytes, and how many
  pub used_bytes : take used area ≡ file_bytes records
  pub used_length : used ≡ length (file_bytes records)

-- of an area that a host hands over nothing is required but that its used bytes are bytes; from the first accept or restart that is taken
-- on it holds a file
pub data AreaHolds (area : Bytes) (used : ℕ) : Type 0 where
  some_bytes : AreBytes (take used area) → AreaHolds area used
  a_file : HoldsFile area used → AreaHolds area used

-- ---- what a session in logging carries

-- the session's numbers are those of an unfinished file of these records
pub record SessionCarries (h : Host) (rs : List Record) : Type 0 where
  pub is_unfinished : records_kind rs ≡ unfinished
  -- "the session carries used length, total, the greatest lower total and restart point"
  pub carries_used : h.session.used ≡ h.used
  pub carries_total : h.session.total ≡ total rs
  pub carries_low : h.session.low ≡ low_total rs
  pub carries_point : h.session.mark ≡ h.restart_point
  -- "It keeps the accept and all records whose total is at most T": while T holds it is the file's total
  pub at_point : (t : ℕ) → h.restart_point ≡ Some t → total rs ≡ t

-- the area holds a file, and the session carries its numbers
pub record Agrees (h : Host) : Type 0 where
  pub holds : HoldsFile h.area h.used
  pub carries : SessionCarries h holds.records

-- ---- what holds in each state, by what is required of the area

module _ (Holds : Bytes → ℕ → Type 0) where
  -- before an accept or a restart
  pub record Unopened (h : Host) : Type 0 where
    pub holds : Holds h.area h.used
    pub no_point : h.restart_point ≡ None

  abbrev pub InState : State → Host → Type 0
  InState New h = Unopened h
  InState Greeted h = Unopened h
  InState Logging h = Agrees h
  InState EventsOnly h = Holds h.area h.used
  InState Closed h = Holds h.area h.used

abbrev pub Stands : Host → Type 0
Stands h = InState AreaHolds h.session.state h

-- ---- commit points

-- "the greatest total of a beginning of the file strictly below the present total, the empty beginning counting as 0"
pub record GreatestBelow (t : ℕ) (rs : List Record) : Type 0 where
  pub beginning : List Record
  pub rest : List Record
  pub joined : rs ≡ beginning ++ rest
  pub is_its_total : t ≡ total beginning
  pub is_below : t < total rs
  pub is_greatest : (p q : List Record) → rs ≡ p ++ q → total p < total rs → total p ≤ t

-- a tick's point over a file of these records
pub record TickPoint (h : Host) (rs : List Record) : Type 0 where
  -- "after a restart at T, the point is T until a record with a positive delay is stored; this goes before the rule above"
  pub after_restart : (t : ℕ) → h.restart_point ≡ Some t → session.tick h.session ≡ Some t
  -- "none if the present total is 0"
  pub at_zero : h.restart_point ≡ None → total rs ≡ 0 → session.tick h.session ≡ None
  -- "the point is the greatest total of a beginning of the file strictly below the present total"
  pub below : h.restart_point ≡ None → 0 < total rs → (t : ℕ) × (session.tick h.session ≡ Some t) × GreatestBelow t rs

-- "an exit in logging answers with the present total, 0 for no timed records": it is also the total of the finished file
pub record Exited (rs : List Record) (d : Bytes) (e : Exit) (o : Outcome) : Type 0 where
  pub answers : o.point ≡ Some (total rs)
  pub is_finished : records_kind (rs ++ record_for d (exit_msg e)) ≡ finished
  pub same_total : total (rs ++ record_for d (exit_msg e)) ≡ total rs

-- ---- the statement

-- of a host whose session is in logging
pub record WholeFile (h : Host) : Type 0 where
  pub agrees : Agrees h
  -- the used bytes read as these records and no others
  pub reads_as : records_of (take h.used h.area) ≡ file.all agrees.holds.records
  -- the request: "Every message accepted for storing adds exactly the record that document 01 gives." So of the next message, if it
  -- is taken
  pub adds : (s : Bytes) (c : Client) → client_message s ≡ value c → (answered h s).refusal ≡ 0
      → take (answered h s).used (answered h s).area ≡ file_bytes (agrees.holds.records ++ record_for (received s) c)
  pub tick_point : TickPoint h agrees.holds.records
  pub exits : (s : Bytes) (e : Exit) → client_message s ≡ value (exit_msg e) → (answered h s).refusal ≡ 0 → Exited agrees.holds.records (received s) e (answered h s)

pub record Agreement : Type 0 where
  -- a new session, over any area and used length
  pub begins : (area : Bytes) (used : ℕ) → AreBytes (take used area) → Stands (begin area used)
  -- an accept and a restart that are taken give it, every other call keeps it, and so does the end of a connection in any state
  pub keeps : (h : Host) (c : Call) → Stands h → Stands (after h c)
  -- what the area holds in every state
  pub areas : (h : Host) → Stands h → AreaHolds h.area h.used
  -- once an area holds a file it holds one for good, whatever calls and connections follow
  pub files_stay : (h : Host) (cs : List Call) → Stands h → HoldsFile h.area h.used → HoldsFile (after_all h cs).area (after_all h cs).used
  -- so after any list of calls, over any number of connections; there are lists after which a session is in logging (`Logged` in
  -- crates/claim_examples/specs/Logged.antt)
  pub holds : (area : Bytes) (used : ℕ) → AreBytes (take used area) → (cs : List Call)
      → (after_all (begin area used) cs).session.state ≡ Logging → WholeFile (after_all (begin area used) cs)
