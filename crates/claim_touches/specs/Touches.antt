-- What one message may touch: over every session, area, used length and message, whoever sends it and whatever the host did before. The
-- request: "Every message accepted for storing adds exactly the record that document 01 gives"; "Nothing else is written."
use Rattle.std.specs.Prelude.{ℕ, ◌+◌, ◌≤◌, ◌≡◌, ◌⊎◌, true, List, [], ◌∷◌, length, take, Some}
use Rattle.base_laws.specs.Base.{splice}
use Rattle.wire_message.specs.Message.{Bytes, Accept, Restart, Client, accept_msg, reject_msg, exit_msg, restart_msg, alert_msg, io_buf, winsize_event, suspend_event, hello_msg}
use Rattle.wire.specs.Read.{value, client_message, received}
use Rattle.file_format.specs.Record.{Record, record_bytes}
use Rattle.file_format.specs.File.{all, records_of, file_bytes, limit, keep}
use Rattle.session_turn.specs.declared.State.{State}
use Rattle.session_turn.specs.declared.State.TheVariants.{New, Greeted, Logging}
use Rattle.session.specs.Step.{Outcome, moment, record_for, lengths_fit, step}
use Rattle.session.specs.declared.Session.{Session}
use Rattle.claim_values.specs.Values.{TimedRecord, timed_member, stored_for, timed_in_range}

-- before an accept or a restart
abbrev pub Unopened : State → Type 0
Unopened st = (st ≡ New) ⊎ (st ≡ Greeted)

-- an accept begins a file, every other record follows in it
abbrev pub Follows : Client → Type 0
Follows (accept_msg a) = ⊥
Follows (reject_msg r) = Unit {0}
Follows (exit_msg e) = Unit {0}
Follows (restart_msg r) = Unit {0}
Follows (alert_msg r) = Unit {0}
Follows (io_buf k i) = Unit {0}
Follows (winsize_event w) = Unit {0}
Follows (suspend_event s) = Unit {0}
Follows (hello_msg d) = Unit {0}

-- the message's one record stands at the used length, in the area, and its end is the new one; every other byte is as it was
pub record OneMore (area : Bytes) (used : ℕ) (d : Bytes) (c : Client) (o : Outcome) : Type 0 where
  pub stored : Record
  pub gives : record_for d c ≡ stored ∷ []
  pub bytes : o.area ≡ splice area used (record_bytes stored)
  pub end : o.used ≡ used + length (record_bytes stored)
  pub in_bounds : used + length (record_bytes stored) ≤ length area

pub data Touched (se : Session) (area : Bytes) (used : ℕ) (s : Bytes) (o : Outcome) : Type 0 where
  -- the area and the used length are as they were
  nothing : o.area ≡ area → o.used ≡ used → Touched se area used s o
  -- the first record of a file: only where nothing is used
  begins : (a : Accept) → client_message s ≡ value (accept_msg a) → Unopened se.state → used ≡ 0 → OneMore area used (received s) (accept_msg a) o → Touched se area used s o
  -- a later one: only in logging, at the session's own used length
  goes_on : (c : Client) → client_message s ≡ value c → Follows c → se.state ≡ Logging → used ≡ se.used → OneMore area used (received s) c o → Touched se area used s o
  -- a restart that was taken: no byte is written, and the used length is that of what is kept
  resumes : (r : Restart) → client_message s ≡ value (restart_msg r) → Unopened se.state → (rs : List Record) → records_of (take used area) ≡ all rs → o.area ≡ area
      → o.used ≡ length (file_bytes (keep (moment r.resume_point) 0 rs)) → Touched se area used s o

-- a timed record with delay zero, whole, in its turn and in its range, within the limits
pub record ZeroDelay (se : Session) (area : Bytes) (used : ℕ) (s : Bytes) (t : TimedRecord) : Type 0 where
  pub reads : client_message s ≡ value (timed_member t)
  pub is_short_lem : length s ≤ 2097152
  pub is_zero : (stored_for t).delay ≡ 0
  pub in_logging_lem : se.state ≡ Logging
  pub lengths_fit_lem : lengths_fit (length area) used se.used ≡ true
  pub in_range_lem : timed_in_range t ≡ true
  pub total_fits : se.total ≤ limit

pub record Touches : Type 0 where
  pub touches : (se : Session) (area : Bytes) (used : ℕ) (s : Bytes) → Touched se area used s (step se area used s)
  -- 11: "a timed record with delay zero is refused while the present total equals such a restart point", and only then
  pub zero_refused : (se : Session) (area : Bytes) (used : ℕ) (s : Bytes) (t : TimedRecord) → ZeroDelay se area used s t
      → ((step se area used s).refusal ≡ 11 → se.mark ≡ Some se.total) × (se.mark ≡ Some se.total → (step se area used s).refusal ≡ 11)
