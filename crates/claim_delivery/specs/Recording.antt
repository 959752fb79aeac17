-- A recording. The request: "Take any recording: one accept that announces I/O, timed records, one exit, all valid, its delays
-- summing within the limit". Its values are those of the messages that bring it; its records are the ones that document 01 gives
-- for them.
use Rattle.std.specs.Prelude.{ℕ, suc, ◌+◌, ◌≤◌, ◌≡◌, true, List, [], ◌∷◌, ◌++◌, map, leb}
use Rattle.base_laws.specs.Base.{pick, All}
use Rattle.wire_fields.specs.Items.{items}
use Rattle.wire_message.specs.Message as m
use Rattle.wire_message.specs.Message.{Bytes, Exit}
use Rattle.wire_range.specs.Range.{accept_fits, exit_fits}
use Rattle.file_format.specs.Record.{Record}
use Rattle.file_format.specs.File.{limit, time_of, total}
use Rattle.session_entries.specs.Required.{entries_refusal}
use Rattle.session.specs.Step.{accept_record, exit_record}
use Rattle.claim_values.specs.Values.{TimedRecord, stored_for, timed_in_range}

-- the accept is its bytes as received, the content of accept_msg
pub record Recording : Type 0 where
  pub accept : Bytes
  pub timed : List TimedRecord
  pub exit : Exit

-- ---- its records: those that a session stores (`record_for` in crates/session/specs/Step.antt)

-- the accept "Always first, once", the exit "Always last"
unfoldable pub records : Recording → List Record
records R = accept_record R.accept ∷ (map stored_for R.timed ++ (exit_record R.exit ∷ []))

-- ---- totals. Document 01: "The total is the sum of the delays of timed records".

abbrev pub time : TimedRecord → ℕ
time t = time_of (stored_for t)

abbrev pub total_of : List TimedRecord → ℕ
total_of ts = total (map stored_for ts)

-- "its timed records with total at most T": how many, where those before have this sum
unfoldable pub at_most : ℕ → ℕ → List TimedRecord → ℕ
at_most sum T [] = 0
at_most sum T (t ∷ ts) = pick (leb (sum + time t) T) (suc (at_most (sum + time t) T ts)) (at_most (sum + time t) T ts)

-- "all records with a greater total"
unfoldable pub greater : ℕ → ℕ → List TimedRecord → List TimedRecord
greater sum T [] = []
greater sum T (t ∷ ts) = pick (leb (sum + time t) T) (greater (sum + time t) T ts) (t ∷ greater (sum + time t) T ts)

-- ---- "all valid, its delays summing within the limit". Document 01: "A valid message fits a frame and passes reader, ranges and
-- entries." That its messages fit a frame and pass the reader is said of each message (`Says` in Sender).

-- the values of the accept's bytes
abbrev pub accept_of : Recording → m.Accept
accept_of R = m.accept (items R.accept)

pub record Valid (R : Recording) : Type 0 where
  pub announces : (accept_of R).expect_iobufs ≡ true
  pub accept_in_range : accept_fits (accept_of R) ≡ true
  pub entries_there : entries_refusal (accept_of R).info_msgs ≡ 0
  pub timed_in_range_lem : All (λ (t : TimedRecord). timed_in_range t ≡ true) R.timed
  pub exit_in_range : exit_fits R.exit ≡ true
  pub within_limit : total_of R.timed ≤ limit
