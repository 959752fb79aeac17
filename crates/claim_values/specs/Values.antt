-- The values of timed records: the messages that bring them, the records that a session stores for them, their ranges.
use Rattle.std.specs.Prelude.{ℕ, Bool, List, [], ◌∷◌, leb}
use Rattle.base_laws.specs.Base.{both}
use Rattle.wire_message.specs.Message.{Timed, WindowSize, Client, io_buf, winsize_event, suspend_event}
use Rattle.wire_range.specs.Range.{io_fits, window_fits, suspend_fits}
use Rattle.file_format.specs.Record.{Record}
use Rattle.session.specs.Step.{record_for}

-- a timed record's values: an I/O buffer of the kind 6 to 10, a window size, a suspend
pub data TimedRecord : Type 0 where
  io : ℕ → Timed → TimedRecord
  window : WindowSize → TimedRecord
  suspend : Timed → TimedRecord

-- the member of a ClientMessage that brings them
unfoldable pub timed_member : TimedRecord → Client
timed_member (io k i) = io_buf k i
timed_member (window w) = winsize_event w
timed_member (suspend s) = suspend_event s

-- the first of some records; of none, which a timed record's message never gives (`one_record` in proofs/Stored.antt), any
abbrev first_of : List Record → Record
first_of [] = record { kind = 0; delay = 0; contents = [] }
first_of (r ∷ rs) = r

-- the record that this message stores
unfoldable pub stored_for : TimedRecord → Record
unfolding record_for timed_member
stored_for t = first_of (record_for [] (timed_member t))

-- document 01's ranges; an I/O buffer's kind is 6 to 10
unfoldable pub timed_in_range : TimedRecord → Bool
timed_in_range (io k i) = both (both (leb 6 k) (leb k 10)) (io_fits i)
timed_in_range (window w) = window_fits w
timed_in_range (suspend s) = suspend_fits s
