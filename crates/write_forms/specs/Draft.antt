-- The messages as a writer is given them, the pieces that each one is written in, and what each one means.
-- Numbers are the 64 bits of the argument: of an int64 its two's complement; of the others the number itself, a negative one
-- being far beyond each range. A run of entries is lent as bytes that were written before.
use Rattle.std.specs.Prelude.{ℕ, List, [], ◌∷◌, map, Bool, true, false, not, ltb, eqb}
use Rattle.base_laws.specs.Base.{pick, part}
use Rattle.wire_fields.specs.Items.{items}
use Rattle.wire_message.specs.Signed.{int64, int32}
use Rattle.wire_message.specs.Message as m
use Rattle.wire_message.specs.Message.{Bytes, TimeSpec, Client, accept_msg, reject_msg, exit_msg, restart_msg, alert_msg, io_buf, winsize_event, suspend_event, hello_msg, Server, hello, commit_point, log_id, error, abort}
use Rattle.write_forms.specs.Pieces.{Piece, number, some, bytes, text, list, run, encode_all, packed}

-- seconds and nanoseconds
pub record Stamp : Type 0 where
  pub seconds : ℕ
  pub nanos : ℕ

abbrev pub stamp_value : Stamp → TimeSpec
stamp_value t = record { seconds = int64 t.seconds; nanoseconds = int32 t.nanos }

-- ---- the pieces of each message, in rising number

abbrev pub time_pieces : Stamp → List Piece
time_pieces t = some 1 t.seconds ∷ some 2 t.nanos ∷ []

abbrev pub time : Stamp → Bytes
time t = encode_all (time_pieces t)

-- 1 for true, 0 for false
abbrev pub flag : Bool → ℕ
flag true = 1
flag false = 0

abbrev pub accept_pieces : Stamp → Bytes → Bool → List Piece
accept_pieces t r e = bytes 1 (time t) ∷ run r ∷ some 3 (flag e) ∷ []

-- a RejectMessage or an AlertMessage
abbrev pub report_pieces : Stamp → Bytes → Bytes → List Piece
report_pieces t reason r = bytes 1 (time t) ∷ text 2 reason ∷ run r ∷ []

abbrev pub exit_pieces : Stamp → ℕ → Bool → Bytes → Bytes → List Piece
exit_pieces t v core signal err = bytes 1 (time t) ∷ some 2 v ∷ some 3 (flag core) ∷ text 4 signal ∷ text 5 err ∷ []

abbrev pub restart_pieces : Bytes → Stamp → List Piece
restart_pieces id t = text 1 id ∷ bytes 2 (time t) ∷ []

-- an IoBuffer or a CommandSuspend
abbrev pub timed_pieces : Stamp → Bytes → List Piece
timed_pieces t d = bytes 1 (time t) ∷ text 2 d ∷ []

abbrev pub window_pieces : Stamp → ℕ → ℕ → List Piece
window_pieces t rows cols = bytes 1 (time t) ∷ some 2 rows ∷ some 3 cols ∷ []

abbrev pub client_hello_pieces : Bytes → List Piece
client_hello_pieces id = text 1 id ∷ []

abbrev pub server_hello_pieces : Bytes → Bytes → List Bytes → Bool → List Piece
server_hello_pieces id redirect servers sub = text 1 id ∷ text 2 redirect ∷ list 3 servers ∷ some 4 (flag sub) ∷ []

abbrev pub string_list_pieces : List Bytes → List Piece
string_list_pieces ds = list 1 ds ∷ []

abbrev pub number_list_pieces : List ℕ → List Piece
number_list_pieces vs = text 1 (packed vs) ∷ []

-- the value of an entry
pub data EntryDraft : Type 0 where
  numval : ℕ → EntryDraft
  strval : Bytes → EntryDraft
  strlistval : List Bytes → EntryDraft
  numlistval : List ℕ → EntryDraft

-- Document 01: "An empty list in a oneof is an embedded message of length 0."
unfoldable pub value_piece : EntryDraft → Piece
value_piece (numval v) = number 2 v
value_piece (strval d) = bytes 3 d
value_piece (strlistval ds) = bytes 4 (encode_all (string_list_pieces ds))
value_piece (numlistval vs) = bytes 5 (encode_all (number_list_pieces vs))

abbrev pub entry_pieces : Bytes → EntryDraft → List Piece
entry_pieces key v = text 1 key ∷ value_piece v ∷ []

-- ---- ClientMessage and ServerMessage: the chosen member is always written

pub data ClientDraft : Type 0 where
  accept : Stamp → Bytes → Bool → ClientDraft
  reject : Stamp → Bytes → Bytes → ClientDraft
  exit : Stamp → ℕ → Bool → Bytes → Bytes → ClientDraft
  restart : Bytes → Stamp → ClientDraft
  alert : Stamp → Bytes → Bytes → ClientDraft
  -- of the kind 6 to 10
  io : ℕ → Stamp → Bytes → ClientDraft
  window : Stamp → ℕ → ℕ → ClientDraft
  suspend : Stamp → Bytes → ClientDraft
  client_hello : Bytes → ClientDraft

unfoldable pub client_number : ClientDraft → ℕ
client_number (accept t r e) = 1
client_number (reject t x r) = 2
client_number (exit t v c x y) = 3
client_number (restart x t) = 4
client_number (alert t x r) = 5
client_number (io k t d) = k
client_number (window t x y) = 11
client_number (suspend t d) = 12
client_number (client_hello d) = 13

unfoldable pub client_pieces : ClientDraft → List Piece
client_pieces (accept t r e) = accept_pieces t r e
client_pieces (reject t x r) = report_pieces t x r
client_pieces (exit t v c x y) = exit_pieces t v c x y
client_pieces (restart x t) = restart_pieces x t
client_pieces (alert t x r) = report_pieces t x r
client_pieces (io k t d) = timed_pieces t d
client_pieces (window t x y) = window_pieces t x y
client_pieces (suspend t d) = timed_pieces t d
client_pieces (client_hello d) = client_hello_pieces d

-- a message as the member f of the message around it; f is 0 where it is written by itself
unfoldable pub wrapped : ℕ → List Piece → Bytes
wrapped f ps = pick (eqb f 0) (encode_all ps) (encode_all (bytes f (encode_all ps) ∷ []))

abbrev pub written_client : ClientDraft → Bytes
written_client d = wrapped (client_number d) (client_pieces d)

pub data ServerDraft : Type 0 where
  server_hello : Bytes → Bytes → List Bytes → Bool → ServerDraft
  commit : Stamp → ServerDraft
  -- log_id, error, abort: 3, 4, 5
  note : ℕ → Bytes → ServerDraft

unfoldable pub written_server : ServerDraft → Bytes
written_server (server_hello id redirect servers sub) = wrapped 1 (server_hello_pieces id redirect servers sub)
written_server (commit t) = wrapped 2 (time_pieces t)
written_server (note f d) = encode_all (bytes f d ∷ [])

-- ---- what they mean

unfoldable pub meant_client : ClientDraft → Client
meant_client (accept t r e) = accept_msg (record { submit_time = stamp_value t; info_msgs = m.entries 2 (items r); expect_iobufs = e })
meant_client (reject t x r) = reject_msg (record { time = stamp_value t; reason = x; info_msgs = m.entries 3 (items r) })
meant_client (exit t v c x y) =
    exit_msg (record { run_time = stamp_value t; exit_value = int32 v; dumped_core = c; signal = x; error = y })
meant_client (restart x t) = restart_msg (record { log_id = x; resume_point = stamp_value t })
meant_client (alert t x r) = alert_msg (record { time = stamp_value t; reason = x; info_msgs = m.entries 3 (items r) })
meant_client (io k t d) = io_buf k (record { delay = stamp_value t; contents = d })
meant_client (window t x y) = winsize_event (record { delay = stamp_value t; rows = int32 x; cols = int32 y })
meant_client (suspend t d) = suspend_event (record { delay = stamp_value t; contents = d })
meant_client (client_hello d) = hello_msg d

unfoldable pub meant_server : ServerDraft → Server
meant_server (server_hello id redirect servers sub) =
    hello (record { server_id = id; redirect = redirect; servers = servers; subcommands = sub })
meant_server (commit t) = commit_point (stamp_value t)
meant_server (note f d) = pick (eqb f 3) (log_id d) (pick (eqb f 4) (error d) (abort d))

unfoldable pub meant_value : EntryDraft → m.Value
meant_value (numval v) = m.numval (int64 v)
meant_value (strval d) = m.strval d
meant_value (strlistval ds) = m.strlistval ds
meant_value (numlistval vs) = m.numlistval (map int64 vs)

abbrev pub meant_entry : Bytes → EntryDraft → m.Entry
meant_entry key v = record { key = key; value = meant_value v }

-- ---- string lists, "lent as joined bytes and ends"

-- the elements that end at es, the first one from a on
unfoldable pub cut_at : Bytes → ℕ → List ℕ → List Bytes
cut_at j a [] = []
cut_at j a (e ∷ es) = part j a e ∷ cut_at j e es

-- "ends that fall, or a last one (0 for none) other than the bytes' length"
unfoldable pub bad_ends : ℕ → ℕ → List ℕ → Bool
bad_ends size a [] = not (eqb a size)
bad_ends size a (e ∷ es) = pick (ltb e a) true (bad_ends size e es)
