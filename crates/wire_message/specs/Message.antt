-- What the messages of sudo_logsrv.proto mean, read from their items: strings as lists of bytes, numbers signed.
-- The numbers are the .proto's field numbers, and the names are its names, but these: a TimeSpec's tv_sec and tv_nsec are seconds and
-- nanoseconds, an InfoMessage is an Entry, ChangeWindowSize is WindowSize, and what two messages share has one name (time, contents).
use Rattle.std.specs.Prelude.{ℕ, List, map, Bool, ℤ, leb, eqb}
use Rattle.base_laws.specs.Base.{pick}
use Rattle.wire_fields.specs.Items.{Item, none, number, bytes, items, last_item, number_of, bytes_of, every_bytes}
use Rattle.wire_elements.specs.Elements.{numbers_of}
use Rattle.wire_message.specs.Signed.{int64, int32, bool}

abbrev pub Bytes : Type 0
Bytes = List ℕ

-- ---- a field's value. Document 01: "A singular field given twice: the last one counts, embedded messages included."

abbrev pub number_field : ℕ → List Item → ℕ
number_field f is = number_of (last_item f f is)

abbrev pub bytes_field : ℕ → List Item → Bytes
bytes_field f is = bytes_of (last_item f f is)

-- ---- the embedded messages

pub record TimeSpec : Type 0 where
  pub seconds : ℤ
  pub nanoseconds : ℤ

unfoldable pub time_spec : List Item → TimeSpec
time_spec is = record { seconds = int64 (number_field 1 is); nanoseconds = int32 (number_field 2 is) }

-- Document 01: "An absent TimeSpec reads as 0 s, 0 ns": absent bytes are empty, and the empty message reads so.
unfoldable pub time_field : ℕ → List Item → TimeSpec
time_field f is = time_spec (items (bytes_field f is))

-- the value of an InfoMessage, by the member of its oneof
pub data Value : Type 0 where
  absent : Value
  numval : ℤ → Value
  strval : Bytes → Value
  strlistval : List Bytes → Value
  numlistval : List ℤ → Value

unfoldable pub string_list : List Item → List Bytes
string_list is = every_bytes 1 is

unfoldable pub number_list : List Item → List ℤ
number_list is = map int64 (numbers_of is)

-- of bytes: field 3, 4 or 5
unfoldable pub value_of : Item → Value
value_of none = absent
value_of (number f v) = numval (int64 v)
value_of (bytes f d) =
    pick (eqb f 3) (strval d)
    (pick (eqb f 4) (strlistval (string_list (items d)))
    (pick (eqb f 5) (numlistval (number_list (items d))) absent))

-- an InfoMessage: one entry of an accept, a reject or an alert
pub record Entry : Type 0 where
  pub key : Bytes
  pub value : Value

unfoldable pub entry : List Item → Entry
entry is = record { key = bytes_field 1 is; value = value_of (last_item 2 5 is) }

unfoldable pub entries : ℕ → List Item → List Entry
entries f is = map (λ (d : Bytes). entry (items d)) (every_bytes f is)

-- ---- the members of a ClientMessage

pub record Accept : Type 0 where
  pub submit_time : TimeSpec
  pub info_msgs : List Entry
  pub expect_iobufs : Bool

unfoldable pub accept : List Item → Accept
accept is = record { submit_time = time_field 1 is; info_msgs = entries 2 is; expect_iobufs = bool (number_field 3 is) }

-- a RejectMessage or an AlertMessage: their fields are the same, with submit_time or alert_time first
pub record Report : Type 0 where
  pub time : TimeSpec
  pub reason : Bytes
  pub info_msgs : List Entry

unfoldable pub report : List Item → Report
report is = record { time = time_field 1 is; reason = bytes_field 2 is; info_msgs = entries 3 is }

pub record Exit : Type 0 where
  pub run_time : TimeSpec
  pub exit_value : ℤ
  pub dumped_core : Bool
  pub signal : Bytes
  pub error : Bytes

unfoldable pub exit : List Item → Exit
exit is = record {
  run_time = time_field 1 is;
  exit_value = int32 (number_field 2 is);
  dumped_core = bool (number_field 3 is);
  signal = bytes_field 4 is;
  error = bytes_field 5 is;
}

pub record Restart : Type 0 where
  pub log_id : Bytes
  pub resume_point : TimeSpec

unfoldable pub restart : List Item → Restart
restart is = record { log_id = bytes_field 1 is; resume_point = time_field 2 is }

-- an IoBuffer or a CommandSuspend: a delay, and the data or the signal's name
pub record Timed : Type 0 where
  pub delay : TimeSpec
  pub contents : Bytes

unfoldable pub timed : List Item → Timed
timed is = record { delay = time_field 1 is; contents = bytes_field 2 is }

pub record WindowSize : Type 0 where
  pub delay : TimeSpec
  pub rows : ℤ
  pub cols : ℤ

unfoldable pub window_size : List Item → WindowSize
window_size is = record { delay = time_field 1 is; rows = int32 (number_field 2 is); cols = int32 (number_field 3 is) }

-- a ClientHello is its client_id
unfoldable pub client_hello : List Item → Bytes
client_hello is = bytes_field 1 is

-- ---- the members of a ServerMessage

pub record ServerHello : Type 0 where
  pub server_id : Bytes
  pub redirect : Bytes
  pub servers : List Bytes
  pub subcommands : Bool

unfoldable pub server_hello : List Item → ServerHello
server_hello is = record {
  server_id = bytes_field 1 is;
  redirect = bytes_field 2 is;
  servers = every_bytes 3 is;
  subcommands = bool (number_field 4 is);
}

-- ---- ClientMessage and ServerMessage. Document 01: "The same for the oneof": the last member counts.

pub data Client : Type 0 where
  accept_msg : Accept → Client
  reject_msg : Report → Client
  exit_msg : Exit → Client
  restart_msg : Restart → Client
  alert_msg : Report → Client
  -- an I/O buffer of the kind 6 to 10: ttyin, ttyout, stdin, stdout, stderr
  io_buf : ℕ → Timed → Client
  winsize_event : WindowSize → Client
  suspend_event : Timed → Client
  hello_msg : Bytes → Client

-- a member by its number and its bytes' items
unfoldable pub client_member : ℕ → List Item → Client
client_member f is =
    pick (eqb f 1) (accept_msg (accept is))
    (pick (eqb f 2) (reject_msg (report is))
    (pick (eqb f 3) (exit_msg (exit is))
    (pick (eqb f 4) (restart_msg (restart is))
    (pick (eqb f 5) (alert_msg (report is))
    (pick (leb f 10) (io_buf f (timed is))
    (pick (eqb f 11) (winsize_event (window_size is))
    (pick (eqb f 12) (suspend_event (timed is))
    (hello_msg (client_hello is)))))))))

pub data Server : Type 0 where
  hello : ServerHello → Server
  commit_point : TimeSpec → Server
  log_id : Bytes → Server
  error : Bytes → Server
  abort : Bytes → Server

unfoldable pub server_member : ℕ → Bytes → Server
server_member f d =
    pick (eqb f 1) (hello (server_hello (items d)))
    (pick (eqb f 2) (commit_point (time_spec (items d)))
    (pick (eqb f 3) (log_id d)
    (pick (eqb f 4) (error d)
    (abort d))))

-- ---- the same of a message's bytes: what a reader promises of them

abbrev pub accept_in : Bytes → Accept
accept_in d = accept (items d)

abbrev pub report_in : Bytes → Report
report_in d = report (items d)

abbrev pub exit_in : Bytes → Exit
exit_in d = exit (items d)

abbrev pub restart_in : Bytes → Restart
restart_in d = restart (items d)

abbrev pub timed_in : Bytes → Timed
timed_in d = timed (items d)

abbrev pub window_size_in : Bytes → WindowSize
window_size_in d = window_size (items d)

abbrev pub entries_in : ℕ → Bytes → List Entry
entries_in f d = entries f (items d)

abbrev pub client_member_in : ℕ → Bytes → Client
client_member_in f d = client_member f (items d)
