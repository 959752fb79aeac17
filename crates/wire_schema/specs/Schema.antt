-- sudo_logsrv.proto as data: the kinds of each message's fields.
-- Source document 002 decides, then 000; where the listings at their ends lack `hello_msg = 13`, `ClientHello` and
-- `ServerHello.subcommands`, their sections have them, and count.
use Rattle.std.specs.Prelude.{ℕ, ◌+◌, List, [], ◌∷◌, Bool, true, get_or, leb, eqb}
use Rattle.base_laws.specs.Base.{pick, both}

-- the kind of a field
abbrev pub unknown : ℕ
unknown = 0

abbrev pub int64 : ℕ
int64 = 1

abbrev pub int32 : ℕ
int32 = 2

abbrev pub bool : ℕ
bool = 3

abbrev pub string : ℕ
string = 4

abbrev pub bytes : ℕ
bytes = 5

-- an embedded message, by its number below
abbrev pub message : ℕ → ℕ
message m = 16 + m

-- a list of int64. Its packed form is read as message 16, a row of varints and no fields.
abbrev pub numbers : ℕ
numbers = message 16

-- the messages
abbrev pub ClientMessage : ℕ
ClientMessage = 0

abbrev pub AcceptMessage : ℕ
AcceptMessage = 1

abbrev pub RejectMessage : ℕ
RejectMessage = 2

abbrev pub ExitMessage : ℕ
ExitMessage = 3

abbrev pub RestartMessage : ℕ
RestartMessage = 4

abbrev pub AlertMessage : ℕ
AlertMessage = 5

abbrev pub IoBuffer : ℕ
IoBuffer = 6

abbrev pub ChangeWindowSize : ℕ
ChangeWindowSize = 7

abbrev pub CommandSuspend : ℕ
CommandSuspend = 8

abbrev pub ClientHello : ℕ
ClientHello = 9

abbrev pub TimeSpec : ℕ
TimeSpec = 10

abbrev pub InfoMessage : ℕ
InfoMessage = 11

abbrev pub StringList : ℕ
StringList = 12

abbrev pub NumberList : ℕ
NumberList = 13

abbrev pub ServerMessage : ℕ
ServerMessage = 14

abbrev pub ServerHello : ℕ
ServerHello = 15

-- a row for each message, in the order of the numbers above: the kinds of its fields 1, 2, 3 and so on. The names are
-- the .proto's; `repeated` and `oneof` do not show here, since the last of a singular field or a oneof is a matter of values.
unfoldable pub schema : List (List ℕ)
schema =
    -- ClientMessage: accept_msg, reject_msg, exit_msg, restart_msg, alert_msg, ttyin_buf, ttyout_buf, stdin_buf, stdout_buf,
    -- stderr_buf, winsize_event, suspend_event, hello_msg
    (message AcceptMessage ∷ message RejectMessage ∷ message ExitMessage ∷ message RestartMessage ∷ message AlertMessage ∷ message IoBuffer ∷ message IoBuffer ∷ message IoBuffer ∷ message IoBuffer ∷ message IoBuffer ∷ message ChangeWindowSize ∷ message CommandSuspend ∷ message ClientHello ∷ [])
    -- AcceptMessage: submit_time, info_msgs, expect_iobufs
    ∷ (message TimeSpec ∷ message InfoMessage ∷ bool ∷ [])
    -- RejectMessage: submit_time, reason, info_msgs
    ∷ (message TimeSpec ∷ string ∷ message InfoMessage ∷ [])
    -- ExitMessage: run_time, exit_value, dumped_core, signal, error
    ∷ (message TimeSpec ∷ int32 ∷ bool ∷ string ∷ string ∷ [])
    -- RestartMessage: log_id, resume_point
    ∷ (string ∷ message TimeSpec ∷ [])
    -- AlertMessage: alert_time, reason, info_msgs
    ∷ (message TimeSpec ∷ string ∷ message InfoMessage ∷ [])
    -- IoBuffer: delay, data
    ∷ (message TimeSpec ∷ bytes ∷ [])
    -- ChangeWindowSize: delay, rows, cols
    ∷ (message TimeSpec ∷ int32 ∷ int32 ∷ [])
    -- CommandSuspend: delay, signal
    ∷ (message TimeSpec ∷ string ∷ [])
    -- ClientHello: client_id
    ∷ (string ∷ [])
    -- TimeSpec: tv_sec, tv_nsec
    ∷ (int64 ∷ int32 ∷ [])
    -- InfoMessage: key, numval, strval, strlistval, numlistval
    ∷ (string ∷ int64 ∷ string ∷ message StringList ∷ message NumberList ∷ [])
    -- StringList: strings
    ∷ (string ∷ [])
    -- NumberList: numbers
    ∷ (numbers ∷ [])
    -- ServerMessage: hello, commit_point, log_id, error, abort
    ∷ (message ServerHello ∷ message TimeSpec ∷ string ∷ string ∷ string ∷ [])
    -- ServerHello: server_id, redirect, servers, subcommands
    ∷ (string ∷ string ∷ string ∷ bool ∷ [])
    ∷ []

-- the kind of a message's field by its number, which counts from 1
unfoldable pub kind_of : ℕ → ℕ → ℕ
kind_of m n = get_or (unknown ∷ get_or schema m []) n unknown

-- does a field of this kind take this wire type. Document 01: "Unknown field numbers are skipped. A known field with
-- another wire type is refused, except that a list of numbers is read packed, unpacked or mixed."
unfoldable pub takes : ℕ → ℕ → Bool
takes k w =
    pick (eqb k unknown) true (pick (leb k bool) (eqb w 0) (pick (eqb w 2) true (both (eqb k numbers) (eqb w 0))))
