-- Which values each writer takes; others are refused with 7. Numbers are the 64 bits of the argument: a negative one is far
-- beyond each range.
use Rattle.std.specs.Prelude.{ℕ, List, Bool, true, not, length, ltb, leb, eqb}
use Rattle.base_laws.specs.Base.{pick, both}
use Rattle.wire_message.specs.Message.{Bytes}
use Rattle.write_forms.specs.Draft.{Stamp, bad_ends}

-- is a message written by itself, 0, or as a member from lo to hi
unfoldable pub member_in : ℕ → ℕ → ℕ → Bool
member_in lo hi f = pick (eqb f 0) true (both (leb lo f) (leb f hi))

-- submit_time, alert_time: "any seconds"
unfoldable pub date_fits : Stamp → Bool
date_fits t = leb t.nanos 999999999

-- delay, run_time, resume_point, commit_point: "seconds 0 to 4,294,967,295; nanoseconds 0 to 999,999,999"
unfoldable pub moment_fits : Stamp → Bool
moment_fits t = both (leb t.seconds 4294967295) (date_fits t)

-- from lo to hi bytes
unfoldable pub sized : ℕ → ℕ → Bytes → Bool
sized lo hi d = both (leb lo (length d)) (leb (length d) hi)

-- joined bytes and ends
unfoldable pub ends_fit : Bytes → List ℕ → Bool
ends_fit joined ends = not (bad_ends (length joined) 0 ends)

-- ---- the members of a ClientMessage

abbrev pub client_hello_fits : ℕ → Bool
client_hello_fits f = member_in 13 13 f

abbrev pub accept_fits : ℕ → Stamp → Bool
accept_fits f t = both (member_in 1 1 f) (date_fits t)

-- a RejectMessage, 2, or an AlertMessage, 5
unfoldable pub report_member : ℕ → Bool
report_member f = pick (eqb f 2) true (member_in 5 5 f)

abbrev pub report_fits : ℕ → Stamp → Bool
report_fits f t = both (report_member f) (date_fits t)

abbrev pub exit_fits : ℕ → Stamp → ℕ → Bytes → Bool
exit_fits f t v signal = both (member_in 3 3 f) (both (moment_fits t) (both (leb v 255) (sized 0 127 signal)))

abbrev pub restart_fits : ℕ → Bytes → Stamp → Bool
restart_fits f id t = both (member_in 4 4 f) (both (sized 1 4095 id) (moment_fits t))

abbrev pub io_fits : ℕ → Stamp → Bool
io_fits f t = both (member_in 6 10 f) (moment_fits t)

abbrev pub window_fits : ℕ → Stamp → ℕ → ℕ → Bool
window_fits f t rows cols = both (member_in 11 11 f) (both (moment_fits t) (both (leb rows 65535) (leb cols 65535)))

abbrev pub suspend_fits : ℕ → Stamp → Bytes → Bool
suspend_fits f t signal = both (member_in 12 12 f) (both (moment_fits t) (sized 1 127 signal))

-- ---- the members of a ServerMessage

abbrev pub server_hello_fits : ℕ → Bytes → List ℕ → Bool
server_hello_fits f joined ends = both (member_in 1 1 f) (ends_fit joined ends)

-- Are 64 bits those of an int32, in two's complement: below 2^31, or from 2^64 - 2^31 on. Others are read by their low 32 bits, as
-- another number. Document 01: what is written "reads back as the same values. Each message has one written form".
unfoldable pub int32_fits : ℕ → Bool
int32_fits n = pick (ltb n 2147483648) true (leb 18446744071562067968 n)

-- a TimeSpec by itself is any int64 and any int32, as commit_point it has its range
unfoldable pub time_fits : ℕ → Stamp → Bool
time_fits f t = pick (eqb f 0) (int32_fits t.nanos) (both (eqb f 2) (moment_fits t))

-- log_id, error, abort
abbrev pub note_fits : ℕ → Bool
note_fits f = both (leb 3 f) (leb f 5)

-- ---- entries: by themselves, or in the run of an AcceptMessage, 2, a RejectMessage or an AlertMessage, 3

abbrev pub entry_fits : ℕ → Bytes → Bool
entry_fits f key = both (member_in 2 3 f) (leb 1 (length key))

abbrev pub entry_strings_fits : ℕ → Bytes → Bytes → List ℕ → Bool
entry_strings_fits f key joined ends = both (entry_fits f key) (ends_fit joined ends)
