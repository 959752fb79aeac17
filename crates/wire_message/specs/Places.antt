-- What the readers answer of a message's bytes s: numbers as they were read, and places of bytes; and what these stand for.
use Rattle.std.specs.Prelude.{ℕ, ◌≤◌, List, Option, Some, None, eqb, length}
use Rattle.base_laws.specs.Base.{pick, part}
use Rattle.wire_fields.specs.Fields.{last_in, number_in, span_in}
use Rattle.wire_fields.specs.Items.{items}
use Rattle.wire_fields.specs.declared.Last.{Last}
use Rattle.wire_fields.specs.declared.Last.TheVariants as last
use Rattle.wire_types.specs.declared.Span.{Span}
use Rattle.wire_types.specs.declared.Time.{Time}
use Rattle.wire_walk_io.specs.Places.{time_in}
use Rattle.wire_message.specs.Signed.{int64, int32, bool}
use Rattle.wire_message.specs.Message as m
use Rattle.wire_message.specs.Message.{Bytes, TimeSpec}
use Rattle.wire_message.specs.declared.Accept.{Accept}
use Rattle.wire_message.specs.declared.Exit.{Exit}
use Rattle.wire_message.specs.declared.Restart.{Restart}
use Rattle.wire_types.specs.declared.Timed.{Timed}
use Rattle.wire_message.specs.declared.WindowSize.{WindowSize}
use Rattle.wire_message.specs.declared.Value.{Value}
use Rattle.wire_message.specs.declared.Value.TheVariants as held

-- ---- the answers

unfoldable pub accept_at : List ℕ → Accept
accept_at s = record { submit_time = time_in 1 s; expect_iobufs = bool (number_in 3 s) }

unfoldable pub exit_at : List ℕ → Exit
exit_at s = record {
  run_time = time_in 1 s;
  exit_value = number_in 2 s;
  dumped_core = bool (number_in 3 s);
  signal = span_in 4 s;
  error = span_in 5 s;
}

unfoldable pub restart_at : List ℕ → Restart
restart_at s = record { log_id = span_in 1 s; resume_point = time_in 2 s }

unfoldable pub timed_at : List ℕ → Timed
timed_at s = record { delay = time_in 1 s; contents = span_in 2 s }

unfoldable pub window_at : List ℕ → WindowSize
window_at s = record { delay = time_in 1 s; rows = number_in 2 s; cols = number_in 3 s }

-- an entry's value, by the last field of its oneof
unfoldable pub held_from : Option Last → Option Value
held_from None = None
held_from (Some (last.Number f v)) = Some (held.Number v)
held_from (Some (last.Part f a e)) =
    pick (eqb f 3) (Some (held.String (record { start = a; end = e })))
    (pick (eqb f 4) (Some (held.Strings (record { start = a; end = e })))
    (pick (eqb f 5) (Some (held.Numbers (record { start = a; end = e }))) None))

abbrev pub held_in : List ℕ → Option Value
held_in s = held_from (last_in 2 5 s)

-- ---- what they stand for

abbrev pub bytes_at : List ℕ → Span → Bytes
bytes_at s p = part s p.start p.end

-- the place is in the message's bytes
abbrev pub Within : List ℕ → Span → Type 0
Within s p = (p.start ≤ p.end) × (p.end ≤ length s)

unfoldable pub time_value : Time → TimeSpec
time_value t = record { seconds = int64 t.seconds; nanoseconds = int32 t.nanos }

-- the entries of an accept are those of its bytes
unfoldable pub accept_value : List ℕ → Accept → m.Accept
accept_value s a = record {
  submit_time = time_value a.submit_time;
  info_msgs = m.entries 2 (items s);
  expect_iobufs = a.expect_iobufs;
}

unfoldable pub exit_value : List ℕ → Exit → m.Exit
exit_value s e = record {
  run_time = time_value e.run_time;
  exit_value = int32 e.exit_value;
  dumped_core = e.dumped_core;
  signal = bytes_at s e.signal;
  error = bytes_at s e.error;
}

unfoldable pub restart_value : List ℕ → Restart → m.Restart
restart_value s r = record { log_id = bytes_at s r.log_id; resume_point = time_value r.resume_point }

unfoldable pub timed_value : List ℕ → Timed → m.Timed
timed_value s t = record { delay = time_value t.delay; contents = bytes_at s t.contents }

unfoldable pub window_value : WindowSize → m.WindowSize
window_value w = record { delay = time_value w.delay; rows = int32 w.rows; cols = int32 w.cols }

unfoldable pub value_at : List ℕ → Option Value → m.Value
value_at s None = m.absent
value_at s (Some (held.Number v)) = m.numval (int64 v)
value_at s (Some (held.String p)) = m.strval (bytes_at s p)
value_at s (Some (held.Strings p)) = m.strlistval (m.string_list (items (bytes_at s p)))
value_at s (Some (held.Numbers p)) = m.numlistval (m.number_list (items (bytes_at s p)))
