-- Where a message's values stand in its bytes, as the readers return them: numbers as they were read, and places of bytes.
-- `Message` says what these values mean.
use Rattle.std.specs.Prelude.{ℕ, List, Option, Some, None, Result, Ok, Err}
use Rattle.base_laws.specs.Base.{part}
use Rattle.wire_schema.specs.Schema.{IoBuffer, TimeSpec}
use Rattle.wire_check_field.specs.Check.{check_of}
use Rattle.wire_fields.specs.Fields.{number_in, last_in, start_from, end_from}
use Rattle.wire_fields.specs.declared.Last.{Last}
use Rattle.wire_fields.specs.declared.Last.TheVariants as last
use Rattle.wire_types.specs.declared.Refused.{Refused}
use Rattle.wire_types.specs.declared.Time.{Time}
use Rattle.wire_types.specs.declared.Timed.{Timed}

abbrev pub time_numbers : List ℕ → Time
time_numbers s = record { seconds = number_in 1 s; nanos = number_in 2 s }

unfoldable pub time_from : List ℕ → Option Last → Time
time_from s None = record { seconds = 0; nanos = 0 }
time_from s (Some (last.Number f v)) = record { seconds = 0; nanos = 0 }
time_from s (Some (last.Part f a e)) = time_numbers (part s a e)

abbrev pub time_in : ℕ → List ℕ → Time
time_in f s = time_from s (last_in f f s)

-- a TimeSpec that is fine, by its numbers
unfoldable pub time_read : Result Unit Refused → Time → Result Time Refused
time_read (Ok u) t = Ok t
time_read (Err r) t = Err r

abbrev pub time_spec_of : List ℕ → Result Time Refused
time_spec_of s = time_read (check_of TimeSpec s) (time_numbers s)

-- an I/O buffer that is fine, by its delay and where its data is
unfoldable pub io_read : Result Unit Refused → Time → Option Last → Result Timed Refused
io_read (Ok u) t l = Ok (record { delay = t; contents = record { start = start_from l; end = end_from l } })
io_read (Err r) t l = Err r

abbrev pub io_buffer_of : List ℕ → Result Timed Refused
io_buffer_of s = io_read (check_of IoBuffer s) (time_in 1 s) (last_in 2 2 s)
