-- Document 01's marked examples, as far as they speak of reading, each shown of the definitions.
use Rattle.std.specs.Prelude.{ℕ, ◌≡◌, List, [], ◌∷◌, ℤ, pos, negsuc, Result, Ok, Err}
use Rattle.base_laws.specs.Base.{part}
use Rattle.wire_frame.specs.Frame.{cut_of}
use Rattle.wire_frame.specs.declared.Cut.TheVariants as cut
use Rattle.wire_varint.specs.Varint.{varint_at}
use Rattle.wire_fields.specs.Items.{items}
use Rattle.wire_varint.specs.declared.Varint.{Varint}
use Rattle.wire_varint.specs.declared.VarintError.{VarintError}
use Rattle.wire_message.specs.Signed.{int64, int32}
use Rattle.wire_message.specs.Message.{time_spec, io_buf, commit_point}
use Rattle.wire.specs.Read.{value, client_message, server_message}

-- the number that a varint's bytes give by a reading of its bits, with the place past it
abbrev pub read_as : (ℕ → ℤ) → Result Varint VarintError → List ℤ
read_as f (Ok r) = f r.value ∷ pos r.next ∷ []
read_as f (Err e) = []

-- example 1's bytes, and example 2's and 6's frames
abbrev pub time_bytes : List ℕ
time_bytes = 0x08 ∷ 0x05 ∷ 0x10 ∷ 0x80 ∷ 0xE5 ∷ 0x9A ∷ 0x77 ∷ []

abbrev pub ttyout_frame : List ℕ
ttyout_frame = 0x00 ∷ 0x00 ∷ 0x00 ∷ 0x0A ∷ 0x3A ∷ 0x08 ∷ 0x0A ∷ 0x02 ∷ 0x08 ∷ 0x01 ∷ 0x12 ∷ 0x02 ∷ 0x68 ∷ 0x69 ∷ []

abbrev pub commit_frame : List ℕ
commit_frame = 0x00 ∷ 0x00 ∷ 0x00 ∷ 0x04 ∷ 0x12 ∷ 0x02 ∷ 0x08 ∷ 0x01 ∷ []

abbrev pub minus_one : List ℕ
minus_one = 0xFF ∷ 0xFF ∷ 0xFF ∷ 0xFF ∷ 0xFF ∷ 0xFF ∷ 0xFF ∷ 0xFF ∷ 0xFF ∷ 0x01 ∷ []

abbrev pub least : List ℕ
least = 0x80 ∷ 0x80 ∷ 0x80 ∷ 0x80 ∷ 0x80 ∷ 0x80 ∷ 0x80 ∷ 0x80 ∷ 0x80 ∷ 0x01 ∷ []

abbrev pub greatest : List ℕ
greatest = 0xFF ∷ 0xFF ∷ 0xFF ∷ 0xFF ∷ 0xFF ∷ 0xFF ∷ 0xFF ∷ 0xFF ∷ 0x7F ∷ []

pub record ReadingExamples : Type 0 where
  -- TimeSpec 5 s 250,000,000 ns
  pub one : time_spec (items time_bytes) ≡ record { seconds = pos 5; nanoseconds = pos 250000000 }
  -- ttyout, delay 1 s, data "hi", as a frame
  pub two_frame : cut_of ttyout_frame ≡ cut.Frame 10
  pub two :
      client_message (part ttyout_frame 4 14)
      ≡ value (io_buf 7 (record { delay = record { seconds = pos 1; nanoseconds = pos 0 }; contents = 0x68 ∷ 0x69 ∷ [] }))
  -- int64 -1; the least, -2^63; the greatest, 2^63 - 1
  pub four_minus_one : read_as int64 (varint_at minus_one 0) ≡ negsuc 0 ∷ pos 10 ∷ []
  pub four_least : read_as int64 (varint_at least 0) ≡ negsuc 9223372036854775807 ∷ pos 10 ∷ []
  pub four_greatest : read_as int64 (varint_at greatest 0) ≡ pos 9223372036854775807 ∷ pos 9 ∷ []
  -- int32 from 80 80 80 80 10: 0
  pub five : read_as int32 (varint_at (0x80 ∷ 0x80 ∷ 0x80 ∷ 0x80 ∷ 0x10 ∷ []) 0) ≡ pos 0 ∷ pos 5 ∷ []
  -- commit point 1 s as a frame
  pub six_frame : cut_of commit_frame ≡ cut.Frame 4
  pub six : server_message (part commit_frame 4 8) ≡ value (commit_point (record { seconds = pos 1; nanoseconds = pos 0 }))
