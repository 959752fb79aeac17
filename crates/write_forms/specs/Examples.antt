-- Document 01's marked examples, as far as they speak of writing, each shown of the definitions. The bytes are those of wire's
-- examples of reading.
use Rattle.std.specs.Prelude.{◌≡◌, [], ◌∷◌, ◌++◌, true, pos, negsuc, length}
use Rattle.wire_message.specs.Signed.{int64}
use Rattle.wire_message.specs.Message.{Bytes}
use Rattle.wire.specs.Examples.{time_bytes, ttyout_frame, commit_frame, minus_one, least, greatest}
use Rattle.write_forms.specs.Pieces.{varint, front}
use Rattle.write_forms.specs.Draft.{time, io, written_client, commit, written_server}

-- a message as a frame
abbrev pub framed : Bytes → Bytes
framed m = front true (length m) ++ m

pub record WritingExamples : Type 0 where
  -- TimeSpec 5 s 250,000,000 ns
  pub one : time (record { seconds = 5; nanos = 250000000 }) ≡ time_bytes
  -- ttyout, delay 1 s, data "hi", as a frame
  pub two : framed (written_client (io 7 (record { seconds = 1; nanos = 0 }) (0x68 ∷ 0x69 ∷ []))) ≡ ttyout_frame
  -- int64 -1; the least, -2^63; the greatest, 2^63 - 1: their 64 bits, and these as a varint
  pub four_minus_one_bits : int64 18446744073709551615 ≡ negsuc 0
  pub four_minus_one : varint 18446744073709551615 ≡ minus_one
  pub four_least_bits : int64 9223372036854775808 ≡ negsuc 9223372036854775807
  pub four_least : varint 9223372036854775808 ≡ least
  pub four_greatest_bits : int64 9223372036854775807 ≡ pos 9223372036854775807
  pub four_greatest : varint 9223372036854775807 ≡ greatest
  -- commit point 1 s as a frame
  pub six : framed (written_server (commit (record { seconds = 1; nanos = 0 }))) ≡ commit_frame
