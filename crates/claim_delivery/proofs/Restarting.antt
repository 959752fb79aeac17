-- There is a message for a restart at each point within the limit: the one that a writer writes.
use Prim.Native.Nat.{ℕ, zero, suc, ◌+◌, ◌*◌, ◌/◌, ◌%◌, ◌≤◌}
use native.Mathlib.Omega.{arith}
use mathlib.Core.Path.{◌≡◌}
use mathlib.Core.Bool.{Bool, true, false}
use mathlib.Core.List.{List, [], ◌∷◌, ◌++◌}
use lib.IntN.{pos}
use lib.ListN.{length, length-append}
use lib.Dec.{ltb, eqb}
use borrow.Author.Tests.{lt-ltb, le-leb}
use Rattle.base_laws.specs.Base.{pick}
use Rattle.wire_message.specs.Signed.{signed, int64, int32}
use Rattle.wire_message.specs.Message.{Bytes, Restart}
use Rattle.wire_range.specs.Limits.{up_to, sized, date_fits, moment_fits}
use Rattle.wire_range.specs.Range.{restart_fits}
use Rattle.wire.specs.Read.{value, client_message}
use Rattle.write_forms.specs.Pieces.{Piece, some, bytes, text, varint, shortest_from, head, encode, encode_all}
use Rattle.write_forms.specs.Draft as w
use Rattle.write_forms.specs.Draft.{Stamp, stamp_value, time, wrapped, written_client, client_number, client_pieces, meant_client}
use Rattle.write_forms.proofs.RoundTrip.{client_back}
use Rattle.file_format.specs.Record.{second}
use Rattle.file_format.specs.File.{limit}
use Rattle.session.specs.Step.{natural, moment}
use Rattle.claim_delivery.specs.Sender.{SaysRestart}

-- ---- its length

varint_short : (k v : ℕ) → length (shortest_from k v) ≤ suc k
unfolding shortest_from
varint_short zero v = omega arith
varint_short (suc k) v = go (ltb v 128) (varint_short k (v / 128))
  where
    go : (t : Bool) → length (shortest_from k (v / 128)) ≤ suc k → length (pick t (v ∷ []) ((v % 128 + 128) ∷ shortest_from k (v / 128))) ≤ suc (suc k)
    go true h = omega arith
    go false h = omega arith

head_short : (f n : ℕ) → length (head f n) ≤ 20
unfolding head
head_short f n = omega (arith, length-append (varint (f * 8 + 2)) (varint n), varint_short 9 (f * 8 + 2), varint_short 9 n)

some_short : (f v : ℕ) → length (encode (some f v)) ≤ 20
unfolding encode
some_short f v = go (eqb v 0)
  where
    go : (t : Bool) → length (pick t [] (varint (f * 8) ++ varint v)) ≤ 20
    go true = omega arith
    go false = omega (arith, length-append (varint (f * 8)) (varint v), varint_short 9 (f * 8), varint_short 9 v)

bytes_short : (f : ℕ) (d : Bytes) → length (encode (bytes f d)) ≤ 20 + length d
unfolding encode
bytes_short f d = omega (arith, length-append (head f (length d)) d, head_short f (length d))

text_short : (f : ℕ) (d : Bytes) → length (encode (text f d)) ≤ 20 + length d
unfolding encode
text_short f d = go (eqb (length d) 0)
  where
    go : (t : Bool) → length (pick t [] (head f (length d) ++ d)) ≤ 20 + length d
    go true = omega arith
    go false = omega (arith, length-append (head f (length d)) d, head_short f (length d))

two_short : (p q : Piece) → length (encode_all (p ∷ q ∷ [])) ≡ length (encode p) + length (encode q)
two_short p q = omega (arith, length-append (encode p) (encode q ++ []), length-append (encode q) [])

-- ---- its values

module _ (T : ℕ) (h : T ≤ limit) where
  stamp : Stamp
  stamp = record { seconds = T / second; nanos = T % second }

  -- the log "a"
  log : Bytes
  log = 0x61 ∷ []

  written : Bytes
  written = written_client (w.restart log stamp)

  written_short : length written ≤ 200
  unfolding written wrapped client_number client_pieces log
  written_short =
      let ps : List Piece = w.restart_pieces log stamp in
      omega (
        arith,
        length-append (encode (bytes 4 (encode_all ps))) [],
        bytes_short 4 (encode_all ps),
        two_short (text 1 log) (bytes 2 (time stamp)),
        text_short 1 log,
        bytes_short 2 (time stamp),
        two_short (some 1 stamp.seconds) (some 2 stamp.nanos),
        some_short 1 stamp.seconds,
        some_short 2 stamp.nanos,
      )

  values : Restart
  values = record { log_id = log; resume_point = stamp_value stamp }

  reads_back : client_message written ≡ value (meant_client (w.restart log stamp))
  unfolding stamp written
  reads_back = client_back (w.restart log stamp) ((omega arith, omega arith), omega (arith, written_short))

  seconds_are : int64 (T / second) ≡ pos (T / second)
  unfolding int64 signed
  seconds_are = rw (lt-ltb (T / second) 9223372036854775808 (omega arith))

  low_bits : T % second % 4294967296 ≡ T % second
  low_bits = omega arith

  nanoseconds_are : int32 (T % second) ≡ pos (T % second)
  unfolding int32 signed
  nanoseconds_are = rw (low_bits, lt-ltb (T % second) 2147483648 (omega arith))

  in_range_lem : restart_fits values ≡ true
  unfolding restart_fits sized moment_fits date_fits up_to values stamp log
  in_range_lem = rw (seconds_are, nanoseconds_are) (rw (le-leb (T / second) 4294967295 (omega arith), le-leb (T % second) 999999999 (omega arith)))

  is_at : moment values.resume_point ≡ T
  unfolding moment natural values stamp
  is_at = rw (seconds_are, nanoseconds_are) (omega arith)

  says_restart : SaysRestart written T
  unfolding values meant_client
  says_restart = record { values = values; reads = record { fits = omega (arith, written_short); read = reads_back }; in_range_lem = in_range_lem; is_at = is_at }

pub restartable : (T : ℕ) → T ≤ limit → (s : Bytes) × SaysRestart s T
restartable T h = (written T h, says_restart T h)
