-- A recording whose messages were lined up once can be stored: what a message that fits a frame holds is short (`wire`, Sizes).
use Rattle.std.specs.Prelude.{None}
use native.Mathlib.Omega.{arith}
use mathlib.Core.Path.{◌≡◌, ap}
use mathlib.Core.Bool.{Bool, true, false}
use mathlib.Core.List.{List, [], ◌∷◌}
use lib.ListN.{length, length-append}
use Rattle.base_laws.specs.Base.{All}
use Rattle.wire_message.specs.Message.{Bytes, Exit, exit_msg, io_buf, suspend_event}
use Rattle.wire.specs.Read.{received}
use Rattle.wire.proofs.Sizes.{reads_short, received_short}
use Rattle.file_format.specs.Record.{exit_bytes}
use Rattle.session.specs.Step.{natural, accept_record, exit_record}
use Rattle.claim_values.specs.Values.{TimedRecord, io, window, suspend, timed_member, stored_for, timed_in_range}
use Rattle.claim_values.proofs.Stored.{Small, StorableTimed}
use Rattle.claim_delivery.specs.Recording.{Recording, Valid}
use Rattle.claim_delivery.specs.Sender as sent
use Rattle.claim_delivery.specs.Sender.{rest, messages, with_hello, Says, Lines}
use Rattle.claim_delivery.specs.Progress.{Sendable}
use Rattle.file_format.proofs.Records.{length_window}
use Rattle.claim_delivery.proofs.Files.{Storable}

-- ---- what the sender says has records that can be stored

accept_small : (t d : Bytes) → Says t (sent.accept d) → Small (accept_record d)
accept_small t d y =
    let l : length (received t) ≡ length d = ap length y.1 in
    omega (arith, received_short t y.0.fits)

timed_small : (t : Bytes) (r : TimedRecord) → Says t (sent.timed r) → Small (stored_for r)
unfolding stored_for timed_member
timed_small t (io k i) y = reads_short t (io_buf k i) y.fits y.read
timed_small t (window w) y = omega (arith, length_window (natural w.rows) (natural w.cols))
timed_small t (suspend x) y = reads_short t (suspend_event x) y.fits y.read

exit_small : (t : Bytes) (e : Exit) → Says t (sent.exit e) → Small (exit_record e)
unfolding exit_bytes
exit_small t e y = let h = reads_short t (exit_msg e) y.fits y.read in omega (arith, length-append e.signal e.error)

-- a valid recording that some messages say
module _ (R : Recording) (v : Valid R) where
  abbrev SaysTimed : TimedRecord → Type 0
  SaysTimed t = (b : Bytes) × Says b (sent.timed t)

  all_storable : (ts : List TimedRecord) → All (λ (t : TimedRecord). timed_in_range t ≡ true) ts → All SaysTimed ts → All StorableTimed ts
  all_storable [] i a = tt
  all_storable (t ∷ ts) i a = (record { in_range_lem = i.0; small = timed_small a.0.0 t a.0.1 }, all_storable ts i.1 a.1)

  pub storable_sent : Sendable R → Storable R
  storable_sent x = record {
    valid = v;
    accept_small = accept_small x.accepts.0 R.accept x.accepts.1;
    timed_storable = all_storable R.timed v.timed_in_range_lem x.times;
    exit_small = exit_small x.exits.0 R.exit x.exits.1;
  }

  -- as they are lined up where no point was received
  rest_said : (ts : List TimedRecord) (bs : List Bytes) → Lines bs (rest R ts) → All SaysTimed ts × ((b : Bytes) × Says b (sent.exit R.exit))
  unfolding rest
  rest_said [] [] l = absurd l
  rest_said [] (b ∷ bs) l = (tt, (b, l.0))
  rest_said (t ∷ ts) [] l = absurd l
  rest_said (t ∷ ts) (b ∷ bs) l = let r = rest_said ts bs l.1 in (((b, l.0), r.0), r.1)

  first_said : (bs : List Bytes) → Lines bs (messages R None) → Storable R
  unfolding messages
  first_said [] l = absurd l
  first_said (b ∷ bs) l = let r = rest_said R.timed bs l.1 in storable_sent (record { accepts = (b, l.0); times = r.0; exits = r.1 })

  pub storable_lined : (h : Bool) (bs : List Bytes) → Lines bs (with_hello h (messages R None)) → Storable R
  storable_lined false bs l = first_said bs l
  storable_lined true [] l = absurd l
  storable_lined true (b ∷ bs) l = first_said bs l.1
