-- The session's step in each case that this sender can meet.
use Rattle.std.specs.Prelude.{Some, None}
use Prim.Native.Nat.{ℕ, ◌+◌, ◌-◌, ◌≤◌}
use native.Mathlib.Omega.{arith}
use mathlib.Core.Path.{◌≡◌, refl, ap, sym, ◌∙◌}
use mathlib.Core.Bool.{Bool, true, false}
use mathlib.Core.List.{List}
use lib.Dec.{leb, eqb}
use lib.ListN.{length, take}
use borrow.Author.Tests.{le-leb, eq-eqb}
use Rattle.base_laws.specs.Base.{pick, both}
use Rattle.base_laws.proofs.Order.{both_true}
use Rattle.wire_message.specs.Message.{Bytes, Accept, Exit, Restart, Client, accept_msg, reject_msg, exit_msg, restart_msg, alert_msg, io_buf, winsize_event, suspend_event, hello_msg}
use Rattle.wire_range.specs.Range.{accept_fits, exit_fits, restart_fits, io_fits}
use Rattle.session_entries.specs.Required.{entries_refusal, named_key}
use Rattle.file_format.specs.Record.{Record, record_bytes}
use Rattle.file_format.specs.File.{all, records_of, file_bytes, limit, low_total, unfinished, finished, records_kind, meets, keep, within_area}
use Rattle.session_turn.specs.Turn.{opening, recording, greeting, ending, alerting, turn}
use Rattle.session.specs.Step.{moment, accept_record, exit_record, from_accept, from_restart, grown, ended, carrying, lengths_fit, at_mark, growth_refusal, refuse, taken, room_for, stored, timed, accept_stored, exit_stored, on_exit, resumed, by_kind, of_records, on_restart, act, in_turn, on_reading, step}
use Rattle.session_turn.specs.declared.State.{State}
use Rattle.session_turn.specs.declared.State.TheVariants.{New, Greeted, Logging, EventsOnly, Closed}
use Rattle.session.specs.declared.Session.{Session}
use Rattle.session.proofs.Turns.{may_open, opens, accept_placed}
use Rattle.claim_values.specs.Values.{TimedRecord, io, window, suspend, stored_for, timed_in_range, timed_member}
use Rattle.claim_delivery.specs.Recording.{Recording, accept_of, Valid}
use Rattle.claim_delivery.specs.Sender.{Reads}
use Rattle.wire.specs.Read.{received}

module _ (se : Session) (area : Bytes) (used : ℕ) (s : Bytes) where
  by_member : (c : Client) → Reads s c → step se area used s ≡ in_turn se area used (turn se.state c) (received s) c
  unfolding step on_reading
  by_member c r = rw (le-leb (length s) 2097152 r.fits, r.read)

  -- the same, in a state that is known
  in_state_lem : (st : State) (c : Client) → Reads s c → se.state ≡ st → step se area used s ≡ in_turn se area used (turn st c) (received s) c
  in_state_lem st c r e = by_member c r ∙ ap (λ (x : State). in_turn se area used (turn x c) (received s) c) e

  -- lengths and room
  pub within_area_lem : length area ≤ 1073741824 → used ≤ length area → within_area (length area) used ≡ true
  unfolding within_area
  within_area_lem h l = rw (le-leb (length area) 1073741824 h, le-leb used (length area) l)

  pub lengths_fit_lem : (want : ℕ) → within_area (length area) used ≡ true → used ≡ want → lengths_fit (length area) used want ≡ true
  unfolding lengths_fit
  lengths_fit_lem want h e = rw (h, eq-eqb used want e)

  pub room_for_lem : (r : Record) → length r.contents ≤ 2097152 → used + length (record_bytes r) ≤ length area → room_for se area used r ≡ true
  unfolding room_for
  room_for_lem r h l = rw (le-leb (length r.contents) 2097152 h, le-leb (length (record_bytes r)) (length area - used) (omega arith))

  -- ---- a hello in new

  pub step_hello : (id : Bytes) → Reads s (hello_msg id) → se.state ≡ New → step se area used s ≡ taken se area used Greeted
  unfolding in_turn turn greeting act
  step_hello id r e = in_state_lem New (hello_msg id) r e

  -- ---- the recording's accept, in new or greeted, over a used length of 0

  pub step_accept : (R : Recording) → Valid R → Reads s (accept_msg (accept_of R)) → received s ≡ R.accept → may_open se.state ≡ true
      → lengths_fit (length area) used 0 ≡ true → room_for se area used (accept_record R.accept) ≡ true
      → step se area used s ≡ carrying None (from_accept (used + length (record_bytes (accept_record R.accept)))) (stored se area used (accept_record R.accept))
  unfolding turn act accept_stored
  step_accept R v r d o l p =
      let a : Accept = accept_of R in
      by_member (accept_msg a) r
      ∙ opens se area used (received s) (accept_msg a) true se.state (pick a.expect_iobufs Logging EventsOnly) o
      ∙ sym (accept_placed se area used (pick a.expect_iobufs Logging EventsOnly) (received s) a
      (pick (accept_fits a) (entries_refusal a.info_msgs) 7) (pick (accept_fits a) (named_key a.info_msgs) 0) refl refl v.announces l (rw v.accept_in_range v.entries_there))
      ∙ ap (accept_stored se area used) d ∙ rw p

  -- ---- a timed record in logging

  -- the session after it
  pub acts_timed : (t : TimedRecord) (d : Bytes) → timed_in_range t ≡ true → in_turn se area used (turn Logging (timed_member t)) d (timed_member t) ≡ timed se area used true (stored_for t)
  unfolding in_turn turn recording act timed_member stored_for timed_in_range
  acts_timed (io k i) d e = ap (λ (b : Bool). timed se area used b (stored_for (io k i))) (both_true (both (leb 6 k) (leb k 10)) (io_fits i) e).1
  acts_timed (window w) d e = ap (λ (b : Bool). timed se area used b (stored_for (window w))) e
  acts_timed (suspend x) d e = ap (λ (b : Bool). timed se area used b (stored_for (suspend x))) e

  pub step_timed : (t : TimedRecord) → Reads s (timed_member t) → timed_in_range t ≡ true → se.state ≡ Logging → lengths_fit (length area) used se.used ≡ true
      → se.total + (stored_for t).delay ≤ limit → both (eqb (stored_for t).delay 0) (at_mark se.mark se.total) ≡ false → room_for se area used (stored_for t) ≡ true
      → step se area used s ≡ carrying None (grown se (used + length (record_bytes (stored_for t))) (stored_for t).delay) (stored se area used (stored_for t))
  unfolding timed growth_refusal
  step_timed t r v e l h z p =
      in_state_lem Logging (timed_member t) r e ∙ acts_timed t (received s) v ∙ rw (l, le-leb (se.total + (stored_for t).delay) limit h, z, p)

  -- ---- the exit in logging

  pub step_exit : (e : Exit) → Reads s (exit_msg e) → exit_fits e ≡ true → se.state ≡ Logging → lengths_fit (length area) used se.used ≡ true
      → room_for se area used (exit_record e) ≡ true → step se area used s ≡ carrying (Some se.total) (ended se (used + length (record_bytes (exit_record e)))) (stored se area used (exit_record e))
  unfolding in_turn turn ending act on_exit exit_stored
  step_exit e r v st l p = in_state_lem Logging (exit_msg e) r st ∙ ap (λ (x : State). on_exit se area used x e) st ∙ rw (l, v, p)

  -- ---- a restart in new or greeted

  to_file : (r : Restart) → Reads s (restart_msg r) → restart_fits r ≡ true → may_open se.state ≡ true → within_area (length area) used ≡ true
      → step se area used s ≡ of_records se area used (moment r.resume_point) (records_of (take used area))
  unfolding turn act on_restart
  to_file r h v o l =
      by_member (restart_msg r) h ∙ opens se area used (received s) (restart_msg r) true se.state Logging o ∙ rw (l, v)

  -- the session after one that is taken
  abbrev pub resumes : ℕ → List Record → Session
  resumes t rs = from_restart t (length (file_bytes (keep t 0 rs))) (low_total (keep t 0 rs))

  pub step_restart : (r : Restart) → Reads s (restart_msg r) → restart_fits r ≡ true → may_open se.state ≡ true → within_area (length area) used ≡ true
      → (rs : List Record) → records_of (take used area) ≡ all rs → records_kind rs ≡ unfinished → meets (moment r.resume_point) 0 rs ≡ true
      → step se area used s ≡ carrying None (resumes (moment r.resume_point) rs) area
  unfolding of_records by_kind resumed
  step_restart r h v o l rs e k p = to_file r h v o l ∙ rw (e, k, p)

  pub step_finished : (r : Restart) → Reads s (restart_msg r) → restart_fits r ≡ true → may_open se.state ≡ true → within_area (length area) used ≡ true
      → (rs : List Record) → records_of (take used area) ≡ all rs → records_kind rs ≡ finished → step se area used s ≡ refuse se area used 13 0
  unfolding of_records by_kind
  step_finished r h v o l rs e k = to_file r h v o l ∙ rw (e, k)

  -- ---- a closed session

  shut : (c : Client) (d : Bytes) → in_turn se area used (turn Closed c) d c ≡ refuse se area used 9 0
  unfolding in_turn turn opening ending alerting recording greeting
  shut (accept_msg a) d = refl
  shut (reject_msg a) d = refl
  shut (exit_msg e) d = refl
  shut (restart_msg r) d = refl
  shut (alert_msg a) d = refl
  shut (io_buf k i) d = refl
  shut (winsize_event w) d = refl
  shut (suspend_event x) d = refl
  shut (hello_msg h) d = refl

  pub step_closed : (c : Client) → Reads s c → se.state ≡ Closed → step se area used s ≡ refuse se area used 9 0
  step_closed c r e = in_state_lem Closed c r e ∙ shut c (received s)
