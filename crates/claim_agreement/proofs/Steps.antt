-- Every call leaves the host as `InState` says, where it stood so before: with any bytes in its area, and with a file.
use Rattle.std.specs.Prelude.{Option}
use Prim.Native.Nat.{ℕ, ◌+◌, ◌-◌, ◌≤◌}
use native.Mathlib.Omega.{arith}
use mathlib.Core.Path.{◌≡◌, refl, ◌∙◌}
use mathlib.Core.Bool.{Bool, true, false}
use mathlib.Core.List.{List, [], ◌∷◌}
use lib.ListN.{length, take}
use lib.Seq.{take_at, length-take-le}
use lib.Dec.{leb, eqb}
use borrow.Author.Tests.{leb-true, le-leb, eqb-true}
use Rattle.base_laws.specs.Base.{pick}
use Rattle.base_laws.proofs.Order.{picked, both_true}
use Rattle.wire_message.specs.Message.{Bytes, Accept, Report, Exit, Restart, Client, accept_msg, reject_msg, exit_msg, restart_msg, alert_msg, io_buf, winsize_event, suspend_event, hello_msg}
use Rattle.wire_range.specs.Range.{accept_fits, report_fits, exit_fits, restart_fits, io_fits, window_fits, suspend_fits}
use Rattle.wire.specs.Read.{Reading, value, refused, client_message, received}
use Rattle.file_format.specs.Record.{Record, record_bytes}
use Rattle.file_format.specs.File.{limit, Records, all, none, records_of, total, FileKind, invalid, unfinished, finished, records_kind, meets, within_area}
use Rattle.session_turn.specs.Turn.{opening, recording, greeting, ending, alerting, turn}
use Rattle.session.specs.Step.{Outcome, moment, accept_record, exit_record, lengths_fit, growth_refusal, taken, room_for, timed, entries_first, accept_stored, on_accept, on_reject, exit_stored, on_exit, resumed, by_kind, of_records, on_restart, act, in_turn, on_reading, step}
use Rattle.session_turn.specs.declared.State.{State}
use Rattle.session_turn.specs.declared.State.TheVariants.{New, Greeted, Logging, EventsOnly, Closed}
use Rattle.session.specs.declared.Session.{Session}
use Rattle.file_format.proofs.Areas.{within_area_lem}
use Rattle.session.proofs.Lengths.{lengths}
use Rattle.session.proofs.Timed.{growth_fits}
use Rattle.claim_values.specs.Values.{TimedRecord, io, window, suspend, stored_for, timed_in_range}
use Rattle.claim_values.proofs.Stored.{StorableTimed, timed_ranged, may_follow_lem}
use Rattle.claim_agreement.specs.Calls.{Call, message, tick, behind, break, Host, until_positive, after_taken, after_message, left, over, with_behind, after, after_all}
use Rattle.claim_agreement.specs.Agreement.{HoldsFile, AreaHolds, Agrees, Unopened, InState, Stands}
use Rattle.wire.proofs.Promises.{Known, ReadKnown, message_known}
use Rattle.claim_agreement.proofs.Files.{Serves, file_serves, area_serves, still_agrees, accept_agrees, stored_agrees, exited_holds, restart_agrees}

-- a record that has room
small : (se : Session) (area : Bytes) (used : ℕ) (r : Record) → room_for se area used r ≡ true → length r.contents ≤ 2097152
unfolding room_for
small se area used r e = leb-true (length r.contents) 2097152 (both_true (leb (length r.contents) 2097152) (leb (length (record_bytes r)) (length area - used)) e).0

-- ---- one message

module _ (Holds : Bytes → ℕ → Type 0) (serves : Serves Holds) where
  abbrev Standing : Host → Type 0
  Standing h = InState Holds h.session.state h

  -- what the area holds in any state
  in_area : (h : Host) (st : State) → InState Holds st h → Holds h.area h.used
  in_area h New u = u.holds
  in_area h Greeted u = u.holds
  in_area h Logging a = serves.of_file h.area h.used a.holds
  in_area h EventsOnly k = k
  in_area h Closed k = k

-- still: what the area held before the message, as it does after one that is refused or stores nothing
module _ (Holds : Bytes → ℕ → Type 0) (serves : Serves Holds) (h : Host) (still : Holds h.area h.used) where
  abbrev se : Session
  se = h.session

  -- the member c was answered so
  abbrev After : Client → Outcome → Type 0
  After c o = Standing Holds serves (left o (after_message (value c) o.refusal h.restart_point))

  -- a message that stores nothing, before an accept or a restart
  unopened : (st : State) (T : Option ℕ) → T ≡ h.restart_point → Unopened Holds h → Unopened Holds (left (taken se h.area h.used st) T)
  unopened st T e u = record { holds = u.holds; no_point = e ∙ u.no_point }

  -- ---- a timed record in logging

  timed_stands : (c : Client) (t : TimedRecord) (in-it : Bool) → (in-it ≡ true → timed_in_range t ≡ true)
      → after_taken c h.restart_point ≡ until_positive (stored_for t).delay h.restart_point → Agrees h
      → After c (timed se h.area h.used in-it (stored_for t))
  unfolding timed after_message
  timed_stands c t in-it ranges point a =
      let r : Record = stored_for t in
      picked (After c) (lengths_fit (length h.area) h.used se.used) _ _
      (λ l.
      picked (After c) in-it _ _
      (λ f.
      picked (After c) (eqb (growth_refusal se r.delay) 0) _ _
      (λ n.
      picked (After c) (room_for se h.area h.used r) _ _
      (λ m.
      let v : StorableTimed t = record { in_range_lem = ranges f; small = small se h.area h.used r m } in
      let sum : total a.holds.records + r.delay ≤ limit = omega (arith, a.carries.carries_total, growth_fits se r.delay (eqb-true (growth_refusal se r.delay) 0 n)) in
      rw point (stored_agrees h a r (timed_ranged t v) (may_follow_lem (total a.holds.records) t v sum) (within_area_lem (length h.area) h.used (lengths (length h.area) h.used se.used l).0).1))
      (λ _. still))
      (λ _. still))
      (λ _. still))
      (λ _. still)

  -- ---- an accept

  entries_stand : (c : Client) (in-it : Bool) (r k : ℕ) (next : Outcome) → After c next → After c (entries_first se h.area h.used in-it r k next)
  unfolding entries_first
  entries_stand c in-it r k next a = picked (After c) in-it _ _ (λ _. picked (After c) (eqb r 0) _ _ (λ _. a) (λ _. still)) (λ _. still)

  placed_stands : (a : Accept) (d : Bytes) → Unopened Holds h → lengths_fit (length h.area) h.used 0 ≡ true → After (accept_msg a) (accept_stored se h.area h.used d)
  unfolding accept_stored after_message after_taken
  placed_stands a d u l =
      picked (After (accept_msg a)) (room_for se h.area h.used (accept_record d)) _ _
      (λ m. accept_agrees h.area d h.used h.restart_point (lengths (length h.area) h.used 0 l).1 u.no_point (small se h.area h.used (accept_record d) m))
      (λ _. still)

  -- without I/O it gives events only
  events_only : (b : Bool) (g : Host) → Holds g.area g.used → b ≡ false → InState Holds (pick b Logging EventsOnly) g
  events_only true g k e = let z : ◌≡◌ {A = ℕ} 0 1 = cc in absurd (omega arith)
  events_only false g k e = k

  accept_stands : (a : Accept) (d : Bytes) → Unopened Holds h → After (accept_msg a) (on_accept se h.area h.used (pick a.expect_iobufs Logging EventsOnly) d a)
  unfolding on_accept
  accept_stands a d u =
      picked (After (accept_msg a)) a.expect_iobufs _ _
      (λ _.
      picked (After (accept_msg a)) (lengths_fit (length h.area) h.used 0) _ _
      (λ l. entries_stand (accept_msg a) (accept_fits a) _ _ _ (placed_stands a d u l))
      (λ _. still))
      (λ e. entries_stand (accept_msg a) (accept_fits a) _ _ _ (events_only a.expect_iobufs _ still e))

  -- ---- a restart

  module _ (q : Restart) (u : Unopened Holds h) (within : h.used ≤ length h.area) where
    abbrev t : ℕ
    t = moment q.resume_point

    kind_stands : (k : FileKind) (rs : List Record) → records_of (take h.used h.area) ≡ all rs → records_kind rs ≡ k
        → After (restart_msg q) (by_kind se h.area h.used t k rs)
    unfolding by_kind resumed after_message after_taken
    kind_stands invalid rs e k = still
    kind_stands finished rs e k = still
    kind_stands unfinished rs e k =
        picked (After (restart_msg q)) (meets t 0 rs) _ _ (λ m.
        let f = serves.reads h.area h.used u.holds rs e in
        restart_agrees h.area h.used within t rs f.0 f.1 k m)
        (λ _. still)

    records_stand : (rs : Records) → records_of (take h.used h.area) ≡ rs → After (restart_msg q) (of_records se h.area h.used t rs)
    unfolding of_records
    records_stand none e = still
    records_stand (all rs) e = kind_stands (records_kind rs) rs e refl

  restart_stands : (q : Restart) → Unopened Holds h → After (restart_msg q) (on_restart se h.area h.used q)
  unfolding on_restart
  restart_stands q u =
      picked (After (restart_msg q)) (within_area (length h.area) h.used) _ _
      (λ l.
      picked (After (restart_msg q)) (restart_fits q) _ _
      (λ _. records_stand q u (within_area_lem (length h.area) h.used l).1 (records_of (take h.used h.area)) refl)
      (λ _. still))
      (λ _. still)

  -- ---- an exit: the session is closed, whatever it was; in logging the area holds a finished file

  exit_stands : (e : Exit) (st : State) → InState Holds st h → After (exit_msg e) (on_exit se h.area h.used st e)
  unfolding on_exit exit_stored
  exit_stands e New i = still
  exit_stands e Greeted i = still
  exit_stands e Logging a =
      picked (After (exit_msg e)) (lengths_fit (length h.area) h.used se.used) _ _
      (λ l.
      picked (After (exit_msg e)) (exit_fits e) _ _
      (λ f.
      picked (After (exit_msg e)) (room_for se h.area h.used (exit_record e)) _ _
      (λ m. serves.of_file _ _ (exited_holds h a e (within_area_lem (length h.area) h.used (lengths (length h.area) h.used se.used l).0).1 f (small se h.area h.used (exit_record e) m)))
      (λ _. still))
      (λ _. still))
      (λ _. still)
  exit_stands e EventsOnly i = picked (After (exit_msg e)) (exit_fits e) _ _ (λ _. still) (λ _. still)
  exit_stands e Closed i = still

  -- ---- an alert: nothing changes

  same_state : (st : State) (T : Option ℕ) → T ≡ h.restart_point → InState Holds st h → InState Holds st (left (taken se h.area h.used st) T)
  same_state New T e u = unopened New T e u
  same_state Greeted T e u = unopened Greeted T e u
  same_state Logging T e a = still_agrees h _ h.area T refl refl refl refl refl e a
  same_state EventsOnly T e u = still
  same_state Closed T e u = still

  alert_stands : (r : Report) (d : Bytes) (st : State) → InState Holds st h → After (alert_msg r) (act se h.area h.used st d (alert_msg r))
  unfolding act after_message after_taken
  alert_stands r d st i = picked (After (alert_msg r)) (report_fits r) _ _ (λ _. same_state st h.restart_point refl i) (λ _. still)

  -- ---- whose turn it is

  in_opening : (c : Client) (d : Bytes) (next st : State) → InState Holds st h → (Unopened Holds h → After c (act se h.area h.used next d c))
      → After c (in_turn se h.area h.used (opening st next) d c)
  unfolding in_turn opening
  in_opening c d next New i f = f i
  in_opening c d next Greeted i f = f i
  in_opening c d next Logging i f = still
  in_opening c d next EventsOnly i f = still
  in_opening c d next Closed i f = still

  in_recording : (c : Client) (d : Bytes) (st : State) → InState Holds st h → (Agrees h → After c (act se h.area h.used Logging d c))
      → After c (in_turn se h.area h.used (recording st) d c)
  unfolding in_turn recording
  in_recording c d New i f = still
  in_recording c d Greeted i f = still
  in_recording c d Logging i f = f i
  in_recording c d EventsOnly i f = still
  in_recording c d Closed i f = still

  in_greeting : (d x : Bytes) (st : State) → InState Holds st h → After (hello_msg x) (in_turn se h.area h.used (greeting st) d (hello_msg x))
  unfolding in_turn greeting act after_message after_taken
  in_greeting d x New i = unopened Greeted h.restart_point refl i
  in_greeting d x Greeted i = still
  in_greeting d x Logging i = still
  in_greeting d x EventsOnly i = still
  in_greeting d x Closed i = still

  in_ending : (e : Exit) (d : Bytes) (st : State) → Standing Holds serves h → After (exit_msg e) (in_turn se h.area h.used (ending st) d (exit_msg e))
  unfolding in_turn ending act
  in_ending e d New i = still
  in_ending e d Greeted i = still
  in_ending e d Logging i = exit_stands e se.state i
  in_ending e d EventsOnly i = exit_stands e se.state i
  in_ending e d Closed i = still

  in_alerting : (r : Report) (d : Bytes) (st : State) → InState Holds st h → After (alert_msg r) (in_turn se h.area h.used (alerting st) d (alert_msg r))
  unfolding in_turn alerting
  in_alerting r d New i = alert_stands r d New i
  in_alerting r d Greeted i = alert_stands r d Greeted i
  in_alerting r d Logging i = alert_stands r d Logging i
  in_alerting r d EventsOnly i = alert_stands r d EventsOnly i
  in_alerting r d Closed i = still

  member_stands : (c : Client) (d : Bytes) → Known c → Standing Holds serves h → After c (in_turn se h.area h.used (turn se.state c) d c)
  unfolding turn act on_reject stored_for timed_in_range after_taken
  member_stands (accept_msg a) d k i = in_opening (accept_msg a) d _ se.state i (λ u. accept_stands a d u)
  member_stands (reject_msg r) d k i = in_opening (reject_msg r) d Closed se.state i (λ u. entries_stand (reject_msg r) (report_fits r) _ _ _ still)
  member_stands (exit_msg e) d k i = in_ending e d se.state i
  member_stands (restart_msg q) d k i = in_opening (restart_msg q) d Logging se.state i (λ u. restart_stands q u)
  member_stands (alert_msg r) d k i = in_alerting r d se.state i
  member_stands (io_buf n x) d k i =
      in_recording (io_buf n x) d se.state i
      (λ a. timed_stands (io_buf n x) (io n x) (io_fits x) (λ f. rw (le-leb 6 n k.0, le-leb n 10 k.1) f) refl a)
  member_stands (winsize_event w) d k i = in_recording (winsize_event w) d se.state i (λ a. timed_stands (winsize_event w) (window w) (window_fits w) (λ f. f) refl a)
  member_stands (suspend_event x) d k i = in_recording (suspend_event x) d se.state i (λ a. timed_stands (suspend_event x) (suspend x) (suspend_fits x) (λ f. f) refl a)
  member_stands (hello_msg x) d k i = in_greeting d x se.state i

  -- ---- any message

  reading_stands : (d : Bytes) (r : Reading Client) → ReadKnown r → Standing Holds serves h
      → Standing Holds serves (left (on_reading se h.area h.used d r) (after_message r (on_reading se h.area h.used d r).refusal h.restart_point))
  unfolding on_reading
  reading_stands d (value c) k i = member_stands c d k i
  reading_stands d (refused n) k i = still

  message_stands : (s : Bytes) → Standing Holds serves h → Standing Holds serves (after h (message s))
  unfolding after step
  message_stands s i =
      picked (λ (o : Outcome). Standing Holds serves (left o (after_message (client_message s) o.refusal h.restart_point))) (leb (length s) 2097152) _ _
      (λ _. reading_stands (received s) (client_message s) (message_known s) i)
      (λ _. still)

-- ---- other bytes behind the used ones

used_stay : (h : Host) (bs : Bytes) → take h.used (with_behind h bs) ≡ take h.used h.area
unfolding with_behind
used_stay h bs =
    picked (λ (area : Bytes). take h.used area ≡ take h.used h.area) (leb h.used (length h.area)) _ _
    (λ e. take_at (take h.used h.area) bs h.used (length-take-le h.used h.area (leb-true h.used (length h.area) e)))
    (λ _. refl)

module _ (Holds : Bytes → ℕ → Type 0) (serves : Serves Holds) where
  module _ (h : Host) (area : Bytes) (same : take h.used area ≡ take h.used h.area) where
    holds_over : Holds h.area h.used → Holds area h.used
    holds_over k = serves.over h.area area h.used same k

    unopened_over : Unopened Holds h → Unopened Holds (over h area)
    unopened_over u = record { holds = holds_over u.holds; no_point = u.no_point }

    over_stands : (st : State) → InState Holds st h → InState Holds st (over h area)
    over_stands New u = unopened_over u
    over_stands Greeted u = unopened_over u
    over_stands Logging a = still_agrees h h.session area h.restart_point refl refl refl refl same refl a
    over_stands EventsOnly k = holds_over k
    over_stands Closed k = holds_over k

  -- ---- any call

  call_keeps : (h : Host) (c : Call) → Standing Holds serves h → Standing Holds serves (after h c)
  unfolding after
  call_keeps h (message s) i = message_stands Holds serves h (in_area Holds serves h h.session.state i) s i
  call_keeps h tick i = i
  call_keeps h (behind bs) i = over_stands h (with_behind h bs) (used_stay h bs) h.session.state i
  call_keeps h break i = record { holds = in_area Holds serves h h.session.state i; no_point = refl }

  calls_keep : (h : Host) (cs : List Call) → Standing Holds serves h → Standing Holds serves (after_all h cs)
  unfolding after_all
  calls_keep h [] i = i
  calls_keep h (c ∷ cs) i = calls_keep (after h c) cs (call_keeps h c i)

-- ---- with any bytes

pub area_holds : (h : Host) → Stands h → AreaHolds h.area h.used
area_holds h i = in_area AreaHolds area_serves h h.session.state i

pub call_stands : (h : Host) (c : Call) → Stands h → Stands (after h c)
call_stands h c i = call_keeps AreaHolds area_serves h c i

pub calls_stand : (h : Host) (cs : List Call) → Stands h → Stands (after_all h cs)
calls_stand h cs i = calls_keep AreaHolds area_serves h cs i

-- ---- with a file

with_file : (h : Host) (st : State) → InState AreaHolds st h → HoldsFile h.area h.used → InState HoldsFile st h
with_file h New u f = record { holds = f; no_point = u.no_point }
with_file h Greeted u f = record { holds = f; no_point = u.no_point }
with_file h Logging a f = a
with_file h EventsOnly k f = f
with_file h Closed k f = f

pub files_stay : (h : Host) (cs : List Call) → Stands h → HoldsFile h.area h.used → HoldsFile (after_all h cs).area (after_all h cs).used
files_stay h cs i f =
    in_area HoldsFile file_serves (after_all h cs) (after_all h cs).session.state
    (calls_keep HoldsFile file_serves h cs (with_file h h.session.state i f))
