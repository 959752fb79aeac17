-- A message leaves a session's numbers within their limits.
use Rattle.std.specs.Prelude.{Option, Some, None}
use Prim.Native.Nat.{ℕ, ◌+◌, ◌-◌, ◌≤◌, ◌<◌}
use native.Mathlib.Omega.{arith}
use mathlib.Core.Path.{◌≡◌, refl}
use mathlib.Core.Bool.{Bool, true}
use mathlib.Core.List.{List}
use mathlib.Core.Logic.{⊎_elim}
use lib.ListN.{length, take}
use lib.Seq.{length-take-le}
use lib.Dec.{leb, eqb}
use borrow.Author.Tests.{leb-true, eqb-true}
use Rattle.base_laws.proofs.Order.{picked, both_true, lt_or_le}
use Rattle.wire_message.specs.Message.{Bytes, Accept, Exit, Restart, Client, accept_msg, reject_msg, exit_msg, restart_msg, alert_msg, io_buf, winsize_event, suspend_event, hello_msg}
use Rattle.wire_range.specs.Range.{accept_fits, report_fits, exit_fits, restart_fits, io_fits, window_fits, suspend_fits}
use Rattle.wire.specs.Read.{Reading, value, refused, client_message, received}
use Rattle.file_format.specs.Record.{Record, record_bytes}
use Rattle.file_format.specs.File.{limit, Records, all, none, records_of, file_bytes, total, low_total, FileKind, invalid, unfinished, finished, records_kind, meets, keep, within_area}
use Rattle.file_format.proofs.Beginnings.{low_found, low_none}
use Rattle.file_format.proofs.Restarts.{keep_total}
use Rattle.session_turn.specs.Turn.{turn}
use Rattle.session.specs.Step.{Outcome, moment, accept_record, in_state, grown, lengths_fit, growth_refusal, refuse, room_for, timed}
use Rattle.session.specs.Step.{entries_first, accept_stored, on_accept, on_reject, exit_stored, on_exit, resumed, by_kind, of_records, on_restart, act, in_turn, on_reading, step}
use Rattle.session.proofs.Moments.{moment_most, point_fits}
use Rattle.file_format.proofs.Areas.{within_area_lem}
use Rattle.session.proofs.Lengths.{lengths}
use Rattle.session.proofs.Timed.{growth_fits}
use Rattle.session_turn.specs.declared.State.{State}
use Rattle.session_turn.specs.declared.State.TheVariants.{New, Greeted, Logging, EventsOnly, Closed}
use Rattle.session.specs.declared.Session.{Session}
use Rattle.session_bytes.specs.Sound.{MarkSound, Sound}
use Rattle.session_bytes.proofs.Files.{kept_within}

-- ---- a restart's numbers

low_most : (rs : List Record) → low_total rs ≤ total rs
low_most rs =
    ⊎_elim
    (λ (l : 0 < total rs). omega (arith, (low_found rs l).is_below))
    (λ (l : total rs ≤ 0). omega (arith, low_none rs (omega arith)))
    (lt_or_le 0 (total rs))

-- ---- one message

-- the session that a call gives is sound
abbrev After : Outcome → Type 0
After o = Sound o.session

-- a stored record ends within the area
end_fits : (se : Session) (area : Bytes) (used want : ℕ) → lengths_fit (length area) used want ≡ true
    → (r : Record) → room_for se area used r ≡ true → used + length (record_bytes r) ≤ 1073741824
unfolding room_for
end_fits se area used want l r e =
    let a = within_area_lem (length area) used (lengths (length area) used want l).0 in
    let b = both_true (leb (length r.contents) 2097152) (leb (length (record_bytes r)) (length area - used)) e in
    omega (arith, a.0, a.1, leb-true (length (record_bytes r)) (length area - used) b.1)

module _ (se : Session) (h : Sound se) (area : Bytes) (used : ℕ) where
  in_state_lem : (st : State) → Sound (in_state se st)
  in_state_lem st = record { used = h.used; total = h.total; low = h.low; mark = h.mark }

  refused_sound : (n k : ℕ) → After (refuse se area used n k)
  refused_sound n k = in_state_lem Closed

  -- a timed record that has room
  grown_sound : (r : Record) → lengths_fit (length area) used se.used ≡ true → room_for se area used r ≡ true → se.total + r.delay ≤ limit
      → Sound (grown se (used + length (record_bytes r)) r.delay)
  grown_sound r l m t = record {
    used = end_fits se area used se.used l r m;
    total = t;
    low = picked (λ (n : ℕ). n ≤ limit) (eqb r.delay 0) se.low se.total (λ _. h.low) (λ _. h.total);
    mark = picked MarkSound (eqb r.delay 0) se.mark None (λ _. h.mark) (λ _. tt);
  }

  timed_sound : (fits : Bool) (r : Record) → After (timed se area used fits r)
  unfolding timed
  timed_sound fits r =
      picked After (lengths_fit (length area) used se.used) _ _
      (λ l.
      picked After fits _ _
      (λ _.
      picked After (eqb (growth_refusal se r.delay) 0) _ _
      (λ n.
      picked After (room_for se area used r) _ _
      (λ m. grown_sound r l m (growth_fits se r.delay (eqb-true (growth_refusal se r.delay) 0 n)))
      (λ _. refused_sound 12 0))
      (λ _. refused_sound (growth_refusal se r.delay) 0))
      (λ _. refused_sound 7 0))
      (λ _. refused_sound 15 0)

  entries_sound : (fits : Bool) (r k : ℕ) (next : Outcome) → After next → After (entries_first se area used fits r k next)
  unfolding entries_first
  entries_sound fits r k next a = picked After fits _ _ (λ _. picked After (eqb r 0) _ _ (λ _. a) (λ _. refused_sound r k)) (λ _. refused_sound 7 0)

  stored_sound : (d : Bytes) → lengths_fit (length area) used 0 ≡ true → After (accept_stored se area used d)
  unfolding accept_stored
  stored_sound d l =
      picked After (room_for se area used (accept_record d)) _ _
      (λ m. record { used = end_fits se area used 0 l (accept_record d) m; total = omega arith; low = omega arith; mark = tt })
      (λ _. refused_sound 12 0)

  accept_sound : (st : State) (d : Bytes) (a : Accept) → After (on_accept se area used st d a)
  unfolding on_accept
  accept_sound st d a =
      picked After a.expect_iobufs _ _
      (λ _. picked After (lengths_fit (length area) used 0) _ _ (λ l. entries_sound (accept_fits a) _ _ _ (stored_sound d l)) (λ _. refused_sound 15 0))
      (λ _. entries_sound (accept_fits a) _ _ _ (in_state_lem st))

  exit_stored_sound : (e : Exit) → After (exit_stored se area used e)
  unfolding exit_stored
  exit_stored_sound e =
      picked After (lengths_fit (length area) used se.used) _ _
      (λ l.
      picked After (exit_fits e) _ _
      (λ _.
      picked After (room_for se area used _) _ _
      (λ m. record { used = end_fits se area used se.used l _ m; total = h.total; low = h.low; mark = h.mark })
      (λ _. refused_sound 12 0))
      (λ _. refused_sound 7 0))
      (λ _. refused_sound 15 0)

  exit_sound : (st : State) (e : Exit) → After (on_exit se area used st e)
  unfolding on_exit
  exit_sound New e = in_state_lem Closed
  exit_sound Greeted e = in_state_lem Closed
  exit_sound Logging e = exit_stored_sound e
  exit_sound EventsOnly e = picked After (exit_fits e) _ _ (λ _. in_state_lem Closed) (λ _. refused_sound 7 0)
  exit_sound Closed e = in_state_lem Closed

  -- what is kept of a file that was read, at a point in its range
  resumed_sound : (t : ℕ) (rs : List Record) → t ≤ limit → length (file_bytes (keep t 0 rs)) ≤ 1073741824 → After (resumed se area used t rs)
  unfolding resumed
  resumed_sound t rs l k =
      picked After (meets t 0 rs) _ _
      (λ m. record { used = k; total = l; low = omega (arith, low_most (keep t 0 rs), keep_total t rs m); mark = l })
      (λ _. refused_sound 14 0)

  kind_sound : (t : ℕ) (k : FileKind) (rs : List Record) → t ≤ limit → length (file_bytes (keep t 0 rs)) ≤ 1073741824 → After (by_kind se area used t k rs)
  unfolding by_kind
  kind_sound t invalid rs l k = refused_sound 15 0
  kind_sound t finished rs l k = refused_sound 13 0
  kind_sound t unfinished rs l k = resumed_sound t rs l k

  records_sound : (t : ℕ) (rs : Records) → t ≤ limit → ((qs : List Record) → rs ≡ all qs → length (file_bytes (keep t 0 qs)) ≤ 1073741824)
      → After (of_records se area used t rs)
  unfolding of_records
  records_sound t none l k = refused_sound 15 0
  records_sound t (all rs) l k = kind_sound t (records_kind rs) rs l (k rs refl)

  restart_sound : (r : Restart) → After (on_restart se area used r)
  unfolding on_restart
  restart_sound r =
      picked After (within_area (length area) used) _ _
      (λ l.
      picked After (restart_fits r) _ _
      (λ f.
      records_sound (moment r.resume_point) (records_of (take used area)) (moment_most r.resume_point (point_fits r f))
      (λ qs e.
      let a = within_area_lem (length area) used l in
      omega (arith, a.0, a.1, kept_within (take used area) (moment r.resume_point) qs e, length-take-le used area a.1)))
      (λ _. refused_sound 7 0))
      (λ _. refused_sound 15 0)

  act_sound : (st : State) (d : Bytes) (c : Client) → After (act se area used st d c)
  unfolding act on_reject
  act_sound st d (accept_msg a) = accept_sound st d a
  act_sound st d (reject_msg r) = entries_sound (report_fits r) _ _ _ (in_state_lem st)
  act_sound st d (exit_msg e) = exit_sound se.state e
  act_sound st d (restart_msg r) = restart_sound r
  act_sound st d (alert_msg r) = picked After (report_fits r) _ _ (λ _. in_state_lem st) (λ _. refused_sound 7 0)
  act_sound st d (io_buf k i) = timed_sound (io_fits i) _
  act_sound st d (winsize_event w) = timed_sound (window_fits w) _
  act_sound st d (suspend_event s) = timed_sound (suspend_fits s) _
  act_sound st d (hello_msg d') = in_state_lem st

  turn_sound : (t : Option State) (d : Bytes) (c : Client) → After (in_turn se area used t d c)
  unfolding in_turn
  turn_sound (Some st) d c = act_sound st d c
  turn_sound None d c = refused_sound 9 0

  reading_sound : (d : Bytes) (r : Reading Client) → After (on_reading se area used d r)
  unfolding on_reading
  reading_sound d (value c) = turn_sound (turn se.state c) d c
  reading_sound d (refused n) = refused_sound n 0

  pub step_sound : (s : Bytes) → Sound (step se area used s).session
  unfolding step
  step_sound s =
      picked After (leb (length s) 2097152) _ _ (λ _. reading_sound (received s) (client_message s)) (λ _. refused_sound 1 0)
