-- `Touches`, case after case of the session's step.
use Rattle.std.specs.Prelude.{Option, Some, None}
use Prim.Native.Nat.{ℕ, ◌+◌, ◌-◌, ◌≤◌}
use native.Mathlib.Omega.{arith}
use mathlib.Core.Path.{◌≡◌, refl, sym, ap, ◌∙◌}
use mathlib.Core.Logic.{inl, inr}
use mathlib.Core.Bool.{Bool, true, false}
use mathlib.Core.List.{List, [], ◌∷◌}
use lib.ListN.{length, take}
use lib.Dec.{leb, eqb}
use borrow.Author.Tests.{leb-true, le-leb, eqb-true, eqb-false, eq-eqb}
use Rattle.base_laws.specs.Base.{pick, both}
use Rattle.base_laws.proofs.Order.{picked, both_true}
use Rattle.wire_message.specs.Message.{Bytes, Accept, Report, Exit, Restart, Client, accept_msg, reject_msg, exit_msg, restart_msg, alert_msg, io_buf, winsize_event, suspend_event, hello_msg}
use Rattle.wire_range.specs.Range.{accept_fits, report_fits, exit_fits, restart_fits, io_fits, window_fits, suspend_fits}
use Rattle.wire.specs.Read.{Reading, value, refused, client_message, received}
use Rattle.file_format.specs.Record.{Record, record_bytes}
use Rattle.file_format.specs.File.{Records, all, none, records_of, FileKind, invalid, unfinished, finished, records_kind, limit, meets, within_area}
use Rattle.session_turn.specs.Turn.{opening, recording, greeting, ending, alerting, turn}
use Rattle.session_turn.specs.declared.State.{State}
use Rattle.session_turn.specs.declared.State.TheVariants.{New, Greeted, Logging, EventsOnly, Closed}
use Rattle.session.specs.Step.{Outcome, moment, lengths_fit, growth_refusal, at_mark, room_for, record_for, timed, entries_first, accept_stored, on_accept, on_reject, exit_stored, on_exit, resumed, by_kind, of_records, on_restart, act, in_turn, on_reading, step}
use Rattle.session.specs.declared.Session.{Session}
use Rattle.file_format.proofs.Areas.{within_area_lem}
use Rattle.session.proofs.Lengths.{lengths}
use Rattle.claim_values.specs.Values.{TimedRecord, io, window, suspend, timed_member, stored_for, timed_in_range}
use Rattle.claim_touches.specs.Touches.{Unopened, Follows, Touched, nothing, begins, goes_on, resumes, ZeroDelay, Touches}

module _ (se : Session) (area : Bytes) (used : ℕ) (s : Bytes) where
  abbrev Is : Outcome → Type 0
  Is o = Touched se area used s o

  room_ends : (r : Record) → room_for se area used r ≡ true → used ≤ length area → used + length (record_bytes r) ≤ length area
  unfolding room_for
  room_ends r e h =
      let end : ℕ = length (record_bytes r) in
      let left : ℕ = length area - used in
      let room : end ≤ left = leb-true end left (both_true (leb (length r.contents) 2097152) (leb end left) e).1 in
      omega arith

  in_area : (want : ℕ) → lengths_fit (length area) used want ≡ true → used ≤ length area
  in_area want l = (within_area_lem (length area) used (lengths (length area) used want l).0).1

  -- ---- a record in logging

  module _ (c : Client) (reads : client_message s ≡ value c) (follows : Follows c) (r : Record) (gives : record_for (received s) c ≡ r ∷ []) (logging : se.state ≡ Logging) where
    of_timed : (fits : Bool) → Is (timed se area used fits r)
    unfolding timed
    of_timed fits =
        picked Is (lengths_fit (length area) used se.used) _ _
        (λ l.
        picked Is fits _ _
        (λ _.
        picked Is (eqb (growth_refusal se r.delay) 0) _ _
        (λ _.
        picked Is (room_for se area used r) _ _
        (λ m.
        goes_on c reads follows logging (lengths (length area) used se.used l).1
        (record { stored = r; gives = gives; bytes = refl; end = refl; in_bounds = room_ends r m (in_area se.used l) }))
        (λ _. nothing refl refl))
        (λ _. nothing refl refl))
        (λ _. nothing refl refl))
        (λ _. nothing refl refl)

  of_exit_stored : (e : Exit) → client_message s ≡ value (exit_msg e) → se.state ≡ Logging → Is (exit_stored se area used e)
  unfolding exit_stored record_for
  of_exit_stored e reads logging =
      picked Is (lengths_fit (length area) used se.used) _ _
      (λ l.
      picked Is (exit_fits e) _ _
      (λ _.
      picked Is (room_for se area used _) _ _
      (λ m.
      goes_on (exit_msg e) reads tt logging (lengths (length area) used se.used l).1
      (record { stored = _; gives = refl; bytes = refl; end = refl; in_bounds = room_ends _ m (in_area se.used l) }))
      (λ _. nothing refl refl))
      (λ _. nothing refl refl))
      (λ _. nothing refl refl)

  of_exit : (st : State) (e : Exit) → client_message s ≡ value (exit_msg e) → (st ≡ Logging → se.state ≡ Logging) → Is (on_exit se area used st e)
  unfolding on_exit
  of_exit New e reads same = nothing refl refl
  of_exit Greeted e reads same = nothing refl refl
  of_exit Logging e reads same = of_exit_stored e reads (same refl)
  of_exit EventsOnly e reads same = picked Is (exit_fits e) _ _ (λ _. nothing refl refl) (λ _. nothing refl refl)
  of_exit Closed e reads same = nothing refl refl

  -- ---- an accept, a reject, a restart

  of_entries : (fits : Bool) (r k : ℕ) (next : Outcome) → Is next → Is (entries_first se area used fits r k next)
  unfolding entries_first
  of_entries fits r k next h = picked Is fits _ _ (λ _. picked Is (eqb r 0) _ _ (λ _. h) (λ _. nothing refl refl)) (λ _. nothing refl refl)

  of_stored : (a : Accept) → client_message s ≡ value (accept_msg a) → a.expect_iobufs ≡ true → Unopened se.state → lengths_fit (length area) used 0 ≡ true → Is (accept_stored se area used (received s))
  unfolding accept_stored record_for
  of_stored a reads flag unopened l =
      picked Is (room_for se area used _) _ _
      (λ m.
      begins a reads unopened (lengths (length area) used 0 l).1
      (record { stored = _; gives = rw flag; bytes = refl; end = refl; in_bounds = room_ends _ m (in_area 0 l) }))
      (λ _. nothing refl refl)

  of_accept : (a : Accept) → client_message s ≡ value (accept_msg a) → Unopened se.state → (st : State) → Is (on_accept se area used st (received s) a)
  unfolding on_accept
  of_accept a reads unopened st =
      picked Is a.expect_iobufs _ _
      (λ flag.
      picked Is (lengths_fit (length area) used 0) _ _
      (λ l. of_entries (accept_fits a) _ _ _ (of_stored a reads flag unopened l))
      (λ _. nothing refl refl))
      (λ _. of_entries (accept_fits a) _ _ _ (nothing refl refl))

  module _ (r : Restart) (reads : client_message s ≡ value (restart_msg r)) (unopened : Unopened se.state) where
    of_kind : (k : FileKind) (rs : List Record) → records_of (take used area) ≡ all rs → Is (by_kind se area used (moment r.resume_point) k rs)
    unfolding by_kind resumed
    of_kind invalid rs e = nothing refl refl
    of_kind finished rs e = nothing refl refl
    of_kind unfinished rs e =
        picked Is (meets (moment r.resume_point) 0 rs) _ _ (λ _. resumes r reads unopened rs e refl refl) (λ _. nothing refl refl)

    of_records_lem : (rs : Records) → records_of (take used area) ≡ rs → Is (of_records se area used (moment r.resume_point) rs)
    unfolding of_records
    of_records_lem none e = nothing refl refl
    of_records_lem (all rs) e = of_kind (records_kind rs) rs e

    of_restart : Is (on_restart se area used r)
    unfolding on_restart
    of_restart =
        picked Is (within_area (length area) used) _ _
        (λ _. picked Is (restart_fits r) _ _ (λ _. of_records_lem (records_of (take used area)) refl) (λ _. nothing refl refl))
        (λ _. nothing refl refl)

  -- ---- turns

  in_opening : (c : Client) (next st : State) → (Unopened st → Is (act se area used next (received s) c)) → Is (in_turn se area used (opening st next) (received s) c)
  unfolding in_turn opening
  in_opening c next New h = h (inl refl)
  in_opening c next Greeted h = h (inr refl)
  in_opening c next Logging h = nothing refl refl
  in_opening c next EventsOnly h = nothing refl refl
  in_opening c next Closed h = nothing refl refl

  in_recording : (c : Client) (st : State) → (st ≡ Logging → Is (act se area used Logging (received s) c)) → Is (in_turn se area used (recording st) (received s) c)
  unfolding in_turn recording
  in_recording c New h = nothing refl refl
  in_recording c Greeted h = nothing refl refl
  in_recording c Logging h = h refl
  in_recording c EventsOnly h = nothing refl refl
  in_recording c Closed h = nothing refl refl

  in_greeting : (d : Bytes) (st : State) → Is (in_turn se area used (greeting st) (received s) (hello_msg d))
  unfolding in_turn greeting act
  in_greeting d New = nothing refl refl
  in_greeting d Greeted = nothing refl refl
  in_greeting d Logging = nothing refl refl
  in_greeting d EventsOnly = nothing refl refl
  in_greeting d Closed = nothing refl refl

  in_ending : (e : Exit) → client_message s ≡ value (exit_msg e) → (st : State) → Is (in_turn se area used (ending st) (received s) (exit_msg e))
  unfolding in_turn ending act
  in_ending e reads New = nothing refl refl
  in_ending e reads Greeted = nothing refl refl
  in_ending e reads Logging = of_exit se.state e reads (λ x. x)
  in_ending e reads EventsOnly = of_exit se.state e reads (λ x. x)
  in_ending e reads Closed = nothing refl refl

  of_alert : (r : Report) (st : State) → Is (act se area used st (received s) (alert_msg r))
  unfolding act
  of_alert r st = picked Is (report_fits r) _ _ (λ _. nothing refl refl) (λ _. nothing refl refl)

  in_alerting : (r : Report) (st : State) → Is (in_turn se area used (alerting st) (received s) (alert_msg r))
  unfolding in_turn alerting
  in_alerting r New = of_alert r New
  in_alerting r Greeted = of_alert r Greeted
  in_alerting r Logging = of_alert r Logging
  in_alerting r EventsOnly = of_alert r EventsOnly
  in_alerting r Closed = nothing refl refl

  -- ---- any message

  of_member : (c : Client) → client_message s ≡ value c → Is (in_turn se area used (turn se.state c) (received s) c)
  unfolding turn act on_reject record_for
  of_member (accept_msg a) reads = in_opening (accept_msg a) _ se.state (λ u. of_accept a reads u _)
  of_member (reject_msg r) reads = in_opening (reject_msg r) Closed se.state (λ u. of_entries (report_fits r) _ _ _ (nothing refl refl))
  of_member (exit_msg e) reads = in_ending e reads se.state
  of_member (restart_msg r) reads = in_opening (restart_msg r) Logging se.state (λ u. of_restart r reads u)
  of_member (alert_msg r) reads = in_alerting r se.state
  of_member (io_buf k i) reads = in_recording (io_buf k i) se.state (λ l. of_timed (io_buf k i) reads tt _ refl l (io_fits i))
  of_member (winsize_event w) reads = in_recording (winsize_event w) se.state (λ l. of_timed (winsize_event w) reads tt _ refl l (window_fits w))
  of_member (suspend_event x) reads = in_recording (suspend_event x) se.state (λ l. of_timed (suspend_event x) reads tt _ refl l (suspend_fits x))
  of_member (hello_msg d) reads = in_greeting d se.state

  of_reading : (r : Reading Client) → client_message s ≡ r → Is (on_reading se area used (received s) r)
  unfolding on_reading
  of_reading (value c) e = of_member c e
  of_reading (refused n) e = nothing refl refl

  of_step : Is (step se area used s)
  unfolding step
  of_step = picked Is (leb (length s) 2097152) _ _ (λ _. of_reading (client_message s) refl) (λ _. nothing refl refl)

-- ---- a delay of zero

module _ (se : Session) where
  Eleven : ℕ → Type 0
  Eleven n = (n ≡ 11 → se.mark ≡ Some se.total) × (se.mark ≡ Some se.total → n ≡ 11)

  at_mark_lem : (m : Option ℕ) → (at_mark m se.total ≡ true → m ≡ Some se.total) × (m ≡ Some se.total → at_mark m se.total ≡ true)
  unfolding at_mark
  at_mark_lem None = (λ e. let z : ◌≡◌ {A = ℕ} 0 1 = cc in absurd (omega arith), λ e. let z : ◌≡◌ {A = ℕ} 0 1 = cc in absurd (omega arith))
  at_mark_lem (Some t) = (λ e. ap Some (sym (eqb-true se.total t e)), λ e. eq-eqb se.total t (sym (same e)))
    where
      same : {a b : ℕ} → Some a ≡ Some b → a ≡ b
      same q = cc

  -- ---- by the growth's refusal n

  module _ (n : ℕ) (e : n ≡ pick (at_mark se.mark se.total) 11 0) where
    not_marked : n ≡ 0 → (k : ℕ) → (k ≡ 11 → ⊥) → Eleven k
    unfolding Eleven
    not_marked z k other = (
      λ q. absurd (other q),
      λ m.
          let q : n ≡ 11 = e ∙ ap (λ (b : Bool). pick b 11 0) ((at_mark_lem se.mark).1 m) in
          absurd (omega arith),
    )

    marked : (n ≡ 0 → ⊥) → Eleven n
    unfolding Eleven
    marked h = go (at_mark se.mark se.total) refl
      where
        go : (b : Bool) → at_mark se.mark se.total ≡ b → Eleven n
        go true p = (λ _. (at_mark_lem se.mark).0 p, λ _. e ∙ ap (λ (b : Bool). pick b 11 0) p)
        go false p = absurd (h (e ∙ ap (λ (b : Bool). pick b 11 0) p))

  growth_zero : (delay : ℕ) → delay ≡ 0 → se.total ≤ limit → growth_refusal se delay ≡ pick (at_mark se.mark se.total) 11 0
  unfolding growth_refusal
  growth_zero delay z t = rw (le-leb (se.total + delay) limit (omega (arith, z, t)), eq-eqb delay 0 z)

  module _ (area : Bytes) (used : ℕ) where
    Answer : Outcome → Type 0
    Answer o = Eleven o.refusal

    timed_zero : (fits : Bool) (r : Record) → fits ≡ true → lengths_fit (length area) used se.used ≡ true → r.delay ≡ 0 → se.total ≤ limit → Answer (timed se area used fits r)
    unfolding timed Answer
    timed_zero fits r f l z t =
        let grows = growth_zero r.delay z t in
        picked Answer (lengths_fit (length area) used se.used) _ _
        (λ _.
        picked Answer fits _ _
        (λ _.
        picked Answer (eqb (growth_refusal se r.delay) 0) _ _
        (λ none.
        let zero = eqb-true (growth_refusal se r.delay) 0 none in
        picked Answer (room_for se area used r) _ _ (λ _. not_marked _ grows zero 0 (λ q. omega arith)) (λ _. not_marked _ grows zero 12 (λ q. omega arith)))
        (λ some. marked _ grows (eqb-false (growth_refusal se r.delay) 0 some)))
        (λ e. let clash : ◌≡◌ {A = ℕ} 0 1 = cc in absurd (omega arith)))
        (λ e. let clash : ◌≡◌ {A = ℕ} 0 1 = cc in absurd (omega arith))

    -- a timed message in logging
    member_zero : (t : TimedRecord) (d : Bytes) → timed_in_range t ≡ true → lengths_fit (length area) used se.used ≡ true → (stored_for t).delay ≡ 0 → se.total ≤ limit
        → Answer (in_turn se area used (turn Logging (timed_member t)) d (timed_member t))
    unfolding turn in_turn recording act timed_member stored_for timed_in_range record_for
    member_zero (io k i) d f l z t = timed_zero (io_fits i) _ (both_true (both (leb 6 k) (leb k 10)) (io_fits i) f).1 l z t
    member_zero (window w) d f l z t = timed_zero (window_fits w) _ f l z t
    member_zero (suspend x) d f l z t = timed_zero (suspend_fits x) _ f l z t

    turned_zero : (st : State) → st ≡ Logging → (t : TimedRecord) (d : Bytes) → timed_in_range t ≡ true → lengths_fit (length area) used se.used ≡ true → (stored_for t).delay ≡ 0
        → se.total ≤ limit → Answer (in_turn se area used (turn st (timed_member t)) d (timed_member t))
    turned_zero st e t d f l z m = rw e (member_zero t d f l z m)

    step_zero : (s : Bytes) (t : TimedRecord) → ZeroDelay se area used s t → Answer (step se area used s)
    unfolding step on_reading
    step_zero s t z = rw (le-leb (length s) 2097152 z.is_short_lem, z.reads) (turned_zero se.state z.in_logging_lem t (received s) z.in_range_lem z.lengths_fit_lem z.is_zero z.total_fits)

pub touches : Touches
unfolding Answer Eleven
touches = record { touches = of_step; zero_refused = λ se area used s t z. step_zero se area used s t z }
