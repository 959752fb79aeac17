-- What a step answers in numbers: the used length is the one that was handed in or the session's, a point is the session's total.
use Rattle.std.specs.Prelude.{Option, Some, None}
use Prim.Native.Nat.{ℕ}
use mathlib.Core.Path.{◌≡◌, refl}
use mathlib.Core.Logic.{◌⊎◌, inl, inr}
use mathlib.Core.Bool.{Bool}
use mathlib.Core.List.{List}
use lib.ListN.{length, take}
use lib.Dec.{leb, eqb}
use Rattle.base_laws.proofs.Order.{picked}
use Rattle.wire_message.specs.Message.{Bytes, Accept, Exit, Restart, Client, accept_msg, reject_msg, exit_msg, restart_msg, alert_msg, io_buf, winsize_event, suspend_event, hello_msg}
use Rattle.wire_range.specs.Range.{accept_fits, report_fits, exit_fits, restart_fits, io_fits, window_fits, suspend_fits}
use Rattle.wire.specs.Read.{Reading, value, refused, client_message, received}
use Rattle.file_format.specs.Record.{Record}
use Rattle.file_format.specs.File.{Records, all, none, records_of, FileKind, invalid, unfinished, finished, records_kind, meets, within_area}
use Rattle.session_turn.specs.Turn.{turn}
use Rattle.session.specs.Step.{Outcome, moment, lengths_fit, growth_refusal, room_for, timed, entries_first, accept_stored, on_accept, on_reject, exit_stored, on_exit, resumed, by_kind, of_records, on_restart, act, in_turn, on_reading, step}
use Rattle.session_turn.specs.declared.State.{State}
use Rattle.session_turn.specs.declared.State.TheVariants.{New, Greeted, Logging, EventsOnly, Closed}
use Rattle.session.specs.declared.Session.{Session}

module _ (se : Session) (area : Bytes) (used : ℕ) where
  pub record Told (o : Outcome) : Type 0 where
    pub used_told : (o.used ≡ used) ⊎ (o.used ≡ o.session.used)
    pub point_told : (o.point ≡ None) ⊎ (o.point ≡ Some se.total)

  -- the used length as it was
  same : (o : Outcome) → o.used ≡ used → o.point ≡ None → Told o
  same o u p = record { used_told = inl u; point_told = inl p }

  -- the session's
  own : (o : Outcome) → o.used ≡ o.session.used → (o.point ≡ None) ⊎ (o.point ≡ Some se.total) → Told o
  own o u p = record { used_told = inr u; point_told = p }

  of_timed : (fits : Bool) (r : Record) → Told (timed se area used fits r)
  unfolding timed
  of_timed fits r =
      picked Told (lengths_fit (length area) used se.used) _ _
      (λ _.
      picked Told fits _ _
      (λ _.
      picked Told (eqb (growth_refusal se r.delay) 0) _ _
      (λ _. picked Told (room_for se area used r) _ _ (λ _. own _ refl (inl refl)) (λ _. same _ refl refl))
      (λ _. same _ refl refl))
      (λ _. same _ refl refl))
      (λ _. same _ refl refl)

  of_entries : (fits : Bool) (r k : ℕ) (next : Outcome) → Told next → Told (entries_first se area used fits r k next)
  unfolding entries_first
  of_entries fits r k next h = picked Told fits _ _ (λ _. picked Told (eqb r 0) _ _ (λ _. h) (λ _. same _ refl refl)) (λ _. same _ refl refl)

  of_stored : (d : Bytes) → Told (accept_stored se area used d)
  unfolding accept_stored
  of_stored d = picked Told (room_for se area used _) _ _ (λ _. own _ refl (inl refl)) (λ _. same _ refl refl)

  of_accept : (st : State) (d : Bytes) (a : Accept) → Told (on_accept se area used st d a)
  unfolding on_accept
  of_accept st d a =
      picked Told a.expect_iobufs _ _
      (λ _. picked Told (lengths_fit (length area) used 0) _ _ (λ _. of_entries (accept_fits a) _ _ _ (of_stored d)) (λ _. same _ refl refl))
      (λ _. of_entries (accept_fits a) _ _ _ (same _ refl refl))

  of_exit : (st : State) (e : Exit) → Told (on_exit se area used st e)
  unfolding on_exit exit_stored
  of_exit New e = same _ refl refl
  of_exit Greeted e = same _ refl refl
  of_exit Logging e =
      picked Told (lengths_fit (length area) used se.used) _ _
      (λ _.
      picked Told (exit_fits e) _ _
      (λ _. picked Told (room_for se area used _) _ _ (λ _. own _ refl (inr refl)) (λ _. same _ refl refl))
      (λ _. same _ refl refl))
      (λ _. same _ refl refl)
  of_exit EventsOnly e = picked Told (exit_fits e) _ _ (λ _. same _ refl refl) (λ _. same _ refl refl)
  of_exit Closed e = same _ refl refl

  of_kind : (t : ℕ) (k : FileKind) (rs : List Record) → Told (by_kind se area used t k rs)
  unfolding by_kind resumed
  of_kind t invalid rs = same _ refl refl
  of_kind t finished rs = same _ refl refl
  of_kind t unfinished rs = picked Told (meets t 0 rs) _ _ (λ _. own _ refl (inl refl)) (λ _. same _ refl refl)

  of_records_lem : (t : ℕ) (rs : Records) → Told (of_records se area used t rs)
  unfolding of_records
  of_records_lem t none = same _ refl refl
  of_records_lem t (all rs) = of_kind t (records_kind rs) rs

  of_restart : (r : Restart) → Told (on_restart se area used r)
  unfolding on_restart
  of_restart r =
      picked Told (within_area (length area) used) _ _
      (λ _. picked Told (restart_fits r) _ _ (λ _. of_records_lem (moment r.resume_point) (records_of (take used area))) (λ _. same _ refl refl))
      (λ _. same _ refl refl)

  of_act : (st : State) (d : Bytes) (c : Client) → Told (act se area used st d c)
  unfolding act on_reject
  of_act st d (accept_msg a) = of_accept st d a
  of_act st d (reject_msg r) = of_entries (report_fits r) _ _ _ (same _ refl refl)
  of_act st d (exit_msg e) = of_exit se.state e
  of_act st d (restart_msg r) = of_restart r
  of_act st d (alert_msg r) = picked Told (report_fits r) _ _ (λ _. same _ refl refl) (λ _. same _ refl refl)
  of_act st d (io_buf k i) = of_timed (io_fits i) _
  of_act st d (winsize_event w) = of_timed (window_fits w) _
  of_act st d (suspend_event s) = of_timed (suspend_fits s) _
  of_act st d (hello_msg h) = same _ refl refl

  of_turn : (u : Option State) (d : Bytes) (c : Client) → Told (in_turn se area used u d c)
  unfolding in_turn
  of_turn (Some st) d c = of_act st d c
  of_turn None d c = same _ refl refl

  of_reading : (d : Bytes) (r : Reading Client) → Told (on_reading se area used d r)
  unfolding on_reading
  of_reading d (value c) = of_turn (turn se.state c) d c
  of_reading d (refused n) = same _ refl refl

  pub told : (s : Bytes) → Told (step se area used s)
  unfolding step
  told s = picked Told (leb (length s) 2097152) _ _ (λ _. of_reading (received s) (client_message s)) (λ _. same _ refl refl)
