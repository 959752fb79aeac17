-- A session's points never fall: a tick's is at most the total, a record stored makes the total before it the next point, and a
-- closed session stays closed.
use Rattle.std.specs.Prelude.{Option, Some, None}
use Prim.Native.Nat.{ℕ, zero, suc, ◌+◌}
use native.Mathlib.Omega.{arith}
use mathlib.Core.Path.{◌≡◌, refl, sym, ap, subst, ◌∙◌}
use mathlib.Core.Logic.{◌⊎◌, inl, inr}
use mathlib.Core.Bool.{Bool, true, false}
use mathlib.Core.List.{List, [], ◌∷◌}
use lib.ListN.{length}
use lib.Dec.{leb, eqb}
use borrow.Author.Tests.{ne_eqb, eqb-true, eqb-false}
use Rattle.base_laws.specs.Base.{pick}
use Rattle.base_laws.proofs.Order.{picked}
use Rattle.wire_message.specs.Message.{Bytes, Exit, Client, accept_msg, reject_msg, exit_msg, restart_msg, alert_msg, io_buf, winsize_event, suspend_event, hello_msg}
use Rattle.wire_range.specs.Range.{report_fits, exit_fits, io_fits, window_fits, suspend_fits}
use Rattle.wire.specs.Read.{Reading, value, refused, client_message, received}
use Rattle.file_format.specs.Record.{Record, record_bytes}
use Rattle.file_format.specs.File.{total}
use Rattle.session_turn.specs.Turn.{opening, recording, greeting, ending, alerting, turn}
use Rattle.session.specs.Step.{Outcome, exit_record, grown, in_state, lengths_fit, growth_refusal, room_for, timed, exit_stored, on_exit, act, in_turn, on_reading, step, logging_point, point_in, tick}
use Rattle.session_turn.specs.declared.State.{State}
use Rattle.session_turn.specs.declared.State.TheVariants.{Logging, Closed}
use Rattle.session.specs.declared.Session.{Session}
use Rattle.claim_agreement.specs.Calls.{Call, message, Host, answered, after, after_all, NoBreak, OneSession}
use Rattle.claim_agreement.specs.Calls as call
use Rattle.claim_agreement.specs.Agreement.{Agrees, Stands}
use Rattle.claim_agreement.specs.Refusals.{Refused}
use Rattle.claim_agreement.specs.Rising.{AtMost, Rising}
use Rattle.claim_agreement.proofs.Answers.{never_at, refusals, no_point}
use Rattle.claim_agreement.proofs.Steps.{call_stands}
use Rattle.claim_agreement.proofs.Points.{tick_point, exits}
use Rattle.claim_agreement.proofs.Agreement.{in_logging_lem}

at_most_same : (p : Option ℕ) → AtMost p p
at_most_same None = tt
at_most_same (Some t) = omega arith

at_most_then : (p q r : Option ℕ) → AtMost p q → AtMost q r → AtMost p r
at_most_then None q r h k = tt
at_most_then (Some t) None r h k = absurd h
at_most_then (Some t) (Some u) None h k = absurd k
at_most_then (Some t) (Some u) (Some v) h k = omega arith

-- ---- one message in logging

module _ (h : Host) (logs : h.session.state ≡ Logging) (a : Agrees h) where
  abbrev se : Session
  se = h.session

  abbrev Most : Option ℕ → Type 0
  Most p = AtMost p (Some se.total)

  -- a tick's point is at most the total
  most : Most (tick se)
  most = by_restart h.restart_point refl
    where
      by_total : h.restart_point ≡ None → (n : ℕ) → total a.holds.records ≡ n → Most (tick se)
      by_total e zero z = subst Most (sym ((tick_point h logs a).at_zero e z)) tt
      by_total e (suc n) z =
          let b = (tick_point h logs a).below e (omega arith) in
          subst Most (sym b.1) (omega (arith, a.carries.carries_total, b.2.is_below))

      by_restart : (T : Option ℕ) → h.restart_point ≡ T → Most (tick se)
      by_restart None e = by_total e (total a.holds.records) refl
      by_restart (Some t) e = subst Most (sym ((tick_point h logs a).after_restart t e)) (omega (arith, a.carries.carries_total, a.carries.at_point t e))

  tick_logs : tick se ≡ point_in Logging (logging_point se.mark se.total se.low)
  unfolding tick
  tick_logs = ap (λ (st : State). point_in st (logging_point se.mark se.total se.low)) logs

  -- after a timed record: the point stays with no delay, and is the total before it with one
  by_delay : (d : ℕ) (b : Bool) → eqb d 0 ≡ b
      → AtMost (tick se) (point_in Logging (logging_point (pick b se.mark None) (se.total + d) (pick b se.low se.total)))
  unfolding point_in logging_point
  by_delay d true e =
      let z : se.total + d ≡ se.total = omega (arith, eqb-true d 0 e) in
      subst (AtMost (tick se)) (tick_logs ∙ ap (λ (n : ℕ). logging_point se.mark n se.low) (sym z)) (at_most_same (tick se))
  by_delay d false e =
      let z : se.total + d ≡ 0 → ⊥ = λ k. eqb-false d 0 e (omega arith) in
      rw (ne_eqb (se.total + d) 0 z) most

  grown_rises : (end d : ℕ) → AtMost (tick se) (tick (grown se end d))
  unfolding tick
  grown_rises end d = by_delay d (eqb d 0) refl

  abbrev Onward : Outcome → Type 0
  Onward o = (o.session.state ≡ Closed) ⊎ ((o.session.state ≡ Logging) × AtMost (tick se) (tick o.session))

  timed_onward : (in-it : Bool) (r : Record) → Onward (timed se h.area h.used in-it r)
  unfolding timed
  timed_onward in-it r =
      picked Onward (lengths_fit (length h.area) h.used se.used) _ _
      (λ _.
      picked Onward in-it _ _
      (λ _.
      picked Onward (eqb (growth_refusal se r.delay) 0) _ _
      (λ _.
      picked Onward (room_for se h.area h.used r) _ _
      (λ _. inr (refl, grown_rises (h.used + length (record_bytes r)) r.delay))
      (λ _. inl refl))
      (λ _. inl refl))
      (λ _. inl refl))
      (λ _. inl refl)

  exit_onward : (e : Exit) → Onward (exit_stored se h.area h.used e)
  unfolding exit_stored
  exit_onward e =
      picked Onward (lengths_fit (length h.area) h.used se.used) _ _
      (λ _.
      picked Onward (exit_fits e) _ _
      (λ _. picked Onward (room_for se h.area h.used (exit_record e)) _ _ (λ _. inl refl) (λ _. inl refl))
      (λ _. inl refl))
      (λ _. inl refl)

  exit_in : (e : Exit) (st : State) → st ≡ Logging → Onward (on_exit se h.area h.used st e)
  unfolding on_exit
  exit_in e st q = rw q (exit_onward e)

  alert_rises : AtMost (tick se) (tick (in_state se Logging))
  unfolding tick
  alert_rises = subst (AtMost (tick se)) tick_logs (at_most_same (tick se))

  -- in its turn; all others are refused
  logged : (c : Client) (d : Bytes) → Onward (in_turn se h.area h.used (turn Logging c) d c)
  unfolding in_turn turn opening recording greeting ending alerting act
  logged (accept_msg x) d = inl refl
  logged (reject_msg x) d = inl refl
  logged (restart_msg x) d = inl refl
  logged (hello_msg x) d = inl refl
  logged (exit_msg e) d = exit_in e se.state logs
  logged (alert_msg x) d = picked Onward (report_fits x) _ _ (λ _. inr (refl, alert_rises)) (λ _. inl refl)
  logged (io_buf k i) d = timed_onward (io_fits i) _
  logged (winsize_event w) d = timed_onward (window_fits w) _
  logged (suspend_event x) d = timed_onward (suspend_fits x) _

  in_state_lem : (c : Client) (d : Bytes) (st : State) → st ≡ Logging → Onward (in_turn se h.area h.used (turn st c) d c)
  in_state_lem c d st q = rw q (logged c d)

  read_onward : (d : Bytes) (r : Reading Client) → Onward (on_reading se h.area h.used d r)
  unfolding on_reading
  read_onward d (value c) = in_state_lem c d se.state logs
  read_onward d (refused n) = inl refl

  message_onward : (s : Bytes) → Onward (answered h s)
  unfolding step
  message_onward s = picked Onward (leb (length s) 2097152) _ _ (λ _. read_onward (received s) (client_message s)) (λ _. inl refl)

  call_onward : (c : Call) → NoBreak c → ((after h c).session.state ≡ Closed) ⊎ (((after h c).session.state ≡ Logging) × AtMost (tick se) (tick (after h c).session))
  unfolding after
  call_onward (message s) n = message_onward s
  call_onward call.tick n = inr (logs, at_most_same (tick se))
  call_onward (call.behind bs) n = inr (logs, at_most_same (tick se))
  call_onward call.break n = absurd n

  -- the exit's point is the total
  exit_rises : (s : Bytes) (t : ℕ) → (answered h s).point ≡ Some t → AtMost (tick se) (Some t)
  exit_rises s t p = by_answer (refusals se h.area h.used s)
    where
      by_answer : ((answered h s).refusal ≡ 0) ⊎ Refused h.area h.used (answered h s) → AtMost (tick se) (Some t)
      by_answer (inr r) = absurd (never_at t (sym r.no_point ∙ p))
      by_answer (inl z) =
          let e = no_point.messages se h.area h.used s t p in
          let x = exits h logs a e.exit s e.is_exit z in
          subst (AtMost (tick se)) (ap Some a.carries.carries_total ∙ sym x.answers ∙ p) most

-- ---- a closed session

module _ (h : Host) where
  abbrev Shut : Outcome → Type 0
  Shut o = o.session.state ≡ Closed

  shut : (c : Client) (d : Bytes) → Shut (in_turn h.session h.area h.used (turn Closed c) d c)
  unfolding in_turn turn opening recording greeting ending alerting
  shut (accept_msg x) d = refl
  shut (reject_msg x) d = refl
  shut (exit_msg x) d = refl
  shut (restart_msg x) d = refl
  shut (alert_msg x) d = refl
  shut (io_buf k i) d = refl
  shut (winsize_event w) d = refl
  shut (suspend_event x) d = refl
  shut (hello_msg x) d = refl

  shut_in : (c : Client) (d : Bytes) (st : State) → st ≡ Closed → Shut (in_turn h.session h.area h.used (turn st c) d c)
  shut_in c d st q = rw q (shut c d)

  shut_read : h.session.state ≡ Closed → (d : Bytes) (r : Reading Client) → Shut (on_reading h.session h.area h.used d r)
  unfolding on_reading
  shut_read q d (value c) = shut_in c d h.session.state q
  shut_read q d (refused n) = refl

  shut_call : h.session.state ≡ Closed → (c : Call) → NoBreak c → (after h c).session.state ≡ Closed
  unfolding after step
  shut_call q (message s) n = picked Shut (leb (length s) 2097152) _ _ (λ _. shut_read q (received s) (client_message s)) (λ _. refl)
  shut_call q call.tick n = q
  shut_call q (call.behind bs) n = q
  shut_call q call.break n = absurd n

stays_shut : (h : Host) (cs : List Call) → OneSession cs → h.session.state ≡ Closed → (after_all h cs).session.state ≡ Closed
unfolding after_all
stays_shut h [] n q = q
stays_shut h (c ∷ cs) n q = stays_shut (after h c) cs n.1 (shut_call h q c n.0)

not_both : (st : State) → st ≡ Closed → st ≡ Logging → ⊥
not_both st q l = let e : Closed ≡ Logging = sym q ∙ l in let z : ◌≡◌ {A = ℕ} 0 1 = cc in omega arith

-- ---- any calls

-- a call, and what follows it where the session is still in logging
onward : (h : Host) (c : Call) (cs : List Call) → OneSession cs → (after_all (after h c) cs).session.state ≡ Logging
    → ((after h c).session.state ≡ Logging → AtMost (tick (after h c).session) (tick (after_all (after h c) cs).session))
    → ((after h c).session.state ≡ Closed) ⊎ (((after h c).session.state ≡ Logging) × AtMost (tick h.session) (tick (after h c).session))
    → AtMost (tick h.session) (tick (after_all (after h c) cs).session)
onward h c cs n l rest (inl q) = absurd (not_both _ (stays_shut (after h c) cs n q) l)
onward h c cs n l rest (inr m) = at_most_then (tick h.session) (tick (after h c).session) _ m.1 (rest m.0)

rise : (h : Host) (cs : List Call) → OneSession cs → Stands h → h.session.state ≡ Logging → (after_all h cs).session.state ≡ Logging
    → AtMost (tick h.session) (tick (after_all h cs).session)
unfolding after_all
rise h [] n i logs l = at_most_same (tick h.session)
rise h (c ∷ cs) n i logs l =
    onward h c cs n.1 l (λ m. rise (after h c) cs n.1 (call_stands h c i) m l) (call_onward h logs (in_logging_lem h h.session.state logs i) c n.0)

pub rising : Rising
rising = record {
  ticks = λ h cs n g l. rise h cs n g.stands g.in_logging_lem l;
  exits = λ h s t g p. exit_rises h g.in_logging_lem (in_logging_lem h h.session.state g.in_logging_lem g.stands) s t p;
  restarts = λ h cs T n g e l.
      let a : Agrees h = in_logging_lem h h.session.state g.in_logging_lem g.stands in
      subst (λ (p : Option ℕ). AtMost p (tick (after_all h cs).session)) ((tick_point h g.in_logging_lem a).after_restart T e) (rise h cs n g.stands g.in_logging_lem l);
}
