-- What a message that is taken in logging adds to the file.
use Prim.Native.Nat.{◌≤◌}
use native.Mathlib.Omega.{arith}
use mathlib.Core.Path.{◌≡◌, sym, ap, ◌∙◌}
use mathlib.Core.Bool.{Bool, true}
use mathlib.Core.List.{List, [], ◌∷◌, ◌++◌, append-nil}
use lib.ListN.{length, take}
use lib.Dec.{leb, eqb}
use borrow.Author.Tests.{eqb-false}
use Rattle.base_laws.proofs.Order.{picked}
use Rattle.wire_message.specs.Message.{Bytes, Exit, Client, accept_msg, reject_msg, exit_msg, restart_msg, alert_msg, io_buf, winsize_event, suspend_event, hello_msg}
use Rattle.wire_range.specs.Range.{report_fits, exit_fits, io_fits, window_fits, suspend_fits}
use Rattle.wire.specs.Read.{value, client_message, received}
use Rattle.file_format.specs.Record.{Record}
use Rattle.file_format.specs.File.{file_bytes}
use Rattle.session_turn.specs.Turn.{opening, recording, greeting, ending, alerting, turn}
use Rattle.session.specs.Step.{Outcome, exit_record, record_for, lengths_fit, growth_refusal, room_for, timed, exit_stored, on_exit, act, in_turn, on_reading, step}
use Rattle.session_turn.specs.declared.State.{State}
use Rattle.session_turn.specs.declared.State.TheVariants.{Logging}
use Rattle.session.specs.declared.Session.{Session}
use Rattle.file_format.proofs.Areas.{within_area_lem}
use Rattle.session.proofs.Lengths.{lengths}
use Rattle.claim_agreement.specs.Calls.{Host, answered}
use Rattle.claim_agreement.specs.Agreement.{Agrees}
use Rattle.claim_agreement.proofs.Files.{file_more}

module _ (h : Host) (logs : h.session.state ≡ Logging) (a : Agrees h) where
  abbrev se : Session
  se = h.session

  abbrev Adds : List Record → Outcome → Type 0
  Adds qs o = o.refusal ≡ 0 → take o.used o.area ≡ file_bytes (a.holds.records ++ qs)

  within : lengths_fit (length h.area) h.used se.used ≡ true → h.used ≤ length h.area
  within l = (within_area_lem (length h.area) h.used (lengths (length h.area) h.used se.used l).0).1

  timed_adds : (in-it : Bool) (r : Record) → Adds (r ∷ []) (timed se h.area h.used in-it r)
  unfolding timed
  timed_adds in-it r =
      picked (Adds (r ∷ [])) (lengths_fit (length h.area) h.used se.used) _ _
      (λ l.
      picked (Adds (r ∷ [])) in-it _ _
      (λ _.
      picked (Adds (r ∷ [])) (eqb (growth_refusal se r.delay) 0) _ _
      (λ _.
      picked (Adds (r ∷ [])) (room_for se h.area h.used r) _ _
      (λ _ _. file_more h.area h.used a.holds r (within l))
      (λ _ z. absurd (omega arith)))
      (λ n z. absurd (eqb-false (growth_refusal se r.delay) 0 n z)))
      (λ _ z. absurd (omega arith)))
      (λ _ z. absurd (omega arith))

  exit_adds : (e : Exit) → Adds (exit_record e ∷ []) (exit_stored se h.area h.used e)
  unfolding exit_stored
  exit_adds e =
      let r : Record = exit_record e in
      picked (Adds (r ∷ [])) (lengths_fit (length h.area) h.used se.used) _ _
      (λ l.
      picked (Adds (r ∷ [])) (exit_fits e) _ _
      (λ _.
      picked (Adds (r ∷ [])) (room_for se h.area h.used r) _ _
      (λ _ _. file_more h.area h.used a.holds r (within l))
      (λ _ z. absurd (omega arith)))
      (λ _ z. absurd (omega arith)))
      (λ _ z. absurd (omega arith))

  exit_adds_in : (e : Exit) (st : State) → st ≡ Logging → Adds (exit_record e ∷ []) (on_exit se h.area h.used st e)
  unfolding on_exit
  exit_adds_in e st q = rw q (exit_adds e)

  -- in its turn; all others are refused
  logged : (c : Client) (d : Bytes) → Adds (record_for d c) (in_turn se h.area h.used (turn Logging c) d c)
  unfolding in_turn turn opening recording greeting ending alerting act record_for
  logged (accept_msg x) d = λ z. absurd (omega arith)
  logged (reject_msg x) d = λ z. absurd (omega arith)
  logged (restart_msg x) d = λ z. absurd (omega arith)
  logged (hello_msg x) d = λ z. absurd (omega arith)
  logged (exit_msg e) d = exit_adds_in e se.state logs
  logged (alert_msg x) d = picked (Adds []) (report_fits x) _ _ (λ _ _. a.holds.used_bytes ∙ ap file_bytes (sym (append-nil a.holds.records))) (λ _ z. absurd (omega arith))
  logged (io_buf k i) d = timed_adds (io_fits i) _
  logged (winsize_event w) d = timed_adds (window_fits w) _
  logged (suspend_event x) d = timed_adds (suspend_fits x) _

  in_state_lem : (c : Client) (d : Bytes) (st : State) → st ≡ Logging → Adds (record_for d c) (in_turn se h.area h.used (turn st c) d c)
  in_state_lem c d st q = rw q (logged c d)

  pub adds : (s : Bytes) (c : Client) → client_message s ≡ value c → Adds (record_for (received s) c) (answered h s)
  unfolding step on_reading
  adds s c reads =
      picked (Adds (record_for (received s) c)) (leb (length s) 2097152) _ _
      (λ _. rw reads (in_state_lem c (received s) se.state logs))
      (λ _ z. absurd (omega arith))
