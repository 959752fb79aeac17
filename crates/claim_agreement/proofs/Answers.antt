-- What every answer of a session's step is: taken, with a point of an exit in logging alone; or one of document 01's refusals, which
-- closes the session and leaves area and used length as they were. A key is named with refusal 8 alone.
use Rattle.std.specs.Prelude.{Option, Some, None}
use Prim.Native.Nat.{ℕ}
use native.Mathlib.Omega.{arith}
use mathlib.Core.Path.{◌≡◌, refl, sym, ap, ◌∙◌}
use mathlib.Core.Logic.{◌⊎◌, inl, inr}
use mathlib.Core.Bool.{Bool, true, false}
use mathlib.Core.List.{List}
use lib.ListN.{length, take}
use lib.Dec.{leb, eqb}
use borrow.Author.Tests.{eqb-true, eqb-false}
use Rattle.base_laws.specs.Base.{pick}
use Rattle.base_laws.proofs.Order.{picked}
use Rattle.wire_message.specs.Message.{Bytes, Entry, Accept, Exit, Restart, Client, accept_msg, reject_msg, exit_msg, restart_msg, alert_msg, io_buf, winsize_event, suspend_event, hello_msg}
use Rattle.wire_range.specs.Range.{accept_fits, report_fits, exit_fits, restart_fits, io_fits, window_fits, suspend_fits}
use Rattle.wire.specs.Read.{Reading, value, refused, client_message, received}
use Rattle.session_entries.specs.Required.{missing, entries_refusal, named_key}
use Rattle.file_format.specs.Record.{Record}
use Rattle.file_format.specs.File.{Records, all, none, records_of, FileKind, invalid, unfinished, finished, records_kind, meets, within_area}
use Rattle.session_turn.specs.Turn.{turn}
use Rattle.session.specs.Step.{Outcome, moment, lengths_fit, growth_refusal, refuse, room_for, timed, entries_first, accept_stored, on_accept, on_reject, exit_stored, on_exit, resumed, by_kind, of_records, on_restart, act, in_turn, on_reading, on_member, step, logging_point, point_in, tick}
use Rattle.session_turn.specs.declared.State.{State}
use Rattle.session_turn.specs.declared.State.TheVariants.{New, Greeted, Logging, EventsOnly, Closed}
use Rattle.session.specs.declared.Session.{Session}
use Rattle.claim_agreement.specs.Refusals.{NumberedRefusal, Refused, Refusals, MemberRefusals}
use Rattle.claim_agreement.specs.NoPoint.{ExitInLogging, NoPoint}
use Rattle.claim_agreement.specs.Keys.{KeyOf8, Keys}
use Rattle.wire.proofs.Promises.{ReadNumbered, message_numbered}
use Rattle.claim_agreement.proofs.Numbers.{ZeroOrNumbered, growth_numbered, entries_numbered, read_numbered}

pub never_at : (t : ℕ) → None ≡ Some t → ⊥
never_at t e = let z : ◌≡◌ {A = ℕ} 0 1 = cc in omega arith

key_named : (se : Session) (area : Bytes) (used : ℕ) (es : List Entry) → KeyOf8 (refuse se area used (entries_refusal es) (named_key es))
key_named se area used es = go (eqb (entries_refusal es) 8) refl
  where
    go : (b : Bool) → eqb (entries_refusal es) 8 ≡ b → KeyOf8 (refuse se area used (entries_refusal es) (pick b (missing es) 0))
    go true h = inl (eqb-true (entries_refusal es) 8 h)
    go false h = inr refl

-- Exits: this message is an exit in logging
module _ (se : Session) (area : Bytes) (used : ℕ) (Exits : Type 0) where
  abbrev Taken : Outcome → Type 0
  Taken o = (o.refusal ≡ 0) × ((t : ℕ) → o.point ≡ Some t → Exits)

  abbrev Answered : Outcome → Type 0
  Answered o = (Taken o ⊎ Refused area used o) × KeyOf8 o

  -- taken, with no point
  quiet : (o : Outcome) → o.refusal ≡ 0 → o.point ≡ None → o.key ≡ 0 → Answered o
  quiet o z e k = (inl (z, λ t p. absurd (never_at t (sym e ∙ p))), inr k)

  names : (n k : ℕ) → NumberedRefusal n → KeyOf8 (refuse se area used n k) → Answered (refuse se area used n k)
  names n k h named = (inr (record { numbered = h; closes = refl; same_bytes = refl; same_length = refl; no_point = refl }), named)

  refuses : (n : ℕ) → NumberedRefusal n → Answered (refuse se area used n 0)
  refuses n h = names n 0 h (inr refl)

  -- what follows, or a refusal where there is one
  or_refuses : (n k : ℕ) (next : Outcome) → ZeroOrNumbered n → KeyOf8 (refuse se area used n k) → Answered next → Answered (pick (eqb n 0) next (refuse se area used n k))
  or_refuses n k next numbered named h = picked Answered (eqb n 0) _ _ (λ _. h) (λ e. names n k (numbered (eqb-false n 0 e)) named)

  -- ---- each message

  of_timed : (fits : Bool) (r : Record) → Answered (timed se area used fits r)
  unfolding timed
  of_timed fits r =
      picked Answered (lengths_fit (length area) used se.used) _ _
      (λ _.
      picked Answered fits _ _
      (λ _.
      or_refuses (growth_refusal se r.delay) 0 _ (growth_numbered se r.delay) (inr refl)
      (picked Answered (room_for se area used r) _ _ (λ _. quiet _ refl refl refl) (λ _. refuses 12 refl)))
      (λ _. refuses 7 refl))
      (λ _. refuses 15 refl)

  of_entries : (fits : Bool) (es : List Entry) (next : Outcome) → Answered next
      → Answered (entries_first se area used fits (entries_refusal es) (named_key es) next)
  unfolding entries_first
  of_entries fits es next h =
      picked Answered fits _ _
      (λ _. or_refuses (entries_refusal es) (named_key es) next (entries_numbered es) (key_named se area used es) h)
      (λ _. refuses 7 refl)

  of_stored : (d : Bytes) → Answered (accept_stored se area used d)
  unfolding accept_stored
  of_stored d = picked Answered (room_for se area used _) _ _ (λ _. quiet _ refl refl refl) (λ _. refuses 12 refl)

  of_accept : (st : State) (d : Bytes) (a : Accept) → Answered (on_accept se area used st d a)
  unfolding on_accept
  of_accept st d a =
      picked Answered a.expect_iobufs _ _
      (λ _.
      picked Answered (lengths_fit (length area) used 0) _ _
      (λ _. of_entries (accept_fits a) a.info_msgs _ (of_stored d))
      (λ _. refuses 15 refl))
      (λ _. of_entries (accept_fits a) a.info_msgs _ (quiet _ refl refl refl))

  of_exit_stored : (e : Exit) → Exits → Answered (exit_stored se area used e)
  unfolding exit_stored
  of_exit_stored e x =
      picked Answered (lengths_fit (length area) used se.used) _ _
      (λ _.
      picked Answered (exit_fits e) _ _
      (λ _. picked Answered (room_for se area used _) _ _ (λ _. (inl (refl, λ t p. x), inr refl)) (λ _. refuses 12 refl))
      (λ _. refuses 7 refl))
      (λ _. refuses 15 refl)

  of_exit : (st : State) (e : Exit) → (st ≡ Logging → Exits) → Answered (on_exit se area used st e)
  unfolding on_exit
  of_exit New e x = quiet _ refl refl refl
  of_exit Greeted e x = quiet _ refl refl refl
  of_exit Logging e x = of_exit_stored e (x refl)
  of_exit EventsOnly e x = picked Answered (exit_fits e) _ _ (λ _. quiet _ refl refl refl) (λ _. refuses 7 refl)
  of_exit Closed e x = quiet _ refl refl refl

  of_kind : (t : ℕ) (k : FileKind) (rs : List Record) → Answered (by_kind se area used t k rs)
  unfolding by_kind resumed
  of_kind t invalid rs = refuses 15 refl
  of_kind t finished rs = refuses 13 refl
  of_kind t unfinished rs = picked Answered (meets t 0 rs) _ _ (λ _. quiet _ refl refl refl) (λ _. refuses 14 refl)

  of_records_lem : (t : ℕ) (rs : Records) → Answered (of_records se area used t rs)
  unfolding of_records
  of_records_lem t none = refuses 15 refl
  of_records_lem t (all rs) = of_kind t (records_kind rs) rs

  of_restart : (r : Restart) → Answered (on_restart se area used r)
  unfolding on_restart
  of_restart r =
      picked Answered (within_area (length area) used) _ _
      (λ _.
      picked Answered (restart_fits r) _ _
      (λ _. of_records_lem (moment r.resume_point) (records_of (take used area)))
      (λ _. refuses 7 refl))
      (λ _. refuses 15 refl)

  -- ---- any message

  of_act : (st : State) (d : Bytes) (c : Client) → ((e : Exit) → c ≡ exit_msg e → se.state ≡ Logging → Exits) → Answered (act se area used st d c)
  unfolding act on_reject
  of_act st d (accept_msg a) x = of_accept st d a
  of_act st d (reject_msg r) x = of_entries (report_fits r) r.info_msgs _ (quiet _ refl refl refl)
  of_act st d (exit_msg e) x = of_exit se.state e (x e refl)
  of_act st d (restart_msg r) x = of_restart r
  of_act st d (alert_msg r) x = picked Answered (report_fits r) _ _ (λ _. quiet _ refl refl refl) (λ _. refuses 7 refl)
  of_act st d (io_buf k i) x = of_timed (io_fits i) _
  of_act st d (winsize_event w) x = of_timed (window_fits w) _
  of_act st d (suspend_event s) x = of_timed (suspend_fits s) _
  of_act st d (hello_msg h) x = quiet _ refl refl refl

  of_turn : (u : Option State) (d : Bytes) (c : Client) → ((e : Exit) → c ≡ exit_msg e → se.state ≡ Logging → Exits) → Answered (in_turn se area used u d c)
  unfolding in_turn
  of_turn (Some st) d c x = of_act st d c x
  of_turn None d c x = refuses 9 refl

  of_reading : (d : Bytes) (r : Reading Client) → ReadNumbered r → ((e : Exit) → r ≡ value (exit_msg e) → se.state ≡ Logging → Exits)
      → Answered (on_reading se area used d r)
  unfolding on_reading
  of_reading d (value c) h x = of_turn (turn se.state c) d c (λ e p. x e (ap value p))
  of_reading d (refused n) h x = refuses n (read_numbered n h)

  of_step : (s : Bytes) → ((e : Exit) → client_message s ≡ value (exit_msg e) → se.state ≡ Logging → Exits) → Answered (step se area used s)
  unfolding step
  of_step s x =
      picked Answered (leb (length s) 2097152) _ _
      (λ _. of_reading (received s) (client_message s) (message_numbered s) x)
      (λ _. refuses 1 refl)

-- ---- the statements

answers : (se : Session) (area : Bytes) (used : ℕ) (s : Bytes) → Answered se area used (ExitInLogging se s) (step se area used s)
answers se area used s = of_step se area used (ExitInLogging se s) s (λ e p l. record { exit = e; is_exit = p; in_logging_lem = l })

pub refusals : Refusals
refusals se area used s = go (answers se area used s)
  where
    go : Answered se area used (ExitInLogging se s) (step se area used s) → ((step se area used s).refusal ≡ 0) ⊎ Refused area used (step se area used s)
    go (inl h, k) = inl h.0
    go (inr r, k) = inr r

none_elsewhere : (st : State) (p : Option ℕ) → (st ≡ Logging → ⊥) → point_in st p ≡ None
unfolding point_in
none_elsewhere New p h = refl
none_elsewhere Greeted p h = refl
none_elsewhere Logging p h = absurd (h refl)
none_elsewhere EventsOnly p h = refl
none_elsewhere Closed p h = refl

pub no_point : NoPoint
unfolding tick
no_point = record {
  ticks = λ se h. none_elsewhere se.state (logging_point se.mark se.total se.low) h;
  messages = λ se area used s t e. go se area used s t e (answers se area used s);
}
  where
    go : (se : Session) (area : Bytes) (used : ℕ) (s : Bytes) (t : ℕ) → (step se area used s).point ≡ Some t
        → Answered se area used (ExitInLogging se s) (step se area used s) → ExitInLogging se s
    go se area used s t e (inl h, k) = h.1 t e
    go se area used s t e (inr r, k) = absurd (never_at t (sym r.no_point ∙ e))

-- of one member: the same
member_answers : (se : Session) (area : Bytes) (used : ℕ) (d : Bytes) (c : Client)
    → Answered se area used (Unit {0}) (on_member se area used d c)
member_answers se area used d c = of_turn se area used (Unit {0}) (turn se.state c) d c (λ e p l. tt)

pub member_refusals : MemberRefusals
member_refusals se area used d c = go (member_answers se area used d c)
  where
    go : Answered se area used (Unit {0}) (on_member se area used d c)
        → ((on_member se area used d c).refusal ≡ 0) ⊎ Refused area used (on_member se area used d c)
    go (inl h, k) = inl h.0
    go (inr r, k) = inr r

pub keys : Keys
keys = record {
  messages = λ se area used s. (answers se area used s).1;
  members = λ se area used d c. (member_answers se area used d c).1;
}
