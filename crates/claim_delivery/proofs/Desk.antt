-- The invariant of a connection at the host, and that each message of the sender's that is handed to the session keeps it.
use Rattle.std.specs.Prelude.{Option, Some, None}
use Prim.Native.Nat.{ℕ, suc, ◌+◌, ◌≤◌, ◌<◌}
use native.Mathlib.Omega.{arith}
use mathlib.Core.Path.{◌≡◌, refl, ap, sym, ◌∙◌}
use mathlib.Core.Logic.{◌⊎◌, inl, inr}
use mathlib.Core.Bool.{Bool, true, false}
use mathlib.Core.List.{List, [], ◌∷◌, ◌++◌, append_assoc, append-nil, head-eq_of_cons-eq, tail-eq_of_cons-eq}
use lib.Dec.{eqb}
use lib.ListN.{length, take, length-append}
use borrow.Author.Tests.{eq-eqb, ne_eqb, eqb-true, eqb-false}
use Rattle.base_laws.specs.Base.{pick, both, All}
use Rattle.base_laws.proofs.Lists.{all_append, all_right, all_map}
use Rattle.wire_message.specs.Message.{Bytes, Restart, Client, accept_msg, exit_msg, restart_msg, hello_msg}
use Rattle.wire_range.specs.Range.{restart_fits}
use Rattle.wire.specs.Read.{value, client_message}
use Rattle.file_format.specs.Record.{Record, record_bytes}
use Rattle.file_format.specs.File.{records_of, file_bytes, total, file_kind, within_area}
use Rattle.session.specs.Step.{Outcome, moment, accept_record, exit_record, from_accept, grown, ended, carrying, lengths_fit, at_mark, refuse, taken, room_for, stored, step}
use Rattle.session.proofs.Turns.{may_open}
use Rattle.session_turn.specs.declared.State.{State}
use Rattle.session_turn.specs.declared.State.TheVariants.{New, Greeted, Logging, Closed}
use Rattle.session.specs.declared.Session.{Session}
use Rattle.claim_values.specs.Values.{TimedRecord, io, window, suspend, stored_for, timed_member}
use Rattle.claim_values.proofs.Stored.{StorableTimed, time_is}
use Rattle.claim_delivery.specs.Recording.{Recording, records, time, total_of, accept_of}
use Rattle.claim_delivery.specs.Sender.{Sent, hello, accept, restart, timed, exit, rest, Reads, Says, Lines}
use Rattle.claim_delivery.specs.Host.{counted_member, counted, booked, WholeRestart, carries, noted_member, noted, Answer, to_tick, to_message, is_point, unsent, answered, Desk, restart_note, desk_after, hand, hand_all}
use Rattle.claim_delivery.specs.World.{stopped_after}
use Rattle.claim_delivery.proofs.Totals.{kept, later, kept_later, at_most_is, kept_beginning, kept_exact, HeadLater, later_head}
use Rattle.claim_delivery.proofs.Files.{Storable, total_of_append, begun, first, size, Count, nothing, some_of, whole, count, beginning_short, begun_unfinished, read_begun, whole_finished, read_whole, carries_is}
use Rattle.claim_delivery.proofs.Areas.{Holds, Next, next_below, next_room, holds_next, size_next, next_accept, next_timed, next_exit, meets_begun, holds_kept}
use Rattle.claim_delivery.proofs.Steps.{within_area_lem, lengths_fit_lem, room_for_lem, step_hello, step_accept, step_timed, step_exit, step_restart, resumes, step_finished, step_closed}

-- ---- commit points

-- a point that may be restarted at, where the area holds n records: T is a beginning's total, below the whole one, and all records
-- with a total of at most T are among the n
pub record Good (R : Recording) (n T : ℕ) : Type 0 where
  pub reached : total_of (kept 0 T R.timed) ≡ T
  pub held : length (kept 0 T R.timed) < n
  pub below : T < total_of R.timed

good_more : {R : Recording} {n T : ℕ} (m : ℕ) → n ≤ m → Good R n T → Good R m T
good_more m h g = record { reached = g.reached; held = omega (arith, g.held); below = g.below }

abbrev pub PointOk : Recording → ℕ → Option ℕ → Type 0
PointOk R n None = Unit {0}
PointOk R n (Some T) = Good R n T

point_more : (R : Recording) (n m : ℕ) → n ≤ m → (p : Option ℕ) → PointOk R n p → PointOk R m p
point_more R n m h None g = tt
point_more R n m h (Some T) g = good_more m h g

-- ---- answers under way

-- a message's answer: a point is the recording's total, and where the sender stops at it the area holds all records
pub record MessageOk (R : Recording) (n k : ℕ) (p : Option ℕ) : Type 0 where
  pub is_total : (T : ℕ) → p ≡ Some T → T ≡ total_of R.timed
  pub is_whole : stopped_after false (to_message k p) ≡ true → n ≡ length (records R)

abbrev pub AnswerOk : Recording → ℕ → Answer → Type 0
AnswerOk R n (to_tick T) = Good R n T
AnswerOk R n (to_message k p) = MessageOk R n k p

-- taken, with no point
abbrev pub Quiet : Answer → Type 0
Quiet (to_tick T) = ⊥
Quiet (to_message k p) = (k ≡ 0) × (p ≡ None)

no_point : (T : ℕ) → None ≡ Some T → ⊥
no_point T e = let z : ◌≡◌ {A = ℕ} 0 1 = cc in omega arith

never : false ≡ true → ⊥
never e = let z : ◌≡◌ {A = ℕ} 0 1 = cc in omega arith

unpointed : (R : Recording) (n k : ℕ) → (eqb k 13 ≡ true → n ≡ length (records R)) → MessageOk R n k None
unfolding is_point
unpointed R n k h = record { is_total = λ T e. absurd (no_point T e); is_whole = go (eqb k 13) refl }
  where
    go : (b : Bool) → eqb k 13 ≡ b → pick b true false ≡ true → n ≡ length (records R)
    go true e t = h e
    go false e t = absurd (never t)

quiet_ok : (R : Recording) (n : ℕ) (a : Answer) → Quiet a → AnswerOk R n a
quiet_ok R n (to_tick T) q = absurd q
quiet_ok R n (to_message k p) q = rw (q.0, q.1) (unpointed R n 0 (λ e. absurd (never e)))

answer_more : (R : Recording) (n m : ℕ) → n ≤ m → m ≤ length (records R) → (a : Answer) → AnswerOk R n a → AnswerOk R m a
answer_more R n m h l (to_tick T) g = good_more m h g
answer_more R n m h l (to_message k p) g = record { is_total = g.is_total; is_whole = λ e. omega (arith, g.is_whole e) }

-- what goes under way for a message
answers : (P : Answer → Type 0) (every : Bool) (k : ℕ) (p : Option ℕ) → P (to_message k p) → All P (answered every k p)
unfolding answered
answers P every k p h = go (unsent every k p)
  where
    go : (b : Bool) → All P (pick b [] (to_message k p ∷ []))
    go true = tt
    go false = (h, tt)

-- has the sender stopped once all that is under way has come
unfoldable pub told : Bool → List Answer → Bool
told b [] = b
told b (a ∷ out) = told (stopped_after b a) out

-- it does not go on after its stop
told_on : (out : List Answer) → told true out ≡ true
unfolding told
told_on [] = refl
told_on (to_tick T ∷ out) = told_on out
told_on (to_message k p ∷ out) = ap (λ (b : Bool). told b out) (still (eqb k 13) (is_point p)) ∙ told_on out
  where
    still : (x y : Bool) → pick x true (pick y true true) ≡ true
    still true y = refl
    still false true = refl
    still false false = refl

-- more answers under way change nothing for a sender that stops at those before
told_more : (b : Bool) (xs ys : List Answer) → told b xs ≡ true → told b (xs ++ ys) ≡ true
unfolding told
told_more b [] ys e = ap (λ (x : Bool). told x ys) e ∙ told_on ys
told_more b (a ∷ xs) ys e = told_more (stopped_after b a) xs ys e

-- it stops at a last one
told_last : (b : Bool) (xs : List Answer) (k : ℕ) (p : Option ℕ) → ((x : Bool) → stopped_after x (to_message k p) ≡ true) → told b (xs ++ (to_message k p ∷ [])) ≡ true
unfolding told
told_last b [] k p h = h b
told_last b (a ∷ xs) k p h = told_last (stopped_after b a) xs k p h

-- at an exit's point, at the refusal "finished"
told_point : (b every : Bool) (xs : List Answer) (T : ℕ) → told b (xs ++ answered every 0 (Some T)) ≡ true
unfolding answered unsent is_point
told_point b true xs T = told_last b xs 0 (Some T) (λ x. refl)
told_point b false xs T = told_last b xs 0 (Some T) (λ x. refl)

told_finished : (b every : Bool) (xs : List Answer) → told b (xs ++ answered every 13 None) ≡ true
unfolding answered unsent is_point
told_finished b true xs = told_last b xs 13 None (λ x. refl)
told_finished b false xs = told_last b xs 13 None (λ x. refl)

-- ---- where a connection stands

-- the session's own marks, n records stored and ys to come
abbrev pub MarkOk : Recording → ℕ → List TimedRecord → ℕ → ℕ → Option ℕ → Type 0
MarkOk R n ys total low None = 0 < total → Good R n low
MarkOk R n ys total low (Some T) = Good R n T × HeadLater ys

-- what stands before the first message that matters: a hello in new, or nothing
abbrev pub Lead : State → List Sent → List Sent → Type 0
Lead st ms l = ((st ≡ New) × (ms ≡ hello ∷ l)) ⊎ ((may_open st ≡ true) × (ms ≡ l))

pub record Logs (R : Recording) (ms : List Sent) (se : Session) (used n : ℕ) : Type 0 where
  pub stored_ones : List TimedRecord
  pub coming : List TimedRecord
  pub split : stored_ones ++ coming ≡ R.timed
  pub coming_is : ms ≡ rest R coming
  pub state_is : se.state ≡ Logging
  pub n_is : n ≡ suc (length stored_ones)
  pub used_same : used ≡ se.used
  pub total_is : se.total ≡ total_of stored_ones
  pub mark_ok : MarkOk R n coming se.total se.low se.mark

-- p is the sender's latest point, ms the messages that have yet to come whole
-- a restart comes first or not at all
abbrev NoRestart : Sent → Type 0
NoRestart hello = Unit {0}
NoRestart (accept a) = Unit {0}
NoRestart (restart T) = ⊥
NoRestart (timed t) = Unit {0}
NoRestart (exit e) = Unit {0}

none_in_rest : (R : Recording) (ts : List TimedRecord) → All NoRestart (rest R ts)
unfolding rest
none_in_rest R [] = (tt, tt)
none_in_rest R (t ∷ ts) = (tt, none_in_rest R ts)

-- stop: has the sender stopped
pub data Stage (R : Recording) (p : Option ℕ) (stop : Bool) (ms : List Sent) (d : Desk) : Type 0 where
  beginning : Lead d.session.state ms (accept R.accept ∷ rest R R.timed) → d.n ≡ 0 → Stage R p stop ms d
  resuming : (T : ℕ) → Lead d.session.state ms (restart T ∷ rest R (later 0 T R.timed)) → p ≡ Some T → All Quiet d.out → Stage R p stop ms d
  logging : Logs R ms d.session d.used d.n → Stage R p stop ms d
  over : d.session.state ≡ Closed → d.n ≡ length (records R) → All NoRestart ms → told stop d.out ≡ true → Stage R p stop ms d

abbrev pub RestartOk : WholeRestart → Type 0
RestartOk r = r.refusal ≡ pick r.carried 13 0

-- c is the area's length
pub record Inv (R : Recording) (c : ℕ) (p : Option ℕ) (stop : Bool) (ms : List Sent) (d : Desk) : Type 0 where
  pub holds : Holds d.area d.used (take d.n (records R))
  pub sized : length d.area ≡ c
  pub within : d.n ≤ length (records R)
  pub restarts_ok : All RestartOk d.restarts
  pub out-ok : All (AnswerOk R d.n) d.out
  pub point_ok : PointOk R d.n p
  pub stage : Stage R p stop ms d

-- ---- a timed record

-- one with delay zero is never sent at a restart point
not_at_mark : (R : Recording) (n : ℕ) (se : Session) (t : TimedRecord) (ys : List TimedRecord) (m : Option ℕ) → time t ≡ (stored_for t).delay
    → MarkOk R n (t ∷ ys) se.total se.low m → both (eqb (stored_for t).delay 0) (at_mark m se.total) ≡ false
unfolding at_mark
not_at_mark R n se t ys None h k = go (eqb (stored_for t).delay 0)
  where
    go : (b : Bool) → both b false ≡ false
    go true = refl
    go false = refl
not_at_mark R n se t ys (Some T) h k = rw (ne_eqb (stored_for t).delay 0 (λ e. let z = k.1 in omega arith))

-- the marks after it
module _ (R : Recording) (n : ℕ) (se : Session) (t : TimedRecord) (xs ys : List TimedRecord) (split : xs ++ t ∷ ys ≡ R.timed) (n_is : n ≡ suc (length xs))
    (total_is : se.total ≡ total_of xs) (delay_is : time t ≡ (stored_for t).delay) where
  pub total_after : se.total + (stored_for t).delay ≡ total_of (xs ++ (t ∷ []))
  unfolding total
  total_after = omega (arith, total_of_append xs (t ∷ []))

  kept_all : 0 < (stored_for t).delay → kept 0 se.total R.timed ≡ xs
  kept_all h =
      ap (λ (k : ℕ). kept 0 k R.timed) (total_is ∙ zero_plus (total_of xs)) ∙ ap (kept 0 (0 + total_of xs)) (sym split) ∙ kept_exact 0 xs t ys (omega arith)
    where
      zero_plus : (a : ℕ) → a ≡ 0 + a
      zero_plus a = omega arith

  marks_after : MarkOk R n (t ∷ ys) se.total se.low se.mark → (b : Bool) → eqb (stored_for t).delay 0 ≡ b
      → MarkOk R (suc n) ys (se.total + (stored_for t).delay) (pick b se.low se.total) (pick b se.mark None)
  unfolding total
  marks_after m true e = still se.mark (eqb-true (stored_for t).delay 0 e) m
    where
      still : (x : Option ℕ) → (stored_for t).delay ≡ 0 → MarkOk R n (t ∷ ys) se.total se.low x → MarkOk R (suc n) ys (se.total + (stored_for t).delay) se.low x
      still None z h = λ pos. good_more (suc n) (omega arith) (h (omega arith))
      still (Some T) z h = absurd (let k = h.1 in omega arith)
  marks_after m false e =
      let z : (stored_for t).delay ≡ 0 → ⊥ = eqb-false (stored_for t).delay 0 e in
      let pos : 0 < (stored_for t).delay = omega arith in
      λ h. record {
        reached = ap total_of (kept_all pos) ∙ sym total_is;
        held = omega (arith, ap length (kept_all pos));
        below = omega (arith, total_of_append xs (t ∷ ys), ap total_of split);
      }

-- in the book and in the log
counts_timed : (R : Recording) (t : TimedRecord) (n : ℕ) → counted_member R (timed_member t) n ≡ suc n
unfolding counted_member timed_member
counts_timed R (io k i) n = refl
counts_timed R (window w) n = refl
counts_timed R (suspend x) n = refl

notes_timed : (t : TimedRecord) (w : WholeRestart) → noted_member (timed_member t) w ≡ []
unfolding noted_member timed_member
notes_timed (io k i) w = refl
notes_timed (window x) w = refl
notes_timed (suspend x) w = refl

-- ---- one message

-- whatever the sender says reads as some timed_member
pub reads_some : (s : Bytes) (m : Sent) → Says s m → (c : Client) × Reads s c
reads_some s hello y = (hello_msg y.0, y.1)
reads_some s (accept a) y = (_, y.0)
reads_some s (restart T) y = (restart_msg y.values, y.reads)
reads_some s (timed t) y = (timed_member t, y)
reads_some s (exit e) y = (exit_msg e, y)

-- none but a restart is noted
unnoted : (s : Bytes) (m : Sent) (y : Says s m) → NoRestart m → (w : WholeRestart) → noted_member (reads_some s m y).0 w ≡ []
unfolding noted_member timed_member reads_some
unnoted s hello y n w = refl
unnoted s (accept a) y n w = refl
unnoted s (restart T) y n w = absurd n
unnoted s (timed t) y n w = notes_timed t w
unnoted s (exit e) y n w = refl

module _ (R : Recording) (storable : Storable R) (c : ℕ) (fits : length (file_bytes (records R)) ≤ c) (small : c ≤ 1073741824) where
  -- the desk after a message, where what the session gives and the book are known
  after : Client → Desk → Outcome → ℕ → Desk
  after m d o n = desk_after d o n (noted_member m (restart_note d o))

  hand_is : (s : Bytes) (m : Client) (d : Desk) (o : Outcome) (n : ℕ) → client_message s ≡ value m → step d.session d.area d.used s ≡ o
      → booked R (value m) d.n ≡ n → hand R s d ≡ after m d o n
  unfolding hand after noted
  hand_is s m d o n e p q = rw (e, p, q)

  book_stays : (m : Client) (n : ℕ) → n ≡ length (records R) → booked R (value m) n ≡ n
  unfolding booked
  book_stays m n e = rw (eq-eqb n (length (records R)) e)

  book_counts : (m : Client) (n : ℕ) → n < length (records R) → booked R (value m) n ≡ counted_member R m n
  unfolding booked counted
  book_counts m n h = rw (ne_eqb n (length (records R)) (λ e. omega arith))

  module _ (p : Option ℕ) (stop : Bool) (d : Desk) (s : Bytes) (ms before : List Sent) (i : Inv R c p stop before d) where
    abbrev To : Type 0
    To = Inv R c p stop ms (hand R s d)

    abbrev carried : Bool
    carried = carries (file_kind (take d.used d.area))

    carried_is : carried ≡ eqb d.n (length (records R))
    carried_is = rw i.holds.shows (carries_is R storable d.n i.within)

    used_fits : d.used ≤ length d.area
    used_fits = omega (arith, i.holds.used_is, beginning_short R d.n, i.sized)

    within : within_area (length d.area) d.used ≡ true
    within = within_area_lem d.session d.area d.used s (omega (arith, i.sized)) used_fits

    lengths : (want : ℕ) → d.used ≡ want → lengths_fit (length d.area) d.used want ≡ true
    lengths want e = lengths_fit_lem d.session d.area d.used s want within e

    room : (r : Record) → Next R d.n r → length r.contents ≤ 2097152 → room_for d.session d.area d.used r ≡ true
    room r x h = room_for_lem d.session d.area d.used s r h (omega (arith, i.holds.used_is, next_room R d.n r x, i.sized))

    -- a record that was stored
    stored_to : (m : Client) (r : Record) (se : Session) (pt : Option ℕ) → client_message s ≡ value m → Next R d.n r → counted_member R m d.n ≡ suc d.n
        → ((w : WholeRestart) → noted_member m w ≡ [])
        → se.used ≡ d.used + length (record_bytes r)
        → step d.session d.area d.used s ≡ carrying pt se (stored d.session d.area d.used r)
        → MessageOk R (suc d.n) 0 pt
        → ((e : Desk) → e.session ≡ se → e.used ≡ d.used + length (record_bytes r) → e.n ≡ suc d.n → e.out ≡ d.out ++ answered d.every 0 pt
        → Stage R p stop ms e)
        → To
    unfolding after
    stored_to m r se pt read x counts quiet ends gives ok st =
        let below : d.n < length (records R) = next_below R d.n r i.within x in
        let o : Outcome = carrying pt se (stored d.session d.area d.used r) in
        rw (hand_is s m d o (suc d.n) read gives (book_counts m d.n below ∙ counts))
        (record {
          holds = rw ends (holds_next R d.n r d.area d.used i.within x (omega (arith, i.sized)) i.holds);
          sized = size_next R d.n r d.area d.used x (omega (arith, i.sized)) i.holds ∙ i.sized;
          within = omega arith;
          restarts_ok = all_append RestartOk d.restarts _ i.restarts_ok (rw (quiet (record { refusal = 0; carried = carried })) tt);
          out-ok = all_append (AnswerOk R (suc d.n)) d.out (answered d.every 0 pt)
              (all_map (AnswerOk R d.n) (AnswerOk R (suc d.n)) (answer_more R d.n (suc d.n) (omega arith) (omega arith)) d.out i.out-ok)
              (answers (AnswerOk R (suc d.n)) d.every 0 pt ok);
          point_ok = point_more R d.n (suc d.n) (omega arith) p i.point_ok;
          stage = st (after m d o (suc d.n)) refl ends refl refl;
        })

    -- the accept
    pub accept_to : Says s (accept R.accept) → may_open d.session.state ≡ true → ms ≡ rest R R.timed → d.n ≡ 0 → To
    unfolding counted_member noted_member total file_bytes
    accept_to y o e z =
        let a : Record = accept_record R.accept in
        let x : Next R d.n a = rw z (next_accept R) in
        let u : d.used ≡ 0 = i.holds.used_is ∙ ap (λ (k : ℕ). length (file_bytes (take k (records R)))) z in
        stored_to (accept_msg (accept_of R)) a (from_accept (d.used + length (record_bytes a))) None y.0.read x refl (λ w. refl) refl
        (step_accept d.session d.area d.used s R storable.valid y.0 y.1 o (lengths 0 u) (room a x storable.accept_small))
        (unpointed R (suc d.n) 0 (λ b. absurd (never b)))
        (λ f se us k out. logging (record {
          stored_ones = [];
          coming = R.timed;
          split = refl;
          coming_is = e;
          state_is = ap (λ (q : Session). q.state) se;
          n_is = k ∙ ap suc z;
          used_same = us ∙ sym (ap (λ (q : Session). q.used) se);
          total_is = ap (λ (q : Session). q.total) se;
          mark_ok = rw se (λ h. absurd (omega arith));
        }))

    -- the timed record that comes next
    pub timed_to : (l : Logs R before d.session d.used d.n) (t : TimedRecord) (ys : List TimedRecord) → Says s (timed t) → l.coming ≡ t ∷ ys → ms ≡ rest R ys → To
    unfolding total
    timed_to l t ys y e m =
        let xs : List TimedRecord = l.stored_ones in
        let split : xs ++ t ∷ ys ≡ R.timed = ap (λ (z : List TimedRecord). xs ++ z) (sym e) ∙ l.split in
        let v : StorableTimed t = (all_right StorableTimed xs (t ∷ ys) (rw split storable.timed_storable)).0 in
        let x : Next R d.n (stored_for t) = next_timed R d.n xs ys t split l.n_is in
        let delay : time t ≡ (stored_for t).delay = time_is t v in
        let sums : total_of xs + (time t + total_of ys) ≡ total_of R.timed = sym (total_of_append xs (t ∷ ys)) ∙ ap total_of split in
        let marks : MarkOk R d.n (t ∷ ys) d.session.total d.session.low d.session.mark = rw e at l.mark_ok in
        let after_it = marks_after R d.n d.session t xs ys split l.n_is l.total_is delay marks (eqb (stored_for t).delay 0) refl in
        stored_to (timed_member t) (stored_for t) (grown d.session (d.used + length (record_bytes (stored_for t))) (stored_for t).delay) None y.read x (counts_timed R t d.n) (notes_timed t) refl
        (step_timed d.session d.area d.used s t y v.in_range_lem l.state_is (lengths d.session.used l.used_same)
        (omega (arith, l.total_is, storable.valid.within_limit)) (not_at_mark R d.n d.session t ys d.session.mark delay marks) (room (stored_for t) x v.small))
        (unpointed R (suc d.n) 0 (λ b. absurd (never b)))
        (λ f se us k out. logging (record {
          stored_ones = xs ++ (t ∷ []);
          coming = ys;
          split = append_assoc xs (t ∷ []) ys ∙ split;
          coming_is = m;
          state_is = ap (λ (q : Session). q.state) se;
          n_is = omega (arith, k, l.n_is, length-append xs (t ∷ []));
          used_same = us ∙ sym (ap (λ (q : Session). q.used) se);
          total_is = ap (λ (q : Session). q.total) se ∙ total_after R d.n d.session t xs ys split l.n_is l.total_is delay;
          mark_ok = rw (se, k) after_it;
        }))

    -- the exit
    pub exit_to : (l : Logs R before d.session d.used d.n) → Says s (exit R.exit) → l.coming ≡ [] → ms ≡ [] → To
    unfolding counted_member noted_member is_point
    exit_to l y e gone =
        let r : Record = exit_record R.exit in
        let xs : List TimedRecord = l.stored_ones in
        let all_of : xs ≡ R.timed = sym (append-nil xs) ∙ ap (λ (z : List TimedRecord). xs ++ z) (sym e) ∙ l.split in
        let n_is : d.n ≡ suc (length R.timed) = l.n_is ∙ ap (λ (z : List TimedRecord). suc (length z)) all_of in
        let x : Next R d.n r = next_exit R d.n n_is in
        let full : suc d.n ≡ length (records R) = omega (arith, size R) in
        stored_to (exit_msg R.exit) r
        (ended d.session (d.used + length (record_bytes r)))
        (Some d.session.total) y.read x refl (λ w. refl) refl
        (step_exit d.session d.area d.used s R.exit y storable.valid.exit_in_range l.state_is (lengths d.session.used l.used_same) (room r x storable.exit_small))
        (record { is_total = λ T q. sym (at_same q) ∙ l.total_is ∙ ap total_of all_of; is_whole = λ q. full })
        (λ f se us k out. over (ap (λ (q : Session). q.state) se) (k ∙ full) (rw gone tt)
        (ap (told stop) out ∙ told_point stop d.every d.out d.session.total))
      where
        at_same : {a b : ℕ} → Some a ≡ Some b → a ≡ b
        at_same q = cc

    -- a hello: nothing of the area or the book changes
    hello_to : Says s hello → d.session.state ≡ New → ((e : Desk) → e.session.state ≡ Greeted → e.n ≡ d.n → e.out ≡ d.out ++ answered d.every 0 None → Stage R p stop ms e) → To
    unfolding after noted_member booked counted counted_member
    hello_to y h st =
        rw (hand_is s (hello_msg y.0) d (taken d.session d.area d.used Greeted) d.n y.1.read
        (step_hello d.session d.area d.used s y.0 y.1 h) (same d.n (eqb d.n (length (records R)))))
        (record {
          holds = i.holds;
          sized = i.sized;
          within = i.within;
          restarts_ok = all_append RestartOk d.restarts [] i.restarts_ok tt;
          out-ok = all_append (AnswerOk R d.n) d.out (answered d.every 0 None) i.out-ok
              (answers (AnswerOk R d.n) d.every 0 None (unpointed R d.n 0 (λ b. absurd (never b))));
          point_ok = i.point_ok;
          stage = st (after (hello_msg y.0) d (taken d.session d.area d.used Greeted) d.n) refl refl refl;
        })
      where
        same : (n : ℕ) (b : Bool) → pick b n n ≡ n
        same n true = refl
        same n false = refl

    -- where the accept comes next, or a restart
    pub hello_begins : Says s hello → d.session.state ≡ New → ms ≡ accept R.accept ∷ rest R R.timed → d.n ≡ 0 → To
    unfolding may_open
    hello_begins y h e z = hello_to y h (λ f st k o. beginning (inr (ap may_open st, e)) (k ∙ z))

    pub hello_resumes : (T : ℕ) → Says s hello → d.session.state ≡ New → ms ≡ restart T ∷ rest R (later 0 T R.timed) → p ≡ Some T → All Quiet d.out → To
    unfolding may_open
    hello_resumes T y h e q o =
        hello_to y h (λ f st k out. resuming T (inr (ap may_open st, e)) q (rw out (all_append Quiet d.out (answered d.every 0 None) o (answers Quiet d.every 0 None (refl, refl)))))

    -- a refusal over a finished file leaves all as it was
    refused_to : (m : Client) (k : ℕ) → Reads s m → eqb k 0 ≡ false → step d.session d.area d.used s ≡ refuse d.session d.area d.used k 0
        → d.n ≡ length (records R) → All NoRestart ms → told stop (d.out ++ answered d.every k None) ≡ true
        → ((w : WholeRestart) → w.refusal ≡ k → w.carried ≡ true → All RestartOk (noted_member m w)) → To
    unfolding after noted_member
    refused_to m k r z gives e left stops notes =
        rw (hand_is s m d (refuse d.session d.area d.used k 0) d.n r.read gives (book_stays m d.n e))
        (record {
          holds = i.holds;
          sized = i.sized;
          within = i.within;
          restarts_ok = all_append RestartOk d.restarts (noted_member m (record { refusal = k; carried = carried })) i.restarts_ok
              (notes _ refl (carried_is ∙ eq-eqb d.n (length (records R)) e));
          out-ok = all_append (AnswerOk R d.n) d.out (answered d.every k None) i.out-ok
              (answers (AnswerOk R d.n) d.every k None (unpointed R d.n k (λ b. e)));
          point_ok = i.point_ok;
          stage = over refl e left stops;
        })

    -- a session that is over refuses whatever comes
    pub over_to : (m : Client) → Reads s m → ((w : WholeRestart) → noted_member m w ≡ []) → d.session.state ≡ Closed → d.n ≡ length (records R) → All NoRestart ms
        → told stop d.out ≡ true → To
    over_to m r quiet h e left stops =
        refused_to m 9 r refl (step_closed d.session d.area d.used s m r h) e left (told_more stop d.out (answered d.every 9 None) stops)
        (λ w _ _. rw (quiet w) tt)

    -- a restart of a finished file
    restart_finished : (v : Restart) → Reads s (restart_msg v) → restart_fits v ≡ true → may_open d.session.state ≡ true → d.n ≡ length (records R) → All NoRestart ms → To
    unfolding noted_member
    restart_finished v r h o k left =
        refused_to (restart_msg v) 13 r refl
        (step_finished d.session d.area d.used s v r h o within (records R) (ap records_of i.holds.shows ∙ read_whole R storable d.n k) (whole_finished R storable))
        k left (told_finished stop d.every d.out) (λ w is carried-it. (is ∙ ap (λ (b : Bool). pick b 13 0) (sym carried-it), tt))

    -- a restart that is taken
    restart_taken : (v : Restart) → Reads s (restart_msg v) → restart_fits v ≡ true → may_open d.session.state ≡ true
        → (xs ys : List TimedRecord) → xs ++ ys ≡ R.timed → d.n ≡ suc (length xs)
        → ms ≡ rest R (later 0 (moment v.resume_point) R.timed) → p ≡ Some (moment v.resume_point) → Good R d.n (moment v.resume_point) → All Quiet d.out → To
    unfolding after noted_member counted_member
    restart_taken v r h o xs ys e k m q g quiet =
        let T : ℕ = moment v.resume_point in
        let K : List TimedRecord = kept 0 T R.timed in
        let len : length xs + length ys ≡ length R.timed = sym (length-append xs ys) ∙ ap length e in
        let below : d.n < length (records R) = omega (arith, size R) in
        let same : kept 0 T xs ≡ K = rw (← e) (kept_beginning 0 T xs ys (rw e (omega (arith, g.held)))) in
        let file : Holds d.area d.used (begun R xs) = rw (ap (λ (z : ℕ). take z (records R)) k ∙ first R xs ys e) at i.holds in
        let is-first : take (suc (length K)) (records R) ≡ begun R K = first R K (later 0 T R.timed) (kept_later 0 T R.timed) in
        let good : Good R (suc (length K)) T = record { reached = g.reached; held = omega arith; below = g.below } in
        let se : Session = resumes d.session d.area d.used s T (begun R xs) in
        rw (hand_is s (restart_msg v) d (carrying None se d.area) (suc (length K)) r.read
        (step_restart d.session d.area d.used s v r h o within (begun R xs)
        (ap records_of i.holds.shows ∙ ap (λ (z : ℕ). records_of (file_bytes (take z (records R)))) k ∙ read_begun R storable xs ys e) (begun_unfinished R storable xs ys e)
        (meets_begun R T xs (ap total_of same ∙ g.reached)))
        (book_counts (restart_msg v) d.n below ∙ ap suc (at_most_is 0 T R.timed)))
        (record {
          holds = holds_kept R T xs K d.area d.used same is-first file;
          sized = i.sized;
          within = omega (arith, g.held);
          restarts_ok = all_append RestartOk d.restarts (record { refusal = 0; carried = carried } ∷ []) i.restarts_ok
              (ap (λ (b : Bool). pick b 13 0) (sym (carried_is ∙ ne_eqb d.n (length (records R)) (λ z. omega arith))), tt);
          out-ok = all_append (AnswerOk R (suc (length K))) d.out (answered d.every 0 None)
              (all_map Quiet (AnswerOk R (suc (length K))) (quiet_ok R (suc (length K))) d.out quiet)
              (answers (AnswerOk R (suc (length K))) d.every 0 None (unpointed R (suc (length K)) 0 (λ b. absurd (never b))));
          point_ok = rw q good;
          stage = logging (record {
            stored_ones = K;
            coming = later 0 T R.timed;
            split = kept_later 0 T R.timed;
            coming_is = m;
            state_is = refl;
            n_is = refl;
            used_same = refl;
            total_is = sym g.reached;
            mark_ok = (good, later_head 0 T R.timed (omega (arith, g.reached)));
          });
        })

    -- a restart, taken or not
    pub restart_to : (T : ℕ) → Says s (restart T) → may_open d.session.state ≡ true → ms ≡ rest R (later 0 T R.timed) → p ≡ Some T → All Quiet d.out → To
    restart_to T y o m q quiet =
        let v : Restart = y.values in
        let m' : ms ≡ rest R (later 0 (moment v.resume_point) R.timed) = m ∙ ap (λ (z : ℕ). rest R (later 0 z R.timed)) (sym y.is_at) in
        let q' : p ≡ Some (moment v.resume_point) = q ∙ ap Some (sym y.is_at) in
        let g : Good R d.n (moment v.resume_point) = rw q' at i.point_ok in
        go m' q' g (count R d.n i.within)
      where
        go : ms ≡ rest R (later 0 (moment y.values.resume_point) R.timed) → p ≡ Some (moment y.values.resume_point) → Good R d.n (moment y.values.resume_point)
            → Count R d.n → To
        go m' q' g (nothing z) = absurd (omega (arith, g.held))
        go m' q' g (some_of xs ys e k) = restart_taken y.values y.reads y.in_range_lem o xs ys e k m' q' g quiet
        go m' q' g (whole k) = restart_finished y.values y.reads y.in_range_lem o k (rw m (none_in_rest R _))

  -- ---- any message that is lined up

  pub handed : (p : Option ℕ) (stop : Bool) (s : Bytes) (m : Sent) (ms : List Sent) (d : Desk) → Says s m → Inv R c p stop (m ∷ ms) d → Inv R c p stop ms (hand R s d)
  unfolding rest
  handed p stop s m ms d y i = go i.stage
    where
      logged : (l : Logs R (m ∷ ms) d.session d.used d.n) (ts : List TimedRecord) → l.coming ≡ ts → m ∷ ms ≡ rest R ts → Inv R c p stop ms (hand R s d)
      logged l [] e k = exit_to p stop d s ms (m ∷ ms) i l (rw (head-eq_of_cons-eq k) at y) e (tail-eq_of_cons-eq k)
      logged l (t ∷ ts) e k = timed_to p stop d s ms (m ∷ ms) i l t ts (rw (head-eq_of_cons-eq k) at y) e (tail-eq_of_cons-eq k)

      go : Stage R p stop (m ∷ ms) d → Inv R c p stop ms (hand R s d)
      go (beginning (inl (h, e)) z) = hello_begins p stop d s ms (m ∷ ms) i (rw (head-eq_of_cons-eq e) at y) h (tail-eq_of_cons-eq e) z
      go (beginning (inr (h, e)) z) = accept_to p stop d s ms (m ∷ ms) i (rw (head-eq_of_cons-eq e) at y) h (tail-eq_of_cons-eq e) z
      go (resuming T (inl (h, e)) q o) = hello_resumes p stop d s ms (m ∷ ms) i T (rw (head-eq_of_cons-eq e) at y) h (tail-eq_of_cons-eq e) q o
      go (resuming T (inr (h, e)) q o) = restart_to p stop d s ms (m ∷ ms) i T (rw (head-eq_of_cons-eq e) at y) h (tail-eq_of_cons-eq e) q o
      go (logging l) = logged l l.coming refl l.coming_is
      go (over h z unrestarted stops) =
          let r = reads_some s m y in over_to p stop d s ms (m ∷ ms) i r.0 r.1 (unnoted s m y unrestarted.0) h z unrestarted.1 stops

  -- so do any number of them
  pub record Handed (p : Option ℕ) (stop : Bool) (left : List Bytes) (d : Desk) : Type 0 where
    pub more : List Sent
    pub read_as : Lines left more
    pub keeps : Inv R c p stop more d

  pub all_handed : (p : Option ℕ) (stop : Bool) (bs left : List Bytes) (ms : List Sent) (d : Desk) → Lines (bs ++ left) ms → Inv R c p stop ms d
      → Handed p stop left (hand_all R bs d)
  unfolding hand_all
  all_handed p stop [] left ms d r i = record { more = ms; read_as = r; keeps = i }
  all_handed p stop (b ∷ bs) left [] d r i = absurd r
  all_handed p stop (b ∷ bs) left (m ∷ ms) d r i = all_handed p stop bs left ms (hand R b d) r.1 (handed p stop b m ms d r.0 i)
