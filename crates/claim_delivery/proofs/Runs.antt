-- The invariant of the world, and that each event keeps it.
use Rattle.std.specs.Prelude.{Option, Some, None}
use Prim.Native.Nat.{ℕ, zero, suc, ◌≤◌}
use native.Mathlib.Omega.{arith}
use mathlib.Core.Path.{◌≡◌, refl, ap, sym, ◌∙◌}
use mathlib.Core.Logic.{◌⊎◌, inl, inr}
use mathlib.Core.Bool.{Bool, true, false}
use mathlib.Core.List.{List, [], ◌∷◌, ◌++◌, append_assoc, append-nil, map}
use lib.Dec.{eqb}
use lib.ListN.{length, take, drop, length-append, take-append-drop}
use borrow.Author.Tests.{eq-eqb, eqb-true, eqb-false}
use Rattle.base_laws.specs.Base.{pick, All}
use Rattle.base_laws.proofs.Lists.{all_append, all_right}
use Rattle.wire_message.specs.Message.{Bytes, Client}
use Rattle.wire.specs.Read.{Reading, client_message}
use Rattle.file_format.specs.Record.{record_bytes}
use Rattle.file_format.specs.File.{file_bytes, total}
use Rattle.file_format.proofs.Records.{length_record}
use Rattle.session.specs.Step as session
use Rattle.session.specs.Step.{accept_record, exit_record, logging_point, point_in}
use Rattle.session.proofs.Turns.{may_open}
use Rattle.session_turn.specs.declared.State.{State}
use Rattle.session_turn.specs.declared.State.TheVariants.{New, Greeted, Logging, EventsOnly, Closed}
use Rattle.claim_values.specs.Values.{TimedRecord, stored_for}
use Rattle.claim_delivery.specs.Recording.{Recording, records}
use Rattle.claim_delivery.specs.Sender.{Place, Sent, messages, with_hello, Lines}
use Rattle.claim_delivery.specs.Host.{frames, Drained, cut_all, booked, Answer, to_tick, to_message, Desk, with_out, hand, hand_all}
use Rattle.claim_delivery.specs.World.{Connection, sending, World, fresh, Event, opening, bytes, tick, arrival, break, with_connection, opened, put, desk, settled, came_in, tick_answers, stopped_after, arrived, inside, outside, happens, run, Fresh, Proper, AllProper}
use Rattle.claim_delivery.proofs.Totals.{greater_is}
use Rattle.claim_delivery.proofs.Cutting.{Fits, Left, drained}
use Rattle.claim_delivery.proofs.Files.{Storable}
use Rattle.claim_delivery.proofs.Areas.{Holds}
use Rattle.claim_delivery.proofs.Desk.{Good, PointOk, AnswerOk, Quiet, MarkOk, Lead, Stage, beginning, resuming, logging, over, RestartOk, Inv, told, reads_some, all_handed}

-- the sender's latest point, seen from its area
abbrev placed : ℕ → Option ℕ → Option Place
placed a None = None
placed a (Some T) = Some (record { area = a; at = T })

abbrev pub LatestOk : Recording → (ℕ → ℕ) → Option Place → Type 0
LatestOk R book None = Unit {0}
LatestOk R book (Some p) = Good R (book p.area) p.at

pub record AreaOk (R : Recording) (area : Bytes) (used n : ℕ) : Type 0 where
  pub holds : Holds area used (take n (records R))
  pub within : n ≤ length (records R)

-- some area holds the whole recording
pub record Whole (R : Recording) (book : ℕ → ℕ) : Type 0 where
  pub place : ℕ
  pub is_whole : book place ≡ length (records R)

module _ (R : Recording) (blank : ℕ → Bytes) where
  -- the line and the host's buffer are the frames of messages to come, which keep the connection's invariant
  pub record Link (w : World) (c : Connection) : Type 0 where
    pub sees : Option ℕ
    pub bodies : List Bytes
    pub coming : List Sent
    pub latest_is : w.latest ≡ placed c.area sees
    pub lined : w.part ++ c.line ≡ frames bodies
    pub fit : All Fits bodies
    pub read_as : Lines bodies coming
    pub inv : Inv R (length (blank c.area)) sees w.stopped coming (desk w c)

  abbrev pub LinkOk : World → Option Connection → Type 0
  LinkOk w None = w.part ≡ []
  LinkOk w (Some c) = Link w c

  pub record WorldOk (w : World) : Type 0 where
    pub sizes : (a : ℕ) → length (w.area a) ≡ length (blank a)
    pub areas : (a : ℕ) → AreaOk R (w.area a) (w.used a) (w.book a)
    pub restarts_ok : All RestartOk w.restarts
    pub latest_ok : LatestOk R w.book w.latest
    pub stopped_ok : w.stopped ≡ true → Whole R w.book
    pub link : LinkOk w w.connection

  never : false ≡ true → ⊥
  never e = let z : ◌≡◌ {A = ℕ} 0 1 = cc in omega arith

  pub fresh_ok : (every : Bool) → WorldOk (fresh every blank)
  unfolding fresh file_bytes
  fresh_ok every = record {
    sizes = λ a. refl;
    areas = λ a. record { holds = record { shows = refl; used_is = refl }; within = omega arith };
    restarts_ok = tt;
    latest_ok = tt;
    stopped_ok = λ e. absurd (never e);
    link = refl;
  }

  -- ---- a tick puts a good point under way, or none

  Ticked : Desk → Desk
  Ticked d = with_out d (d.out ++ tick_answers (session.tick d.session))

  no_tick : (d : Desk) → session.tick d.session ≡ None → Ticked d ≡ d
  unfolding Ticked tick_answers
  no_tick d h = ap (λ (z : Option ℕ). with_out d (d.out ++ tick_answers z)) h ∙ ap (with_out d) (append-nil d.out)

  -- where no record can be stored a tick gives none
  opening_quiet : (st : State) (p : Option ℕ) → may_open st ≡ true → point_in st p ≡ None
  unfolding may_open point_in
  opening_quiet New p e = refl
  opening_quiet Greeted p e = refl
  opening_quiet Logging p e = absurd (never e)
  opening_quiet EventsOnly p e = refl
  opening_quiet Closed p e = refl

  lead_quiet : (st : State) (p : Option ℕ) (ms l : List Sent) → Lead st ms l → point_in st p ≡ None
  unfolding point_in
  lead_quiet st p ms l (inl (e, q)) = ap (λ (x : State). point_in x p) e
  lead_quiet st p ms l (inr (e, q)) = opening_quiet st p e

  mark_point_lem : (n : ℕ) (ys : List TimedRecord) (total low : ℕ) (m : Option ℕ) → MarkOk R n ys total low m → All (AnswerOk R n) (tick_answers (logging_point m total low))
  unfolding logging_point tick_answers
  mark_point_lem n ys total low (Some T) g = (g.0, tt)
  mark_point_lem n ys total low None g = go (eqb total 0) refl
    where
      go : (b : Bool) → eqb total 0 ≡ b → All (AnswerOk R n) (tick_answers (pick b None (Some low)))
      go true e = tt
      go false e = (g (let z = eqb-false total 0 e in omega arith), tt)

  ticked_ok : (c : ℕ) (p : Option ℕ) (stop : Bool) (ms : List Sent) (d : Desk) → Inv R c p stop ms d → Inv R c p stop ms (Ticked d)
  unfolding Ticked session.tick point_in
  ticked_ok c p stop ms d i = go i.stage
    where
      point : Option ℕ
      point = logging_point d.session.mark d.session.total d.session.low

      go : Stage R p stop ms d → Inv R c p stop ms (Ticked d)
      go (beginning l z) = rw (no_tick d (lead_quiet d.session.state point ms _ l)) i
      go (resuming T l q o) = rw (no_tick d (lead_quiet d.session.state point ms _ l)) i
      go (over h z n t) = rw (no_tick d (ap (λ (x : State). point_in x point) h)) i
      go (logging l) = record {
        holds = i.holds;
        sized = i.sized;
        within = i.within;
        restarts_ok = i.restarts_ok;
        out-ok = all_append (AnswerOk R d.n) d.out (tick_answers (session.tick d.session)) i.out-ok
            (rw (ap (λ (x : State). point_in x point) l.state_is) (mark_point_lem d.n l.coming d.session.total d.session.low d.session.mark l.mark_ok));
        point_ok = i.point_ok;
        stage = logging l;
      }

  tick_ok : (w : World) (c : Connection) → WorldOk w → Link w c → WorldOk (inside R w c tick)
  unfolding inside desk Ticked
  tick_ok w c ok l = record {
    sizes = ok.sizes;
    areas = ok.areas;
    restarts_ok = ok.restarts_ok;
    latest_ok = ok.latest_ok;
    stopped_ok = ok.stopped_ok;
    link = record {
      sees = l.sees;
      bodies = l.bodies;
      coming = l.coming;
      latest_is = l.latest_is;
      lined = l.lined;
      fit = l.fit;
      read_as = l.read_as;
      inv = ticked_ok (length (blank c.area)) l.sees w.stopped l.coming (desk w c) l.inv;
    };
  }

  -- ---- what the desk has come to, put back into the world

  settled_ok : (w : World) (c : Connection) (d : Desk) (line part : Bytes) (p : Option ℕ) (bodies : List Bytes) (coming : List Sent)
      → WorldOk w → w.latest ≡ placed c.area p → part ++ line ≡ frames bodies → All Fits bodies → Lines bodies coming → Inv R (length (blank c.area)) p w.stopped coming d
      → (w.book c.area ≡ length (records R) → d.n ≡ length (records R)) → WorldOk (settled w c d line part)
  unfolding desk
  settled_ok w c d line part p bodies coming ok e lined fit r i full = record {
    sizes = λ a. size_of a (eqb c.area a) refl;
    areas = λ a. area_of a (eqb c.area a);
    restarts_ok = i.restarts_ok;
    latest_ok = rw e (latest_at p i.point_ok);
    stopped_ok = λ s. still (ok.stopped_ok s);
    link = record {
      sees = p;
      bodies = bodies;
      coming = coming;
      latest_is = e;
      lined = lined;
      fit = fit;
      read_as = r;
      inv = rw (eq-eqb c.area c.area refl) i;
    };
  }
    where
      size_of : (a : ℕ) (b : Bool) → eqb c.area a ≡ b → length (pick b d.area (w.area a)) ≡ length (blank a)
      size_of a true h = i.sized ∙ ap (λ (z : ℕ). length (blank z)) (eqb-true c.area a h)
      size_of a false h = ok.sizes a

      area_of : (a : ℕ) (b : Bool) → AreaOk R (pick b d.area (w.area a)) (pick b d.used (w.used a)) (pick b d.n (w.book a))
      area_of a true = record { holds = i.holds; within = i.within }
      area_of a false = ok.areas a

      latest_at : (p : Option ℕ) → PointOk R d.n p → LatestOk R (put c.area d.n w.book) (placed c.area p)
      latest_at None g = tt
      latest_at (Some T) g = rw (eq-eqb c.area c.area refl) g

      still_at : (a : ℕ) (b : Bool) → eqb c.area a ≡ b → w.book a ≡ length (records R) → pick b d.n (w.book a) ≡ length (records R)
      still_at a true h q = full (ap w.book (eqb-true c.area a h) ∙ q)
      still_at a false h q = q

      still : Whole R w.book → Whole R (put c.area d.n w.book)
      still x = record { place = x.place; is_whole = still_at x.place (eqb c.area x.place) refl x.is_whole }

  -- "Once the exit is counted n stays."
  stays : (g : Reading Client) (n : ℕ) → n ≡ length (records R) → booked R g n ≡ length (records R)
  unfolding booked
  stays g n e = rw (eq-eqb n (length (records R)) e) e

  full_stays : (ss : List Bytes) (d : Desk) → d.n ≡ length (records R) → (hand_all R ss d).n ≡ length (records R)
  unfolding hand_all hand
  full_stays [] d e = e
  full_stays (s ∷ ss) d e = full_stays ss (hand R s d) (stays (client_message s) d.n e)

  -- ---- an arrival: whatever comes first, the invariant holds with the sender's new latest point

  came : (c : ℕ) (p q : Option ℕ) (stop : Bool) (ms : List Sent) (d : Desk) (a : Answer) (out : List Answer) → d.out ≡ a ∷ out → Inv R c p stop ms d → PointOk R d.n q
      → (Quiet a → q ≡ p) → Inv R c q (stopped_after stop a) ms (with_out d out)
  unfolding told
  came c p q stop ms d a out e i g same = record {
    holds = i.holds;
    sized = i.sized;
    within = i.within;
    restarts_ok = i.restarts_ok;
    out-ok = (rw e at i.out-ok).1;
    point_ok = g;
    stage = go i.stage;
  }
    where
      go : Stage R p stop ms d → Stage R q (stopped_after stop a) ms (with_out d out)
      go (beginning l z) = beginning l z
      go (resuming T l h o) = let z = rw e at o in resuming T l (same z.0 ∙ h) z.1
      go (over h z n t) = over h z n (ap (told stop) (sym e) ∙ t)
      go (logging l) = logging l

  point_place : (book : ℕ → ℕ) (a : ℕ) (q : Option ℕ) → PointOk R (book a) q → LatestOk R book (placed a q)
  point_place book a None g = tt
  point_place book a (Some T) g = g

  moved : (w : World) (c : Connection) (a : Answer) (out : List Answer) (q : Option ℕ) (latest : Option Place) → WorldOk w → (l : Link w c)
      → c.out ≡ a ∷ out → latest ≡ placed c.area q → PointOk R (w.book c.area) q → (Quiet a → q ≡ l.sees) → (stopped_after w.stopped a ≡ true → Whole R w.book)
      → WorldOk (with_connection w latest (stopped_after w.stopped a) w.part (Some (sending c out)))
  unfolding desk
  moved w c a out q latest ok l e p g same s = record {
    sizes = ok.sizes;
    areas = ok.areas;
    restarts_ok = ok.restarts_ok;
    latest_ok = rw p (point_place w.book c.area q g);
    stopped_ok = s;
    link = record {
      sees = q;
      bodies = l.bodies;
      coming = l.coming;
      latest_is = p;
      lined = l.lined;
      fit = l.fit;
      read_as = l.read_as;
      inv = came (length (blank c.area)) l.sees q w.stopped l.coming (desk w c) a out e l.inv g same;
    };
  }

  stopped_before : (b : Bool) (a : Answer) → stopped_after b a ≡ true → (b ≡ true) ⊎ (stopped_after false a ≡ true)
  stopped_before true a e = inl refl
  stopped_before false a e = inr e

  arrival_ok : (w : World) (c : Connection) → WorldOk w → Link w c → (out : List Answer) → c.out ≡ out → WorldOk (arrived w c out)
  unfolding arrived desk
  arrival_ok w c ok l [] e = ok
  arrival_ok w c ok l (to_tick T ∷ out) e =
      moved w c (to_tick T) out (Some T) (Some (record { area = c.area; at = T })) ok l e refl (rw e at l.inv.out-ok).0 (λ z. absurd z) ok.stopped_ok
  arrival_ok w c ok l (to_message k p ∷ out) e =
      moved w c (to_message k p) out l.sees w.latest ok l e l.latest_is l.inv.point_ok (λ z. refl)
      (λ s. go (stopped_before w.stopped (to_message k p) s))
    where
      go : (w.stopped ≡ true) ⊎ (stopped_after false (to_message k p) ≡ true) → Whole R w.book
      go (inl s) = ok.stopped_ok s
      go (inr s) = record { place = c.area; is_whole = (rw e at l.inv.out-ok).0.is_whole s }

  -- ---- an opening

  lines_fit : (bs : List Bytes) (ms : List Sent) → Lines bs ms → All Fits bs
  lines_fit [] [] l = tt
  lines_fit [] (m ∷ ms) l = absurd l
  lines_fit (b ∷ bs) [] l = absurd l
  lines_fit (b ∷ bs) (m ∷ ms) l = ((reads_some b m l.0).1.fits, lines_fit bs ms l.1)

  lead : (h : Bool) (ms : List Sent) → Lead New (with_hello h ms) ms
  unfolding may_open
  lead true ms = inl (refl, refl)
  lead false ms = inr (refl, refl)

  -- a fresh area has n = 0
  fresh_zero : (area : Bytes) (used n : ℕ) → AreaOk R area used n → used ≡ 0 → n ≡ 0
  unfolding file_bytes records
  fresh_zero area used zero h e = refl
  fresh_zero area used (suc n) h e =
      absurd (omega (arith, h.holds.used_is, length-append (record_bytes (accept_record R.accept)) (file_bytes (take n (map stored_for R.timed ++ (exit_record R.exit ∷ [])))), length_record (accept_record R.accept)))

  opened_ok : (w : World) (l : Option Place) (h : Bool) (bs : List Bytes) (a : ℕ) → WorldOk w → w.part ≡ [] → w.latest ≡ l
      → Lines bs (with_hello h (messages R l)) → Fresh w l a → WorldOk (opened w bs a)
  unfolding opened desk messages
  opened_ok w (Some p) h bs a ok part e lined t = record {
    sizes = ok.sizes;
    areas = ok.areas;
    restarts_ok = ok.restarts_ok;
    latest_ok = ok.latest_ok;
    stopped_ok = ok.stopped_ok;
    link = rw e (record {
      sees = Some p.at;
      bodies = bs;
      coming = with_hello h (messages R (Some p));
      latest_is = refl;
      lined = ap (λ (z : Bytes). z ++ frames bs) part;
      fit = lines_fit bs (with_hello h (messages R (Some p))) lined;
      read_as = lined;
      inv = record {
        holds = (ok.areas p.area).holds;
        sized = ok.sizes p.area;
        within = (ok.areas p.area).within;
        restarts_ok = ok.restarts_ok;
        out-ok = tt;
        point_ok = rw e at ok.latest_ok;
        stage = resuming p.at (rw (← greater_is 0 p.at R.timed) (lead h (messages R (Some p)))) refl tt;
      };
    });
  }
  opened_ok w None h bs a ok part e lined t = record {
    sizes = ok.sizes;
    areas = ok.areas;
    restarts_ok = ok.restarts_ok;
    latest_ok = ok.latest_ok;
    stopped_ok = ok.stopped_ok;
    link = rw e (record {
      sees = None;
      bodies = bs;
      coming = with_hello h (messages R None);
      latest_is = refl;
      lined = ap (λ (z : Bytes). z ++ frames bs) part;
      fit = lines_fit bs (with_hello h (messages R None)) lined;
      read_as = lined;
      inv = record {
        holds = (ok.areas a).holds;
        sized = ok.sizes a;
        within = (ok.areas a).within;
        restarts_ok = ok.restarts_ok;
        out-ok = tt;
        point_ok = tt;
        stage = beginning (lead h (messages R None)) (fresh_zero (w.area a) (w.used a) (w.book a) (ok.areas a) t);
      };
    });
  }

  outside_ok : (w : World) (e : Event) → Proper R w None e → WorldOk w → w.part ≡ [] → WorldOk (outside w e)
  unfolding outside Proper
  outside_ok w (opening h bs a) p ok part = go w.stopped refl
    where
      go : (b : Bool) → w.stopped ≡ b → WorldOk (pick b w (opened w bs a))
      go true e = ok
      go false e = opened_ok w w.latest h bs a ok part refl (p e).0 (p e).1
  outside_ok w (bytes k) p ok part = ok
  outside_ok w tick p ok part = ok
  outside_ok w arrival p ok part = ok
  outside_ok w break p ok part = ok

  -- ---- of a recording that is given

  module _ (storable : Storable R) (fits : (a : ℕ) → length (file_bytes (records R)) ≤ length (blank a)) (small : (a : ℕ) → length (blank a) ≤ 1073741824) where
    bytes_ok : (w : World) (c : Connection) (k : ℕ) → WorldOk w → Link w c → WorldOk (inside R w c (bytes k))
    unfolding inside came_in desk
    bytes_ok w c k ok l =
        go (cut_all (w.part ++ take k c.line))
        (drained (length (w.part ++ take k c.line)) l.bodies (w.part ++ take k c.line) (drop k c.line) l.fit
        (append_assoc w.part (take k c.line) (drop k c.line) ∙ ap (λ (z : Bytes). w.part ++ z) (take-append-drop k c.line) ∙ l.lined))
      where
        go : (b : Drained) → Left l.bodies (drop k c.line) b → WorldOk (came_in R w c (drop k c.line) b)
        go b left =
            let a : ℕ = c.area in
            let h = all_handed R storable (length (blank a)) (fits a) (small a) l.sees w.stopped b.messages left.coming l.coming (desk w c)
            (rw left.split at l.read_as) l.inv in
            settled_ok w c (hand_all R b.messages (desk w c)) (drop k c.line) b.left l.sees left.coming h.more ok l.latest_is left.lined
            (all_right Fits b.messages left.coming (rw left.split at l.fit)) h.read_as h.keeps (λ e. full_stays b.messages (desk w c) e)

    inside_ok : (w : World) (c : Connection) (e : Event) → WorldOk w → Link w c → WorldOk (inside R w c e)
    unfolding inside
    inside_ok w c (opening h bs a) ok l = ok
    inside_ok w c (bytes k) ok l = bytes_ok w c k ok l
    inside_ok w c tick ok l = tick_ok w c ok l
    inside_ok w c arrival ok l = arrival_ok w c ok l c.out refl
    inside_ok w c break ok l = record {
      sizes = ok.sizes;
      areas = ok.areas;
      restarts_ok = ok.restarts_ok;
      latest_ok = ok.latest_ok;
      stopped_ok = ok.stopped_ok;
      link = refl;
    }

    happens_ok : (w : World) (o : Option Connection) (e : Event) → Proper R w o e → WorldOk w → LinkOk w o → WorldOk (happens R w o e)
    unfolding happens
    happens_ok w None e p ok l = outside_ok w e p ok l
    happens_ok w (Some c) e p ok l = inside_ok w c e ok l

    pub run_ok : (es : List Event) (w : World) → AllProper R es w → WorldOk w → WorldOk (run R es w)
    unfolding run AllProper
    run_ok [] w p ok = ok
    run_ok (e ∷ es) w p ok = run_ok es (happens R w w.connection e) p.1 (happens_ok w w.connection e p.0 ok ok.link)
