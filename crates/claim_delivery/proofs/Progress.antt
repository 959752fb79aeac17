-- From any state that a list can reach, the sender can go on to a finished file and its stop.
use Rattle.std.specs.Prelude.{Option, Some, None}
use Prim.Native.Nat.{ℕ, suc, ◌+◌, ◌≤◌, ◌<◌}
use native.Mathlib.Nat.{le_refl}
use native.Mathlib.Omega.{arith}
use mathlib.Core.Path.{◌≡◌, refl, ap, sym, ◌∙◌, subst}
use mathlib.Core.Logic.{inl, inr}
use mathlib.Core.Bool.{Bool, true, false}
use mathlib.Core.List.{List, [], ◌∷◌, ◌++◌, append-nil, nil≢cons}
use lib.Dec.{leb}
use lib.ListN.{length, take, drop_of_length-le}
use lib.Seq.{take-length}
use borrow.Author.Tests.{ne_eqb}
use Rattle.base_laws.specs.Base.{pick, All}
use Rattle.base_laws.proofs.Lists.{all_map}
use Rattle.wire_message.specs.Message.{Bytes}
use Rattle.file_format.specs.File.{file_bytes, limit}
use Rattle.session.specs.Step as session
use Rattle.claim_values.specs.Values.{TimedRecord}
use Rattle.claim_delivery.specs.Recording.{Recording, records, time, greater}
use Rattle.claim_delivery.specs.Sender.{Place, Sent, accept, restart, timed, exit, rest, messages, Says, Lines}
use Rattle.claim_delivery.specs.Host.{frames, Answer, to_tick, to_message, Desk}
use Rattle.claim_delivery.specs.World.{Connection, World, fresh, Event, sending, opening, bytes, tick, arrival, break, with_connection, area_of, opened, desk, settled, came_in, arrived, inside, outside, happens, run, Fresh, Proper, AllProper}
use Rattle.claim_delivery.specs.Demand.{Listed, Delivery, end}
use Rattle.claim_delivery.specs.Progress.{Sendable, under_way, TellsEnd, Done, GoesOn, Progress}
use Rattle.claim_delivery.proofs.Restarting.{restartable}
use Rattle.claim_delivery.proofs.Sizes.{storable_sent}
use Rattle.claim_delivery.proofs.Cutting.{Short, drain_short, none_left}
use Rattle.claim_delivery.proofs.Files.{Storable}
use Rattle.claim_delivery.proofs.Desk.{AnswerOk, Lead, Stage, beginning, resuming, logging, over, Inv, told}
use Rattle.claim_delivery.proofs.Runs.{Whole, Link, LinkOk, WorldOk, run_ok, LatestOk}
use Rattle.claim_delivery.proofs.Reached.{reached}

-- ---- lists one behind the other

run_append : (R : Recording) (es fs : List Event) (w : World) → run R (es ++ fs) w ≡ run R fs (run R es w)
unfolding run
run_append R [] fs w = refl
run_append R (e ∷ es) fs w = run_append R es fs (happens R w w.connection e)

proper_append : (R : Recording) (es fs : List Event) (w : World) → AllProper R es w → AllProper R fs (run R es w) → AllProper R (es ++ fs) w
unfolding run AllProper
proper_append R [] fs w p q = q
proper_append R (e ∷ es) fs w p q = (p.0, proper_append R es fs (happens R w w.connection e) p.1 q)

-- ---- there is always a fresh area: those from some number on are unused

abbrev ConnectionBelow : ℕ → Option Connection → Type 0
ConnectionBelow n None = Unit {0}
ConnectionBelow n (Some c) = c.area < n

abbrev PlaceBelow : ℕ → Option Place → Type 0
PlaceBelow n None = Unit {0}
PlaceBelow n (Some p) = p.area < n

record Unused (w : World) (n : ℕ) : Type 0 where
  from : (a : ℕ) → n ≤ a → w.used a ≡ 0
  connected : ConnectionBelow n w.connection
  latest_there : PlaceBelow n w.latest

-- some number
record Bounded (w : World) : Type 0 where
  bound : ℕ
  unused : Unused w bound

place_more : (n m : ℕ) → n ≤ m → (p : Option Place) → PlaceBelow n p → PlaceBelow m p
place_more n m h None b = tt
place_more n m h (Some p) b = omega arith

area_below : (n a : ℕ) (p : Option Place) → PlaceBelow n p → area_of p a < n + suc a
area_below n a None b = omega arith
area_below n a (Some p) b = omega arith

opened_bounded : (w : World) (bs : List Bytes) (a : ℕ) → Bounded w → Bounded (opened w bs a)
unfolding opened
opened_bounded w bs a b = record {
  bound = b.bound + suc a;
  unused = record {
    from = λ x h. b.unused.from x (omega arith);
    connected = area_below b.bound a w.latest b.unused.latest_there;
    latest_there = place_more b.bound (b.bound + suc a) (omega arith) w.latest b.unused.latest_there;
  };
}

outside_bounded : (w : World) (e : Event) → Bounded w → Bounded (outside w e)
unfolding outside
outside_bounded w (opening h bs a) b = go w.stopped
  where
    go : (x : Bool) → Bounded (pick x w (opened w bs a))
    go true = b
    go false = opened_bounded w bs a b
outside_bounded w (bytes k) b = b
outside_bounded w tick b = b
outside_bounded w arrival b = b
outside_bounded w break b = b

-- in a connection, whose area is below the bound
module _ (R : Recording) (w : World) (c : Connection) (n : ℕ) (from : (a : ℕ) → n ≤ a → w.used a ≡ 0) (here : c.area < n) (latest : PlaceBelow n w.latest) where
  same_areas : (l : Option Place) (stopped : Bool) (part : Bytes) (o : Option Connection) → PlaceBelow n l → ConnectionBelow n o → Bounded (with_connection w l stopped part o)
  same_areas l stopped part o p q = record { bound = n; unused = record { from = from; connected = q; latest_there = p } }

  settled_bounded : (d : Desk) (line part : Bytes) → Bounded (settled w c d line part)
  settled_bounded d line part = record {
    bound = n;
    unused = record { from = λ a h. rw (ne_eqb c.area a (λ e. omega arith)) (from a h); connected = here; latest_there = latest };
  }

  arrived_bounded : (out : List Answer) → Bounded w → Bounded (arrived w c out)
  unfolding arrived
  arrived_bounded [] b = b
  arrived_bounded (to_tick t ∷ out) b = same_areas (Some (record { area = c.area; at = t })) w.stopped w.part (Some _) here here
  arrived_bounded (to_message k p ∷ out) b = same_areas w.latest _ w.part (Some _) latest here

  inside_bounded : (e : Event) → Bounded w → Bounded (inside R w c e)
  unfolding inside came_in
  inside_bounded (opening h bs a) b = b
  inside_bounded (bytes k) b = settled_bounded _ _ _
  inside_bounded tick b = same_areas w.latest w.stopped w.part (Some _) latest here
  inside_bounded arrival b = arrived_bounded c.out b
  inside_bounded break b = same_areas w.latest w.stopped [] None latest tt

happens_bounded : (R : Recording) (w : World) (o : Option Connection) (e : Event) → w.connection ≡ o → Bounded w → Bounded (happens R w o e)
unfolding happens
happens_bounded R w None e q b = outside_bounded w e b
happens_bounded R w (Some c) e q b = inside_bounded R w c b.bound b.unused.from (rw q at b.unused.connected) b.unused.latest_there e b

run_bounded : (R : Recording) (es : List Event) (w : World) → Bounded w → Bounded (run R es w)
unfolding run
run_bounded R [] w b = b
run_bounded R (e ∷ es) w b = run_bounded R es (happens R w w.connection e) (happens_bounded R w w.connection e refl b)

fresh_bounded : (every : Bool) (blank : ℕ → Bytes) → Bounded (fresh every blank)
unfolding fresh
fresh_bounded every blank = record { bound = 0; unused = record { from = λ a h. refl; connected = tt; latest_there = tt } }

-- ---- the sender's messages

-- messages that say these
record Lined (ms : List Sent) : Type 0 where
  bodies : List Bytes
  lines : Lines bodies ms

lined_more : (m : Sent) (ms : List Sent) → (s : Bytes) × Says s m → Lined ms → Lined (m ∷ ms)
lined_more m ms s l = record { bodies = s.0 ∷ l.bodies; lines = (s.1, l.lines) }

abbrev SaysTimed : TimedRecord → Type 0
SaysTimed t = (s : Bytes) × Says s (timed t)

lined_rest : (R : Recording) → Sendable R → (ts : List TimedRecord) → All SaysTimed ts → Lined (rest R ts)
unfolding rest
lined_rest R s [] a = lined_more (exit R.exit) [] s.exits (record { bodies = []; lines = tt })
lined_rest R s (t ∷ ts) a = lined_more (timed t) (rest R ts) a.0 (lined_rest R s ts a.1)

all_greater : (P : TimedRecord → Type 0) (sum T : ℕ) (ts : List TimedRecord) → All P ts → All P (greater sum T ts)
unfolding greater
all_greater P sum T [] a = tt
all_greater P sum T (t ∷ ts) a = go (leb (sum + time t) T) (all_greater P (sum + time t) T ts a.1)
  where
    go : (b : Bool) → All P (greater (sum + time t) T ts) → All P (pick b (greater (sum + time t) T ts) (t ∷ greater (sum + time t) T ts))
    go true r = r
    go false r = (a.0, r)

lined_messages : (R : Recording) → Sendable R → (p : Option Place) → ((q : Place) → p ≡ Some q → (s : Bytes) × Says s (restart q.at)) → Lined (messages R p)
unfolding messages
lined_messages R s None r = lined_more (accept R.accept) (rest R R.timed) s.accepts (lined_rest R s R.timed s.times)
lined_messages R s (Some q) r =
    lined_more (restart q.at) (rest R (greater 0 q.at R.timed)) (r q refl)
    (lined_rest R s (greater 0 q.at R.timed) (all_greater SaysTimed 0 q.at R.timed s.times))

-- ---- a connection with nothing left to come is over

some_rest : (R : Recording) (ts : List TimedRecord) → [] ≡ rest R ts → ⊥
unfolding rest
some_rest R [] e = nil≢cons e
some_rest R (t ∷ ts) e = nil≢cons e

no_lead : {m : Sent} {l : List Sent} (R : Recording) (d : Desk) → Lead d.session.state [] (m ∷ l) → ⊥
no_lead R d (inl (h, e)) = nil≢cons e
no_lead R d (inr (h, e)) = nil≢cons e

-- its area holds the whole recording, and the sender stops at what is under way
record Ended (R : Recording) (stop : Bool) (d : Desk) : Type 0 where
  all_in : d.n ≡ length (records R)
  tells : told stop d.out ≡ true

over_at_end : (R : Recording) (c : ℕ) (p : Option ℕ) (stop : Bool) (d : Desk) → Inv R c p stop [] d → Ended R stop d
over_at_end R c p stop d i = go i.stage
  where
    go : Stage R p stop [] d → Ended R stop d
    go (beginning l z) = absurd (no_lead R d l)
    go (resuming T l q o) = absurd (no_lead R d l)
    go (logging l) = absurd (some_rest R l.coming l.coming_is)
    go (over h z n t) = record { all_in = z; tells = t }

lines_none : (ms : List Sent) → Lines [] ms → ms ≡ []
lines_none [] l = refl
lines_none (m ∷ ms) l = absurd l

-- as many arrivals as there are answers
arrivals : List Answer → List Event
arrivals [] = []
arrivals (a ∷ out) = arrival ∷ arrivals out

-- ---- one more opening, and all its bytes

module _ (R : Recording) (blank : ℕ → Bytes) where
  -- a connection with nothing lined up and no whole frame at the host has come to the recording's end
  came_whole : (w : World) (c : Connection) → WorldOk R blank w → w.connection ≡ Some c → c.line ≡ [] → Short w.part → Ended R w.stopped (desk w c)
  unfolding desk
  came_whole w c ok e l s =
      let k : Link R blank w c = subst (LinkOk R blank w) e ok.link in
      let none_more : k.bodies ≡ [] = none_left k.bodies w.part k.fit (sym (append-nil w.part) ∙ ap (λ (z : Bytes). w.part ++ z) (sym l) ∙ k.lined) s in
      let end : k.coming ≡ [] = lines_none k.coming (subst (λ (b : List Bytes). Lines b k.coming) none_more k.read_as) in
      over_at_end R (length (blank c.area)) k.sees w.stopped (desk w c)
      (subst (λ (ms : List Sent). Inv R (length (blank c.area)) k.sees w.stopped ms (desk w c)) end k.inv)

  -- ---- all that is under way comes

  -- nothing but what the sender knows changes
  record Heard (w : World) (out : List Answer) : Type 0 where
    proper : AllProper R (arrivals out) w
    book_same : (run R (arrivals out) w).book ≡ w.book
    stop_is : (run R (arrivals out) w).stopped ≡ told w.stopped out

  heard : (out : List Answer) (w : World) (c : Connection) → w.connection ≡ Some c → c.out ≡ out → Heard w out
  unfolding arrivals run AllProper Proper happens inside arrived told
  heard [] w c e o = record { proper = tt; book_same = refl; stop_is = refl }
  heard (a ∷ out) w c e o =
      let y : World = arrived w c (a ∷ out) in
      let came : happens R w w.connection arrival ≡ y = ap (λ (x : Option Connection). happens R w x arrival) e ∙ ap (arrived w c) o in
      let h : Heard y out = heard out y (sending c out) refl refl in
      record {
        proper = (subst (λ (x : Option Connection). Proper R w x arrival) (sym e) tt, subst (AllProper R (arrivals out)) (sym came) h.proper);
        book_same = ap (λ (x : World). (run R (arrivals out) x).book) came ∙ h.book_same;
        stop_is = ap (λ (x : World). (run R (arrivals out) x).stopped) came ∙ h.stop_is;
      }

  -- a connection that has come to its end
  record Finishes (w : World) : Type 0 where
    last_one : Connection
    connects : w.connection ≡ Some last_one
    ends : Ended R w.stopped (desk w last_one)

  -- bytes are always proper
  bytes_proper : (w : World) (o : Option Connection) (k : ℕ) → Proper R w o (bytes k)
  unfolding Proper
  bytes_proper w None k = tt
  bytes_proper w (Some c) k = tt

  -- the list that goes on from a world
  record Goes (w : World) : Type 0 where
    more : List Event
    proper : AllProper R more w
    whole : Whole R (run R more w).book
    stops : (run R more w).stopped ≡ true

  module _ (storable : Storable R) (fits : (a : ℕ) → length (file_bytes (records R)) ≤ length (blank a)) (small : (a : ℕ) → length (blank a) ≤ 1073741824) where
    module _ (w : World) (ok : WorldOk R blank w) (unconnected : w.connection ≡ None) (on : w.stopped ≡ false) (a : ℕ) (is-fresh : Fresh w w.latest a)
        (l : Lined (messages R w.latest)) where
      line : Bytes
      line = frames l.bodies

      last : List Event
      last = opening false l.bodies a ∷ bytes (length line) ∷ []

      start : World
      start = opened w l.bodies a

      connection : Connection
      connection = record { area = area_of w.latest a; session = session.new_session; line = line; out = [] }

      finish : World
      finish = inside R start connection (bytes (length line))

      opens : happens R w w.connection (opening false l.bodies a) ≡ start
      unfolding happens outside start
      opens = rw (unconnected, on)

      runs : run R last w ≡ finish
      unfolding last run happens finish start connection opened line
      runs = ap (λ (x : World). happens R x x.connection (bytes (length line))) opens

      is_proper : AllProper R last w
      unfolding last AllProper Proper
      is_proper =
          let x : World = happens R w w.connection (opening false l.bodies a) in
          (subst (λ (o : Option Connection). Proper R w o (opening false l.bodies a)) (sym unconnected) (λ e. (l.lines, is-fresh)), (bytes_proper x x.connection (length line), tt))

      finish_ok : WorldOk R blank finish
      finish_ok = subst (WorldOk R blank) runs (run_ok R blank storable fits small last w is_proper ok)

      finishes : Finishes finish
      unfolding finish start connection inside came_in opened line
      finishes = record {
        last_one = _;
        connects = refl;
        ends = came_whole finish _ finish_ok refl (drop_of_length-le line (le_refl (length line)))
            (drain_short (length (w.part ++ take (length line) line)) (w.part ++ take (length line) line) (le_refl _));
      }

      goes_last : Goes w
      unfolding desk
      goes_last =
          let c : Connection = finishes.last_one in
          let h : Heard finish c.out = heard c.out finish c finishes.connects refl in
          let all : run R (last ++ arrivals c.out) w ≡ run R (arrivals c.out) finish = run_append R last (arrivals c.out) w ∙ ap (run R (arrivals c.out)) runs in
          record {
            more = last ++ arrivals c.out;
            proper = proper_append R last (arrivals c.out) w is_proper (subst (AllProper R (arrivals c.out)) (sym runs) h.proper);
            whole = record {
              place = c.area;
              is_whole = ap (λ (x : World). x.book c.area) all ∙ ap (λ (b : ℕ → ℕ). b c.area) h.book_same ∙ finishes.ends.all_in;
            };
            stops = ap (λ (x : World). x.stopped) all ∙ h.stop_is ∙ finishes.ends.tells;
          }

    fresh_at : (w : World) (b : Bounded w) (p : Option Place) → Fresh w p b.bound
    fresh_at w b None = b.unused.from b.bound (le_refl b.bound)
    fresh_at w b (Some p) = tt

    -- the latest point is within the limit
    point_within : (w : World) → WorldOk R blank w → (p : Place) → w.latest ≡ Some p → p.at ≤ limit
    point_within w ok p e =
        let g : LatestOk R w.book (Some p) = subst (LatestOk R w.book) e ok.latest_ok in
        omega (arith, g.below, storable.valid.within_limit)

    module _ (sends : Sendable R) where
      unconnected_goes : (w : World) → WorldOk R blank w → Bounded w → w.connection ≡ None → Goes w
      unfolding run AllProper
      unconnected_goes w ok b e = go w.stopped refl
        where
          go : (x : Bool) → w.stopped ≡ x → Goes w
          go true s = record { more = []; proper = tt; whole = ok.stopped_ok s; stops = s }
          go false s =
              goes_last w ok e s b.bound (fresh_at w b w.latest)
              (lined_messages R sends w.latest (λ p q. restartable p.at (point_within w ok p q)))

      -- a connection is broken first
      goes : (w : World) → WorldOk R blank w → Bounded w → Goes w
      unfolding run AllProper Proper happens inside
      goes w ok b = go w.connection refl
        where
          go : (o : Option Connection) → w.connection ≡ o → Goes w
          go None e = unconnected_goes w ok b e
          go (Some c) e =
              let proper : Proper R w w.connection break = subst (λ (o : Option Connection). Proper R w o break) (sym e) tt in
              let broken : happens R w w.connection break ≡ inside R w c break = ap (λ (o : Option Connection). happens R w o break) e in
              let ok' : WorldOk R blank (inside R w c break) = subst (WorldOk R blank) broken (run_ok R blank storable fits small (break ∷ []) w (proper, tt) ok) in
              let b' : Bounded (inside R w c break) = subst Bounded broken (run_bounded R (break ∷ []) w b) in
              let g : Goes (inside R w c break) = unconnected_goes (inside R w c break) ok' b' refl in
              record {
                more = break ∷ g.more;
                proper = (proper, subst (AllProper R g.more) (sym broken) g.proper);
                whole = subst (λ (x : World). Whole R (run R g.more x).book) (sym broken) g.whole;
                stops = subst (λ (x : World). (run R g.more x).stopped ≡ true) (sym broken) g.stops;
              }

-- ---- the claim

module _ (R : Recording) where
  done : (blank : ℕ → Bytes) (w : World) → WorldOk R blank w → Whole R w.book → Done R w
  done blank w ok x = record {
    area = x.place;
    whole = (ok.areas x.place).holds.shows ∙ ap (λ (k : ℕ). file_bytes (take k (records R))) x.is_whole ∙ ap file_bytes (take-length (records R));
  }

  tells : (n : ℕ) (a : Answer) → AnswerOk R n a → TellsEnd R a
  tells n (to_tick T) h = h.below
  tells n (to_message k p) h = h.is_total

  under_way_lem : (blank : ℕ → Bytes) (w : World) (o : Option Connection) → LinkOk R blank w o → All (TellsEnd R) (under_way o)
  unfolding desk
  under_way_lem blank w None l = tt
  under_way_lem blank w (Some c) l = all_map (AnswerOk R (w.book c.area)) (TellsEnd R) (tells (w.book c.area)) c.out l.inv.out-ok

on_from : (d : Delivery) → Sendable d.recording → GoesOn d
on_from d s =
    let R : Recording = d.recording in
    let x : Goes R d.blank (end d) = goes R d.blank (storable_sent R d.given.valid s) d.given.fits d.given.in_range_lem s (end d) (reached d)
    (run_bounded R d.events (fresh d.every d.blank) (fresh_bounded d.every d.blank)) in
    let all : Listed d.every d.blank R (d.events ++ x.more) = proper_append R d.events x.more (fresh d.every d.blank) d.listed x.proper in
    let longer : Delivery = record { recording = R; blank = d.blank; given = d.given; events = d.events ++ x.more; every = d.every; listed = all } in
    record {
      more = x.more;
      listed = all;
      done = done R d.blank (end longer) (reached longer)
          (subst (λ (w : World). Whole R w.book) (sym (run_append R d.events x.more (fresh d.every d.blank))) x.whole);
      stops = ap (λ (w : World). w.stopped) (run_append R d.events x.more (fresh d.every d.blank)) ∙ x.stops;
    }

pub progress : Progress
progress = record {
  stopped = λ d h. done d.recording d.blank (end d) (reached d) ((reached d).stopped_ok h);
  points = λ d. under_way_lem d.recording d.blank (end d) (end d).connection (reached d).link;
  goes_on = on_from;
}
