-- Demand 3's list: one sender with one recording, many areas, a connection that breaks. Document 01, "Demand 3's list".
use Rattle.std.specs.Prelude.{ℕ, ◌≡◌, Bool, true, false, List, [], ◌∷◌, ◌++◌, take, drop, eqb, Option, Some, None}
use Rattle.base_laws.specs.Base.{pick}
use Rattle.wire_message.specs.Message.{Bytes}
use Rattle.session.specs.Step as session
use Rattle.session.specs.declared.Session.{Session}
use Rattle.claim_delivery.specs.Recording.{Recording}
use Rattle.claim_delivery.specs.Sender.{Place, messages, with_hello, Lines}
use Rattle.claim_delivery.specs.Host.{frames, Drained, cut_all, WholeRestart, Answer, to_tick, to_message, is_point, Desk, hand_all}

-- a connection: its area, its session, the bytes lined up, the answers under way
pub record Connection : Type 0 where
  pub area : ℕ
  pub session : Session
  pub line : Bytes
  pub out : List Answer

-- with other answers under way
abbrev pub sending : Connection → List Answer → Connection
sending c out = record { area = c.area; session = c.session; line = c.line; out = out }

-- the areas by number: whole lent bytes, used length, n in the book; the log of whole restarts; the sender's latest point and
-- whether it has stopped; the bytes at the host of a frame cut in part; the connection; and whether every answer goes under way
pub record World : Type 0 where
  pub area : ℕ → Bytes
  pub used : ℕ → ℕ
  pub book : ℕ → ℕ
  pub restarts : List WholeRestart
  pub latest : Option Place
  pub stopped : Bool
  pub part : Bytes
  pub connection : Option Connection
  pub every : Bool

-- an area's used bytes
abbrev pub file : World → ℕ → Bytes
file w a = take (w.used a) (w.area a)

-- "from a fresh area with no connection"; "The book has n for each area, 0 when fresh (used length 0)"
unfoldable pub fresh : Bool → (ℕ → Bytes) → World
fresh every blank = record {
  area = blank;
  used = λ a. 0;
  book = λ a. 0;
  restarts = [];
  latest = None;
  stopped = false;
  part = [];
  connection = None;
  every = every;
}

pub data Event : Type 0 where
  -- with a hello or none; the messages lined up; the area, where the sender begins in a fresh one
  opening : Bool → List Bytes → ℕ → Event
  bytes : ℕ → Event
  tick : Event
  arrival : Event
  break : Event

-- the world with another connection, and what the sender knows
abbrev pub with_connection : World → Option Place → Bool → Bytes → Option Connection → World
with_connection w latest stopped part c = record {
  area = w.area;
  used = w.used;
  book = w.book;
  restarts = w.restarts;
  latest = latest;
  stopped = stopped;
  part = part;
  connection = c;
  every = w.every;
}

-- ---- "An opening starts a new session"

-- "in that point's area", or in the fresh one
abbrev pub area_of : Option Place → ℕ → ℕ
area_of (Some p) a = p.area
area_of None a = a

-- "having received none, it begins in a fresh area"; "fresh (used length 0)"
abbrev pub Fresh : World → Option Place → ℕ → Type 0
Fresh w (Some p) a = Unit {0}
Fresh w None a = w.used a ≡ 0

unfoldable pub opened : World → List Bytes → ℕ → World
opened w bodies a =
    with_connection w w.latest w.stopped w.part
    (Some (record { area = area_of w.latest a; session = session.new_session; line = frames bodies; out = [] }))

-- ---- "Bytes are the next of these, any number"

abbrev pub put : {A : Type 0} → ℕ → A → (ℕ → A) → ℕ → A
put a x f b = pick (eqb a b) x (f b)

unfoldable pub desk : World → Connection → Desk
desk w c = record { session = c.session; area = w.area c.area; used = w.used c.area; n = w.book c.area; restarts = w.restarts; out = c.out; every = w.every }

-- the world after whole messages, with what is left of the line and of the bytes at the host
abbrev pub settled : World → Connection → Desk → Bytes → Bytes → World
settled w c d line part = record {
  area = put c.area d.area w.area;
  used = put c.area d.used w.used;
  book = put c.area d.n w.book;
  restarts = d.restarts;
  latest = w.latest;
  stopped = w.stopped;
  part = part;
  connection = Some (record { area = c.area; session = d.session; line = line; out = d.out });
  every = d.every;
}

unfoldable pub came_in : Recording → World → Connection → Bytes → Drained → World
came_in R w c line b = settled w c (hand_all R b.messages (desk w c)) line b.left

-- ---- the host's tick: its point goes under way

unfoldable pub tick_answers : Option ℕ → List Answer
tick_answers None = []
tick_answers (Some t) = to_tick t ∷ []

-- ---- "An arrival brings the sender the oldest answer under way."

-- "the latest commit point it received"
abbrev pub latest_after : ℕ → Option Place → Answer → Option Place
latest_after a l (to_tick t) = Some (record { area = a; at = t })
latest_after a l (to_message k p) = l

-- "It stops at its exit's point or at the refusal "finished"." Of messages only an exit is answered with a point.
abbrev pub stopped_after : Bool → Answer → Bool
stopped_after b (to_tick t) = b
stopped_after b (to_message k p) = pick (eqb k 13) true (pick (is_point p) true b)

unfoldable pub arrived : World → Connection → List Answer → World
arrived w c [] = w
arrived w c (a ∷ out) =
    with_connection w (latest_after c.area w.latest a) (stopped_after w.stopped a) w.part
    (Some (sending c out))

-- ---- one event

-- "An opening in a connection or after the sender's stop does nothing, and so does any other event outside a connection."
unfoldable pub outside : World → Event → World
outside w (opening h bodies a) = pick w.stopped w (opened w bodies a)
outside w (bytes k) = w
outside w tick = w
outside w arrival = w
outside w break = w

module _ (R : Recording) where
  -- in a connection; "A break loses all that is lined up, cut in part or under way."
  unfoldable pub inside : World → Connection → Event → World
  inside w c (opening h bodies a) = w
  inside w c (bytes k) = came_in R w c (drop k c.line) (cut_all (w.part ++ take k c.line))
  inside w c tick =
      with_connection w w.latest w.stopped w.part
      (Some (sending c (c.out ++ tick_answers (session.tick c.session))))
  inside w c arrival = arrived w c c.out
  inside w c break = with_connection w w.latest w.stopped [] None

  unfoldable pub happens : World → Option Connection → Event → World
  happens w None e = outside w e
  happens w (Some c) e = inside w c e

  unfoldable pub run : List Event → World → World
  run [] w = w
  run (e ∷ es) w = run es (happens w w.connection e)

  -- ---- a list of document 01's events

  -- "the sender lines up a valid hello or none, then its messages in any frames that give its records"
  unfoldable pub Proper : World → Option Connection → Event → Type 0
  Proper w None (opening h bodies a) = w.stopped ≡ false → Lines bodies (with_hello h (messages R w.latest)) × Fresh w w.latest a
  Proper w None (bytes k) = Unit {0}
  Proper w None tick = Unit {0}
  Proper w None arrival = Unit {0}
  Proper w None break = Unit {0}
  Proper w (Some c) e = Unit {0}

  unfoldable pub AllProper : List Event → World → Type 0
  AllProper [] w = Unit {0}
  AllProper (e ∷ es) w = Proper w w.connection e × AllProper es (happens w w.connection e)
