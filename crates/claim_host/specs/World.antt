-- Demand 3's list with a host in C: crates/claim_delivery/specs/World.antt, with 40 bytes in the session's place and the functions of sudolog.h
-- in the place of the definitions.
use Rattle.std.specs.Prelude.{ℕ, zero, suc, Bool, false, List, [], ◌∷◌, ◌++◌, length, take, drop, replicate, Option, Some, None}
use Rattle.base_laws.specs.Base.{pick}
use Rattle.wire_frame.specs.Frame.{cut_of, frame_state, count_of}
use Rattle.wire_message.specs.Message.{Bytes}
use Rattle.session.specs.Step.{new_session, tick}
use Rattle.session_bytes.specs.Saved.{session_of, kept}
use Rattle.c_session.specs.Session.{tick_number}
use Rattle.claim_delivery.specs.Recording.{Recording}
use Rattle.claim_delivery.specs.Sender.{Place}
use Rattle.claim_delivery.specs.Host.{frames, Drained, drain_cut, WholeRestart, Answer}
use Rattle.claim_delivery.specs.World as w
use Rattle.claim_delivery.specs.World.{Connection, World, Event, area_of, put, tick_answers, latest_after, stopped_after}
use Rattle.claim_delivery.specs.Demand.{Delivery}
use Rattle.claim_host.specs.Desk.{cut_from, tick_from, CDesk, hand_all_c}

pub record CConnection : Type 0 where
  pub area : ℕ
  pub slice : Bytes
  pub line : Bytes
  pub out : List Answer

pub record CWorld : Type 0 where
  pub area : ℕ → Bytes
  pub used : ℕ → ℕ
  pub book : ℕ → ℕ
  pub restarts : List WholeRestart
  pub latest : Option Place
  pub stopped : Bool
  pub part : Bytes
  pub connection : Option CConnection
  pub every : Bool

-- ---- the world of demand 3 that it stands for

abbrev pub seen_connection : CConnection → Connection
seen_connection c = record { area = c.area; session = session_of c.slice; line = c.line; out = c.out }

abbrev pub seen_option : Option CConnection → Option Connection
seen_option None = None
seen_option (Some c) = Some (seen_connection c)

abbrev pub seen_world : CWorld → World
seen_world x = record {
  area = x.area;
  used = x.used;
  book = x.book;
  restarts = x.restarts;
  latest = x.latest;
  stopped = x.stopped;
  part = x.part;
  connection = seen_option x.connection;
  every = x.every;
}

-- ---- its events

unfoldable pub fresh_c : Bool → (ℕ → Bytes) → CWorld
fresh_c every blank = record {
  area = blank;
  used = λ a. 0;
  book = λ a. 0;
  restarts = [];
  latest = None;
  stopped = false;
  part = [];
  connection = None;
  every = every;
}

abbrev pub with : CWorld → Option Place → Bool → Bytes → Option CConnection → CWorld
with x latest stopped part c = record {
  area = x.area;
  used = x.used;
  book = x.book;
  restarts = x.restarts;
  latest = latest;
  stopped = stopped;
  part = part;
  connection = c;
  every = x.every;
}

-- sudolog_session_open, in 40 bytes
unfoldable pub opened_c : CWorld → List Bytes → ℕ → CWorld
opened_c x bodies a =
    with x x.latest x.stopped x.part (Some (record { area = area_of x.latest a; slice = kept new_session (replicate 40 0); line = frames bodies; out = [] }))

-- sudolog_frame_state and sudolog_frame_count
unfoldable pub drain_c : ℕ → Bytes → Drained
drain_c zero b = record { messages = []; left = b }
drain_c (suc k) b = drain_cut (drain_c k) b (cut_from (frame_state (cut_of b)) (count_of (cut_of b)))

unfoldable pub desk_c : CWorld → CConnection → CDesk
desk_c x c = record { slice = c.slice; area = x.area c.area; used = x.used c.area; n = x.book c.area; restarts = x.restarts; out = c.out; every = x.every }

abbrev pub settled_c : CWorld → CConnection → CDesk → Bytes → Bytes → CWorld
settled_c x c d line part = record {
  area = put c.area d.area x.area;
  used = put c.area d.used x.used;
  book = put c.area d.n x.book;
  restarts = d.restarts;
  latest = x.latest;
  stopped = x.stopped;
  part = part;
  connection = Some (record { area = c.area; slice = d.slice; line = line; out = d.out });
  every = d.every;
}

unfoldable pub came_in_c : Recording → CWorld → CConnection → Bytes → Drained → CWorld
came_in_c R x c line b = settled_c x c (hand_all_c R b.messages (desk_c x c)) line b.left

unfoldable pub arrived_c : CWorld → CConnection → List Answer → CWorld
arrived_c x c [] = x
arrived_c x c (a ∷ out) =
    with x (latest_after c.area x.latest a) (stopped_after x.stopped a) x.part (Some (record { area = c.area; slice = c.slice; line = c.line; out = out }))

unfoldable pub outside_c : CWorld → Event → CWorld
outside_c x (w.opening h bodies a) = pick x.stopped x (opened_c x bodies a)
outside_c x (w.bytes k) = x
outside_c x w.tick = x
outside_c x w.arrival = x
outside_c x w.break = x

module _ (R : Recording) where
  unfoldable pub inside_c : CWorld → CConnection → Event → CWorld
  inside_c x c (w.opening h bodies a) = x
  inside_c x c (w.bytes k) =
      came_in_c R x c (drop k c.line) (drain_c (length (x.part ++ take k c.line)) (x.part ++ take k c.line))
  -- sudolog_session_tick
  inside_c x c w.tick =
      with x x.latest x.stopped x.part
      (Some (record { area = c.area; slice = c.slice; line = c.line; out = c.out ++ tick_answers (tick_from (tick_number (tick (session_of c.slice)))) }))
  inside_c x c w.arrival = arrived_c x c c.out
  inside_c x c w.break = with x x.latest x.stopped [] None

  unfoldable pub happens_c : CWorld → Option CConnection → Event → CWorld
  happens_c x None e = outside_c x e
  happens_c x (Some c) e = inside_c x c e

  unfoldable pub run_c : List Event → CWorld → CWorld
  run_c [] x = x
  run_c (e ∷ es) x = run_c es (happens_c x x.connection e)

-- after a list
abbrev pub end_c : Delivery → CWorld
end_c d = run_c d.recording d.events (fresh_c d.every d.blank)
