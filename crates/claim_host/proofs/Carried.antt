-- `Carried`: the world of a host in C is demand 3's, event after event.
use Rattle.std.specs.Prelude.{Option, Some, None}
use Prim.Native.Nat.{ℕ, zero, suc, ◌+◌, ◌<◌}
use native.Mathlib.Omega.{arith}
use mathlib.Core.Path.{◌≡◌, refl, ap, ◌∙◌}
use mathlib.Core.Bool.{Bool, true, false}
use mathlib.Core.List.{List, [], ◌∷◌, ◌++◌}
use lib.ListN.{length, take, drop, replicate}
use lib.Dec.{eqb}
use Rattle.base_laws.specs.Base.{pick}
use Rattle.base_laws.proofs.Order.{picked}
use Rattle.wire_frame.specs.Frame.{cut_of}
use Rattle.wire_frame.specs.declared.Cut.{Cut}
use Rattle.wire_frame.specs.declared.Cut.TheVariants.{Wait, Frame, Refused}
use Rattle.wire_message.specs.Message.{Bytes}
use Rattle.session.specs.Step.{new_session, tick}
use Rattle.session_bytes.specs.Saved.{session_of}
use Rattle.session_bytes.proofs.Keeping.{keeping}
use Rattle.session_bytes.proofs.Ticks.{slice_tick_sound}
use Rattle.file_format.specs.File.{file_bytes, file_kind, finished}
use Rattle.claim_delivery.specs.Recording.{Recording, records}
use Rattle.claim_delivery.specs.Host.{Drained, drain_cut, drain, Answer, Desk}
use Rattle.claim_delivery.specs.World as w
use Rattle.claim_delivery.specs.World.{Connection, World, Event, fresh, opened, put, desk, settled, came_in, tick_answers, arrived, inside, outside, happens, run}
use Rattle.claim_delivery.specs.Demand.{Delivery, end}
use Rattle.claim_delivery.proofs.Demand.{demand_3}
use Rattle.claim_host.specs.World.{CConnection, CWorld, seen_connection, seen_option, seen_world, fresh_c, opened_c, drain_c, desk_c, came_in_c, arrived_c, outside_c, inside_c, happens_c, run_c, end_c}
use Rattle.claim_host.specs.Carried.{Sized, file_c, Carried}
use Rattle.claim_host.proofs.Messages.{cut_back, kept_back, kept_forty, tick_back, handed, all_handed, all_sized}

-- 40 bytes where there is a connection, and every used length of 64 bits
abbrev FortyOf : Option CConnection → Type 0
FortyOf None = Unit {0}
FortyOf (Some c) = length c.slice ≡ 40

record Fits (x : CWorld) : Type 0 where
  forty : FortyOf x.connection
  words : (a : ℕ) → x.used a < 18446744073709551616

-- ---- cutting

drained_same : (k : ℕ) (b : Bytes) → drain_c k b ≡ drain k b
unfolding drain_c drain drain_cut
drained_same zero b = refl
drained_same (suc k) b = ap (drain_cut (drain_c k) b) (cut_back (cut_of b)) ∙ by_cut_lem (cut_of b) (drained_same k)
  where
    by_cut_lem : (c : Cut) → ((t : Bytes) → drain_c k t ≡ drain k t) → drain_cut (drain_c k) b c ≡ drain_cut (drain k) b c
    by_cut_lem (Wait n) ih = refl
    by_cut_lem (Frame n) ih = rw (ih (drop (4 + n) b))
    by_cut_lem Refused ih = refl

-- ---- one event

module _ (R : Recording) (x : CWorld) (z : Fits x) where
  opened_same : (bodies : List Bytes) (a : ℕ) → seen_world (opened_c x bodies a) ≡ opened (seen_world x) bodies a
  unfolding opened_c opened
  opened_same bodies a = rw (kept_back new_session (replicate 40 0) keeping.new_sound refl)

  outside_same : (e : Event) → seen_world (outside_c x e) ≡ outside (seen_world x) e
  unfolding outside_c outside
  outside_same (w.opening h bodies a) = go x.stopped
    where
      go : (b : Bool) → seen_world (pick b x (opened_c x bodies a)) ≡ pick b (seen_world x) (opened (seen_world x) bodies a)
      go true = refl
      go false = opened_same bodies a
  outside_same (w.bytes k) = refl
  outside_same w.tick = refl
  outside_same w.arrival = refl
  outside_same w.break = refl

  module _ (c : CConnection) (forty : length c.slice ≡ 40) where
    desk_sized : Sized (desk_c x c)
    unfolding desk_c
    desk_sized = record { forty = forty; word = z.words c.area }

    came_same : (line : Bytes) (b : Drained) → seen_world (came_in_c R x c line b) ≡ came_in R (seen_world x) (seen_connection c) line b
    unfolding came_in_c came_in desk_c desk
    came_same line b =
        ap (λ (d : Desk). settled (seen_world x) (seen_connection c) d line b.left) (all_handed R b.messages (desk_c x c) desk_sized)

    arrived_same : (out : List Answer) → seen_world (arrived_c x c out) ≡ arrived (seen_world x) (seen_connection c) out
    unfolding arrived_c arrived
    arrived_same [] = refl
    arrived_same (a ∷ out) = refl

    inside_same : (e : Event) → seen_world (inside_c R x c e) ≡ inside R (seen_world x) (seen_connection c) e
    unfolding inside_c inside
    inside_same (w.opening h bodies a) = refl
    inside_same (w.bytes k) =
        ap (λ (b : Drained). seen_world (came_in_c R x c (drop k c.line) b)) (drained_same (length (x.part ++ take k c.line)) (x.part ++ take k c.line))
        ∙ came_same (drop k c.line) (drain (length (x.part ++ take k c.line)) (x.part ++ take k c.line))
    inside_same w.tick = rw (tick_back (tick (session_of c.slice)) (slice_tick_sound c.slice))
    inside_same w.arrival = arrived_same c.out
    inside_same w.break = refl

    -- what fits still fits
    came_fits : (line : Bytes) (b : Drained) → Fits (came_in_c R x c line b)
    unfolding came_in_c desk_c
    came_fits line b =
        let y = all_sized R b.messages (desk_c x c) desk_sized in
        record { forty = y.forty; words = λ a. picked (λ (n : ℕ). n < 18446744073709551616) (eqb c.area a) _ _ (λ _. y.word) (λ _. z.words a) }

    arrived_fits : (out : List Answer) → Fits (arrived_c x c out)
    unfolding arrived_c
    arrived_fits [] = z
    arrived_fits (a ∷ out) = record { forty = forty; words = z.words }

    inside_fits : (e : Event) → Fits (inside_c R x c e)
    unfolding inside_c
    inside_fits (w.opening h bodies a) = z
    inside_fits (w.bytes k) = came_fits _ _
    inside_fits w.tick = record { forty = forty; words = z.words }
    inside_fits w.arrival = arrived_fits c.out
    inside_fits w.break = record { forty = tt; words = z.words }

  opened_fits : (bodies : List Bytes) (a : ℕ) → Fits (opened_c x bodies a)
  unfolding opened_c
  opened_fits bodies a = record { forty = kept_forty new_session (replicate 40 0) refl; words = z.words }

  outside_fits : (e : Event) → Fits (outside_c x e)
  unfolding outside_c
  outside_fits (w.opening h bodies a) = picked Fits x.stopped _ _ (λ _. z) (λ _. opened_fits bodies a)
  outside_fits (w.bytes k) = z
  outside_fits w.tick = z
  outside_fits w.arrival = z
  outside_fits w.break = z

  happens_same : (o : Option CConnection) (e : Event) → FortyOf o → seen_world (happens_c R x o e) ≡ happens R (seen_world x) (seen_option o) e
  unfolding happens_c happens
  happens_same None e f = outside_same e
  happens_same (Some c) e f = inside_same c f e

  happens_fits : (o : Option CConnection) (e : Event) → FortyOf o → Fits (happens_c R x o e)
  unfolding happens_c
  happens_fits None e f = outside_fits e
  happens_fits (Some c) e f = inside_fits c f e

-- ---- all events

runs_same : (R : Recording) (es : List Event) (x : CWorld) → Fits x → seen_world (run_c R es x) ≡ run R es (seen_world x)
unfolding run_c run
runs_same R [] x z = refl
runs_same R (e ∷ es) x z =
    runs_same R es (happens_c R x x.connection e) (happens_fits R x z x.connection e z.forty)
    ∙ ap (run R es) (happens_same R x z x.connection e z.forty)

same_world : (d : Delivery) → seen_world (end_c d) ≡ end d
unfolding fresh_c fresh
same_world d = runs_same d.recording d.events (fresh_c d.every d.blank) (record { forty = tt; words = λ a. omega arith })

whole_file : (d : Delivery) (a : ℕ) → file_kind (file_c (end_c d) a) ≡ finished → file_c (end_c d) a ≡ file_bytes (records d.recording)
whole_file d a = rw (← same_world d) at (demand_3.finished d a)

whole_apart : (d e : Delivery) (a b : ℕ) → file_kind (file_c (end_c d) a) ≡ finished → file_kind (file_c (end_c e) b) ≡ finished → file_c (end_c d) a ≡ file_c (end_c e) b
    → d.recording ≡ e.recording
whole_apart d e a b = rw (← same_world d, ← same_world e) at (demand_3.apart d e a b)

pub carried : Carried
carried = record {
  cuts = λ s. cut_back (cut_of s);
  opens = λ slice l. kept_back new_session slice keeping.new_sound l;
  ticks = λ slice. tick_back (tick (session_of slice)) (slice_tick_sound slice);
  hands = λ R s d z. handed d z s R;
  same_world = same_world;
  files = λ d a. rw (← same_world d) at (demand_3.files d a);
  lengths = λ d a. rw (← same_world d) at (demand_3.lengths d a);
  restarts = λ d. rw (← same_world d) at (demand_3.restarts d);
  whole = λ d a h. whole_file d a h;
  apart = λ d e a b x y same. whole_apart d e a b x y same;
}
