-- Every world that a list can reach has the invariant. Nothing was ever opened, or the sender has lined up its whole recording once,
-- so that it can be stored.
use Prim.Native.Nat.{ℕ}
use mathlib.Core.Path.{◌≡◌, refl, sym, subst}
use mathlib.Core.Bool.{Bool}
use mathlib.Core.List.{List, [], ◌∷◌}
use Rattle.wire_message.specs.Message.{Bytes}
use Rattle.claim_delivery.specs.Recording.{Recording, Valid}
use Rattle.claim_delivery.specs.World.{World, fresh, Event, opening, bytes, tick, arrival, break, outside, happens, run, Proper, AllProper}
use Rattle.claim_delivery.specs.Demand.{Delivery, end}
use Rattle.claim_delivery.proofs.Sizes.{storable_lined}
use Rattle.claim_delivery.proofs.Runs.{WorldOk, fresh_ok, run_ok}
use Rattle.claim_delivery.proofs.Files.{Storable}

module _ (every : Bool) (blank : ℕ → Bytes) (R : Recording) where
  pub data Came (w : World) : Type 0 where
    unopened : w ≡ fresh every blank → Came w
    opened : Storable R → Came w

  came_from : Valid R → (es : List Event) → AllProper R es (fresh every blank) → Came (run R es (fresh every blank))
  unfolding run AllProper Proper happens outside fresh
  came_from v [] p = unopened refl
  came_from v (opening h bs a ∷ es) p = opened (storable_lined R v h bs (p.0 refl).0)
  came_from v (bytes k ∷ es) p = came_from v es p.1
  came_from v (tick ∷ es) p = came_from v es p.1
  came_from v (arrival ∷ es) p = came_from v es p.1
  came_from v (break ∷ es) p = came_from v es p.1

module _ (d : Delivery) where
  pub came : Came d.every d.blank d.recording (end d)
  came = came_from d.every d.blank d.recording d.given.valid d.events d.listed

  pub reached : WorldOk d.recording d.blank (end d)
  reached = go came
    where
      go : Came d.every d.blank d.recording (end d) → WorldOk d.recording d.blank (end d)
      go (unopened e) = subst (WorldOk d.recording d.blank) (sym e) (fresh_ok d.recording d.blank d.every)
      go (opened s) =
          run_ok d.recording d.blank s d.given.fits d.given.in_range_lem d.events (fresh d.every d.blank) d.listed
          (fresh_ok d.recording d.blank d.every)
