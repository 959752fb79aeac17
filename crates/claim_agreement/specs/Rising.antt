-- A session's commit points never fall. Document 01, "Ways it has gone wrong": "Reporting a point below T after a restart."
use Rattle.std.specs.Prelude.{ℕ, ◌≤◌, ◌≡◌, List, Option, Some, None}
use Rattle.wire_message.specs.Message.{Bytes}
use Rattle.session.specs.Step.{tick}
use Rattle.session_turn.specs.declared.State.TheVariants.{Logging}
use Rattle.claim_agreement.specs.Calls.{Call, Host, answered, after_all, OneSession}
use Rattle.claim_agreement.specs.Agreement.{Stands}

-- a point and a later one: once there is a point there is one, and no lower one
abbrev pub AtMost : Option ℕ → Option ℕ → Type 0
AtMost None q = Unit {0}
AtMost (Some t) None = ⊥
AtMost (Some t) (Some u) = t ≤ u

-- a host that came to have a session in logging, by `Agreement`
pub record Logs (h : Host) : Type 0 where
  pub stands : Stands h
  pub in_logging_lem : h.session.state ≡ Logging

pub record Rising : Type 0 where
  -- a tick's point after more calls, of any sender, while the session is in logging and its connection lasts
  pub ticks : (h : Host) (cs : List Call) → OneSession cs → Logs h → (after_all h cs).session.state ≡ Logging
      → AtMost (tick h.session) (tick (after_all h cs).session)
  -- the exit's point
  pub exits : (h : Host) (s : Bytes) (t : ℕ) → Logs h → (answered h s).point ≡ Some t → AtMost (tick h.session) (Some t)
  -- so no tick's point is below that of a restart
  pub restarts : (h : Host) (cs : List Call) (T : ℕ) → OneSession cs → Logs h → h.restart_point ≡ Some T → (after_all h cs).session.state ≡ Logging
      → AtMost (Some T) (tick (after_all h cs).session)
