-- Where there is no commit point. Document 01: "Elsewhere a tick gives none." "In events only, and for every other message, the answer
-- has no point."
use Rattle.std.specs.Prelude.{ℕ, ◌≡◌, Some, None}
use Rattle.wire_message.specs.Message.{Bytes, Exit, exit_msg}
use Rattle.wire.specs.Read.{value, client_message}
use Rattle.session.specs.Step.{step, tick}
use Rattle.session_turn.specs.declared.State.TheVariants.{Logging}
use Rattle.session.specs.declared.Session.{Session}

-- a message is an exit in logging
pub record ExitInLogging (se : Session) (s : Bytes) : Type 0 where
  pub exit : Exit
  pub is_exit : client_message s ≡ value (exit_msg exit)
  pub in_logging_lem : se.state ≡ Logging

pub record NoPoint : Type 0 where
  pub ticks : (se : Session) → (se.state ≡ Logging → ⊥) → tick se ≡ None
  pub messages : (se : Session) (area : Bytes) (used : ℕ) (s : Bytes) (t : ℕ) → (step se area used s).point ≡ Some t → ExitInLogging se s
