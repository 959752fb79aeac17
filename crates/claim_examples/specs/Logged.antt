-- `Agreement` (crates/claim_agreement/specs/Agreement.antt) speaks of something: there are lists of calls after which a session is in
-- logging.
use Rattle.std.specs.Prelude.{◌≡◌, List, [], ◌∷◌, ◌++◌, replicate, Some, None}
use Rattle.session_turn.specs.declared.State.TheVariants.{Logging}
use Rattle.claim_agreement.specs.Calls.{Call, message, break, after_all, begin}
use Rattle.claim_examples.specs.Session.{accept, ttyout, restart}

-- marked example 7: an accept, then delays of 1, 0, 0 and 2 s
abbrev pub seven : List Call
seven = message accept ∷ message (ttyout 1) ∷ message (ttyout 0) ∷ message (ttyout 0) ∷ message (ttyout 2) ∷ []

-- then another connection, which resumes at 1 s
abbrev pub resumed : List Call
resumed = seven ++ (break ∷ message (restart 1) ∷ [])

pub record Logged : Type 0 where
  pub after_seven : (after_all (begin (replicate 160 0) 0) seven).session.state ≡ Logging
  pub after_restart : (after_all (begin (replicate 160 0) 0) resumed).session.state ≡ Logging
  -- a restart point holds then, until a record with a positive delay is stored
  pub reached_again : (after_all (begin (replicate 160 0) 0) resumed).restart_point ≡ Some 1000000000
  pub passed_again : (after_all (begin (replicate 160 0) 0) (resumed ++ (message (ttyout 2) ∷ []))).restart_point ≡ None
