-- Refusals. The request: "A refusal is one of the numbered ones in document 01, closes the session, and changes neither its stored
-- bytes nor their used length." A tick gives a point or none and is never refused.
use Rattle.std.specs.Prelude.{ℕ, ◌≡◌, ◌⊎◌, Bool, true, leb, None}
use Rattle.base_laws.specs.Base.{both}
use Rattle.wire_message.specs.Message.{Bytes, Client}
use Rattle.session.specs.Step.{Outcome, on_member, step}
use Rattle.session_turn.specs.declared.State.TheVariants.{Closed}
use Rattle.session.specs.declared.Session.{Session}

-- "one of the numbered ones in document 01": the table "The refusals" goes from 1 to 15
abbrev pub is_numbered : ℕ → Bool
is_numbered n = both (leb 1 n) (leb n 15)

abbrev pub NumberedRefusal : ℕ → Type 0
NumberedRefusal n = is_numbered n ≡ true

-- a refusal of a message that was handed over with this area and used length
pub record Refused (area : Bytes) (used : ℕ) (o : Outcome) : Type 0 where
  -- "one of the numbered ones in document 01"
  pub numbered : NumberedRefusal o.refusal
  -- "closes the session"
  pub closes : o.session.state ≡ Closed
  -- "changes neither its stored bytes nor their used length"
  pub same_bytes : o.area ≡ area
  pub same_length : o.used ≡ used
  -- document 01: "for every other message, the answer has no point"
  pub no_point : o.point ≡ None

-- of any message, in any session: it is taken, which the number 0 says, or refused
abbrev pub Refusals : Type 0
Refusals = (se : Session) (area : Bytes) (used : ℕ) (s : Bytes) → ((step se area used s).refusal ≡ 0) ⊎ Refused area used (step se area used s)

-- the same of any member by itself
abbrev pub MemberRefusals : Type 0
MemberRefusals = (se : Session) (area : Bytes) (used : ℕ) (d : Bytes) (c : Client)
    → ((on_member se area used d c).refusal ≡ 0) ⊎ Refused area used (on_member se area used d c)
