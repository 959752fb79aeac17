-- The key that an answer names. Document 01: "The search over entries stops at the first required key that is missing, in that order, and
-- refusal 8 names it as 0 to 3." So no other answer names one.
use Rattle.std.specs.Prelude.{ℕ, ◌≡◌, ◌⊎◌}
use Rattle.wire_message.specs.Message.{Bytes, Client}
use Rattle.session.specs.Step.{Outcome, on_member, step}
use Rattle.session.specs.declared.Session.{Session}

-- an answer that names no key has 0 in its place
abbrev pub KeyOf8 : Outcome → Type 0
KeyOf8 o = (o.refusal ≡ 8) ⊎ (o.key ≡ 0)

-- of any message, and of any member by itself, in any session
pub record Keys : Type 0 where
  pub messages : (se : Session) (area : Bytes) (used : ℕ) (s : Bytes) → KeyOf8 (step se area used s)
  pub members : (se : Session) (area : Bytes) (used : ℕ) (d : Bytes) (c : Client) → KeyOf8 (on_member se area used d c)
