-- A refusal is the check's; where it found nothing, what last_in answers is the member's place. They mean the message by Members.server_means.
use Prim.Native.Nat.{ℕ}
use mathlib.Core.List.{List}
use mathlib.Core.Path.{◌≡◌, sym, ap, ◌∙◌}
use Rattle.std.specs.Prelude.{Option, Some, Result, Ok}
use Rattle.wire_types.specs.declared.Refused.{Refused}
use Rattle.wire_check_field.specs.Check.{check_of}
use Rattle.wire.specs.Places.{server_from, server_read, server_of, server_value}
use Rattle.wire.specs.Read.{server_message}
use Rattle.wire.specs.declared.ServerMember.{ServerMember}
use Rattle.wire.proofs.Members.{server_means}
use Rattle.wire.proofs.server_message.Goals as goal
use Rattle.wire.proofs.server_message.Goals.{After-last_in}

-- the check found nothing
fine : (c : After-last_in) → check_of 14 c.args.s.now ≡ Ok tt
fine c = sym c.check.ensures ∙ c.in-Ok.is

-- what is answered means the message
told : (s : List ℕ) (r : Result (Option ServerMember) Refused) → r ≡ server_of s → server_value s r ≡ server_message s
told s r e = ap (server_value s) e ∙ server_means s

pub returns-in-Err-clause-places : goal.returns-in-Err-clause-places
unfolding server_read
returns-in-Err-clause-places c = rw (sym c.check.ensures ∙ c.in-Err.is)

pub returns-in-None-clause-places : goal.returns-in-None-clause-places
unfolding server_from server_read
returns-in-None-clause-places c = rw (fine (goal.at.returns-in-None-clause-places c).After-last_in, sym c.last_in.ensures ∙ c.in-None.is)

pub returns-in-Some-Number-clause-places : goal.returns-in-Some-Number-clause-places
unfolding server_from server_read
returns-in-Some-Number-clause-places c =
    rw (fine (goal.at.returns-in-Some-Number-clause-places c).After-last_in, sym c.last_in.ensures ∙ (c.in-Some-Number.is ∙ ap Some c.in-Some-Number.field-0-is))

pub returns-in-Some-Part-clause-places : goal.returns-in-Some-Part-clause-places
unfolding server_from server_read
returns-in-Some-Part-clause-places c =
    rw (fine (goal.at.returns-in-Some-Part-clause-places c).After-last_in, sym c.last_in.ensures ∙ (c.in-Some-Part.is ∙ ap Some c.in-Some-Part.field-0-is))

pub returns-in-Err-clause-means : goal.returns-in-Err-clause-means
returns-in-Err-clause-means c = told _ _ (returns-in-Err-clause-places c)

pub returns-in-None-clause-means : goal.returns-in-None-clause-means
returns-in-None-clause-means c = told _ _ (returns-in-None-clause-places c)

pub returns-in-Some-Number-clause-means : goal.returns-in-Some-Number-clause-means
returns-in-Some-Number-clause-means c = told _ _ (returns-in-Some-Number-clause-places c)

pub returns-in-Some-Part-clause-means : goal.returns-in-Some-Part-clause-means
returns-in-Some-Part-clause-means c = told _ _ (returns-in-Some-Part-clause-places c)
