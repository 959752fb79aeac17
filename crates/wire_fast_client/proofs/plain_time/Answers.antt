-- No bytes are Plains.empty_time; the rest are the contracts of below_second and from_seconds.
use mathlib.Core.Path.{sym, ◌∙◌}
use borrow.Author.Tests.{eqb-true}
use Rattle.wire_fast_client.proofs.Plains.{empty_time}
use Rattle.wire_fast_client.proofs.plain_time.Goals as goal

pub returns-then-is_empty : goal.returns-then-is_empty
returns-then-is_empty c = empty_time _ (eqb-true _ _ (sym c.is_empty.ensures ∙ c.if-is_empty.true))
