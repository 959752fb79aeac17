-- The loop keeps "the ends from here on are bad where all are"; a turn is Lists.ends_step, the end Lists.ends_done.
use Rattle.write_forms.specs.Draft.{bad_ends}
use lib.ListN.{drop}
use mathlib.Core.Path.{◌≡◌}
use Rattle.write_lists.proofs.ends_fit.Given as goal

abbrev pub invariant-loop-e : goal.invariant-loop-e
invariant-loop-e l = bad_ends l.size l.a (drop l.e-index l.ends) ≡ bad_ends l.size 0 l.ends
