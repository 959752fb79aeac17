-- Each case is a test of the definition `takes`: the ruleset tests closes them.
use Rattle.base_laws.proofs.Tests.{tests}
use Rattle.wire_schema.specs.Schema.{takes}
use Rattle.wire_schema.proofs.takes.Goals as goal

pub returns-then-kind-eq0 : goal.returns-then-kind-eq0
unfolding takes
returns-then-kind-eq0 c = search tests

pub returns-then-kind-le3 : goal.returns-then-kind-le3
unfolding takes
returns-then-kind-le3 c = search tests

pub returns-then-wire-eq2 : goal.returns-then-wire-eq2
unfolding takes
returns-then-wire-eq2 c = search tests

pub returns-then-kind-eq32 : goal.returns-then-kind-eq32
unfolding takes
returns-then-kind-eq32 c = search tests

pub returns : goal.returns
unfolding takes
returns c = search tests
