-- Both cases are the test of the definition `high_of`.
use Rattle.base_laws.proofs.Tests.{tests}
use Rattle.wire_schema.specs.Rows.{high_of}
use Rattle.wire_schema.proofs.high_of.Goals as goal

pub returns-then-message-eq-CLIENT_MESSAGE : goal.returns-then-message-eq-CLIENT_MESSAGE
unfolding high_of
returns-then-message-eq-CLIENT_MESSAGE c = search tests

pub returns : goal.returns
unfolding high_of
returns c = search tests
