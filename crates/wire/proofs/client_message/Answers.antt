-- The places are the contract of `client`; that they mean the message is Members.client_means.
use Rattle.wire.proofs.Members.{client_means}
use Rattle.wire.proofs.client_message.Goals as goal

pub returns : goal.returns
returns c = record { places = c.client.ensures; means = rw c.client.ensures (client_means c.args.s.now) }
