use Rattle.keyed_channel.proofs.NotedBySender.{noted_from_peer_holds}
use Rattle.keyed_channel.proofs.laws.noted_from_peer.Goals as goal

pub returns : goal.returns
returns c = noted_from_peer_holds
