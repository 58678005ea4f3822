use Rattle.keyed_channel.proofs.FromSender.{opened_from_peer_holds}
use Rattle.keyed_channel.proofs.laws.opened_from_peer.Goals as goal

pub returns : goal.returns
returns c = opened_from_peer_holds
