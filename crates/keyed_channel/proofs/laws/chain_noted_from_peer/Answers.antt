use Rattle.keyed_channel.proofs.ChainNoting.{chain_noted_from_peer_holds}
use Rattle.keyed_channel.proofs.laws.chain_noted_from_peer.Goals as goal

pub returns : goal.returns
returns c = chain_noted_from_peer_holds
