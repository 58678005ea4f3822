use Rattle.keyed_channel.proofs.RowsSending.{rows_from_peer_holds}
use Rattle.keyed_channel.proofs.laws.rows_from_peer.Goals as goal

pub returns : goal.returns
returns c = rows_from_peer_holds
