use Rattle.keyed_channel.proofs.ChainNoting.{chain_notes_open_hold}
use Rattle.keyed_channel.proofs.laws.chain_notes_open.Goals as goal

pub returns : goal.returns
returns c = chain_notes_open_hold
