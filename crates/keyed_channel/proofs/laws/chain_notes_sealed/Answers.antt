use Rattle.keyed_channel.proofs.ChainNoting.{chain_notes_sealed_hold}
use Rattle.keyed_channel.proofs.laws.chain_notes_sealed.Goals as goal

pub returns : goal.returns
returns c = chain_notes_sealed_hold
