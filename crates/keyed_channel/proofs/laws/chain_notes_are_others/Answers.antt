use Rattle.keyed_channel.proofs.ChainNoting.{chain_notes_are_others_hold}
use Rattle.keyed_channel.proofs.laws.chain_notes_are_others.Goals as goal

pub returns : goal.returns
returns c = chain_notes_are_others_hold
