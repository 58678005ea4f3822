use Rattle.keyed_channel.proofs.Noting.{notes_say}
use Rattle.keyed_channel.proofs.laws.notes_open.Goals as goal

pub returns : goal.returns
returns c = notes_say
