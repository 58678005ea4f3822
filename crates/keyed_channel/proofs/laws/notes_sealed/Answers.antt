use Rattle.keyed_channel.proofs.NotedBySender.{notes_sealed_holds}
use Rattle.keyed_channel.proofs.laws.notes_sealed.Goals as goal

pub returns : goal.returns
returns c = notes_sealed_holds
