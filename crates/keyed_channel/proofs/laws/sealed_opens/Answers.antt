use Rattle.keyed_channel.proofs.Sealing.{sealed_opens_holds}
use Rattle.keyed_channel.proofs.laws.sealed_opens.Goals as goal

pub returns : goal.returns
returns c = sealed_opens_holds
