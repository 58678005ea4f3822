use Rattle.keyed_channel.proofs.Sealing.{opens_as_sealed_holds}
use Rattle.keyed_channel.proofs.laws.opens_as_sealed.Goals as goal

pub returns : goal.returns
returns c = opens_as_sealed_holds
