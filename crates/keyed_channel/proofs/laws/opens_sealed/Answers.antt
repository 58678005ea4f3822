use Rattle.keyed_channel.proofs.FromSender.{opens_sealed_holds}
use Rattle.keyed_channel.proofs.laws.opens_sealed.Goals as goal

pub returns : goal.returns
returns c = opens_sealed_holds
