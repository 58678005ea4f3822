use Rattle.keyed_channel.proofs.Sealing.{sealed_long_holds}
use Rattle.keyed_channel.proofs.laws.sealed_long.Goals as goal

pub returns : goal.returns
returns c = sealed_long_holds
