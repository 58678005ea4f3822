use Rattle.keyed_channel.proofs.Sealing.{sealed_length_holds}
use Rattle.keyed_channel.proofs.laws.sealed_length.Goals as goal

pub returns : goal.returns
returns c = sealed_length_holds
