use Rattle.keyed_channel.proofs.EpochKeys.{epoch_zero_keeps_keys_holds}
use Rattle.keyed_channel.proofs.laws.epoch_zero_keeps_keys.Goals as goal

pub returns : goal.returns
returns c = epoch_zero_keeps_keys_holds
