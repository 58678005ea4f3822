use Rattle.keyed_channel.proofs.EpochKeys.{epochs_share_keys_hold}
use Rattle.keyed_channel.proofs.laws.epochs_share_keys.Goals as goal

pub returns : goal.returns
returns c = epochs_share_keys_hold
