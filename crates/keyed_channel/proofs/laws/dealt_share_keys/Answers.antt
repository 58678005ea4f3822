use Rattle.keyed_channel.proofs.Dealt.{dealt_share_keys_hold}
use Rattle.keyed_channel.proofs.laws.dealt_share_keys.Goals as goal

pub returns : goal.returns
returns c = dealt_share_keys_hold
