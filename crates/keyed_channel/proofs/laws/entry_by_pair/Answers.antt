use Rattle.keyed_channel.proofs.Dealt.{entry_by_pair_holds}
use Rattle.keyed_channel.proofs.laws.entry_by_pair.Goals as goal

pub returns : goal.returns
returns c = entry_by_pair_holds
