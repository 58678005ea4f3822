use Rattle.keyed_channel.proofs.Dealt.{entries_agree_hold}
use Rattle.keyed_channel.proofs.laws.entries_agree.Goals as goal

pub returns : goal.returns
returns c = entries_agree_hold
