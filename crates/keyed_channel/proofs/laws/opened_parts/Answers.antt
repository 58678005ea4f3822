use Rattle.keyed_channel.proofs.FromSender.{opened_parts_hold}
use Rattle.keyed_channel.proofs.laws.opened_parts.Goals as goal

pub returns : goal.returns
returns c = opened_parts_hold
