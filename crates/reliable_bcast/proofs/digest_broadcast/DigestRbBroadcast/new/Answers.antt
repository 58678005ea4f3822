use Rattle.reliable_bcast.proofs.DigestCalls.{new_keeps}
use Rattle.reliable_bcast.proofs.digest_broadcast.DigestRbBroadcast.new.Goals as goal

pub returns : goal.returns
returns c = new_keeps c.args.p.now c.args.me c.args.slot c.make.result c.make.ensures
