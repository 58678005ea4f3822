use Rattle.echo_bcast.proofs.Calls.{new_keeps}
use Rattle.echo_bcast.proofs.broadcast.EbBroadcast.new.Goals as goal

pub returns : goal.returns
returns c = new_keeps c.args.p.now c.args._me c.args.slot c.make.result c.requires.me_below c.make.ensures.same c.make.ensures.nobody c.make.ensures.session
