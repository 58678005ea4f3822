use Rattle.std.proofs.Common.{◌∙◌, sym}
use Rattle.reliable_bcast.proofs.DigestCalls.{started_well, started_half}
use Rattle.reliable_bcast.proofs.digest_broadcast.DigestRbBroadcast.start.Goals as goal

pub returns-then-is_err : goal.returns-then-is_err
returns-then-is_err g c =
    started_half (record { me = g.T.Tagger.me c.args._t.now; tags = g.T.Tagger.tags c.args._t.now }) c.args.self.now c.args.value.now c.args.out.now.items
    c.say_init-said.new.out.items c.say_init-said.result (sym c.is_err.ensures.value ∙ c.if-is_err.true) c.say_init-said.ensures.err

pub returns-else-is_err : goal.returns-else-is_err
returns-else-is_err g c =
    started_well (record { me = g.T.Tagger.me c.args._t.now; tags = g.T.Tagger.tags c.args._t.now }) c.args.self.now c.args.value.now c.args.out.now.items
    c.say_init-said.new.out.items c.say_init-said.result (sym c.is_err.ensures.value ∙ c.if-is_err.false) c.say_init-said.ensures.ok
