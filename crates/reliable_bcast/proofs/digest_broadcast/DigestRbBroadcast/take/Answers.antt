use Rattle.std.proofs.Common.{◌∙◌, sym}
use Rattle.reliable_bcast.proofs.DigestCalls.{heard_well, heard_half}
use Rattle.reliable_bcast.proofs.digest_broadcast.DigestRbBroadcast.take.Goals as goal

pub returns-then-is_err : goal.returns-then-is_err
returns-then-is_err g c =
    heard_half (record { me = g.T.Tagger.me c.args.t.now; tags = g.T.Tagger.tags c.args.t.now }) c.args.self.now c.hear-heard.new.self c.args.item.now
    c.args.out.now.items c.hear-heard.new.out.items c.hear-heard.result (sym c.is_err.ensures.value ∙ c.if-is_err.true) c.hear-heard.ensures

pub returns-else-is_err : goal.returns-else-is_err
returns-else-is_err g c =
    heard_well (record { me = g.T.Tagger.me c.args.t.now; tags = g.T.Tagger.tags c.args.t.now }) c.args.self.now c.hear-heard.new.self c.args.item.now
    c.args.out.now.items c.hear-heard.new.out.items c.hear-heard.result (sym c.is_err.ensures.value ∙ c.if-is_err.false) c.hear-heard.ensures
