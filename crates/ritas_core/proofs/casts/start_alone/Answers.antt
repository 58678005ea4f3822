use Rattle.ritas_core.specs.Rules.{route_of}
use Rattle.ritas_core.proofs.CastSteps.{alone_news}
use Rattle.ritas_core.proofs.casts.start_alone.Goals as goal

pub returns : goal.returns
returns g c =
    let b = g.E.Broadcast in
    let t = g.T.Tagger in
    alone_news c.args.mode.now b.stands b.rules g.met.E.Broadcast.value_laws c.args.p.now c.args.me (t.me c.args.t.now) (t.tags c.args.t.now)
    c.args.say.now c.in_ok-cast.cast c.start.new.self (c.in_ok-cast.ensures (t.tags c.args.t.now)) c.as_slice.result.now c.as_slice.ensures
    c.args.made.now.items c.start.new.out.items (c.in_ok-start.ensures (route_of c.args.mode.now c.args.say.now.slot))
