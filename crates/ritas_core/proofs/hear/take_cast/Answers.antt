use Rattle.std.proofs.Common.{sym, refl}
use Rattle.ritas_core.specs.Rules.{route_of}
use Rattle.ritas_core.proofs.CastSteps.{inserted_at, casts_hear}
use Rattle.ritas_core.proofs.hear.take_cast.Goals as goal

pub returns-in-Some : goal.returns-in-Some
returns-in-Some g c =
    let b = g.E.Broadcast in
    let t = g.T.Tagger in
    λ dropped. casts_hear c.args.mode.now b.stands b.rules b.live b.shown g.met.E.Broadcast.shows g.met.E.Broadcast.value_laws c.args.p.now c.args.me (t.me c.args.t.now) (t.tags c.args.t.now)
    dropped c.args.casts.now _ c.args.item.now c.in-Some.cast.now c.hear.new.cast
    (inserted_at c.args.casts.now _ c.args.item.now.slot c.hear.new.cast refl)
    (sym c.in-Some.ensures.value) _ _ c.hear.result (c.hear.ensures (route_of c.args.mode.now c.args.item.now.slot))
