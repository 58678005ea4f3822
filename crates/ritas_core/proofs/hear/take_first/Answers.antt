use Rattle.std.proofs.Common.{refl}
use Rattle.std.proofs.lemmas.Result.{err_from_is_err_and}
use Rattle.ritas_core.specs.Rules.{route_of}
use Rattle.ritas_core.proofs.CastSteps.{inserted_at, same_values, casts_new, casts_again, casts_unmade}
use Rattle.ritas_core.proofs.hear.take_first.Goals as goal

pub returns-in_err-cast : goal.returns-in_err-cast
returns-in_err-cast g c =
    let b = g.E.Broadcast in
    let t = g.T.Tagger in
    let p = err_from_is_err_and c.from_residual.result c.from_residual.ensures.1 in
    rw p.1 (λ dropped. casts_unmade c.args.mode.now b.stands b.rules b.live b.shown g.met.E.Broadcast.shows g.met.E.Broadcast.value_laws c.args.p.now c.args.me (t.me c.args.t.now) (t.tags c.args.t.now)
    dropped c.args.casts.now c.args.casts.now c.args.item.now c.requires.unmade (λ q. refl))

pub returns-in_err-hear : goal.returns-in_err-hear
returns-in_err-hear g c =
    let b = g.E.Broadcast in
    let t = g.T.Tagger in
    let p = err_from_is_err_and c.from_residual-in_err-hear.result c.from_residual-in_err-hear.ensures.1 in
    rw p.1 (λ dropped. casts_unmade c.args.mode.now b.stands b.rules b.live b.shown g.met.E.Broadcast.shows g.met.E.Broadcast.value_laws c.args.p.now c.args.me (t.me c.args.t.now) (t.tags c.args.t.now)
    dropped c.args.casts.now c.args.casts.now c.args.item.now c.requires.unmade (λ q. refl))

pub returns-in-Err : goal.returns-in-Err
returns-in-Err g c =
    let b = g.E.Broadcast in
    let t = g.T.Tagger in
    λ dropped. casts_unmade c.args.mode.now b.stands b.rules b.live b.shown g.met.E.Broadcast.shows g.met.E.Broadcast.value_laws c.args.p.now c.args.me (t.me c.args.t.now) (t.tags c.args.t.now)
    dropped c.args.casts.now c.make-in-Took.new.self c.args.item.now c.requires.unmade (same_values c.args.casts.now c.make-in-Took.new.self c.in-Err.ensures.err)

pub returns-in-Ok : goal.returns-in-Ok
returns-in-Ok g c =
    let b = g.E.Broadcast in
    let t = g.T.Tagger in
    λ dropped. casts_new c.args.mode.now b.stands b.rules b.live b.shown g.met.E.Broadcast.shows g.met.E.Broadcast.value_laws c.args.p.now c.args.me (t.me c.args.t.now) (t.tags c.args.t.now)
    dropped c.args.casts.now c.make-in-Took.new.self c.args.item.now c.in_ok-cast.cast c.hear.new.cast
    (inserted_at c.args.casts.now c.make-in-Took.new.self c.args.item.now.slot c.hear.new.cast c.in-Ok.ensures.ok)
    c.requires.unmade c.requires.origin_below (c.in_ok-cast.ensures (t.tags c.args.t.now))
    c.args.made.now.items c.hear.new.made.items c.in-Took.delivered
    (rw c.in-Took.is at (c.in_ok-hear.ensures (route_of c.args.mode.now c.args.item.now.slot)))

pub returns-in-Repeat : goal.returns-in-Repeat
returns-in-Repeat g c =
    let b = g.E.Broadcast in
    let t = g.T.Tagger in
    λ dropped. casts_again c.args.mode.now b.stands b.rules b.live b.shown g.met.E.Broadcast.shows g.met.E.Broadcast.value_laws c.args.p.now c.args.me (t.me c.args.t.now) (t.tags c.args.t.now)
    dropped c.args.casts.now c.args.casts.now c.args.item.now c.in_ok-cast.cast c.hear.new.cast
    c.requires.unmade (c.in_ok-cast.ensures (t.tags c.args.t.now))
    c.args.made.now.items c.hear.new.made.items
    (rw c.in-Repeat.is at (c.in_ok-hear.ensures (route_of c.args.mode.now c.args.item.now.slot)))
