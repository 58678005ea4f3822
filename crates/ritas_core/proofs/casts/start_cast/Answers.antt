use Rattle.std.proofs.Common.{sym, ◌∙◌, refl}
use Rattle.std.proofs.lemmas.Result.{on_ok_weaker}
use Rattle.ritas_core.specs.Rules.{casts_by, route_of}
use Rattle.ritas_core.specs.SlotCast.{CastStandsAt}
use Rattle.ritas_core.proofs.TestLaws.{on_ok_by, on_err_by}
use Rattle.ritas_core.proofs.CastSteps.{there_found, inserted_at, casts_start, casts_missed, starts_alone, casts_unstarted}
use Rattle.ritas_core.proofs.casts.start_cast.Goals as goal

pub returns-then-is_dropped-clause-ok : goal.returns-then-is_dropped-clause-ok
returns-then-is_dropped-clause-ok g c =
    let b = g.E.Broadcast in
    let t = g.T.Tagger in
    on_ok_weaker c.start_alone.result
    (λ made dropped past. starts_alone (CastStandsAt c.args.mode.now b.stands) (casts_by c.args.mode.now c.args.p.now c.args.me (t.tags c.args.t.now) b.rules) dropped c.args.casts.now
    (t.me c.args.t.now) c.args.say.now c.args.made.now.items c.start_alone.new.made.items (past ∙ c.if-is_dropped.true) made)
    c.start_alone.ensures

pub returns-then-is_dropped-clause-err : goal.returns-then-is_dropped-clause-err
returns-then-is_dropped-clause-err g c =
    let b = g.E.Broadcast in
    let t = g.T.Tagger in
    on_err_by c.start_alone.result (λ e is dropped past. casts_unstarted c.args.mode.now b.stands b.rules b.live b.shown g.met.E.Broadcast.shows g.met.E.Broadcast.value_laws c.args.p.now c.args.me (t.me c.args.t.now) (t.tags c.args.t.now)
    dropped c.args.casts.now c.args.casts.now c.args.say.now (λ q. refl))

pub returns-in-Some-clause-ok : goal.returns-in-Some-clause-ok
returns-in-Some-clause-ok g c =
    let b = g.E.Broadcast in
    let t = g.T.Tagger in
    let found = sym c.in-Some.ensures.value in
    on_ok_by c.start.result (λ u is dropped near. casts_start c.args.mode.now b.stands b.rules b.live b.shown g.met.E.Broadcast.shows g.met.E.Broadcast.value_laws c.args.p.now c.args.me (t.me c.args.t.now) (t.tags c.args.t.now)
    dropped c.args.casts.now _ c.args.say.now c.in-Some.cast.now c.start.new.self
    (there_found c.args.mode.now b.stands b.rules c.args.p.now c.args.me (t.tags c.args.t.now) dropped c.args.casts.now c.args.say.now.slot c.in-Some.cast.now found)
    (inserted_at c.args.casts.now _ c.args.say.now.slot c.start.new.self refl)
    c.as_slice.result.now c.as_slice.ensures c.args.made.now.items c.start.new.out.items
    (rw is at (c.start.ensures (route_of c.args.mode.now c.args.say.now.slot))))

pub returns-in-Some-clause-err : goal.returns-in-Some-clause-err
returns-in-Some-clause-err g c =
    let b = g.E.Broadcast in
    let t = g.T.Tagger in
    let found = sym c.in-Some.ensures.value in
    on_err_by c.start.result (λ e is dropped near. casts_missed c.args.mode.now b.stands b.rules b.live b.shown g.met.E.Broadcast.shows g.met.E.Broadcast.value_laws c.args.p.now c.args.me (t.me c.args.t.now) (t.tags c.args.t.now)
    dropped c.args.casts.now _ c.args.say.now c.in-Some.cast.now c.start.new.self
    (there_found c.args.mode.now b.stands b.rules c.args.p.now c.args.me (t.tags c.args.t.now) dropped c.args.casts.now c.args.say.now.slot c.in-Some.cast.now found)
    (inserted_at c.args.casts.now _ c.args.say.now.slot c.start.new.self refl)
    c.as_slice.result.now c.args.made.now.items c.start.new.out.items
    (rw is at (c.start.ensures (route_of c.args.mode.now c.args.say.now.slot))))
