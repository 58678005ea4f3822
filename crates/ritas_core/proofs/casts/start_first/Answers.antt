use Rattle.std.proofs.Common.{refl}
use Rattle.ritas_core.specs.Rules.{route_of}
use Rattle.ritas_core.proofs.TestLaws.{on_err_here}
use Rattle.ritas_core.proofs.CastSteps.{there_new, inserted_at, same_values, casts_start, casts_unstarted}
use Rattle.ritas_core.proofs.casts.start_first.Goals as goal
use Rattle.ritas_core.proofs.casts.start_first.Goals.{in-Ok, in-Err}

pub returns-in_err-cast-clause-err : goal.returns-in_err-cast-clause-err
returns-in_err-cast-clause-err g c =
    let b = g.E.Broadcast in
    let t = g.T.Tagger in
    on_err_here c.from_residual.result
    (λ dropped. casts_unstarted c.args.mode.now b.stands b.rules b.live b.shown g.met.E.Broadcast.shows g.met.E.Broadcast.value_laws c.args.p.now c.args.me (t.me c.args.t.now) (t.tags c.args.t.now)
    dropped c.args.casts.now c.args.casts.now c.args.say.now (λ q. refl))

pub returns-in_err-start-clause-err : goal.returns-in_err-start-clause-err
returns-in_err-start-clause-err g c =
    let b = g.E.Broadcast in
    let t = g.T.Tagger in
    on_err_here c.from_residual-in_err-start.result
    (λ dropped. casts_unstarted c.args.mode.now b.stands b.rules b.live b.shown g.met.E.Broadcast.shows g.met.E.Broadcast.value_laws c.args.p.now c.args.me (t.me c.args.t.now) (t.tags c.args.t.now)
    dropped c.args.casts.now c.args.casts.now c.args.say.now (λ q. refl))

pub returns-clause-ok : goal.returns-clause-ok
returns-clause-ok g c =
    let b = g.E.Broadcast in
    let t = g.T.Tagger in
    elim c.match-make.branch [
      | in-Ok w ↦ rw w.result-is (λ dropped near. casts_start c.args.mode.now b.stands b.rules b.live b.shown g.met.E.Broadcast.shows g.met.E.Broadcast.value_laws c.args.p.now c.args.me (t.me c.args.t.now) (t.tags c.args.t.now)
          dropped c.args.casts.now c.make-2.new.self c.args.say.now c.in_ok-cast.cast c.start.new.self
          (there_new c.args.mode.now b.stands b.rules c.args.p.now c.args.me (t.tags c.args.t.now) dropped c.args.casts.now c.args.say.now.slot c.in_ok-cast.cast
          c.requires.unmade c.requires.origin_below near (c.in_ok-cast.ensures (t.tags c.args.t.now)))
          (inserted_at c.args.casts.now c.make-2.new.self c.args.say.now.slot c.start.new.self w.in-Ok.ensures.ok)
          c.as_slice.result.now c.as_slice.ensures c.args.made.now.items c.start.new.out.items (c.in_ok-start.ensures (route_of c.args.mode.now c.args.say.now.slot)))
      | in-Err w ↦ rw w.result-is tt
    ]

pub returns-clause-err : goal.returns-clause-err
returns-clause-err g c =
    let b = g.E.Broadcast in
    let t = g.T.Tagger in
    elim c.match-make.branch [
      | in-Ok w ↦ rw w.result-is tt
      | in-Err w ↦ rw w.result-is (λ dropped. casts_unstarted c.args.mode.now b.stands b.rules b.live b.shown g.met.E.Broadcast.shows g.met.E.Broadcast.value_laws c.args.p.now c.args.me (t.me c.args.t.now) (t.tags c.args.t.now)
          dropped c.args.casts.now c.make-2.new.self c.args.say.now (same_values c.args.casts.now c.make-2.new.self w.in-Err.ensures.err))
    ]
