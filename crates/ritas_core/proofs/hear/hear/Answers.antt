use Rattle.std.proofs.Common.{Result, rules, sym, subst}
use Rattle.std.proofs.lemmas.Result.{err_from_is_err_and}
use Rattle.ritas_base.specs.declared.bytes.Mem.{Mem}
use Rattle.layer_api.specs.Broadcast.{Tagging}
use Rattle.ritas_core.specs.declared.taken.Taken.{Taken}
use Rattle.ritas_core.specs.Rules.{rules_by}
use Rattle.ritas_core.specs.SlotCast.{CastStands, is_cast_live, shown_by_cast}
use Rattle.ritas_core.specs.CastCalls.{HearsItem}
use Rattle.ritas_core.proofs.OneCast.{shows_at}
use Rattle.ritas_core.proofs.ShownCasts.{none_hears, late_hears}
use Rattle.ritas_core.proofs.hear.hear.Goals as goal

pub returns-in_err-take : goal.returns-in_err-take
returns-in_err-take g c = λ other.
    let b = g.E.Broadcast in
    let t : Tagging = record { me = g.T.Tagger.me c.args.t.now; tags = g.T.Tagger.tags c.args.t.now } in
    let p = err_from_is_err_and c.from_residual.result c.from_residual.ensures.1 in
    subst (λ (r : Result Taken Mem). HearsItem (CastStands other b.stands) (rules_by other b.rules) (shown_by_cast b.shown) t c.args.cast.now c.take.new.self
    c.args.item.now c.args.made.now.items c.take.new.out.items r) (sym p.1)
    (none_hears (CastStands other b.stands) (rules_by other b.rules) (shown_by_cast b.shown) t c.args.cast.now c.take.new.self c.args.item.now
    c.args.made.now.items c.take.new.out.items (is_cast_live b.live) (c.in_err-take.ensures other))

pub returns-in_err-newly_delivered-in-Took : goal.returns-in_err-newly_delivered-in-Took
returns-in_err-newly_delivered-in-Took g c = λ other.
    let b = g.E.Broadcast in
    let t : Tagging = record { me = g.T.Tagger.me c.args.t.now; tags = g.T.Tagger.tags c.args.t.now } in
    let p = err_from_is_err_and c.from_residual-in_err-newly_delivered-in-Took.result c.from_residual-in_err-newly_delivered-in-Took.ensures.1 in
    subst (λ (r : Result Taken Mem). HearsItem (CastStands other b.stands) (rules_by other b.rules) (shown_by_cast b.shown) t c.args.cast.now c.take.new.self
    c.args.item.now c.args.made.now.items c.take.new.out.items r) (sym p.1)
    (late_hears (CastStands other b.stands) (rules_by other b.rules) (shown_by_cast b.shown) t c.args.cast.now c.take.new.self c.args.item.now
    c.args.made.now.items c.take.new.out.items (λ at tags h stood. shows_at b.stands b.rules b.live b.shown g.met.E.Broadcast.shows other c.take.new.self at tags h stood)
    (rw c.in-Took.is at (c.in_ok-take.ensures other)))

pub returns-in-Repeat : goal.returns-in-Repeat
returns-in-Repeat g c = λ other. let takes = c.in_ok-take.ensures other in search rules

pub returns-in_ok-newly_delivered-in-Took : goal.returns-in_ok-newly_delivered-in-Took
returns-in_ok-newly_delivered-in-Took g c = λ other. let takes = c.in_ok-take.ensures other in search rules
