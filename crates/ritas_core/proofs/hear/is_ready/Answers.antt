use Rattle.std.proofs.Common.{◌≡◌, rules, Bool, true, not, ◌&&◌, ◌||◌, Option, sym, ◌∙◌, ap}
use Rattle.std.specs.Option.{is_some}
use Rattle.std.specs.FinMap.{get}
use Rattle.ritas_base.specs.declared.item.Kind.TheVariants.{Column}
use Rattle.ritas_base.specs.Messages.{kind_eq}
use Rattle.ritas_core.specs.declared.cast.Cast.{Cast}
use Rattle.ritas_core.specs.Rules.{casts_by, route_of, place_at}
use Rattle.ritas_core.proofs.OneCast.{shows_at}
use Rattle.ritas_core.proofs.hear.is_ready.Goals as goal

pub returns-in-Some : goal.returns-in-Some
returns-in-Some g c = λ mode numbers me tags dropped h stood.
    let b = g.E.Broadcast in
    let own = casts_by mode numbers me tags b.rules in
    let item = c.args.item.now in
    let found = sym c.in-Some.ensures in
    let shows = shows_at b.stands b.rules b.live b.shown g.met.E.Broadcast.shows (route_of mode item.slot) c.in-Some.cast.now (place_at own item.slot) tags (h item.slot)
    (stood.made item.slot c.in-Some.cast.now found) in
    let is_column : kind_eq item.kind Column ≡ true = search rules in
    let ready = (own.at_slot item.slot).ready (place_at own item.slot) tags (h item.slot) item in
    c.ready_for.ensures ∙ shows.ready item
    ∙ sym (ap (λ (b : Bool). not b || (is_some (get c.args.casts.now item.slot) && ready)) is_column
    ∙ ap (λ (o : Option (Cast g.row.E.Denot)). is_some o && ready) found)
