use Rattle.std.proofs.Common.{sym, subst, Ok}
use Rattle.ritas_base.specs.declared.item.Kind.{Kind}
use Rattle.layer_api.specs.Broadcast.{Tagging}
use Rattle.echo_bcast.specs.State.{HearsMatrix}
use Rattle.echo_bcast.proofs.eb.Eb.hear.Goals as goal

pub returns-in-Column : goal.returns-in-Column
returns-in-Column g c =
    let t : Tagging = record { me = g.T.Tagger.me c.args.t.now; tags = g.T.Tagger.tags c.args.t.now } in
    subst (λ (k : Kind). HearsMatrix k t c.args.self.now c.judge.new.self c.args.item.now c.args.out.now.items c.args.out.now.items (Ok c.judge.result)) (sym c.in-Column.is)
    (c.judge.ensures c.args.out.now.items)
