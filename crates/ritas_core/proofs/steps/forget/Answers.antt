use Rattle.std.proofs.Common.{rules}
use Rattle.ritas_core.specs.Stands.{Meaning, meaning}
use Rattle.ritas_core.specs.LayerCalls.{is_past_in}
use Rattle.ritas_core.proofs.steps.forget.Goals as goal

pub returns-in-Service : goal.returns-in-Service
returns-in-Service g c =
    let b = g.E.Broadcast in
    let m : Meaning g.row.S.Denot g.row.E.Denot g.row.C.Denot g.row.T.Denot =
    meaning g.S.Service.stands g.S.Service.rules g.S.Service.shown b.stands b.rules b.shown g.C.Coin.bits g.T.Tagger.me g.T.Tagger.tags in
    λ p stood may.
    let so = rw c.in-Service.is at may in
    c.forget.ensures (λ x. is_past_in m c.args.layers.now p x.slot) so.right (λ x r k. search rules) so.ends so.all
