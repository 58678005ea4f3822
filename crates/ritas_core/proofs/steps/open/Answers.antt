use Rattle.std.proofs.Common.{rules}
use Rattle.ritas_core.specs.Stands.{Meaning, meaning}
use Rattle.ritas_core.specs.LayerCalls.{is_open_in}
use Rattle.ritas_core.proofs.steps.open.Goals as goal

pub returns-clause-inbox : goal.returns-clause-inbox
returns-clause-inbox g c =
    let b = g.E.Broadcast in
    let m : Meaning g.row.S.Denot g.row.E.Denot g.row.C.Denot g.row.T.Denot =
    meaning g.S.Service.stands g.S.Service.rules g.S.Service.shown b.stands b.rules b.shown g.C.Coin.bits g.T.Tagger.me g.T.Tagger.tags in
    λ p stood so. c.release.ensures.moved (is_open_in m c.args.layers.now p) so.right (λ x r k. search rules) (record { opens = so.opens }) so.all

pub returns-clause-held : goal.returns-clause-held
returns-clause-held g c =
    let b = g.E.Broadcast in
    let m : Meaning g.row.S.Denot g.row.E.Denot g.row.C.Denot g.row.T.Denot =
    meaning g.S.Service.stands g.S.Service.rules g.S.Service.shown b.stands b.rules b.shown g.C.Coin.bits g.T.Tagger.me g.T.Tagger.tags in
    λ p stood so. c.release.ensures.kept (is_open_in m c.args.layers.now p) so.right (λ x r k. search rules) (record { opens = so.opens }) so.all
