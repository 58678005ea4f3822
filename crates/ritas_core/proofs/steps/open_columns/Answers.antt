use Rattle.std.proofs.Common.{rules, ◌++◌, ◌∙◌, ap, subst, List}
use Rattle.std.specs.Prelude.{OnOk, ◌≡◌}
use Rattle.ritas_base.specs.declared.item.Item.{Item}
use Rattle.ooc_buffers.specs.Lists.{HeldItem, released, remaining}
use Rattle.ritas_core.specs.Stands.{Meaning, meaning}
use Rattle.ritas_core.specs.LayerCalls.{is_open_in}
use Rattle.ritas_core.specs.Waiting.{is_column_at}
use Rattle.ritas_core.proofs.Waiting.{both, both_same, columns_by_groups}
use Rattle.ritas_core.proofs.steps.open_columns.Goals as goal

pub returns-clause-inbox : goal.returns-clause-inbox
returns-clause-inbox g c =
    let b = g.E.Broadcast in
    let m : Meaning g.row.S.Denot g.row.E.Denot g.row.C.Denot g.row.T.Denot =
    meaning g.S.Service.stands g.S.Service.rules g.S.Service.shown b.stands b.rules b.shown g.C.Coin.bits g.T.Tagger.me g.T.Tagger.tags in
    λ p stood so.
    let t = is_open_in m c.args.layers.now p in
    let at = is_column_at c.args.slot in
    let same = (both_same at t c.args.held.now so.columns).0 in
    subst (λ (l : List Item). OnOk c.release.result (c.release.new.inbox.items ≡ c.args.inbox.now.items ++ l)) same
    (c.release.ensures.moved (both at t) so.grouped.right (λ x r k. search rules) (record { opens = columns_by_groups c.args.slot so.grouped.right t so.grouped.opens }) so.grouped.all)

pub returns-clause-held : goal.returns-clause-held
returns-clause-held g c =
    let b = g.E.Broadcast in
    let m : Meaning g.row.S.Denot g.row.E.Denot g.row.C.Denot g.row.T.Denot =
    meaning g.S.Service.stands g.S.Service.rules g.S.Service.shown b.stands b.rules b.shown g.C.Coin.bits g.T.Tagger.me g.T.Tagger.tags in
    λ p stood so.
    let t = is_open_in m c.args.layers.now p in
    let at = is_column_at c.args.slot in
    let same = (both_same at t c.args.held.now so.columns).1 in
    subst (λ (l : List (List HeldItem)). OnOk c.release.result (c.release.new.self ≡ l)) same
    (c.release.ensures.kept (both at t) so.grouped.right (λ x r k. search rules) (record { opens = columns_by_groups c.args.slot so.grouped.right t so.grouped.opens }) so.grouped.all)
