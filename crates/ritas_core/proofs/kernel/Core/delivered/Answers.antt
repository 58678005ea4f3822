use Rattle.std.proofs.Common.{true, false, inl, inr, sym, ◌∙◌}
use Rattle.ritas_core.specs.Stands.{Meaning, meaning}
use Rattle.ritas_core.proofs.Means.{means_well}
use Rattle.ritas_core.proofs.GetterSteps.{delivered_either, delivered_live}
use Rattle.ritas_core.proofs.kernel.Core.delivered.Goals as goal

pub returns-clause-shown : goal.returns-clause-shown
returns-clause-shown g c =
    let b = g.E.Broadcast in
    let m : Meaning g.row.S.Denot g.row.E.Denot g.row.C.Denot g.row.T.Denot =
    meaning g.S.Service.stands g.S.Service.rules g.S.Service.shown b.stands b.rules b.shown g.C.Coin.bits g.T.Tagger.me g.T.Tagger.tags in
    let well = means_well m b.live g.met.E.Broadcast.value_laws g.met.S.Service.word_laws g.met.S.Service.shows g.met.E.Broadcast.shows in
    let hides = sym c.if-hides.false ∙ c.hides.ensures in
    λ r st stands. elim (delivered_either m well c.args.self.now c.args.slot.now false hides r st stands) [
      | inl e ↦ inl (c.delivered.ensures ∙ e)
      | inr e ↦ inr (c.delivered.ensures ∙ e)
    ]

pub returns-clause-live : goal.returns-clause-live
returns-clause-live g c =
    let b = g.E.Broadcast in
    let m : Meaning g.row.S.Denot g.row.E.Denot g.row.C.Denot g.row.T.Denot =
    meaning g.S.Service.stands g.S.Service.rules g.S.Service.shown b.stands b.rules b.shown g.C.Coin.bits g.T.Tagger.me g.T.Tagger.tags in
    let well = means_well m b.live g.met.E.Broadcast.value_laws g.met.S.Service.word_laws g.met.S.Service.shows g.met.E.Broadcast.shows in
    let hides = sym c.if-hides.false ∙ c.hides.ensures in
    λ r st stands running. c.delivered.ensures ∙ delivered_live m well c.args.self.now c.args.slot.now false hides r st stands running

pub returns-then-hides-clause-shown : goal.returns-then-hides-clause-shown
returns-then-hides-clause-shown g c =
    let b = g.E.Broadcast in
    let m : Meaning g.row.S.Denot g.row.E.Denot g.row.C.Denot g.row.T.Denot =
    meaning g.S.Service.stands g.S.Service.rules g.S.Service.shown b.stands b.rules b.shown g.C.Coin.bits g.T.Tagger.me g.T.Tagger.tags in
    let well = means_well m b.live g.met.E.Broadcast.value_laws g.met.S.Service.word_laws g.met.S.Service.shows g.met.E.Broadcast.shows in
    let hides = sym c.if-hides.true ∙ c.hides.ensures in
    delivered_either m well c.args.self.now c.args.slot.now true hides

pub returns-then-hides-clause-live : goal.returns-then-hides-clause-live
returns-then-hides-clause-live g c =
    let b = g.E.Broadcast in
    let m : Meaning g.row.S.Denot g.row.E.Denot g.row.C.Denot g.row.T.Denot =
    meaning g.S.Service.stands g.S.Service.rules g.S.Service.shown b.stands b.rules b.shown g.C.Coin.bits g.T.Tagger.me g.T.Tagger.tags in
    let well = means_well m b.live g.met.E.Broadcast.value_laws g.met.S.Service.word_laws g.met.S.Service.shows g.met.E.Broadcast.shows in
    let hides = sym c.if-hides.true ∙ c.hides.ensures in
    delivered_live m well c.args.self.now c.args.slot.now true hides
