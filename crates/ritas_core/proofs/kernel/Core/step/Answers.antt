use Rattle.std.proofs.Common.{Ok, Err, List, subst, refl}
use Rattle.ritas_base.specs.declared.item.Msg.{Msg}
use Rattle.ritas_core.specs.declared.answer.Answer.TheVariants as answers
use Rattle.ritas_core.specs.declared.verdict.Verdict.TheVariants as verdicts
use Rattle.ritas_core.specs.LayerCalls.{GivesItem}
use Rattle.ritas_core.specs.Stands.{Meaning, meaning}
use Rattle.ritas_core.proofs.Means.{means_well}
use Rattle.ritas_core.proofs.CallSteps.{refuse_does, again_does}
use Rattle.ritas_core.proofs.WholeCalls.{here_from}
use Rattle.ritas_core.proofs.kernel.Core.step.Goals as goal

pub returns-in-Refuse-clause-does : goal.returns-in-Refuse-clause-does
returns-in-Refuse-clause-does g c =
    let b = g.E.Broadcast in
    let m : Meaning g.row.S.Denot g.row.E.Denot g.row.C.Denot g.row.T.Denot =
    meaning g.S.Service.stands g.S.Service.rules g.S.Service.shown b.stands b.rules b.shown g.C.Coin.bits g.T.Tagger.me g.T.Tagger.tags in
    let well = means_well m b.live g.met.E.Broadcast.value_laws g.met.S.Service.word_laws g.met.S.Service.shows g.met.E.Broadcast.shows in
    let sent = c.args.out.now.items in
    here_from m well c.args.self.now c.args.self.now (verdicts.Refuse c.in-Refuse.fault) c.args.item
    sent sent (Err c.in-Refuse.fault) c.in-Refuse.ensures
    (refuse_does m c.args.self.now c.args.item sent c.in-Refuse.fault)

pub returns-in-Again-clause-does : goal.returns-in-Again-clause-does
returns-in-Again-clause-does g c =
    let b = g.E.Broadcast in
    let m : Meaning g.row.S.Denot g.row.E.Denot g.row.C.Denot g.row.T.Denot =
    meaning g.S.Service.stands g.S.Service.rules g.S.Service.shown b.stands b.rules b.shown g.C.Coin.bits g.T.Tagger.me g.T.Tagger.tags in
    let well = means_well m b.live g.met.E.Broadcast.value_laws g.met.S.Service.word_laws g.met.S.Service.shows g.met.E.Broadcast.shows in
    let sent = c.args.out.now.items in
    here_from m well c.args.self.now c.args.self.now verdicts.Again c.args.item
    sent sent (Ok answers.Repeat) c.in-Again.ensures
    (again_does m c.args.self.now c.args.item sent)

pub returns-in-Hold-clause-does : goal.returns-in-Hold-clause-does
returns-in-Hold-clause-does g c =
    let b = g.E.Broadcast in
    let m : Meaning g.row.S.Denot g.row.E.Denot g.row.C.Denot g.row.T.Denot =
    meaning g.S.Service.stands g.S.Service.rules g.S.Service.shown b.stands b.rules b.shown g.C.Coin.bits g.T.Tagger.me g.T.Tagger.tags in
    let well = means_well m b.live g.met.E.Broadcast.value_laws g.met.S.Service.word_laws g.met.S.Service.shows g.met.E.Broadcast.shows in
    let sent = c.args.out.now.items in
    here_from m well c.args.self.now c.hold.new.self verdicts.Hold c.args.item
    sent sent c.hold.result c.in-Hold.ensures
    (c.hold.ensures.does sent)

pub returns-in-Take-clause-does : goal.returns-in-Take-clause-does
returns-in-Take-clause-does g c =
    let b = g.E.Broadcast in
    let m : Meaning g.row.S.Denot g.row.E.Denot g.row.C.Denot g.row.T.Denot =
    meaning g.S.Service.stands g.S.Service.rules g.S.Service.shown b.stands b.rules b.shown g.C.Coin.bits g.T.Tagger.me g.T.Tagger.tags in
    let well = means_well m b.live g.met.E.Broadcast.value_laws g.met.S.Service.word_laws g.met.S.Service.shows g.met.E.Broadcast.shows in
    let old = c.args.self.now in
    let given = subst (λ (before : List Msg). GivesItem m old.layers c.take-heard.new.self c.args.item before c.take-heard.new.made.items c.take-heard.result)
    c.new-made.ensures.items c.take-heard.ensures.given in
    here_from m well old c.pass_on.new.self verdicts.Take c.args.item
    c.args.out.now.items c.pass_on.new.out.items c.pass_on.result c.in-Take.ensures
    (c.pass_on.ensures.does old c.args.item (record { seat = c.take-heard.ensures.same; rest = refl; given = given }))
