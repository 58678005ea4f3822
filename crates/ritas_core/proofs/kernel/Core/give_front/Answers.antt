use Rattle.std.proofs.Common.{Ok, Err, List, subst, refl}
use Rattle.ritas_base.specs.declared.item.Item.{Item}
use Rattle.ritas_base.specs.declared.item.Msg.{Msg}
use Rattle.ritas_core.specs.declared.answer.Answer.TheVariants as answers
use Rattle.ritas_core.specs.declared.verdict.Verdict.TheVariants as verdicts
use Rattle.ritas_core.specs.Stands.{Meaning, meaning}
use Rattle.ritas_core.specs.LayerCalls.{GivesItem}
use Rattle.ritas_core.specs.CoreCalls.{DoesJudged}
use Rattle.ritas_core.proofs.Means.{means_well}
use Rattle.ritas_core.proofs.CallSteps.{refuse_does, again_does}
use Rattle.ritas_core.proofs.WholeCalls.{front_from}
use Rattle.ritas_core.proofs.kernel.Core.give_front.Goals as goal

pub returns-in-Some-Refuse-clause-does : goal.returns-in-Some-Refuse-clause-does
returns-in-Some-Refuse-clause-does g c =
    let b = g.E.Broadcast in
    let m : Meaning g.row.S.Denot g.row.E.Denot g.row.C.Denot g.row.T.Denot =
    meaning g.S.Service.stands g.S.Service.rules g.S.Service.shown b.stands b.rules b.shown g.C.Coin.bits g.T.Tagger.me g.T.Tagger.tags in
    let well = means_well m b.live g.met.E.Broadcast.value_laws g.met.S.Service.word_laws g.met.S.Service.shows g.met.E.Broadcast.shows in
    let old = c.args.self.now in
    let sent = c.args.out.now.items in
    front_from m well old old (verdicts.Refuse c.in-Some-Refuse.fault) sent sent (Err c.in-Some-Refuse.fault)
    (rw c.in-Some-Refuse.field-0-is at c.in-Some-Refuse.ensures) (λ item rest there. refuse_does m old item sent c.in-Some-Refuse.fault)

pub returns-in-Some-Again-clause-does : goal.returns-in-Some-Again-clause-does
returns-in-Some-Again-clause-does g c =
    let b = g.E.Broadcast in
    let m : Meaning g.row.S.Denot g.row.E.Denot g.row.C.Denot g.row.T.Denot =
    meaning g.S.Service.stands g.S.Service.rules g.S.Service.shown b.stands b.rules b.shown g.C.Coin.bits g.T.Tagger.me g.T.Tagger.tags in
    let well = means_well m b.live g.met.E.Broadcast.value_laws g.met.S.Service.word_laws g.met.S.Service.shows g.met.E.Broadcast.shows in
    let old = c.args.self.now in
    let sent = c.args.out.now.items in
    front_from m well old old verdicts.Again sent sent (Ok answers.Repeat)
    (rw c.in-Some-Again.field-0-is at c.in-Some-Again.ensures) (λ item rest there. again_does m old item sent)

pub returns-in-Ok-clause-does : goal.returns-in-Ok-clause-does
returns-in-Ok-clause-does g c =
    let b = g.E.Broadcast in
    let m : Meaning g.row.S.Denot g.row.E.Denot g.row.C.Denot g.row.T.Denot =
    meaning g.S.Service.stands g.S.Service.rules g.S.Service.shown b.stands b.rules b.shown g.C.Coin.bits g.T.Tagger.me g.T.Tagger.tags in
    let well = means_well m b.live g.met.E.Broadcast.value_laws g.met.S.Service.word_laws g.met.S.Service.shows g.met.E.Broadcast.shows in
    let old = c.args.self.now in
    let sent = c.args.out.now.items in
    front_from m well old c.hold.new.self verdicts.Hold sent sent c.hold.result
    (rw c.in-Some-Hold.field-0-is at c.in-Some-Hold.ensures)
    (λ item rest there. subst (λ (x : Item). DoesJudged m old c.hold.new.self verdicts.Hold x sent sent c.hold.result) (c.in-Ok.ensures item rest there) (c.hold.ensures.does sent))

pub returns-in-Err-clause-does : goal.returns-in-Err-clause-does
returns-in-Err-clause-does g c =
    let b = g.E.Broadcast in
    let m : Meaning g.row.S.Denot g.row.E.Denot g.row.C.Denot g.row.T.Denot =
    meaning g.S.Service.stands g.S.Service.rules g.S.Service.shown b.stands b.rules b.shown g.C.Coin.bits g.T.Tagger.me g.T.Tagger.tags in
    let well = means_well m b.live g.met.E.Broadcast.value_laws g.met.S.Service.word_laws g.met.S.Service.shows g.met.E.Broadcast.shows in
    let old = c.args.self.now in
    let sent = c.args.out.now.items in
    front_from m well old old verdicts.Hold sent sent (Err c.in-Err.fault)
    (rw c.in-Some-Hold.field-0-is at c.in-Some-Hold.ensures) (λ item rest there. c.in-Err.ensures item rest there sent)

pub returns-in-Some-Take-clause-does : goal.returns-in-Some-Take-clause-does
returns-in-Some-Take-clause-does g c =
    let b = g.E.Broadcast in
    let m : Meaning g.row.S.Denot g.row.E.Denot g.row.C.Denot g.row.T.Denot =
    meaning g.S.Service.stands g.S.Service.rules g.S.Service.shown b.stands b.rules b.shown g.C.Coin.bits g.T.Tagger.me g.T.Tagger.tags in
    let well = means_well m b.live g.met.E.Broadcast.value_laws g.met.S.Service.word_laws g.met.S.Service.shows g.met.E.Broadcast.shows in
    let old = c.args.self.now in
    front_from m well old c.pass_on.new.self verdicts.Take c.args.out.now.items c.pass_on.new.out.items c.pass_on.result
    (rw c.in-Some-Take.field-0-is at c.in-Some-Take.ensures)
    (λ item rest there.
    let given = subst (λ (before : List Msg). GivesItem m old.layers c.take_front-heard.new.layers item before c.take_front-heard.new.made.items c.take_front-heard.result)
    c.new-made.ensures.items (c.take_front-heard.ensures.given item rest there) in
    c.pass_on.ensures.does old item (record { seat = c.take_front-heard.ensures.same; rest = refl; given = given }))
