use Rattle.std.proofs.Common.{refl, arith}
use Rattle.std.proofs.lemmas.Bool.{ne_eqb}
use Rattle.std.proofs.lemmas.Result.{IfOk-weaker}
use Rattle.layer_api.specs.Words.{Hear}
use Rattle.vector_consensus.specs.Holding.{FollowsProposal}
use Rattle.vector_consensus.specs.Stands.{HearsSlot}
use Rattle.vector_consensus.proofs.Boxes.{near_still}
use Rattle.vector_consensus.proofs.vc.Vc.hear.Goals as goal

pub returns-in-2-clause-ok : goal.returns-in-2-clause-ok
returns-in-2-clause-ok g c =
    let stands = g.M.MultiBox.stands in
    let rules = g.M.MultiBox.rules in
    let x = c.args.self.now in
    let s = c.args.slot.now in
    let v = c.args.value.now in
    let table = c.hear_proposal.new.table in
    let new = c.hear_proposal.new.tries.items in
    let before = c.args.made.now.items in
    let after = c.hear_proposal.new.made.items in
    IfOk-weaker c.hear_proposal.result
    (λ next. FollowsProposal stands rules x.part x.place.own x.table table x.tries.items new before after next s.origin v)
    (λ next. HearsSlot stands rules (g.C.Coin.bits c.args.coin.now) x s v table new next before after)
    (λ next follows at w h coin may. follows at w s h.holds may c.in-2.is refl)
    c.hear_proposal.ensures.ok

pub returns-in-2-clause-near : goal.returns-in-2-clause-near
returns-in-2-clause-near g c = λ at w h coin may.
    near_still g.M.MultiBox.stands g.M.MultiBox.rules g.met.M.MultiBox.multi_laws g.M.MultiBox.live g.M.MultiBox.shown g.met.M.MultiBox.shows
    c.args.self.now at w (Hear c.args.slot.now c.args.value.now) c.hear_proposal.new.tries.items h c.hear_proposal.ensures.keeps

pub returns-in_default-clause-near : goal.returns-in_default-clause-near
returns-in_default-clause-near g c = λ at w h coin may. c.hear_try.ensures.near at w h.holds coin may (ne_eqb c.args.slot.now.class 2 (λ e. omega (arith, e)))
