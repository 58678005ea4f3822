use Rattle.world_model.proofs.EveryWorld.{agreement_law}
use Rattle.world_model.proofs.laws.agreement.Goals as goal

pub returns : goal.returns
returns g c =
    agreement_law g.S.Service.rules g.E.Broadcast.rules g.met.E.Broadcast.value_laws g.met.E.Broadcast.one_value g.met.E.Broadcast.entry_laws c.one_value.ensures g.met.S.Service.word_laws g.met.S.Service.one_log
    c.opens_as_sealed.ensures c.opened_from_peer.ensures
    (λ w is. record {
      read = λ from item good. c.spelled.ensures.read w.numbers w.mode from item good;
      good = λ from body item reads. c.spelled.ensures.answered w.numbers w.mode from body item is.session reads;
    })
    c.agreement_each.ensures
