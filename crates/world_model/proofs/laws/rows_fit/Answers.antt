use Rattle.world_model.proofs.RowsFitting.{rows_fit_law}
use Rattle.world_model.proofs.laws.rows_fit.Goals as goal

pub returns : goal.returns
returns g c =
    rows_fit_law g.S.Service.rules g.E.Broadcast.rules g.met.E.Broadcast.value_laws g.met.S.Service.word_laws c.opened_from_peer.ensures
    (λ w is. record {
      read = λ from item good. c.spelled.ensures.read w.numbers w.mode from item good;
      good = λ from body item reads. c.spelled.ensures.answered w.numbers w.mode from body item is.session reads;
    })
    c.core_laws.ensures
