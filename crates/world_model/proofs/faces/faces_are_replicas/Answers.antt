use Rattle.world_model.proofs.FaceStates.{face_law}
use Rattle.world_model.proofs.Shown.{plain_law, shown_law}
use Rattle.world_model.proofs.faces.faces_are_replicas.Goals as goal

pub returns : goal.returns
returns g c = record {
  states = face_law;
  shown =
      shown_law g.S.Service.rules g.E.Broadcast.rules g.met.E.Broadcast.value_laws g.met.S.Service.word_laws c.opened_from_peer.ensures
      (λ w is. record {
        read = λ from item good. c.spelled.ensures.read w.numbers w.mode from item good;
        good = λ from body item reads. c.spelled.ensures.answered w.numbers w.mode from body item is.session reads;
      })
      c.core_laws.ensures;
  plain = plain_law;
}
