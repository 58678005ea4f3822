use Rattle.world_model.proofs.Fair.{AreLayers}
use Rattle.world_model.proofs.Unforged.{forging_law, played_audit}
use Rattle.world_model.proofs.Short.{short_law}
use Rattle.world_model.proofs.played.forges_nothing.Goals as goal

pub returns : goal.returns
returns g c =
    let layers : AreLayers g.S.Service.rules g.E.Broadcast.rules = record {
      values = g.met.E.Broadcast.value_laws;
      one_value = g.met.E.Broadcast.one_value;
      entries = g.met.E.Broadcast.entry_laws;
      one_of_bracha = c.one_value.ensures;
      words = g.met.S.Service.word_laws;
      opens_as_sealed = c.opens_as_sealed.ensures;
      opened_from_peer = c.opened_from_peer.ensures;
      sealed_length = c.sealed_length.ensures;
      codec = λ w is. record {
        read = λ from item good. c.spelled.ensures.read w.numbers w.mode from item good;
        good = λ from body item reads. c.spelled.ensures.answered w.numbers w.mode from body item is.session reads;
      };
      short = c.spelled.ensures.short;
      core = c.core_laws.ensures;
    } in
    record {
      law = forging_law g.S.Service.rules g.E.Broadcast.rules layers;
      audit = played_audit g.S.Service.rules g.E.Broadcast.rules layers;
      short = short_law g.S.Service.rules g.E.Broadcast.rules layers;
    }
