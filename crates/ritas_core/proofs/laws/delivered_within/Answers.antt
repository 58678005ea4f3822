use Rattle.ritas_core.proofs.CoreLaws.{core_laws}
use Rattle.ritas_core.proofs.Window as window
use Rattle.ritas_core.proofs.laws.delivered_within.Goals as goal

pub returns : goal.returns
returns g c = record {
  grammar = λ r is h met s out.
      window.delivered_right r (core_laws g.S.Service.rules g.E.Broadcast.rules r is g.met.S.Service.word_laws g.met.E.Broadcast.value_laws) h met s out;
  window = λ r is h met s one out.
      window.delivered_within r (core_laws g.S.Service.rules g.E.Broadcast.rules r is g.met.S.Service.word_laws g.met.E.Broadcast.value_laws) h met s one out;
}
