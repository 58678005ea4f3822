use Rattle.ritas_core.proofs.CoreLaws.{core_laws}
use Rattle.ritas_core.proofs.Due as due
use Rattle.ritas_core.proofs.Once as once
use Rattle.ritas_core.proofs.laws.new_is_due.Goals as goal

pub returns : goal.returns
returns g c = record {
  due = λ r is h e m.
      due.new_is_due r (core_laws g.S.Service.rules g.E.Broadcast.rules r is g.met.S.Service.word_laws g.met.E.Broadcast.value_laws) h e m;
  order = due.new_in_order;
  once = λ r is h e met.
      once.new_once r (core_laws g.S.Service.rules g.E.Broadcast.rules r is g.met.S.Service.word_laws g.met.E.Broadcast.value_laws) h e met;
  receiver = λ r is h e met m there.
      once.new_for r (core_laws g.S.Service.rules g.E.Broadcast.rules r is g.met.S.Service.word_laws g.met.E.Broadcast.value_laws) h e met m there;
}
