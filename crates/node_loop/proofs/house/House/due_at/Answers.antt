use Rattle.std.proofs.Common.{sym}
use Rattle.std.proofs.lemmas.Bool.{ltb-true}
use Rattle.node_loop.proofs.Heres.{read_at}
use Rattle.node_loop.proofs.Wishing.{keeper_at}
use Rattle.node_loop.proofs.house.House.due_at.Goals as goal

pub returns : goal.returns
returns g c = record {
  first = λ w es numbers ws p at stands number.
      let keeper = c.in_ok-get.field-0.now in
      let rep = c.in_ok-get-2.field-0.now in
      c.due.ensures.first w es at p stands.here.kind
      (read_at _ w es numbers c.args.self.now.replicas.items c.deref-2.result.now c.args.place at rep stands.here c.deref-2.ensures.value number (ltb-true _ _ (sym c.in_ok-get-2.ensures.lookup.0)) c.in_ok-get-2.ensures.lookup.1)
      (keeper_at _ w es numbers c.args.self.now ws p c.deref.result.now c.args.place at keeper keeper stands c.deref.ensures.value number (ltb-true _ _ (sym c.in_ok-get.ensures.lookup.0)) c.in_ok-get.ensures.lookup.1);
}
