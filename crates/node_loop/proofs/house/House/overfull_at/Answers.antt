use Rattle.std.proofs.Common.{sym}
use Rattle.std.proofs.lemmas.Bool.{ltb-true}
use Rattle.node_loop.proofs.Wishing.{keeper_at}
use Rattle.node_loop.proofs.house.House.overfull_at.Goals as goal

pub returns : goal.returns
returns g c = record {
  over = λ w es numbers ws p at stands number.
      let keeper = c.in_ok-get.field-0.now in
      c.overfull.ensures.over w at p
      (keeper_at _ w es numbers c.args.self.now ws p c.deref.result.now c.args.place at keeper keeper stands c.deref.ensures.value number (ltb-true _ _ (sym c.in_ok-get.ensures.lookup.0)) c.in_ok-get.ensures.lookup.1);
}
