use Rattle.node_loop.proofs.Heres.{as_here, nowhere, read_at}
use Rattle.node_loop.proofs.house.House.is_crowded.Goals as goal

pub returns-in-Some : goal.returns-in-Some
returns-in-Some g c = record {
  crowded = λ w es numbers at stand number.
      let is = read_at _ w es numbers c.args.self.now.replicas.items c.deref.result.now c.args.place at c.in-Some.replica.now stand c.deref.ensures.value number c.in-Some.ensures.lookup.3.0 c.in-Some.ensures.lookup.1 in
      c.is_crowded.ensures.crowded w es at stand.kind is;
}

pub returns-in-None : goal.returns-in-None
returns-in-None g c = record {
  crowded = λ w es numbers at stand number.
      absurd (nowhere _ w es numbers c.deref.result.now c.args.place at (as_here _ w es numbers c.args.self.now.replicas.items c.deref.result.now c.deref.ensures.value stand) number c.in-None.ensures.lookup.3);
}
