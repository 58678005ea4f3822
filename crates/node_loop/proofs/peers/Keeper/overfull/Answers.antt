use Rattle.std.proofs.Common.{true, false}
use Rattle.std.proofs.lemmas.Bool.{le-leb, lt-leb}
use Rattle.node_loop.proofs.Overfull.{over_by}
use Rattle.node_loop.proofs.peers.Keeper.overfull.Goals as goal

pub returns-then-bytes-most : goal.returns-then-bytes-most
returns-then-bytes-most c = record {
  over = λ w i p is.
      over_by w i p c.args.self.now c.in_ok-most.most c.all_bytes-bytes.result true is c.in_ok-most.ensures
      c.all_bytes-bytes.ensures (le-leb c.all_bytes-bytes.result c.in_ok-most.most c.if-bytes-most.true);
}

pub returns-else-bytes-most : goal.returns-else-bytes-most
returns-else-bytes-most c = record {
  over = λ w i p is.
      over_by w i p c.args.self.now c.in_ok-most.most c.all_bytes-bytes.result false is c.in_ok-most.ensures
      c.all_bytes-bytes.ensures (lt-leb c.all_bytes-bytes.result c.in_ok-most.most c.if-bytes-most.false);
}
