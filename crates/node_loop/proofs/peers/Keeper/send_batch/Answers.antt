use Rattle.std.proofs.Common.{◌<◌, arith}
use Rattle.node_loop.proofs.Sending.{both_of, answers_batch}
use Rattle.node_loop.proofs.peers.Keeper.send_batch.Goals as goal

pub returns : goal.returns
returns c = record {
  batch = λ w i p is.
      let below : c.args.peer < w.numbers.n = omega (arith, c.requires, is.kept.many) in
      both_of w i _ _ _ (answers_batch w i c.args.peer c.args.after c.args.end c.args.most c.reached-pending.result c.args.self.now c.note_pending.new.self p is below
      c.reached-pending.ensures c.note_pending.ensures.rest c.note_pending.ensures.pending);
}
