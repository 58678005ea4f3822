use Rattle.std.proofs.Common.{length, nat_le, ap, ◌∙◌}
use Rattle.node_loop.proofs.Heres.{log_at}
use Rattle.node_loop.proofs.house.has_rows.Goals as goal

pub returns : goal.returns
returns g c = record {
  enough = λ w es i is. ap (nat_le c.args.count) (c.len.ensures ∙ ap length (log_at _ w es i c.args.replica.now c.log.result.now.rows is (c.log.ensures.live w.start)));
}
