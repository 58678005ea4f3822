use Rattle.std.proofs.Common.{ap, ◌∙◌}
use Rattle.command_log.specs.Rows.{position_of}
use Rattle.node_loop.proofs.Heres.{read_at, log_at}
use Rattle.node_loop.proofs.house.House.position_at.Goals as goal

pub returns : goal.returns
returns g c = record {
  position = λ w es numbers at stand number.
      let is = read_at _ w es numbers c.args.self.now.replicas.items c.deref.result.now c.args.place at c.in_ok-get.field-0.now stand c.deref.ensures.value number c.in_ok-get.ensures.lookup.3.0 c.in_ok-get.ensures.lookup.1 in
      c.find.ensures.value ∙ ap (λ rows. position_of rows c.args.asked.client c.args.asked.request) (log_at _ w es at c.in_ok-get.field-0.now c.log.result.now.rows is (c.log.ensures.live w.start));
}
