use Rattle.node_loop.specs.Serving.{so_far, after_from, Closed}
use Rattle.node_loop.proofs.Grouping.{holds_spare, joins_spare}
use Rattle.node_loop.proofs.house.House.join_closing.Goals as goal

pub returns : goal.returns
returns g c = record {
  joins = λ w past numbers start newest under joins correct.
      let s = after_from w past start newest in
      c.gather.ensures.joins w past numbers start (Closed c.args.at c.args.epoch) newest
      (c.in_ok-close.ensures.comes w (so_far past s) numbers s.waiting s.peers under.stands correct) (rw c.output-output.ensures.same (holds_spare w past start newest c.args.group.now c.output-output.new.self.spare under.holds))
      (rw c.output-output.ensures.same (joins_spare newest _ c.args.group.now c.output-output.new.self.spare joins));
}
