use Rattle.node_loop.specs.Serving.{so_far, after_from, Took}
use Rattle.node_loop.proofs.Grouping.{holds_spare, joins_spare}
use Rattle.node_loop.proofs.house.House.join_item.Goals as goal

pub returns : goal.returns
returns g c = record {
  joins = λ w past numbers start newest under joins.
      let s = after_from w past start newest in
      c.gather.ensures.joins w past numbers start (Took c.args.item) newest
      (c.in_ok-take.ensures.comes w (so_far past s) numbers s.waiting s.peers under.stands) (rw c.output-output.ensures.same (holds_spare w past start newest c.args.group.now c.output-output.new.self.spare under.holds))
      (rw c.output-output.ensures.same (joins_spare newest _ c.args.group.now c.output-output.new.self.spare joins));
  fits = λ w past numbers start newest under. c.in_ok-take.ensures.fits w (so_far past (after_from w past start newest)) numbers under.stands.here;
}

pub returns-in_err-take-clause-fits : goal.returns-in_err-take-clause-fits
returns-in_err-take-clause-fits g c = λ w past numbers start newest under.
    c.in_err-take.ensures.fits w (so_far past (after_from w past start newest)) numbers under.stands.here
