use Rattle.std.proofs.Common.{◌∙◌, ap, refl, not, ◌&&◌}
use Rattle.node_loop.proofs.Indexing.{leaves_one, all_left}
use Rattle.node_loop.specs.WaitersStanding.{is_listed, is_same_caller}
use Rattle.node_loop.proofs.waiting.Waiters.leave.Goals as goal

pub loop-asked-preserved : goal.loop-asked-preserved
loop-asked-preserved c = λ ws is.
    leaves_one c.loop-asked.self c.leave_one.new.self c.args.at c.args.conn c.in-Some.asked ws (c.loop-asked.invariant ws is)
    c.in-Some.ensures.first c.leave_one.ensures.leaves
    (λ k a. ap (λ index. is_listed index k a) c.leave_one.ensures.index ∙ c.in-Some.ensures.removes k a)

pub returns : goal.returns
returns c = record {
  leaves = λ ws is.
      all_left c.loop-asked.self (record { by_request = c.loop-asked.self.by_request; index = c.forget.new.self }) c.args.at c.args.conn ws (c.loop-asked.invariant ws is)
      c.in_default.ensures.first refl
      (λ k a. c.forget.ensures.forgets k a ∙ ap (λ t. not (is_same_caller (record { at = c.args.at; conn = c.args.conn }) k) && t) (c.in_default.ensures.removes k a));
}
