use Rattle.std.proofs.Common.{ap, Err, ◌∙◌}
use Rattle.std.proofs.lemmas.Result.{err_from_is_err_and}
use Rattle.outside.specs.declared.link.LinkFault.{LinkFault}
use Rattle.node_loop.specs.Standing.{frame_by}
use Rattle.node_loop.proofs.Taking.{given_none, each_given, each_stops}
use Rattle.node_loop.proofs.deliver.send_all.Goals as goal

pub loop-frame-init : goal.loop-frame-init
loop-frame-init g c = given_none _ _ _

pub loop-frame-preserved : goal.loop-frame-preserved
loop-frame-preserved g c =
    each_given (frame_by c.args.at) c.args.frames.now c.loop-frame.frame-index c.frame-item.result c.frame-item.result _ _ _ _ _ _ _ c.loop-frame-test.true c.frame-item.is c.loop-frame.invariant
    c.in_ok-send_frame.ensures.sends

pub returns-in_err-send_frame : goal.returns-in_err-send_frame
returns-in_err-send_frame g c = record {
  sends =
      let fault = err_from_is_err_and c.from_residual.result c.from_residual.ensures.1 in
      rw (fault.1 ∙ ap (λ (x : LinkFault). Err x) fault.2)
      (each_stops (frame_by c.args.at) c.args.frames.now c.loop-frame.frame-index c.frame-item.result c.frame-item.result _ _ _ _ _ _ _ _ c.loop-frame-test.true c.frame-item.is c.loop-frame.invariant
      c.in_err-send_frame.ensures.sends);
}
