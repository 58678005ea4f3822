use Rattle.std.proofs.Common.{ap, Err, ◌∙◌, length, arith}
use Rattle.std.proofs.lemmas.Result.{err_from_is_err_and}
use Rattle.outside.specs.declared.link.LinkFault.{LinkFault}
use Rattle.node_loop.specs.PeersStanding.{kept_by}
use Rattle.node_loop.proofs.Taking.{none_before, one_before, one_stops, all_before}
use Rattle.node_loop.proofs.deliver.send_batch.Goals as goal

pub loop-kept-init : goal.loop-kept-init
loop-kept-init g c = none_before _ (kept_by c.args.at c.args.peer) _ _ _

pub loop-kept-preserved : goal.loop-kept-preserved
loop-kept-preserved g c =
    one_before _ (kept_by c.args.at c.args.peer) _ _ _ _ _ _ _ _ _ _ c.loop-kept.invariant c.in-Some.ensures c.in_ok-send_frame.ensures.sends

pub loop-kept-smaller : goal.loop-kept-smaller
loop-kept-smaller g c = omega (arith, ap length c.in-Some.ensures)

pub returns-in_err-send_frame : goal.returns-in_err-send_frame
returns-in_err-send_frame g c = record {
  sends =
      let fault = err_from_is_err_and c.from_residual.result c.from_residual.ensures.1 in
      rw (fault.1 ∙ ap (λ (x : LinkFault). Err x) fault.2)
      (one_stops _ (kept_by c.args.at c.args.peer) _ _ _ _ _ _ _ _ _ _ _ c.loop-kept.invariant c.in-Some.ensures c.in_err-send_frame.ensures.sends);
}

pub returns : goal.returns
returns g c = record { sends = all_before _ (kept_by c.args.at c.args.peer) _ _ _ _ _ _ c.loop-kept.invariant c.in_default.ensures }
