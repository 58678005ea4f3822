use Rattle.std.proofs.Common.{Err, ap, ◌∙◌}
use Rattle.std.proofs.lemmas.Result.{err_from_is_err_and}
use Rattle.outside.specs.declared.link.LinkFault.{LinkFault}
use Rattle.node_loop.proofs.Grouping.{frames_fail, more_fails, replies_then}
use Rattle.node_loop.proofs.deliver.send_out.Goals as goal

pub returns-in_err-send_all : goal.returns-in_err-send_all
returns-in_err-send_all g c = record {
  sends = λ w es numbers ws p stands fits.
      let fault = err_from_is_err_and c.from_residual.result c.from_residual.ensures.1 in
      rw (fault.1 ∙ ap (λ (x : LinkFault). Err x) fault.2)
      (frames_fail _ p.keeping c.args.output.now _ _ _ _ _ _ c.as_slice.ensures.value c.in_err-send_all.ensures.sends);
}

pub returns-in_err-send_more : goal.returns-in_err-send_more
returns-in_err-send_more g c = record {
  sends = λ w es numbers ws p stands fits.
      let fault = err_from_is_err_and c.from_residual-in_err-send_more.result c.from_residual-in_err-send_more.ensures.1 in
      rw (fault.1 ∙ ap (λ (x : LinkFault). Err x) fault.2)
      (more_fails _ p.keeping c.args.output.now _ _ _ _ _ _ _ _ c.as_slice.ensures.value c.in_ok-send_all.ensures.sends (c.in_err-send_more.ensures.sends w es numbers ws p stands fits));
}

pub returns : goal.returns
returns g c = record {
  sends = λ w es numbers ws p stands fits.
      replies_then _ p.keeping c.args.output.now _ _ _ _ _ _ _ _ _ _ _ c.as_slice.ensures.value c.as_slice-2.ensures.value c.in_ok-send_all.ensures.sends
      (c.in_ok-send_more.ensures.sends w es numbers ws p stands fits) c.reply_all.ensures.replies;
}
