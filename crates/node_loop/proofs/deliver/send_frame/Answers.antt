use Rattle.std.proofs.Common.{ℕ, List, ap, Err, ◌∙◌}
use Rattle.std.proofs.lemmas.Result.{err_from_is_err_and}
use Rattle.outside.specs.declared.link.LinkFault.{LinkFault}
use Rattle.node_loop.specs.Deeds.{sends}
use Rattle.node_loop.proofs.Taking.{given_one, given_short}
use Rattle.node_loop.proofs.deliver.send_frame.Goals as goal

pub returns : goal.returns
returns g c = record {
  sends = given_one _ _ _ _ _ _ _ _ (ap (λ (bytes : List ℕ). sends c.args.at c.args.to bytes) (c.as_slice.ensures ∙ c.in_ok-bytes.ensures)) c.send.ensures.ok c.send.ensures.err c.send.ensures.cause c.send.ensures.count;
}

pub returns-in_err-bytes : goal.returns-in_err-bytes
returns-in_err-bytes g c = record {
  sends =
      let fault = err_from_is_err_and c.from_residual.result c.from_residual.ensures.1 in
      rw (fault.1 ∙ ap (λ (x : LinkFault). Err x) fault.2) (given_short _ _ _ _);
}
