use Rattle.std.proofs.Common.{Err, ◌∷◌, [], refl, ap, ◌∙◌}
use Rattle.std.proofs.lemmas.Result.{err_from_is_err_and}
use Rattle.outside.specs.Links.{Starts}
use Rattle.outside.specs.declared.link.LinkFault.{LinkFault}
use Rattle.request_submit.specs.Submitting.{sent_to_each}
use Rattle.outside.specs.LinkCallsLaws.{did_one, did_fails, did_then}
use Rattle.request_submit.proofs.handing.hand_in.Goals as goal

pub returns : goal.returns
returns g c =
    let starts = Starts c.args.plan.now in
    record {
      handed = did_then _ (starts ∷ []) (sent_to_each c.args.count c.args.message.now) _ _ _ _ _ _ _
          (did_one _ starts starts _ _ _ _ _ refl c.in_ok-start.ensures.ok c.in_ok-start.ensures.err c.in_ok-start.ensures.cause c.in_ok-start.ensures.count) c.send_to_each.ensures.sent;
    }

pub returns-in_err-start : goal.returns-in_err-start
returns-in_err-start g c =
    let starts = Starts c.args.plan.now in
    let fault = err_from_is_err_and c.from_residual.result c.from_residual.ensures.1 in
    record {
      handed = rw (fault.1 ∙ ap (λ (x : LinkFault). Err x) fault.2)
          (did_fails _ (starts ∷ []) (sent_to_each c.args.count c.args.message.now) _ _ _ _ _
          (did_one _ starts starts _ _ _ _ _ refl c.in_err-start.ensures.ok c.in_err-start.ensures.err c.in_err-start.ensures.cause c.in_err-start.ensures.count));
    }
