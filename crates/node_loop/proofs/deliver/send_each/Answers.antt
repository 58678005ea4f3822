use Rattle.std.proofs.Common.{sym, subst, take_all, Err, ap, ◌∙◌}
use Rattle.std.proofs.lemmas.List.Elements.{All-from_recursion}
use Rattle.std.proofs.lemmas.Result.{err_from_is_err_and}
use Rattle.node_loop.proofs.Taking.{given_none}
use Rattle.outside.specs.declared.link.LinkFault.{LinkFault}
use Rattle.node_loop.specs.declared.output.Output.{Output}
use Rattle.node_loop.specs.Groups.{FitsPeers, acts_by}
use Rattle.node_loop.proofs.Grouping.{acts_go, acts_fail}
use Rattle.node_loop.proofs.deliver.send_each.Goals as goal

pub loop-output-init : goal.loop-output-init
loop-output-init g c = λ w es numbers ws p stands fit. given_none _ _ _

pub loop-output-preserved : goal.loop-output-preserved
loop-output-preserved g c = λ w es numbers ws p stands fit.
    let outputs = c.args.outputs.now in
    let output : Output = c.output-item.result in
    let fits = subst (λ (o : Output). FitsPeers w p.keeping o.at o.more) (sym c.output-item.is)
    (All-from_recursion (λ o. FitsPeers w p.keeping o.at o.more) outputs fit c.loop-output.output-index output c.loop-output-test.true) in
    acts_go (acts_by p.keeping) outputs c.loop-output.output-index output output _ _ _ _ _ _ _ c.loop-output-test.true c.output-item.is
    (c.loop-output.invariant w es numbers ws p stands fit) (c.in_ok-send_out.ensures.sends w es numbers ws p stands fits)

pub returns-in_err-send_out : goal.returns-in_err-send_out
returns-in_err-send_out g c = record {
  sends = λ w es numbers ws p stands fit.
      let outputs = c.args.outputs.now in
      let output : Output = c.output-item.result in
      let fits = subst (λ (o : Output). FitsPeers w p.keeping o.at o.more) (sym c.output-item.is)
      (All-from_recursion (λ o. FitsPeers w p.keeping o.at o.more) outputs fit c.loop-output.output-index output c.loop-output-test.true) in
      let fault = err_from_is_err_and c.from_residual.result c.from_residual.ensures.1 in
      rw (fault.1 ∙ ap (λ (x : LinkFault). Err x) fault.2)
      (acts_fail (acts_by p.keeping) outputs c.loop-output.output-index output output _ _ _ _ _ _ _ _ c.loop-output-test.true c.output-item.is
      (c.loop-output.invariant w es numbers ws p stands fit) (c.in_err-send_out.ensures.sends w es numbers ws p stands fits));
}

pub returns : goal.returns
returns g c = record {
  sends = λ w es numbers ws p stands fit.
      let said = c.loop-output.invariant w es numbers ws p stands fit in
      rw (take_all c.loop-output.output-index c.args.outputs.now c.loop-output-test.false) at said;
}
