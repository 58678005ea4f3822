use Rattle.std.proofs.Common.{◌∙◌, ap, sym, []}
use Rattle.ritas_core.specs.Order.{inserted}
use Rattle.ritas_core.proofs.SendSteps.{ordered_more}
use Rattle.ritas_core.proofs.send.in_order.Goals as goal

pub loop-m-preserved : goal.loop-m-preserved
loop-m-preserved c =
    c.in_ok-put_in.ensures ∙ ap (λ ms. inserted ms c.in-Some.m) c.loop-m.invariant ∙ sym (ordered_more [] c.loop-m.yielded c.in-Some.m)
