use Rattle.std.proofs.Common.{Option, ap, ◌∙◌}
use Rattle.std.specs.declared.cmp.Ordering.{Ordering}
use Rattle.std.specs.Ordering.{is_lt, is_some_and}
use Rattle.ritas_core.proofs.SendSteps.{keys_agree}
use Rattle.ritas_core.proofs.send.comes_before.Goals as goal

pub returns : goal.returns
returns c =
    let m = c.args.m.now in
    let other = c.args.other.now in
    c.lt.ensures ∙ ap (λ (o : Option Ordering). is_some_and is_lt o) (keys_agree m.slot other.slot m.kind other.kind m.to other.to)
