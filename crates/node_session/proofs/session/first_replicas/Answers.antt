use Rattle.std.proofs.Common.{[]}
use Rattle.std.proofs.lemmas.Result.{IfOk-weaker}
use Rattle.schedule_replay.specs.Layers.{setting_by}
use Rattle.node_session.proofs.Here.{are_here}
use Rattle.node_session.proofs.session.first_replicas.Goals as goal

pub returns : goal.returns
returns g c =
    let h = c.args.header.now in
    let w = setting_by g.S.Service.rules g.E.Broadcast.rules h in
    let world = c.in_ok-world.ensures in
    record {
      here = IfOk-weaker c.into_replicas.result _ _
          (λ replicas stand. are_here _ w [] replicas.items world.kind world.going c.requires.atomic stand)
          (c.into_replicas.ensures.is w [] world);
    }
