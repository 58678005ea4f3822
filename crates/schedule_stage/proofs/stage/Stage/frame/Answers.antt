use Rattle.schedule_replay.specs.Layers.{layers_by}
use Rattle.schedule_stage.proofs.Staging.{play_of}
use Rattle.schedule_stage.proofs.stage.Stage.frame.Goals as goal

pub returns-in-Face : goal.returns-in-Face
returns-in-Face g c = rw c.in-Face.is (λ p what steps stands player below apart.
    let m = layers_by g.S.Service.stands g.S.Service.rules g.S.Service.shown g.E.Broadcast.stands g.E.Broadcast.rules g.E.Broadcast.shown in
    c.frame.ensures p steps stands.faces (play_of m p what c.args.self.now steps stands) player.0 player.1 below apart)
