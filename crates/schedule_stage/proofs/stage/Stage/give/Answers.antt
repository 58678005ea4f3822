use Rattle.world_model.specs.declared.player.Player.TheVariants.{Correct, Face}
use Rattle.world_model.specs.Players.{Give}
use Rattle.schedule_replay.specs.Layers.{layers_by}
use Rattle.schedule_stage.specs.Worlds.{world_in}
use Rattle.schedule_stage.proofs.Steps.{input_happens, input_comes}
use Rattle.schedule_stage.proofs.stage.Stage.give.Goals as goal

pub returns-in-Correct : goal.returns-in-Correct
returns-in-Correct g c = rw c.in-Correct.is (λ p what steps stands player.
    let m = layers_by g.S.Service.stands g.S.Service.rules g.S.Service.shown g.E.Broadcast.stands g.E.Broadcast.rules g.E.Broadcast.shown in
    let i = c.in-Correct.i in
    c.happen.ensures p what steps (Give (Correct i) c.args.value) stands (input_happens (world_in m p) p steps stands.world.replicas.within i c.args.value player))

pub returns-in-Face : goal.returns-in-Face
returns-in-Face g c = rw c.in-Face.is (λ p what steps stands player.
    let m = layers_by g.S.Service.stands g.S.Service.rules g.S.Service.shown g.E.Broadcast.stands g.E.Broadcast.rules g.E.Broadcast.shown in
    let a = c.in-Face.a in
    c.tell.ensures p what steps (Give (Face a) c.args.value) stands (input_comes (world_in m p) p steps a c.args.value player))
