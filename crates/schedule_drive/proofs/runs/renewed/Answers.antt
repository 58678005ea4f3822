use Rattle.std.proofs.Common.{sym, ◌∙◌, ap, subst}
use Rattle.schedule_replay.specs.Layers.{layers_by}
use Rattle.schedule_stage.specs.Worlds.{world_in}
use Rattle.schedule_drive.specs.declared.runs.Run.TheVariants.{Turns}
use Rattle.schedule_drive.specs.Runs.{renewed, IsPlayerRun}
use Rattle.schedule_drive.proofs.Running.{made_is}
use Rattle.schedule_drive.proofs.runs.renewed.Goals as goal

pub returns-in-Turns : goal.returns-in-Turns
returns-in-Turns g c = λ p what steps stands is.
    let w = world_in (layers_by g.S.Service.stands g.S.Service.rules g.S.Service.shown g.E.Broadcast.stands g.E.Broadcast.rules g.E.Broadcast.shown) p in
    let player = subst (IsPlayerRun w p) c.in-Turns.is is in
    ap (Turns c.in-Turns.y) (c.waiting.ensures p what steps stands player) ∙ ap (renewed w p steps) (sym c.in-Turns.is)

pub returns-in-Frames : goal.returns-in-Frames
returns-in-Frames g c = λ p what steps stands is.
    let w = world_in (layers_by g.S.Service.stands g.S.Service.rules g.S.Service.shown g.E.Broadcast.stands g.E.Broadcast.rules g.E.Broadcast.shown) p in
    let linked = subst (IsPlayerRun w p) c.in-Frames.is is in
    made_is w p steps c.in-Frames.x c.in-Frames.y c.in-Frames.field-2 c.in-Frames.end c.number_of.result c.made.result (c.number_of.ensures p.attack) linked
    (c.made.ensures p what steps stands linked.0) ∙ ap (renewed w p steps) (sym c.in-Frames.is)
