use Rattle.std.proofs.Common.{◌++◌, reverse, sym, subst}
use Rattle.schedule_replay.specs.Layers.{layers_by}
use Rattle.schedule_stage.specs.Stage.{Reaches}
use Rattle.schedule_stage.specs.Worlds.{world_in}
use Rattle.schedule_drive.specs.declared.runs.Run.{Run}
use Rattle.schedule_drive.specs.Runs.{run_steps, IsPlayerRun}
use Rattle.schedule_drive.proofs.runs.take_run.Goals as goal

pub returns-in-Turns : goal.returns-in-Turns
returns-in-Turns g c = λ p what steps stands is.
    let m = layers_by g.S.Service.stands g.S.Service.rules g.S.Service.shown g.E.Broadcast.stands g.E.Broadcast.rules g.E.Broadcast.shown in
    subst (λ (run : Run). Reaches m p what c.take_turns.new.stage (reverse (run_steps run) ++ steps) c.take_turns.result) (sym c.in-Turns.is)
    (c.take_turns.ensures p what steps stands (subst (IsPlayerRun (world_in m p) p) c.in-Turns.is is))

pub returns-in-Frames : goal.returns-in-Frames
returns-in-Frames g c = λ p what steps stands is.
    let m = layers_by g.S.Service.stands g.S.Service.rules g.S.Service.shown g.E.Broadcast.stands g.E.Broadcast.rules g.E.Broadcast.shown in
    subst (λ (run : Run). Reaches m p what c.take_frames.new.stage (reverse (run_steps run) ++ steps) c.take_frames.result) (sym c.in-Frames.is)
    (c.take_frames.ensures p what steps stands (subst (IsPlayerRun (world_in m p) p) c.in-Frames.is is))
