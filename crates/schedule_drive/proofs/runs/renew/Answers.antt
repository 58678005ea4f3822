use Rattle.std.proofs.Common.{List, ◌++◌, map, get_or, refl, sym, ◌∙◌, ap, ap₂, subst}
use Rattle.std.proofs.lemmas.List.{append-nil, take_all, drop_all}
use Rattle.schedule_replay.specs.Layers.{layers_by}
use Rattle.schedule_stage.specs.Worlds.{world_in}
use Rattle.world_model.specs.declared.player.Player.TheVariants.{Correct}
use Rattle.schedule_drive.specs.declared.runs.Run.{Run}
use Rattle.schedule_drive.specs.declared.runs.Run.TheVariants.{Turns}
use Rattle.schedule_drive.specs.Runs.{renewed, IsPlayerRun}
use Rattle.schedule_drive.proofs.Running.{listed_at, still_at, changed_next}
use Rattle.schedule_drive.proofs.runs.renew.Goals as goal

pub loop-run-init : goal.loop-run-init
loop-run-init g c = λ p what steps stands are. refl

pub loop-run-preserved : goal.loop-run-preserved
loop-run-preserved g c = λ p what steps stands are.
    let w = world_in (layers_by g.S.Service.stands g.S.Service.rules g.S.Service.shown g.E.Broadcast.stands g.E.Broadcast.rules g.E.Broadcast.shown) p in
    let so_far = c.loop-run.invariant p what steps stands are in
    let i = c.loop-run.run-index in
    let nobody = Turns (Correct 0) 0 in
    let same = ap (λ (l : List Run). get_or l i nobody) so_far ∙ still_at (renewed w p steps) c.args.runs.now i nobody in
    let player = subst (IsPlayerRun w p) (sym same) (are (get_or c.args.runs.now i nobody) (listed_at c.args.runs.now i nobody c.loop-run-test.true)) in
    changed_next (renewed w p steps) c.args.runs.now c.loop-run.runs i c.renewed.result nobody c.loop-run-test.true c.loop-run.auto.runs so_far (c.renewed.ensures p what steps stands player)

pub returns : goal.returns
returns g c = λ p what steps stands are.
    let w = world_in (layers_by g.S.Service.stands g.S.Service.rules g.S.Service.shown g.E.Broadcast.stands g.E.Broadcast.rules g.E.Broadcast.shown) p in
    c.loop-run.invariant p what steps stands are
    ∙ ap₂ (λ (a b : List Run). map (renewed w p steps) a ++ b) (take_all c.loop-run.run-index c.args.runs.now c.loop-run-test.false) (drop_all c.loop-run.run-index c.args.runs.now c.loop-run-test.false)
    ∙ append-nil (map (renewed w p steps) c.args.runs.now)
