use Rattle.std.proofs.Common.{◌+◌, drop, get_or, refl}
use Rattle.std.specs.List.{flat_map}
use Rattle.std.proofs.lemmas.List.{at_drop_more, at_drop_all}
use Rattle.std.proofs.lemmas.Result.{err_from_is_err_and}
use Rattle.schedule_replay.specs.Layers.{layers_by}
use Rattle.world_model.specs.declared.player.Player.TheVariants.{Correct}
use Rattle.schedule_drive.specs.declared.runs.Run.TheVariants.{Turns}
use Rattle.schedule_drive.specs.Runs.{run_steps}
use Rattle.schedule_drive.proofs.Running.{listed_at}
use Rattle.schedule_drive.proofs.Toward.{arrives, comes_nearer, halts_on_way}
use Rattle.schedule_drive.proofs.runs.take_runs.Goals as goal

pub loop-run-init : goal.loop-run-init
loop-run-init g c = λ p what steps stands are. record { steps = steps; stands = stands; whole = refl }

pub loop-run-preserved : goal.loop-run-preserved
loop-run-preserved g c = λ p what steps stands are.
    let m = layers_by g.S.Service.stands g.S.Service.rules g.S.Service.shown g.E.Broadcast.stands g.E.Broadcast.rules g.E.Broadcast.shown in
    let toward = c.loop-run.invariant p what steps stands are in
    let run = get_or c.args.runs.now c.loop-run.run-index (Turns (Correct 0) 0) in
    comes_nearer m p what c.loop-run.stage _ (run_steps run) _ _ _ (at_drop_more (flat_map run_steps) c.args.runs.now c.loop-run.run-index (Turns (Correct 0) 0) c.loop-run-test.true) toward
    (c.in_ok-take_run.ensures p what toward.steps toward.stands (are run (listed_at c.args.runs.now c.loop-run.run-index (Turns (Correct 0) 0) c.loop-run-test.true)))

pub returns-in_err-take_run : goal.returns-in_err-take_run
returns-in_err-take_run g c = λ p what steps stands are.
    let m = layers_by g.S.Service.stands g.S.Service.rules g.S.Service.shown g.E.Broadcast.stands g.E.Broadcast.rules g.E.Broadcast.shown in
    let toward = c.loop-run.invariant p what steps stands are in
    let run = get_or c.args.runs.now c.loop-run.run-index (Turns (Correct 0) 0) in
    let q = err_from_is_err_and c.from_residual.result c.from_residual.ensures.1 in
    rw (q.1, q.2) (halts_on_way m p what c.loop-run.stage (run_steps run) (flat_map run_steps (drop (c.loop-run.run-index + 1) c.args.runs.now)) _ _ _
    (at_drop_more (flat_map run_steps) c.args.runs.now c.loop-run.run-index (Turns (Correct 0) 0) c.loop-run-test.true) toward
    (c.in_err-take_run.ensures p what toward.steps toward.stands (are run (listed_at c.args.runs.now c.loop-run.run-index (Turns (Correct 0) 0) c.loop-run-test.true))))

pub returns : goal.returns
returns g c = λ p what steps stands are.
    let m = layers_by g.S.Service.stands g.S.Service.rules g.S.Service.shown g.E.Broadcast.stands g.E.Broadcast.rules g.E.Broadcast.shown in
    arrives m p what c.loop-run.stage _ _ (at_drop_all (flat_map run_steps) c.args.runs.now c.loop-run.run-index c.loop-run-test.false) (c.loop-run.invariant p what steps stands are)
