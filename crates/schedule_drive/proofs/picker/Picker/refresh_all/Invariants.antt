use Rattle.std.proofs.Common.{◌≡◌, ◌≤◌, List, length}
use Rattle.ritas_base.specs.declared.plan.Plan.{Plan}
use Rattle.ritas_base.specs.declared.what.DriveWhat.{DriveWhat}
use Rattle.ritas_base.specs.Numbers.{IsSession}
use Rattle.schedule_replay.specs.Layers.{layers_by}
use Rattle.world_model.specs.declared.player.Player.{Player}
use Rattle.world_model.specs.Players.{Step}
use Rattle.schedule_plan.specs.Picks.{Passed}
use Rattle.schedule_stage.specs.Stage.{IsStage}
use Rattle.schedule_stage.specs.Worlds.{world_in}
use Rattle.schedule_drive.specs.Pickers.{IsPicker, KnownFrames, counts_in}
use Rattle.schedule_drive.proofs.Refreshing.{IsPartly}
use Rattle.schedule_drive.proofs.picker.Picker.refresh_all.Given as goal

abbrev pub invariant-loop-place : goal.invariant-loop-place
invariant-loop-place g l =
    let m = layers_by g.S.Service.stands g.S.Service.rules g.S.Service.shown g.E.Broadcast.stands g.E.Broadcast.rules g.E.Broadcast.shown in
    record {
      many : length l.self.senders.items ≡ length l.fn.self.senders.items;
      part : (p : Plan) (what : DriveWhat) (steps : List Step) (old : KnownFrames) (passed : List Passed) → IsStage m p what l.stage steps → IsSession p.p
          → IsPicker p old.waits old.counts passed l.fn.self → ((x y : Player) → old.counts x y ≤ counts_in (world_in m p) p steps x y) → IsPartly (world_in m p) p steps passed l.self l.place;
    }
