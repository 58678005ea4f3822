use Rattle.std.proofs.Common.{◌≡◌, ◌≤◌, ℕ, List, length}
use Rattle.ritas_base.specs.declared.plan.Plan.{Plan}
use Rattle.ritas_base.specs.declared.what.DriveWhat.{DriveWhat}
use Rattle.ritas_base.specs.Numbers.{IsSession}
use Rattle.layer_api.specs.Runs.{Has}
use Rattle.schedule_replay.specs.Layers.{layers_by}
use Rattle.world_model.specs.declared.player.Player.{Player}
use Rattle.world_model.specs.Players.{Step}
use Rattle.schedule_plan.specs.Plans.{players_of}
use Rattle.schedule_plan.specs.Picks.{Passed}
use Rattle.schedule_stage.specs.Stage.{IsStage}
use Rattle.schedule_stage.specs.Worlds.{world_in}
use Rattle.schedule_drive.specs.Pickers.{IsSender, counts_in}
use Rattle.schedule_drive.proofs.Senders.{IsPart}
use Rattle.schedule_drive.proofs.sender.Sender.refresh.Given as goal

abbrev pub invariant-loop-at : goal.invariant-loop-at
invariant-loop-at g l =
    let m = layers_by g.S.Service.stands g.S.Service.rules g.S.Service.shown g.E.Broadcast.stands g.E.Broadcast.rules g.E.Broadcast.shown in
    record {
      player : l.self.player ≡ l.fn.self.player;
      many : length l.self.links.items ≡ length l.fn.self.links.items;
      part : (p : Plan) (what : DriveWhat) (steps : List Step) (count : Player → ℕ) (passed : List Passed) → IsStage m p what l.stage steps → IsSession p.p → Has (players_of p) l.fn.self.player
          → IsSender p count passed l.fn.self → ((y : Player) → count y ≤ counts_in (world_in m p) p steps l.fn.self.player y)
          → IsPart p count (counts_in (world_in m p) p steps l.fn.self.player) passed l.self l.at;
    }
