-- Nothing in a plan's schedule is forged.
use Rattle.std.proofs.Common.{◌≡◌, ◌+◌, true, List, subst}
use Rattle.ritas_base.specs.declared.plan.Plan.{Plan}
use Rattle.ritas_base.specs.declared.what.DriveWhat.{DriveWhat}
use Rattle.ritas_base.specs.Numbers.{IsSession}
use Rattle.keyed_channel.specs.Keyed.{CoinSeed}
use Rattle.keyed_channel.specs.KeyRow.{KeyRow}
use Rattle.layer_api.specs.Broadcast.{BroadcastRules}
use Rattle.layer_api.specs.Service.{ServiceRules}
use Rattle.ritas_core.specs.Rules.{HasForm}
use Rattle.ritas_core.specs.Stands.{Meaning}
use Rattle.schedule_file.specs.declared.header.Header.{Header}
use Rattle.schedule_replay.specs.Layers.{setting_by}
use Rattle.world_model.specs.EveryWorld.{IsWorld}
use Rattle.world_model.specs.Players.{Step}
use Rattle.schedule_plan.specs.Laws.{DriveLaw}
use Rattle.schedule_plan.specs.Schedule.{world_by, schedule, step_limit}
use Rattle.schedule_stage.specs.declared.stage.Finished.{Finished}
use Rattle.schedule_stage.specs.Stage.{IsFinished}
use Rattle.schedule_drive.proofs.Ends.{IsUnforged}

pub unforged_is : (service : ServiceRules) (other : BroadcastRules) → DriveLaw service other → (p : Plan) → IsSession p.p → service.serves p.mode.root ≡ true
    → HasForm p.mode other → IsUnforged (world_by service other p) p
unfolding schedule
unforged_is service other law p session serves form = let both = law p (step_limit + 1) session serves form in record { law = both.0; audit = both.1 }

-- of what came of its steps
pub kind_of : {S E : Type 0} (m : Meaning S E CoinSeed KeyRow) (p : Plan) (what : DriveWhat) (x : Finished S E) (steps : List Step)
    → IsFinished m p what x steps → IsWorld m.service m.cast (world_by m.service m.cast p)
kind_of m p what x steps finished = subst (λ (h : Header). IsWorld m.service m.cast (setting_by m.service m.cast h)) finished.header finished.played.world.kind

pub made_unforged : {S E : Type 0} (m : Meaning S E CoinSeed KeyRow) → DriveLaw m.service m.cast → (p : Plan) (what : DriveWhat) (x : Finished S E) (steps : List Step)
    → IsFinished m p what x steps → IsUnforged (world_by m.service m.cast p) p
made_unforged m law p what x steps finished = let kind = kind_of m p what x steps finished in unforged_is m.service m.cast law p kind.session kind.serves kind.form
