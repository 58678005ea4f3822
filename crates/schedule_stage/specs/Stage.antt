-- What a stage stands for, and what comes of its calls. Lists of steps have the newest first.
use Rattle.std.specs.Prelude.{◌≡◌, ℕ, List, Result, Ok, Err, None}
use Rattle.ritas_base.specs.declared.plan.Plan.{Plan}
use Rattle.ritas_base.specs.declared.what.DriveWhat.{DriveWhat}
use Rattle.ritas_base.specs.declared.what.DriveWhat.TheVariants as drives
use Rattle.keyed_channel.specs.Keyed.{CoinSeed}
use Rattle.keyed_channel.specs.KeyRow.{KeyRow}
use Rattle.ritas_core.specs.Stands.{Meaning}
use Rattle.schedule_file.specs.ReadHeader.{heading}
use Rattle.schedule_file.specs.Spelling.{FrontOf, IsHeading}
use Rattle.schedule_replay.specs.Played.{PlayedStandsFor, header_in}
use Rattle.world_model.specs.Counts.{counts_of}
use Rattle.world_model.specs.Players.{Step, AreSteps}
use Rattle.world_model.specs.Stands.{WorldStands}
use Rattle.schedule_plan.specs.Plans.{cast_of, header_of}
use Rattle.schedule_plan.specs.Schedule.{events_by, limit_met}
use Rattle.schedule_stage.specs.declared.halt.Halt.{Halt}
use Rattle.schedule_stage.specs.declared.stage.Stage.{Stage}
use Rattle.schedule_stage.specs.declared.stage.Finished.{Finished}
use Rattle.schedule_stage.specs.Faces.{IsFaces}
use Rattle.schedule_stage.specs.Tape.{IsTape}
use Rattle.schedule_stage.specs.Worlds.{world_in, HaltsBy}

-- the stage after these steps of a plan's players
pub record IsStage {S E : Type 0} (m : Meaning S E CoinSeed KeyRow) (p : Plan) (what : DriveWhat) (stage : Stage S E) (steps : List Step) : Type 0 where
  pub header : IsHeading (heading (header_of p))
  pub world : WorldStands m stage.world (world_in m p) (events_by (world_in m p) p steps)
  pub counts : stage.tape.counts ≡ counts_of (world_in m p) (events_by (world_in m p) p steps)
  pub faces : IsFaces m p stage.faces steps
  pub tape : IsTape (world_in m p) p what stage.tape steps
  pub are_steps : AreSteps (world_in m p) (cast_of p.attack) steps

-- the stage stands for these steps, or a limit is passed as they are taken, or memory ran out
abbrev pub Reaches : {S E : Type 0} → Meaning S E CoinSeed KeyRow → Plan → DriveWhat → Stage S E → List Step → Result (Unit {0}) Halt → Type 0
Reaches m p what stage steps (Ok done) = IsStage m p what stage steps
Reaches m p what stage steps (Err halt) = HaltsBy (world_in m p) p steps halt

-- the file that was kept, without its end mark: none is, where a report is wanted
abbrev pub IsKeptFile : DriveWhat → List ℕ → List ℕ → Type 0
IsKeptFile drives.Report file front = Unit {0}
IsKeptFile drives.Schedule file front = file ≡ front

-- a world whose events are those of these steps, which pass no limit, and the front of their file
pub record IsFinished {S E : Type 0} (m : Meaning S E CoinSeed KeyRow) (p : Plan) (what : DriveWhat) (x : Finished S E) (steps : List Step) : Type 0 where
  pub header : header_in x.played ≡ header_of p
  pub played : PlayedStandsFor m x.played (events_by (world_in m p) p steps)
  pub none : limit_met (world_in m p) p steps ≡ None
  pub kept : IsKeptFile what x.file.taken (FrontOf (heading (header_of p)) (events_by (world_in m p) p steps))
