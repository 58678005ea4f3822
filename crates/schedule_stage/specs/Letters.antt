-- The world of the letter that a face has.
use Rattle.std.specs.Prelude.{◌≡◌, ℕ, ◌/◌, List}
use Rattle.ritas_base.specs.declared.plan.Plan.{Plan}
use Rattle.keyed_channel.specs.Keyed.{CoinSeed}
use Rattle.keyed_channel.specs.KeyRow.{KeyRow}
use Rattle.ritas_core.specs.Stands.{Meaning}
use Rattle.world_model.specs.declared.world.World.{World}
use Rattle.world_model.specs.Stands.{WorldStands}
use Rattle.world_model.specs.FaceWorlds.{faces_world, told_to, IsLetter}
use Rattle.world_model.specs.Players.{Step}
use Rattle.schedule_plan.specs.Plans.{cast_of}
use Rattle.schedule_stage.specs.Worlds.{world_in}

-- after these steps of a plan's players, this is the world of face a's letter
pub record IsLetterOf {S E : Type 0} (m : Meaning S E CoinSeed KeyRow) (p : Plan) (world : World S E CoinSeed) (steps : List Step) (a : ℕ) : Type 0 where
  pub face : ℕ → ℕ
  pub letter : IsLetter (cast_of p.attack) face
  pub here : face (a / 2) ≡ a
  pub stands : WorldStands m world (faces_world (world_in m p)) (told_to (world_in m p) (cast_of p.attack) face steps)
