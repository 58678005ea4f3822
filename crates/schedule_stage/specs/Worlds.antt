-- The world in which a plan is played, and what is read off its players. Lists of steps have the newest first.
use Rattle.std.specs.Prelude.{◌≡◌, ℕ, List, [], ◌∷◌, length, Some}
use Rattle.ritas_base.specs.declared.plan.Plan.{Plan}
use Rattle.keyed_channel.specs.Keyed.{CoinSeed}
use Rattle.keyed_channel.specs.KeyRow.{KeyRow}
use Rattle.ritas_core.specs.Stands.{Meaning}
use Rattle.world_model.specs.World.{Setting}
use Rattle.world_model.specs.MadeOrder.{all_made}
use Rattle.world_model.specs.FaceWorlds.{faces_world, told_to}
use Rattle.world_model.specs.declared.player.Player.{Player}
use Rattle.world_model.specs.Players.{Step, state_at, player_frames, scene_of}
use Rattle.schedule_plan.specs.Plans.{cast_of, face_a, face_b}
use Rattle.schedule_plan.specs.Schedule.{world_by, events_by, limit_met}
use Rattle.schedule_stage.specs.declared.halt.Halt.{Halt}
use Rattle.schedule_stage.specs.declared.halt.Halt.TheVariants as halts

-- the world in which a plan is played with these layers
abbrev pub world_in : {S E : Type 0} → Meaning S E CoinSeed KeyRow → Plan → Setting
world_in m p = world_by m.service m.cast p

-- how many items wait at a player
abbrev pub waiting : Setting → Plan → List Step → Player → ℕ
waiting w p steps x = length (state_at w (scene_of w (cast_of p.attack) steps) x).inbox

-- how many frames a player has made for replica j
abbrev pub count_made_for : Setting → Plan → List Step → Player → ℕ → ℕ
count_made_for w p steps x j = length (player_frames w (cast_of p.attack) (scene_of w (cast_of p.attack) steps) x j)

-- how many frames the faces of each letter have made
abbrev pub face_frames : Setting → Plan → List Step → List ℕ
face_frames w p steps =
    let c = cast_of p.attack in
    length (all_made (faces_world w) (told_to w c face_a steps)) ∷ length (all_made (faces_world w) (told_to w c face_b steps)) ∷ []

-- and how many the correct replicas have made, and they
abbrev pub all_frames : Setting → Plan → List Step → List ℕ
all_frames w p steps = length (all_made w (events_by w p steps)) ∷ face_frames w p steps

-- a limit that is named is the first that is passed as these steps are taken
abbrev pub HaltsBy : Setting → Plan → List Step → Halt → Type 0
HaltsBy w p steps (halts.Limit x) = limit_met w p steps ≡ Some x
HaltsBy w p steps halts.Mem = Unit {0}
