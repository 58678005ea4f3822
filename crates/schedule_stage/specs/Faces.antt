-- What the faces of a plan stand for: the faces of each letter are a world.
use Rattle.std.specs.Prelude.{◌≡◌, ℕ, ◌-◌, ◌^◌, ◌<◌, List, map, length}
use Rattle.std.specs.List.{range_with_len}
use Rattle.ritas_base.specs.declared.event.Event.{Event}
use Rattle.ritas_base.specs.declared.plan.Plan.{Plan}
use Rattle.ritas_base.specs.Events.{MayHappen}
use Rattle.keyed_channel.specs.Keyed.{CoinSeed}
use Rattle.keyed_channel.specs.KeyRow.{KeyRow}
use Rattle.ritas_core.specs.Stands.{Meaning}
use Rattle.schedule_replay.specs.Layers.{dealt_to}
use Rattle.world_model.specs.World.{Setting}
use Rattle.world_model.specs.Stands.{WorldStands}
use Rattle.world_model.specs.FaceWorlds.{faces_world, told_by, told_to, is_face_number, only_if}
use Rattle.world_model.specs.Players.{Step, scene_of}
use Rattle.schedule_plan.specs.Plans.{cast_of, header_of, face_a, face_b}
use Rattle.schedule_stage.specs.declared.faces.Faces.{Faces}
use Rattle.schedule_stage.specs.Worlds.{world_in}

-- the faces after these steps of a plan's players
pub record IsFaces {S E : Type 0} (m : Meaning S E CoinSeed KeyRow) (p : Plan) (faces : Faces S E) (steps : List Step) : Type 0 where
  pub attack : faces.attack ≡ p.attack
  pub keys : faces.keys.items ≡ map (dealt_to (header_of p)) (range_with_len 0 p.p.n)
  pub a : WorldStands m faces.a (faces_world (world_in m p)) (told_to (world_in m p) (cast_of p.attack) face_a steps)
  pub b : WorldStands m faces.b (faces_world (world_in m p)) (told_to (world_in m p) (cast_of p.attack) face_b steps)

-- a step after these tells face a this event, and no other face anything
pub record TellsFace (w : Setting) (p : Plan) (steps : List Step) (step : Step) (a : ℕ) (e : Event) : Type 0 where
  pub to_a : told_by w (cast_of p.attack) face_a (scene_of w (cast_of p.attack) steps) step ≡ only_if (is_face_number (cast_of p.attack) face_a a) e
  pub to_b : told_by w (cast_of p.attack) face_b (scene_of w (cast_of p.attack) steps) step ≡ only_if (is_face_number (cast_of p.attack) face_b a) e
  pub may : MayHappen w.numbers.n e
  pub few : length steps < 2 ^ 64 - 1
