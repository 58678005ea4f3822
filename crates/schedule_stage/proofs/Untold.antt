-- A step by which no face is told anything.
use Rattle.std.proofs.Common.{List, ◌∷◌, ◌++◌, sym, ap, subst}
use Rattle.ritas_base.specs.declared.event.Event.{Event}
use Rattle.ritas_base.specs.declared.plan.Plan.{Plan}
use Rattle.keyed_channel.specs.Keyed.{CoinSeed}
use Rattle.keyed_channel.specs.KeyRow.{KeyRow}
use Rattle.ritas_core.specs.Stands.{Meaning}
use Rattle.world_model.specs.FaceWorlds.{faces_world, told_to}
use Rattle.world_model.specs.Players.{Step}
use Rattle.world_model.specs.Stands.{WorldStands}
use Rattle.schedule_plan.specs.Plans.{cast_of, face_a, face_b}
use Rattle.schedule_stage.specs.declared.faces.Faces.{Faces}
use Rattle.schedule_stage.specs.Faces.{IsFaces}
use Rattle.schedule_stage.specs.Stepping.{TellsNoFace}
use Rattle.schedule_stage.specs.Worlds.{world_in}

-- the faces stand for it too
pub untold : {S E : Type 0} (m : Meaning S E CoinSeed KeyRow) (p : Plan) (faces : Faces S E) (step : Step) (steps : List Step) → IsFaces m p faces steps
    → TellsNoFace (world_in m p) p steps step → IsFaces m p faces (step ∷ steps)
untold m p faces step steps stands none =
    let w = world_in m p in
    let c = cast_of p.attack in
    record {
      attack = stands.attack;
      keys = stands.keys;
      a = subst (λ (es : List Event). WorldStands m faces.a (faces_world w) es) (sym (ap (λ (es : List Event). es ++ told_to w c face_a steps) (none face_a))) stands.a;
      b = subst (λ (es : List Event). WorldStands m faces.b (faces_world w) es) (sym (ap (λ (es : List Event). es ++ told_to w c face_b steps) (none face_b))) stands.b;
    }
