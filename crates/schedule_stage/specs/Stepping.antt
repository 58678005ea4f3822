-- What a step is that a stage takes: an event, or what comes to a face, or nothing. Lists of steps have the newest first.
use Rattle.std.specs.Prelude.{◌≡◌, ℕ, List, [], ◌∷◌}
use Rattle.ritas_base.specs.declared.event.Event.{Event}
use Rattle.ritas_base.specs.declared.plan.Plan.{Plan}
use Rattle.ritas_base.specs.Events.{MayHappen}
use Rattle.world_model.specs.World.{Setting}
use Rattle.world_model.specs.FaceWorlds.{told_by, is_face_number, only_if}
use Rattle.world_model.specs.Players.{Step, IsStep, scene_of}
use Rattle.schedule_plan.specs.Plans.{cast_of}
use Rattle.schedule_plan.specs.Schedule.{events_by}

-- no face is told anything by this step after these
abbrev pub TellsNoFace : Setting → Plan → List Step → Step → Type 0
TellsNoFace w p steps step = (face : ℕ → ℕ) → told_by w (cast_of p.attack) face (scene_of w (cast_of p.attack) steps) step ≡ []

-- this event happens
pub record Happens (w : Setting) (p : Plan) (steps : List Step) (step : Step) (e : Event) : Type 0 where
  pub is : IsStep w (cast_of p.attack) step
  pub events : events_by w p (step ∷ steps) ≡ e ∷ events_by w p steps
  pub may : MayHappen w.numbers.n e
  pub untold : TellsNoFace w p steps step

-- this comes to face a
pub record ComesToFace (w : Setting) (p : Plan) (steps : List Step) (step : Step) (a : ℕ) (e : Event) : Type 0 where
  pub is : IsStep w (cast_of p.attack) step
  pub events : events_by w p (step ∷ steps) ≡ events_by w p steps
  pub may : MayHappen w.numbers.n e
  pub told : (face : ℕ → ℕ) → told_by w (cast_of p.attack) face (scene_of w (cast_of p.attack) steps) step ≡ only_if (is_face_number (cast_of p.attack) face a) e

-- nothing comes to anyone
pub record Rests (w : Setting) (p : Plan) (steps : List Step) (step : Step) : Type 0 where
  pub is : IsStep w (cast_of p.attack) step
  pub events : events_by w p (step ∷ steps) ≡ events_by w p steps
  pub untold : TellsNoFace w p steps step
