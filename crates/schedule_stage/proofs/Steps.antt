-- What each step is to a stage.
use Rattle.std.proofs.Common.{◌≡◌, ◌≢◌, ℕ, ◌<◌, ◌/◌, true, false, List, ◌∷◌, Option, Some, None, refl, sym, ◌∙◌, ap}
use Rattle.std.specs.List.{slice_get}
use Rattle.ritas_base.specs.declared.event.Event.TheVariants as events
use Rattle.ritas_base.specs.declared.plan.Plan.{Plan}
use Rattle.world_model.specs.World.{Setting}
use Rattle.world_model.specs.FaceWorlds.{is_face_number, frame_if}
use Rattle.world_model.specs.declared.player.Player.{Player}
use Rattle.world_model.specs.declared.player.Player.TheVariants.{Correct, Face}
use Rattle.world_model.specs.Players.{Cast, Scene, Step, Give, Go, Carry, Throw, IsPlayer, number_of, thrown, happened_if, faced_if, scene_after, player_frames, scene_of}
use Rattle.schedule_plan.specs.Plans.{cast_of}
use Rattle.schedule_plan.specs.Schedule.{events_by}
use Rattle.schedule_stage.specs.Stepping.{Happens, ComesToFace, Rests}

-- each correct replica is one of the world
abbrev pub AreWithin : Setting → Type 0
AreWithin w = (i : ℕ) → w.is_correct i ≡ true → i < w.numbers.n

-- the frame of a number that a player made for replica j
abbrev pub frame_in : Setting → Plan → List Step → Player → ℕ → ℕ → Option (List ℕ)
frame_in w p steps x j m = slice_get (player_frames w (cast_of p.attack) (scene_of w (cast_of p.attack) steps) x j) m

-- ---- steps at correct replicas

pub input_happens : (w : Setting) (p : Plan) (steps : List Step) → AreWithin w → (i : ℕ) (value : List ℕ) → IsPlayer w (cast_of p.attack) (Correct i)
    → Happens w p steps (Give (Correct i) value) (events.Input i value)
input_happens w p steps within i value player = record { is = player; events = refl; may = within i player; untold = λ face. refl }

pub turn_happens : (w : Setting) (p : Plan) (steps : List Step) → AreWithin w → (i : ℕ) → IsPlayer w (cast_of p.attack) (Correct i)
    → Happens w p steps (Go (Correct i)) (events.Turn i)
turn_happens w p steps within i player = record { is = player; events = refl; may = within i player; untold = λ face. refl }

pub pass_happens : (w : Setting) (p : Plan) (steps : List Step) → AreWithin w → (i j m : ℕ) → IsPlayer w (cast_of p.attack) (Correct i)
    → IsPlayer w (cast_of p.attack) (Correct j) → i ≢ j → Happens w p steps (Carry (Correct i) (Correct j) m) (events.Pass i j m)
pass_happens w p steps within i j m from to apart = record {
  is = (from, to, apart);
  events = refl;
  may = (within i from, within j to, apart);
  untold = λ face. refl;
}

pub throw_happens : (w : Setting) (p : Plan) (steps : List Step) → AreWithin w → (i j : ℕ) (rest bytes : List ℕ) → w.is_correct i ≡ false → w.is_correct j ≡ true
    → bytes ≡ thrown w.mode.version i j rest → Happens w p steps (Throw i j rest) (events.Frame j bytes)
throw_happens w p steps within i j rest bytes from to is = record {
  is = from;
  events = ap (λ (b : List ℕ). events.Frame j b ∷ events_by w p steps) (sym is);
  may = within j to;
  untold = λ face. refl;
}

-- a frame of a face
pub frame_happens : (w : Setting) (p : Plan) (steps : List Step) → AreWithin w → (a j m : ℕ) (bytes : List ℕ) (frame : Option (List ℕ)) → IsPlayer w (cast_of p.attack) (Face a)
    → IsPlayer w (cast_of p.attack) (Correct j) → number_of (cast_of p.attack) (Face a) ≢ j → frame ≡ frame_in w p steps (Face a) j m → frame ≡ Some bytes
    → Happens w p steps (Carry (Face a) (Correct j) m) (events.Frame j bytes)
frame_happens w p steps within a j m bytes frame from to apart made is = record {
  is = (from, to, apart);
  events = ap (λ (o : Option (List ℕ)). (happened_if (scene_of w (cast_of p.attack) steps) j o).events) (sym made ∙ is);
  may = within j to;
  untold = λ face. refl;
}

-- or none of that number
pub none_happens : (w : Setting) (p : Plan) (steps : List Step) (a j m : ℕ) (frame : Option (List ℕ)) → IsPlayer w (cast_of p.attack) (Face a)
    → IsPlayer w (cast_of p.attack) (Correct j) → number_of (cast_of p.attack) (Face a) ≢ j → frame ≡ frame_in w p steps (Face a) j m → frame ≡ None
    → Rests w p steps (Carry (Face a) (Correct j) m)
none_happens w p steps a j m frame from to apart made is = record {
  is = (from, to, apart);
  events = ap (λ (o : Option (List ℕ)). (happened_if (scene_of w (cast_of p.attack) steps) j o).events) (sym made ∙ is);
  untold = λ face. refl;
}

-- ---- steps at faces

pub input_comes : (w : Setting) (p : Plan) (steps : List Step) (a : ℕ) (value : List ℕ) → IsPlayer w (cast_of p.attack) (Face a)
    → ComesToFace w p steps (Give (Face a) value) a (events.Input (a / 2) value)
input_comes w p steps a value player = record { is = player; events = refl; may = player.1; told = λ face. refl }

pub turn_comes : (w : Setting) (p : Plan) (steps : List Step) (a : ℕ) → IsPlayer w (cast_of p.attack) (Face a)
    → ComesToFace w p steps (Go (Face a)) a (events.Turn (a / 2))
turn_comes w p steps a player = record { is = player; events = refl; may = player.1; told = λ face. refl }

-- what comes to a face is no event
faced_events : (w : Setting) (c : Cast) (s : Scene) (a : ℕ) (o : Option (List ℕ)) → (faced_if w c s a o).events ≡ s.events
faced_events w c s a None = refl
faced_events w c s a (Some bytes) = refl

carried_events : (w : Setting) (c : Cast) (s : Scene) (x : Player) (a m : ℕ) → (scene_after w c s (Carry x (Face a) m)).events ≡ s.events
carried_events w c s (Correct i) a m = faced_events w c s a (slice_get (player_frames w c s (Correct i) (c.number a)) m)
carried_events w c s (Face b) a m = faced_events w c s a (slice_get (player_frames w c s (Face b) (c.number a)) m)

-- a frame of another player
pub frame_comes : (w : Setting) (p : Plan) (steps : List Step) (x : Player) (a m : ℕ) (bytes : List ℕ) (frame : Option (List ℕ)) → IsPlayer w (cast_of p.attack) x
    → IsPlayer w (cast_of p.attack) (Face a) → number_of (cast_of p.attack) x ≢ number_of (cast_of p.attack) (Face a)
    → frame ≡ frame_in w p steps x (a / 2) m → frame ≡ Some bytes → ComesToFace w p steps (Carry x (Face a) m) a (events.Frame (a / 2) bytes)
frame_comes w p steps x a m bytes frame from to apart made is = record {
  is = (from, to, apart);
  events = carried_events w (cast_of p.attack) (scene_of w (cast_of p.attack) steps) x a m;
  may = to.1;
  told = λ face. ap (λ (o : Option (List ℕ)). frame_if (is_face_number (cast_of p.attack) face a) (a / 2) o) (sym made ∙ is);
}

-- or none of that number
pub none_comes : (w : Setting) (p : Plan) (steps : List Step) (x : Player) (a m : ℕ) (frame : Option (List ℕ)) → IsPlayer w (cast_of p.attack) x
    → IsPlayer w (cast_of p.attack) (Face a) → number_of (cast_of p.attack) x ≢ number_of (cast_of p.attack) (Face a)
    → frame ≡ frame_in w p steps x (a / 2) m → frame ≡ None → Rests w p steps (Carry x (Face a) m)
none_comes w p steps x a m frame from to apart made is = record {
  is = (from, to, apart);
  events = carried_events w (cast_of p.attack) (scene_of w (cast_of p.attack) steps) x a m;
  untold = λ face. ap (λ (o : Option (List ℕ)). frame_if (is_face_number (cast_of p.attack) face a) (a / 2) o) (sym made ∙ is);
}
