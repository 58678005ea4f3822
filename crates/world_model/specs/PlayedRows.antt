-- Worked rows of players: what steps make of a scene, and a frame that nobody made.
use Rattle.std.specs.Prelude.{◌≡◌, ℕ, List, [], ◌∷◌, ◌++◌, length, replicate, None, true, refl}
use Rattle.ritas_base.specs.declared.event.Event.TheVariants as events
use Rattle.ritas_base.specs.declared.mode.FrameVersion.TheVariants.{One, Two, Three}
use Rattle.frame_codec.specs.Inputs.{input_format}
use Rattle.frame_codec.specs.Grammar.{class1}
use Rattle.ritas_core.specs.Checks.{input_check}
use Rattle.ritas_core.specs.Machine.{first_state}
use Rattle.ritas_core.specs.Order.{ordered}
use Rattle.ritas_core.specs.Parts.{Given}
use Rattle.world_model.specs.Players.{Cast, Correct, Face, number_of, Give, Go, Carry, Throw, thrown, first_scene, scene_of, events_of}
use Rattle.world_model.specs.World.{Setting}
use Rattle.world_model.specs.Rows.{world_of}

-- ---- a world of four replicas, of which replica 3 is faulty: two faces play it, which show each message as it is

abbrev two_faces : Cast
two_faces = record { number = λ a. 3; shown = λ m. m }

both_play_three : (number_of two_faces (Face 0) ≡ 3) × (number_of two_faces (Face 1) ≡ 3)
both_play_three = (refl, refl)

-- ---- steps

-- an input of a correct player is an event, and leaves the faces
given_correct : scene_of (world_of 3) two_faces (Give (Correct 2) (7 ∷ []) ∷ [])
    ≡ record { events = events.Input 2 (7 ∷ []) ∷ []; faces = λ a. first_state (replicate 4 []) }
given_correct = refl

-- one of a face is no event
given_face : events_of (world_of 3) two_faces (Give (Face 0) (7 ∷ []) ∷ []) ≡ []
given_face = refl

-- the face has it, and the other face hasn't
face_has_it : (scene_of (world_of 3) two_faces (Give (Face 0) (7 ∷ []) ∷ [])).faces 0
    ≡ record { live = true; history = Given (7 ∷ []) ∷ []; inbox = []; held = replicate 4 []; lost = None }
unfolding input_check input_format class1 ordered
face_has_it = refl

other_has_not : (scene_of (world_of 3) two_faces (Give (Face 0) (7 ∷ []) ∷ [])).faces 1 ≡ first_state (replicate 4 [])
other_has_not = refl

-- a correct player that gets another's frame is an event, whether there is one or not; a face's frame is one where there is one
carried_correct : events_of (world_of 3) two_faces (Carry (Correct 0) (Correct 2) 5 ∷ []) ≡ events.Pass 0 2 5 ∷ []
carried_correct = refl

carried_face : scene_of (world_of 3) two_faces (Carry (Face 1) (Correct 2) 0 ∷ []) ≡ first_scene (world_of 3)
carried_face = refl

-- the last step is the first of the list
two_steps : events_of (world_of 3) two_faces (Go (Correct 1) ∷ Give (Correct 2) (7 ∷ []) ∷ []) ≡ events.Turn 1 ∷ events.Input 2 (7 ∷ []) ∷ []
two_steps = refl

-- ---- a frame that nobody made

-- the same world in a session of version 2
abbrev world_of_two : Setting
world_of_two = record (world_of 3) { mode = record (world_of 3).mode { version = Two } }

-- eight bytes and a tag of zeros behind the byte that is no kind
abbrev filled : List ℕ → List ℕ
filled bytes = bytes ++ replicate 32 0

thrown_bytes : thrown One 3 0 (1 ∷ 2 ∷ []) ≡ 1 ∷ 3 ∷ 0 ∷ 0 ∷ 0 ∷ 0 ∷ 0 ∷ 0 ∷ 0 ∷ 0 ∷ 0 ∷ 255 ∷ 1 ∷ 2 ∷ []
thrown_bytes = refl

-- and in a session of version 2
thrown_of_two : thrown Two 3 0 (1 ∷ 2 ∷ []) ≡ 2 ∷ 3 ∷ 0 ∷ 0 ∷ 0 ∷ 0 ∷ 0 ∷ 0 ∷ 0 ∷ 0 ∷ 0 ∷ 255 ∷ 1 ∷ 2 ∷ []
thrown_of_two = refl

-- and of version 3
thrown_of_three : thrown Three 3 0 (1 ∷ 2 ∷ []) ≡ 3 ∷ 3 ∷ 0 ∷ 0 ∷ 0 ∷ 0 ∷ 0 ∷ 0 ∷ 0 ∷ 0 ∷ 0 ∷ 255 ∷ 1 ∷ 2 ∷ []
thrown_of_three = refl

thrown_long : length (thrown One 3 0 (filled (1 ∷ 2 ∷ 3 ∷ 4 ∷ 5 ∷ 6 ∷ 7 ∷ 8 ∷ []))) ≡ 52
thrown_long = refl

thrown_event : (rest : List ℕ) → events_of (world_of 3) two_faces (Throw 3 0 rest ∷ []) ≡ events.Frame 0 (thrown One 3 0 rest) ∷ []
thrown_event rest = refl

thrown_event_of_two : (rest : List ℕ) → events_of world_of_two two_faces (Throw 3 0 rest ∷ []) ≡ events.Frame 0 (thrown Two 3 0 rest) ∷ []
thrown_event_of_two rest = refl
