-- The letters of the faces, what comes to the world of each, and where a face stands in that world.
use Rattle.std.proofs.Common.{◌≡◌, ◌≢◌, ℕ, ◌/◌, ◌%◌, ◌<◌, ◌≤◌, Bool, true, false, Option, Some, None, List, [], ◌∷◌, ◌++◌, length, map, sym, ◌∙◌, ap, arith}
use Rattle.std.specs.List.{range_with_len, slice_get}
use Rattle.std.proofs.lemmas.Bool.{eq-eqb, ne_eqb}
use Rattle.std.proofs.lemmas.List.{length-append}
use Rattle.std.proofs.lemmas.List.FromFn.{length-map-range_with_len, get_or-map-range_with_len}
use Rattle.std.proofs.lemmas.Option.{slice_get-get_or}
use Rattle.ritas_base.specs.declared.event.Event.{Event}
use Rattle.ritas_base.specs.declared.event.Event.TheVariants as events
use Rattle.ritas_base.specs.declared.plan.Attack.{Attack}
use Rattle.keyed_channel.specs.KeyRow.{KeyRow}
use Rattle.schedule_file.specs.declared.header.Header.{Header}
use Rattle.schedule_replay.specs.Layers.{dealt_to}
use Rattle.world_model.specs.World.{Setting, states_of}
use Rattle.world_model.specs.FaceWorlds.{faces_world, IsLetter, is_face_number, only_if, frame_if, told_by, told_to, FaceLaw}
use Rattle.world_model.specs.declared.player.Player.TheVariants.{Correct, Face}
use Rattle.world_model.specs.Players.{Cast, Scene, Step, Give, Go, Carry, Throw, AreSteps, player_frames, scene_of}
use Rattle.schedule_plan.specs.Plans.{cast_of, face_a, face_b}

-- ---- the two letters

pub letter_a : (attack : Attack) → IsLetter (cast_of attack) face_a
letter_a attack = record { number = λ i. omega arith }

pub letter_b : (attack : Attack) → IsLetter (cast_of attack) face_b
letter_b attack = record { number = λ i. omega arith }

pub here_a : (a : ℕ) → a % 2 ≡ 0 → face_a (a / 2) ≡ a
here_a a even = omega (arith, even)

pub here_b : (a : ℕ) → a % 2 ≢ 0 → face_b (a / 2) ≡ a
here_b a odd = omega (arith, odd)

pub not_b : (a : ℕ) → a % 2 ≡ 0 → face_b (a / 2) ≢ a
not_b a even = λ same. absurd (omega (arith, even, same))

pub not_a : (a : ℕ) → a % 2 ≢ 0 → face_a (a / 2) ≢ a
not_a a odd = λ same. absurd (odd (omega (arith, same)))

-- ---- what comes to the world of a letter

pub told_here : (w : Setting) (c : Cast) (face : ℕ → ℕ) (steps : List Step) (step : Step) (a : ℕ) (e : Event)
    → told_by w c face (scene_of w c steps) step ≡ only_if (is_face_number c face a) e → face (c.number a) ≡ a → told_to w c face (step ∷ steps) ≡ e ∷ told_to w c face steps
told_here w c face steps step a e told here =
    ap (λ (es : List Event). es ++ told_to w c face steps) (told ∙ ap (λ (b : Bool). only_if b e) (eq-eqb (face (c.number a)) a here))

pub told_else : (w : Setting) (c : Cast) (face : ℕ → ℕ) (steps : List Step) (step : Step) (a : ℕ) (e : Event)
    → told_by w c face (scene_of w c steps) step ≡ only_if (is_face_number c face a) e → face (c.number a) ≢ a → told_to w c face (step ∷ steps) ≡ told_to w c face steps
told_else w c face steps step a e told other =
    ap (λ (es : List Event). es ++ told_to w c face steps) (told ∙ ap (λ (b : Bool). only_if b e) (ne_eqb (face (c.number a)) a other))

one_if : (b : Bool) (e : Event) → length (only_if b e) ≤ 1
one_if true e = omega arith
one_if false e = omega arith

one_frame : (b : Bool) (j : ℕ) (o : Option (List ℕ)) → length (frame_if b j o) ≤ 1
one_frame b j None = omega arith
one_frame b j (Some bytes) = one_if b (events.Frame j bytes)

-- a step tells a letter one event at most
one_told : (w : Setting) (c : Cast) (face : ℕ → ℕ) (s : Scene) (step : Step) → length (told_by w c face s step) ≤ 1
one_told w c face s (Give (Correct i) value) = omega arith
one_told w c face s (Give (Face a) value) = one_if (is_face_number c face a) (events.Input (c.number a) value)
one_told w c face s (Go (Correct i)) = omega arith
one_told w c face s (Go (Face a)) = one_if (is_face_number c face a) (events.Turn (c.number a))
one_told w c face s (Carry x (Correct j) m) = omega arith
one_told w c face s (Carry x (Face a) m) = one_frame (is_face_number c face a) (c.number a) (slice_get (player_frames w c s x (c.number a)) m)
one_told w c face s (Throw from to rest) = omega arith

-- so no more events come to it than there are steps
pub told_few : (w : Setting) (c : Cast) (face : ℕ → ℕ) (steps : List Step) → length (told_to w c face steps) ≤ length steps
told_few w c face [] = omega arith
told_few w c face (step ∷ steps) =
    omega (arith, told_few w c face steps, one_told w c face (scene_of w c steps) step, length-append (told_by w c face (scene_of w c steps) step) (told_to w c face steps))

-- ---- where a face stands

pub face_state : FaceLaw → (w : Setting) (c : Cast) (face : ℕ → ℕ) (steps : List Step) → IsLetter c face → AreSteps w c steps → (a : ℕ) → face (c.number a) ≡ a
    → w.is_correct (c.number a) ≡ false → c.number a < w.numbers.n → (scene_of w c steps).faces a ≡ states_of (faces_world w) (told_to w c face steps) (c.number a)
face_state law w c face steps letter are a here faulty below =
    ap (scene_of w c steps).faces (sym here) ∙ law w c face steps letter are (c.number a) faulty below

-- ---- the keys that were dealt

pub key_at : (h : Header) (i : ℕ) → i < h.p.n → slice_get (map (dealt_to h) (range_with_len 0 h.p.n)) i ≡ Some (dealt_to h i)
key_at h i below =
    let keys : List KeyRow = map (dealt_to h) (range_with_len 0 h.p.n) in
    let within : i < length keys = omega (arith, below, length-map-range_with_len (dealt_to h) 0 h.p.n) in
    slice_get-get_or keys i (dealt_to h i) within ∙ ap (λ x. Some x) (get_or-map-range_with_len (dealt_to h) 0 h.p.n i i (dealt_to h i) below (omega arith))
