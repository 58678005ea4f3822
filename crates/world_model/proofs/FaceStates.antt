-- The faces of one letter are a world.
use Rattle.std.proofs.Common.{◌≡◌, ℕ, ◌<◌, ◌==◌, Bool, true, false, not, ◌&&◌, List, [], ◌∷◌, ◌++◌, Option, Some, None, refl, sym, ◌∙◌, ap, ap₂, subst, if◌then◌else◌}
use Rattle.std.specs.List.{slice_get}
use Rattle.std.proofs.lemmas.Bool.{eq-eqb, eqb-true, ne_eqb, lt-ltb, false≢true}
use Rattle.ritas_base.specs.declared.event.Event.{Event}
use Rattle.ritas_base.specs.declared.event.Event.TheVariants as events
use Rattle.ritas_core.specs.Machine.{CoreState}
use Rattle.replica.specs.Handling.{ReplicaCall, Frame, Input, Turn, handled}
use Rattle.world_model.specs.World.{Setting, rules_at, CallAt, call_at, call_of, after_call, states_of, states_before}
use Rattle.world_model.specs.Players.{Cast, Scene, Correct, Face, Step, Give, Go, Carry, Throw, IsPlayer, AreSteps, player_frames, happened_if, faced, faced_if, scene_of}
use Rattle.world_model.specs.FaceWorlds.{faces_world, IsLetter, is_face_number, only_if, frame_if, told_to, FaceLaw}
use Rattle.world_model.proofs.Continues.{found_as_left}

-- each face of the letter is in the state of its replica
abbrev AreAlike : (ℕ → ℕ) → (ℕ → CoreState) → (ℕ → CoreState) → Type 0
AreAlike face faces states = (i : ℕ) → faces (face i) ≡ states i

-- ---- which face

-- a face of the letter is that of i exactly where it plays replica i
same_face : (c : Cast) (face : ℕ → ℕ) → IsLetter c face → (a i : ℕ) → face (c.number a) ≡ a → (b : Bool) → (c.number a == i) ≡ b → (a == face i) ≡ b
same_face c face letter a i here true is = eq-eqb a (face i) (sym here ∙ ap face (eqb-true (c.number a) i is))
same_face c face letter a i here false is = ne_eqb a (face i) (λ e. false≢true (sym is ∙ eq-eqb (c.number a) i (ap c.number e ∙ letter.number i)))

-- any other face is none of the letter's
other_face : (c : Cast) (face : ℕ → ℕ) → IsLetter c face → (a i : ℕ) → is_face_number c face a ≡ false → (a == face i) ≡ false
other_face c face letter a i not_of =
    ne_eqb a (face i) (λ e. false≢true (sym not_of ∙ eq-eqb (face (c.number a)) a (ap (λ (b : ℕ). face (c.number b)) e ∙ ap face (letter.number i) ∙ sym e)))

-- ---- a call

-- a faulty replica below n is one of that world's
pub replica_there : (w : Setting) (i : ℕ) → w.is_correct i ≡ false → i < w.numbers.n → (faces_world w).is_correct i ≡ true
replica_there w i faulty below = ap₂ (λ (x y : Bool). x && y) (lt-ltb i w.numbers.n below) (ap not faulty)

called_there : (w : Setting) (states : ℕ → CoreState) (j : ℕ) (call : ReplicaCall) (i : ℕ) → w.is_correct j ≡ true
    → after_call w states (call_at w j call) i ≡ (if j == i then (handled (rules_at w j) (w.keys j) (states j) call).state else states i)
called_there w states j call i right = ap (λ (b : Bool). after_call w states (if b then Some (record { at = j; call = call }) else None) i) right

-- a call on a face is told to the world of its letter
faced_alike : (w : Setting) (c : Cast) (face : ℕ → ℕ) → IsLetter c face → (s : Scene) (es : List Event) → AreAlike face s.faces (states_of (faces_world w) es) → (a : ℕ)
    → IsPlayer w c (Face a) → (call : ReplicaCall) (e : Event) → call_of (faces_world w) (states_before (faces_world w) es) e ≡ call_at (faces_world w) (c.number a) call
    → AreAlike face (faced w c s a call).faces (states_of (faces_world w) (only_if (is_face_number c face a) e ++ es))
unfolding states_of
faced_alike w c face letter s es alike a player call e is i = told (is_face_number c face a) refl
  where
    told : (b : Bool) → is_face_number c face a ≡ b → (faced w c s a call).faces (face i) ≡ states_of (faces_world w) (only_if b e ++ es) i
    told false not_of =
        ap (λ (t : Bool). if t then (handled (rules_at w (c.number a)) (w.keys (c.number a)) (s.faces a) call).state else s.faces (face i)) (other_face c face letter a i not_of) ∙ alike i
    told true of_it =
        let j = c.number a in
        let here : face j ≡ a = eqb-true (face j) a of_it in
        let states = states_before (faces_world w) es in
        let found : AreAlike face s.faces states = subst (AreAlike face s.faces) (found_as_left (faces_world w) es (λ k q. refl)) alike in
        let at_a : s.faces a ≡ states j = ap s.faces (sym here) ∙ found j in
        ap (λ (t : Bool). if t then (handled (rules_at w j) (w.keys j) (s.faces a) call).state else s.faces (face i)) (same_face c face letter a i here (j == i) refl)
        ∙ ap (λ (st : CoreState). if j == i then (handled (rules_at w j) (w.keys j) st call).state else s.faces (face i)) at_a
        ∙ ap (λ (st : CoreState). if j == i then (handled (rules_at w j) (w.keys j) (states j) call).state else st) (found i)
        ∙ sym (called_there (faces_world w) states j call i (replica_there w j player.0 player.1))
        ∙ ap (λ (o : Option CallAt). after_call (faces_world w) states o i) (sym is)

-- so is a frame, if there is one
carried_alike : (w : Setting) (c : Cast) (face : ℕ → ℕ) → IsLetter c face → (s : Scene) (es : List Event) → AreAlike face s.faces (states_of (faces_world w) es) → (a : ℕ)
    → IsPlayer w c (Face a) → (o : Option (List ℕ)) → AreAlike face (faced_if w c s a o).faces (states_of (faces_world w) (frame_if (is_face_number c face a) (c.number a) o ++ es))
carried_alike w c face letter s es alike a player None = alike
carried_alike w c face letter s es alike a player (Some bytes) = faced_alike w c face letter s es alike a player (Frame bytes) (events.Frame (c.number a) bytes) refl

-- what happens to a correct replica is nothing to the faces
happened_alike : (face : ℕ → ℕ) (s : Scene) (states : ℕ → CoreState) (j : ℕ) (o : Option (List ℕ)) → AreAlike face s.faces states → AreAlike face (happened_if s j o).faces states
happened_alike face s states j None alike = alike
happened_alike face s states j (Some bytes) alike = alike

-- ---- the steps

steps_alike : (w : Setting) (c : Cast) (face : ℕ → ℕ) (steps : List Step) → IsLetter c face → AreSteps w c steps
    → AreAlike face (scene_of w c steps).faces (states_of (faces_world w) (told_to w c face steps))
unfolding states_of
steps_alike w c face [] letter are i = refl
steps_alike w c face (Give (Correct k) value ∷ steps) letter are i = steps_alike w c face steps letter are.1 i
steps_alike w c face (Give (Face a) value ∷ steps) letter are i =
    faced_alike w c face letter (scene_of w c steps) (told_to w c face steps) (steps_alike w c face steps letter are.1) a are.0 (Input value) (events.Input (c.number a) value) refl i
steps_alike w c face (Go (Correct k) ∷ steps) letter are i = steps_alike w c face steps letter are.1 i
steps_alike w c face (Go (Face a) ∷ steps) letter are i =
    faced_alike w c face letter (scene_of w c steps) (told_to w c face steps) (steps_alike w c face steps letter are.1) a are.0 Turn (events.Turn (c.number a)) refl i
steps_alike w c face (Carry (Correct k) (Correct j) m ∷ steps) letter are i = steps_alike w c face steps letter are.1 i
steps_alike w c face (Carry (Face b) (Correct j) m ∷ steps) letter are i =
    let s = scene_of w c steps in
    happened_alike face s (states_of (faces_world w) (told_to w c face steps)) j (slice_get (player_frames w c s (Face b) j) m) (steps_alike w c face steps letter are.1) i
steps_alike w c face (Carry (Correct k) (Face a) m ∷ steps) letter are i =
    let s = scene_of w c steps in
    carried_alike w c face letter s (told_to w c face steps) (steps_alike w c face steps letter are.1) a are.0.1 (slice_get (player_frames w c s (Correct k) (c.number a)) m) i
steps_alike w c face (Carry (Face b) (Face a) m ∷ steps) letter are i =
    let s = scene_of w c steps in
    carried_alike w c face letter s (told_to w c face steps) (steps_alike w c face steps letter are.1) a are.0.1 (slice_get (player_frames w c s (Face b) (c.number a)) m) i
steps_alike w c face (Throw from to rest ∷ steps) letter are i = steps_alike w c face steps letter are.1 i

pub face_law : FaceLaw
face_law w c face steps letter are i faulty below = steps_alike w c face steps letter are i
