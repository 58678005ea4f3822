-- A step by which no frame is made leaves the counts of all players.
use Rattle.std.proofs.Common.{◌≡◌, ◌≢◌, ℕ, ◌+◌, ◌/◌, ◌%◌, ◌^◌, ◌<◌, ◌==◌, ◌&&◌, true, not, List, [], ◌∷◌, ◌++◌, length, map, reverse, Option, Some, None, refl, sym, ◌∙◌, ap, subst, inl, inr, ◌⊎◌, if◌then◌else◌, arith}
use Rattle.std.specs.List.{slice_get}
use Rattle.std.proofs.lemmas.Bool.{ne_eqb, eq-eqb}
use Rattle.std.proofs.lemmas.List.{length-map, length-reverse}
use Rattle.ritas_base.specs.declared.event.Event.{Event}
use Rattle.ritas_base.specs.declared.event.Event.TheVariants as events
use Rattle.ritas_base.specs.declared.item.Msg.{Msg}
use Rattle.ritas_base.specs.declared.plan.Plan.{Plan}
use Rattle.keyed_channel.specs.KeyRow.{KeyRow}
use Rattle.keyed_channel.specs.Frames.{sealed}
use Rattle.ritas_core.specs.Machine.{CoreState}
use Rattle.ritas_core.specs.Rules.{Rules}
use Rattle.ritas_core.specs.Parts.{Entry}
use Rattle.ritas_core.specs.Order.{new_messages, sent_to}
use Rattle.replica.specs.Frames.{sealed_onto, made_for, body_of}
use Rattle.world_model.specs.World.{Setting, rules_at, states_of}
use Rattle.world_model.specs.declared.player.Player.{Player}
use Rattle.world_model.specs.declared.player.Player.TheVariants.{Correct, Face}
use Rattle.world_model.specs.Players.{Scene, player_frames, frames_shown_as, happened_if, faced_if, Step, Give, Go, Carry, Throw, scene_of, number_of, IsPlayer, AreSteps}
use Rattle.world_model.specs.MadeOrder.{all_made}
use Rattle.world_model.specs.Stands.{frames_from}
use Rattle.world_model.specs.Quiet.{QuietLaw}
use Rattle.world_model.specs.FaceWorlds.{faces_world, IsLetter, is_face_number, only_if, frame_if, told_to, FaceLaw}
use Rattle.world_model.proofs.FaceStates.{replica_there}
use Rattle.schedule_plan.specs.Plans.{cast_of, face_a, face_b}
use Rattle.schedule_plan.specs.Sweeps.{frame_counts}
use Rattle.schedule_plan.specs.Schedule.{events_by}
use Rattle.schedule_stage.specs.Worlds.{all_frames}
use Rattle.schedule_drive.specs.Pickers.{counts_in}
use Rattle.schedule_drive.specs.Pickers.{ComesToPlayer}

-- ---- as many frames are shown as are made

sealed_many : (k : KeyRow) (j : ℕ) (ms : List Msg) (frames : List (List ℕ)) → length (sealed_onto k j ms frames) ≡ length ms + length frames
sealed_many k j [] frames = omega arith
sealed_many k j (m ∷ ms) frames = let more = sealed_many k j ms (sealed k j (length frames % 2 ^ 64) (body_of k.me m) ∷ frames) in omega (arith, more)

shown_many : (shown : Msg → Msg) (r : Rules) (k : KeyRow) (h : List Entry) (j : ℕ) → length (frames_shown_as shown r k h j) ≡ length (made_for r k h j)
shown_many shown r k [] j = refl
shown_many shown r k (e ∷ h) j =
    let ms = sent_to j (new_messages r h e) in
    let one = sealed_many k j (map shown ms) (frames_shown_as shown r k h j) in
    let other = sealed_many k j ms (made_for r k h j) in
    let same = length-map ms shown in
    let rest = shown_many shown r k h j in
    omega (arith, one, other, same, rest)

-- how many frames a replica with this history made
abbrev made_count : Setting → ℕ → ℕ → List Entry → ℕ
made_count w i j h = length (reverse (made_for (rules_at w i) (w.keys i) h j))

face_count : (shown : Msg → Msg) (w : Setting) (i j : ℕ) (h : List Entry) → length (reverse (frames_shown_as shown (rules_at w i) (w.keys i) h j)) ≡ made_count w i j h
face_count shown w i j h =
    length-reverse (frames_shown_as shown (rules_at w i) (w.keys i) h j) ∙ shown_many shown (rules_at w i) (w.keys i) h j ∙ sym (length-reverse (made_for (rules_at w i) (w.keys i) h j))

-- ---- a quiet event

from_count : (w : Setting) (states : ℕ → CoreState) (i j : ℕ) → w.is_correct i ≡ true → i ≢ j → length (frames_from w states i j) ≡ made_count w i j (states i).history
from_count w states i j correct apart =
    ap (λ b. length (if b && not (i == j) then reverse (made_for (rules_at w i) (w.keys i) (states i).history j) else [])) correct
    ∙ ap (λ b. length (if true && not b then reverse (made_for (rules_at w i) (w.keys i) (states i).history j) else [])) (ne_eqb i j apart)

quiet_made : QuietLaw → (w : Setting) (es : List Event) (e : Event) (i j : ℕ) → length (all_made w (e ∷ es)) ≡ length (all_made w es) → w.is_correct i ≡ true → (w.keys i).me ≡ i → j < (w.keys i).n → i ≢ j
    → made_count w i j (states_of w (e ∷ es) i).history ≡ made_count w i j (states_of w es i).history
quiet_made quiet w es e i j same correct own below apart =
    sym (from_count w (states_of w (e ∷ es)) i j correct apart) ∙ ap length (quiet w es e same i j own below) ∙ from_count w (states_of w es) i j correct apart

-- ---- a face

letter_a : (p : Plan) → IsLetter (cast_of p.attack) face_a
letter_a p = record { number = λ i. omega arith }

letter_b : (p : Plan) → IsLetter (cast_of p.attack) face_b
letter_b p = record { number = λ i. omega arith }

-- every face is of one of the letters
which_letter : (a : ℕ) → (face_a (a / 2) ≡ a) ⊎ (face_b (a / 2) ≡ a)
which_letter a = grind arith

-- ---- a step

module _ (quiet : QuietLaw) (law : FaceLaw) (w : Setting) (p : Plan) (own : (i : ℕ) → ((w.keys i).me ≡ i) × ((w.keys i).n ≡ w.numbers.n)) where
  below_keys : (i j : ℕ) → j < w.numbers.n → j < (w.keys i).n
  below_keys i j below = subst (λ (n : ℕ). j < n) (sym (own i).1) below

  -- an event of a correct replica
  quiet_correct : (es : List Event) (e : Event) (i j : ℕ) → length (all_made w (e ∷ es)) ≡ length (all_made w es) → w.is_correct i ≡ true → j < w.numbers.n → i ≢ j
      → made_count w i j (states_of w (e ∷ es) i).history ≡ made_count w i j (states_of w es i).history
  quiet_correct es e i j same correct below apart = quiet_made quiet w es e i j same correct (own i).0 (below_keys i j below) apart

  -- an event that is told to the world of a face's letter
  quiet_face : (face : ℕ → ℕ) (old new : ℕ → CoreState) (told after : List Event) (e : Event) (a j : ℕ) → IsPlayer w (cast_of p.attack) (Face a) → face (a / 2) ≡ a → after ≡ e ∷ told
      → length (all_made (faces_world w) after) ≡ length (all_made (faces_world w) told) → old (face (a / 2)) ≡ states_of (faces_world w) told (a / 2) → new (face (a / 2)) ≡ states_of (faces_world w) after (a / 2)
      → j < w.numbers.n → a / 2 ≢ j
      → length (reverse (frames_shown_as (cast_of p.attack).shown (rules_at w (a / 2)) (w.keys (a / 2)) (new a).history j)) ≡ length (reverse (frames_shown_as (cast_of p.attack).shown (rules_at w (a / 2)) (w.keys (a / 2)) (old a).history j))
  quiet_face face old new told after e a j player here is same was now below apart =
      let i = a / 2 in
      let fw = faces_world w in
      let shown = (cast_of p.attack).shown in
      let new_is : new a ≡ states_of fw (e ∷ told) i = ap new (sym here) ∙ now ∙ ap (λ (es : List Event). states_of fw es i) is in
      let old_is : old a ≡ states_of fw told i = ap old (sym here) ∙ was in
      face_count shown w i j (new a).history ∙ ap (λ (st : CoreState). made_count w i j st.history) new_is
      ∙ quiet_made quiet fw told e i j (ap (λ (es : List Event). length (all_made fw es)) (sym is) ∙ same) (replica_there w i player.0 player.1) (own i).0 (below_keys i j below) apart
      ∙ ap (λ (st : CoreState). made_count w i j st.history) (sym old_is) ∙ sym (face_count shown w i j (old a).history)

  -- as many frames of one letter
  abbrev IsQuietTo : (ℕ → ℕ) → List Step → Step → Type 0
  IsQuietTo face steps step = length (all_made (faces_world w) (told_to w (cast_of p.attack) face (step ∷ steps))) ≡ length (all_made (faces_world w) (told_to w (cast_of p.attack) face steps))

  face_go : (face : ℕ → ℕ) → IsLetter (cast_of p.attack) face → (steps : List Step) (a : ℕ) → AreSteps w (cast_of p.attack) (Go (Face a) ∷ steps) → face (a / 2) ≡ a → IsQuietTo face steps (Go (Face a))
      → (z : Player) → number_of (cast_of p.attack) z < w.numbers.n → a / 2 ≢ number_of (cast_of p.attack) z → counts_in w p (Go (Face a) ∷ steps) (Face a) z ≡ counts_in w p steps (Face a) z
  face_go face letter steps a are here same z below apart =
      let c = cast_of p.attack in
      let step = Go (Face a) in
      quiet_face face (scene_of w c steps).faces (scene_of w c (step ∷ steps)).faces (told_to w c face steps) (told_to w c face (step ∷ steps)) (events.Turn (a / 2)) a (number_of c z) are.0 here
      (ap (λ b. only_if b (events.Turn (a / 2)) ++ told_to w c face steps) (eq-eqb (face (a / 2)) a here)) same
      (law w c face steps letter are.1 (a / 2) are.0.0 are.0.1) (law w c face (step ∷ steps) letter are (a / 2) are.0.0 are.0.1) below apart

  -- a frame that comes to a face, if it is there
  face_framed : (face : ℕ → ℕ) → IsLetter (cast_of p.attack) face → (steps : List Step) (step : Step) (a : ℕ) → AreSteps w (cast_of p.attack) (step ∷ steps) → IsPlayer w (cast_of p.attack) (Face a) → face (a / 2) ≡ a
      → (o : Option (List ℕ)) → scene_of w (cast_of p.attack) (step ∷ steps) ≡ faced_if w (cast_of p.attack) (scene_of w (cast_of p.attack) steps) a o
      → told_to w (cast_of p.attack) face (step ∷ steps) ≡ frame_if (is_face_number (cast_of p.attack) face a) (a / 2) o ++ told_to w (cast_of p.attack) face steps → IsQuietTo face steps step
      → (z : Player) → number_of (cast_of p.attack) z < w.numbers.n → a / 2 ≢ number_of (cast_of p.attack) z → counts_in w p (step ∷ steps) (Face a) z ≡ counts_in w p steps (Face a) z
  face_framed face letter steps step a are player here None scene told same z below apart = ap (λ (t : Scene). frame_counts w (cast_of p.attack) t (Face a) z) scene
  face_framed face letter steps step a are player here (Some bytes) scene told same z below apart =
      let c = cast_of p.attack in
      quiet_face face (scene_of w c steps).faces (scene_of w c (step ∷ steps)).faces (told_to w c face steps) (told_to w c face (step ∷ steps)) (events.Frame (a / 2) bytes) a (number_of c z) player here
      (told ∙ ap (λ b. only_if b (events.Frame (a / 2) bytes) ++ told_to w c face steps) (eq-eqb (face (a / 2)) a here)) same
      (law w c face steps letter are.1 (a / 2) player.0 player.1) (law w c face (step ∷ steps) letter are (a / 2) player.0 player.1) below apart

  face_carry : (face : ℕ → ℕ) → IsLetter (cast_of p.attack) face → (steps : List Step) (x : Player) (a m : ℕ) → AreSteps w (cast_of p.attack) (Carry x (Face a) m ∷ steps) → face (a / 2) ≡ a → IsQuietTo face steps (Carry x (Face a) m)
      → (z : Player) → number_of (cast_of p.attack) z < w.numbers.n → a / 2 ≢ number_of (cast_of p.attack) z → counts_in w p (Carry x (Face a) m ∷ steps) (Face a) z ≡ counts_in w p steps (Face a) z
  face_carry face letter steps (Correct k) a m are here same z below apart =
      let c = cast_of p.attack in
      face_framed face letter steps (Carry (Correct k) (Face a) m) a are are.0.1 here (slice_get (player_frames w c (scene_of w c steps) (Correct k) (a / 2)) m) refl refl same z below apart
  face_carry face letter steps (Face b) a m are here same z below apart =
      let c = cast_of p.attack in
      face_framed face letter steps (Carry (Face b) (Face a) m) a are are.0.1 here (slice_get (player_frames w c (scene_of w c steps) (Face b) (a / 2)) m) refl refl same z below apart

  -- a frame of a face that comes to a correct replica, if it is there
  framed_quiet : (s : Scene) (i : ℕ) (o : Option (List ℕ)) → length (all_made w (happened_if s i o).events) ≡ length (all_made w s.events) → w.is_correct i ≡ true
      → (z : Player) → number_of (cast_of p.attack) z < w.numbers.n → i ≢ number_of (cast_of p.attack) z → frame_counts w (cast_of p.attack) (happened_if s i o) (Correct i) z ≡ frame_counts w (cast_of p.attack) s (Correct i) z
  framed_quiet s i None same correct z below apart = refl
  framed_quiet s i (Some bytes) same correct z below apart = quiet_correct s.events (events.Frame i bytes) i (number_of (cast_of p.attack) z) same correct below apart

  -- as many frames of all
  three : (a b d x y z : ℕ) → ◌≡◌ {A = List ℕ} (a ∷ b ∷ d ∷ []) (x ∷ y ∷ z ∷ []) → (a ≡ x) × (b ≡ y) × (d ≡ z)
  three a b d x y z e = (cc, cc, cc)

  pub quiet_counts : (steps : List Step) (step : Step) (y z : Player) → ComesToPlayer step y → AreSteps w (cast_of p.attack) (step ∷ steps) → all_frames w p (step ∷ steps) ≡ all_frames w p steps
      → number_of (cast_of p.attack) z < w.numbers.n → number_of (cast_of p.attack) y ≢ number_of (cast_of p.attack) z → counts_in w p (step ∷ steps) y z ≡ counts_in w p steps y z
  quiet_counts steps step y z comes are same below apart = at step y comes are (three _ _ _ _ _ _ same) apart
    where
      at : (step : Step) (y : Player) → ComesToPlayer step y → AreSteps w (cast_of p.attack) (step ∷ steps)
          → (length (all_made w (events_by w p (step ∷ steps))) ≡ length (all_made w (events_by w p steps))) × IsQuietTo face_a steps step × IsQuietTo face_b steps step
          → number_of (cast_of p.attack) y ≢ number_of (cast_of p.attack) z → counts_in w p (step ∷ steps) y z ≡ counts_in w p steps y z
      at (Give v value) y comes are same apart = absurd comes
      at (Throw from to rest) y comes are same apart = absurd comes
      at (Go (Correct i)) y comes are same apart =
          subst (λ (v : Player). number_of (cast_of p.attack) v ≢ number_of (cast_of p.attack) z → counts_in w p (Go (Correct i) ∷ steps) v z ≡ counts_in w p steps v z) comes
          (quiet_correct (events_by w p steps) (events.Turn i) i (number_of (cast_of p.attack) z) same.0 are.0 below) apart
      at (Go (Face a)) y comes are same apart =
          subst (λ (v : Player). number_of (cast_of p.attack) v ≢ number_of (cast_of p.attack) z → counts_in w p (Go (Face a) ∷ steps) v z ≡ counts_in w p steps v z) comes
          (λ other. elim (which_letter a) [
            | inl here ↦ face_go face_a (letter_a p) steps a are here same.1 z below other
            | inr here ↦ face_go face_b (letter_b p) steps a are here same.2 z below other
          ]) apart
      at (Carry (Correct k) (Correct i) m) y comes are same apart =
          subst (λ (v : Player). number_of (cast_of p.attack) v ≢ number_of (cast_of p.attack) z → counts_in w p (Carry (Correct k) (Correct i) m ∷ steps) v z ≡ counts_in w p steps v z) comes
          (quiet_correct (events_by w p steps) (events.Pass k i m) i (number_of (cast_of p.attack) z) same.0 are.0.1 below) apart
      at (Carry (Face b) (Correct i) m) y comes are same apart =
          let s = scene_of w (cast_of p.attack) steps in
          subst (λ (v : Player). number_of (cast_of p.attack) v ≢ number_of (cast_of p.attack) z → counts_in w p (Carry (Face b) (Correct i) m ∷ steps) v z ≡ counts_in w p steps v z) comes
          (framed_quiet s i (slice_get (player_frames w (cast_of p.attack) s (Face b) i) m) same.0 are.0.1 z below) apart
      at (Carry x (Face a) m) y comes are same apart =
          subst (λ (v : Player). number_of (cast_of p.attack) v ≢ number_of (cast_of p.attack) z → counts_in w p (Carry x (Face a) m ∷ steps) v z ≡ counts_in w p steps v z) comes
          (λ other. elim (which_letter a) [
            | inl here ↦ face_carry face_a (letter_a p) steps x a m are here same.1 z below other
            | inr here ↦ face_carry face_b (letter_b p) steps x a m are here same.2 z below other
          ]) apart
