-- A frame that a face's replica made, and the face's own.
use Rattle.std.proofs.Common.{◌≡◌, ◌≢◌, ℕ, ◌/◌, ◌%◌, ◌^◌, ◌<◌, ◌≤◌, false, List, Some, None, length, sym, ◌∙◌, ap, ap₂, subst, arith}
use Rattle.std.specs.Prelude.{slice_index_or}
use Rattle.std.specs.List.{slice_get}
use Rattle.std.proofs.Math.Nat.{mod-eq_of_lt}
use Rattle.std.proofs.lemmas.Option.{slice_get_past, slice_get-get_or}
use Rattle.ritas_base.specs.declared.item.Msg.{Msg}
use Rattle.ritas_base.specs.declared.plan.Attack.{Attack}
use Rattle.ritas_base.specs.declared.plan.Attack.TheVariants.{Flip}
use Rattle.ritas_base.specs.declared.plan.Plan.{Plan}
use Rattle.ritas_base.specs.Messages.{item_of}
use Rattle.frame_codec.specs.Body.{spelling}
use Rattle.keyed_channel.specs.Frames.{sealed}
use Rattle.keyed_channel.specs.Keyed.{CoinSeed}
use Rattle.keyed_channel.specs.KeyRow.{KeyRow}
use Rattle.layer_api.specs.Broadcast.{BroadcastRules}
use Rattle.layer_api.specs.Service.{ServiceRules}
use Rattle.ritas_core.specs.Stands.{Meaning}
use Rattle.world_model.specs.declared.player.Player.TheVariants.{Face}
use Rattle.world_model.specs.declared.world.World.{World}
use Rattle.world_model.specs.World.{Setting, states_of}
use Rattle.world_model.specs.Stands.{frames_from}
use Rattle.world_model.specs.FaceWorlds.{faces_world, told_to, IsShownAs, AreShownAs, ShownLaw}
use Rattle.world_model.specs.Forging.{IsPlay}
use Rattle.world_model.specs.Players.{Cast, Step, player_frames, scene_of}
use Rattle.schedule_plan.specs.Flips.{flip_body}
use Rattle.schedule_plan.specs.Plans.{cast_of, face_shown}
use Rattle.schedule_plan.proofs.Showing.{plainly}
use Rattle.schedule_stage.specs.Letters.{IsLetterOf}
use Rattle.schedule_stage.specs.Worlds.{world_in}
use Rattle.schedule_stage.proofs.FlipBodies.{flipped_spelling}

-- where bits aren't exchanged they are one
pub plain_is : (w : Setting) (attack : Attack) (i j number : ℕ) (made shown : List ℕ) → attack ≢ Flip → IsShownAs w (cast_of attack) i j number made shown → made ≡ shown
plain_is w attack i j number made shown other is =
    is.made_is ∙ ap (λ (m : Msg). sealed (w.keys i) j (number % 2 ^ 64) (spelling (item_of i m))) (sym (plainly attack other is.message)) ∙ sym is.shown_is

-- and where they are, the face's has the flipped body
pub record IsFlipped (k : KeyRow) (j number : ℕ) (made shown : List ℕ) : Type 0 where
  pub body : List ℕ
  pub made_is : made ≡ sealed k j number body
  pub shown_is : shown ≡ sealed k j number (flip_body body)

pub flipped_is : (w : Setting) (attack : Attack) (i j number : ℕ) (made shown : List ℕ) → attack ≡ Flip → number < 2 ^ 64 → IsShownAs w (cast_of attack) i j number made shown
    → IsFlipped (w.keys i) j number made shown
flipped_is w attack i j number made shown flip small is =
    let said : ℕ → Msg → List ℕ = λ seq m. sealed (w.keys i) j seq (spelling (item_of i m)) in
    let same : number % 2 ^ 64 ≡ number = mod-eq_of_lt small in
    record {
      body = spelling (item_of i is.message);
      made_is = is.made_is ∙ ap (λ (seq : ℕ). said seq is.message) same;
      shown_is =
          is.shown_is
          ∙ ap₂ (λ (seq : ℕ) (x : Attack). said seq (face_shown x is.message)) same flip
          ∙ ap (sealed (w.keys i) j number) (sym (flipped_spelling i is.message));
    }

-- ---- the frames that a face shows

-- those that its replica made in the world of its letter are in this list
pub face_shows : {S E : Type 0} (m : Meaning S E CoinSeed KeyRow) (service : ServiceRules) (other : BroadcastRules) → ShownLaw service other → (p : Plan) (world : World S E CoinSeed) (steps : List Step) (a to : ℕ)
    → IsPlay service other (world_in m p) (cast_of p.attack) steps → (l : IsLetterOf m p world steps a) → (world_in m p).is_correct (a / 2) ≡ false → a / 2 < p.p.n → to < p.p.n → a / 2 ≢ to → (list : List (List ℕ))
    → list ≡ frames_from (faces_world (world_in m p)) (states_of (faces_world (world_in m p)) (told_to (world_in m p) (cast_of p.attack) l.face steps)) (a / 2) to
    → AreShownAs (world_in m p) (cast_of p.attack) (a / 2) to list (player_frames (world_in m p) (cast_of p.attack) (scene_of (world_in m p) (cast_of p.attack) steps) (Face a) to)
face_shows m service other law p world steps a to play l faulty below to_below differ list is =
    let w = world_in m p in
    let c = cast_of p.attack in
    let shown : ℕ → List (List ℕ) = λ b. player_frames w c (scene_of w c steps) (Face b) to in
    subst (λ (b : ℕ). AreShownAs w c (a / 2) to list (shown b)) l.here
    (subst (λ (xs : List (List ℕ)). AreShownAs w c (a / 2) to xs (shown (l.face (a / 2)))) (sym is) (law w c l.face steps play l.letter (a / 2) to faulty below to_below differ))

-- of each that was made there is one that the face shows, and no other
pub frame_there : (w : Setting) (c : Cast) (i j number : ℕ) (made shown : List (List ℕ)) (bytes frame : List ℕ) → AreShownAs w c i j made shown → number < length made → bytes ≡ slice_index_or made number bytes
    → ((b : List ℕ) → IsShownAs w c i j number bytes b → frame ≡ b) → Some frame ≡ slice_get shown number
frame_there w c i j number made shown bytes frame are within read only =
    let there : slice_get made number ≡ Some bytes = slice_get-get_or made number bytes within ∙ ap (λ (x : List ℕ). Some x) (sym read) in
    let one = are.each number bytes there in
    ap (λ (x : List ℕ). Some x) (only one.0 one.2) ∙ sym one.1

pub none_there : (w : Setting) (c : Cast) (i j number : ℕ) (made shown : List (List ℕ)) → AreShownAs w c i j made shown → length made ≤ number → None ≡ slice_get shown number
none_there w c i j number made shown are past = sym (slice_get_past shown number (omega (arith, are.many, past)))
