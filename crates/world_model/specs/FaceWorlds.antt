-- The faces of one letter are a world of their own: the same layers, keys and start of the logs, with the faulty replicas, which
-- are below n, in the place of the correct ones.
use Rattle.std.specs.Prelude.{◌≡◌, ◌≢◌, ℕ, ◌<◌, ◌^◌, ◌%◌, ◌==◌, ◌&&◌, nat_lt, Bool, false, not, List, [], ◌∷◌, ◌++◌, length, Option, Some, None, if◌then◌else◌}
use Rattle.std.specs.List.{slice_get}
use Rattle.ritas_base.specs.declared.event.Event.{Event}
use Rattle.ritas_base.specs.declared.event.Event.TheVariants as events
use Rattle.ritas_base.specs.declared.item.Msg.{Msg}
use Rattle.ritas_base.specs.Messages.{item_of}
use Rattle.frame_codec.specs.Body.{IsInGrammar, spelling}
use Rattle.keyed_channel.specs.Frames.{sealed}
use Rattle.layer_api.specs.Broadcast.{BroadcastRules}
use Rattle.layer_api.specs.Service.{ServiceRules}
use Rattle.world_model.specs.World.{Setting, states_of}
use Rattle.world_model.specs.Stands.{frames_from}
use Rattle.world_model.specs.Forging.{IsPlay}
use Rattle.world_model.specs.Players.{Cast, Scene, Correct, Face, Step, Give, Go, Carry, Throw, player_frames, scene_of, AreSteps}

abbrev pub faces_world : Setting → Setting
faces_world w = record {
  numbers = w.numbers;
  mode = w.mode;
  is_correct = λ i. nat_lt i w.numbers.n && not (w.is_correct i);
  at_slot = w.at_slot;
  service = w.service;
  coin = w.coin;
  keys = w.keys;
  stops = λ k i. false;
  start = w.start;
}

-- a letter gives each replica one face
pub record IsLetter (c : Cast) (face : ℕ → ℕ) : Type 0 where
  pub number : (i : ℕ) → c.number (face i) ≡ i

abbrev pub is_face_number : Cast → (ℕ → ℕ) → ℕ → Bool
is_face_number c face a = face (c.number a) == a

abbrev pub only_if : Bool → Event → List Event
only_if b e = if b then e ∷ [] else []

abbrev pub frame_if : Bool → ℕ → Option (List ℕ) → List Event
frame_if b j None = []
frame_if b j (Some bytes) = only_if b (events.Frame j bytes)

-- what a step tells the world of a letter
abbrev pub told_by : Setting → Cast → (ℕ → ℕ) → Scene → Step → List Event
told_by w c face s (Give (Face a) value) = only_if (is_face_number c face a) (events.Input (c.number a) value)
told_by w c face s (Go (Face a)) = only_if (is_face_number c face a) (events.Turn (c.number a))
told_by w c face s (Carry x (Face a) m) = frame_if (is_face_number c face a) (c.number a) (slice_get (player_frames w c s x (c.number a)) m)
told_by w c face s (Give (Correct i) value) = []
told_by w c face s (Go (Correct i)) = []
told_by w c face s (Carry x (Correct j) m) = []
told_by w c face s (Throw from to rest) = []

abbrev pub told_to : Setting → Cast → (ℕ → ℕ) → List Step → List Event
told_to w c face [] = []
told_to w c face (step ∷ steps) = told_by w c face (scene_of w c steps) step ++ told_to w c face steps

-- the law: each face of the letter is in the state of its replica in that world
abbrev pub FaceLaw : Type 0
FaceLaw = (w : Setting) (c : Cast) (face : ℕ → ℕ) (steps : List Step) → IsLetter c face → AreSteps w c steps
    → (i : ℕ) → w.is_correct i ≡ false → i < w.numbers.n → (scene_of w c steps).faces (face i) ≡ states_of (faces_world w) (told_to w c face steps) i

-- ---- the frames of a face

-- what a replica made of a message, and what its face shows of it, under the same number
pub record IsShownAs (w : Setting) (c : Cast) (i j number : ℕ) (made shown : List ℕ) : Type 0 where
  pub message : Msg
  pub good : IsInGrammar w.numbers w.mode (item_of i message)
  pub made_is : made ≡ sealed (w.keys i) j (number % 2 ^ 64) (spelling (item_of i message))
  pub shown_is : shown ≡ sealed (w.keys i) j (number % 2 ^ 64) (spelling (item_of i (c.shown message)))

-- the frames that replica i made for j in the world of its letter, and those that its face shows: as many, each of one message
pub record AreShownAs (w : Setting) (c : Cast) (i j : ℕ) (made shown : List (List ℕ)) : Type 0 where
  pub many : length shown ≡ length made
  pub each : (m : ℕ) (bytes : List ℕ) → slice_get made m ≡ Some bytes → (b : List ℕ) × (slice_get shown m ≡ Some b) × IsShownAs w c i j m bytes b

abbrev pub ShownLaw : ServiceRules → BroadcastRules → Type 0
ShownLaw service other = (w : Setting) (c : Cast) (face : ℕ → ℕ) (steps : List Step) → IsPlay service other w c steps → IsLetter c face
    → (i j : ℕ) → w.is_correct i ≡ false → i < w.numbers.n → j < w.numbers.n → i ≢ j
    → AreShownAs w c i j (frames_from (faces_world w) (states_of (faces_world w) (told_to w c face steps)) i j)
    (player_frames w c (scene_of w c steps) (Face (face i)) j)

-- where a face shows each message as it is, its frames are those of its replica
abbrev pub PlainLaw : Type 0
PlainLaw = (w : Setting) (c : Cast) (face : ℕ → ℕ) (steps : List Step) → AreSteps w c steps → IsLetter c face → ((m : Msg) → c.shown m ≡ m)
    → (i j : ℕ) → w.is_correct i ≡ false → i < w.numbers.n → i ≢ j
    → player_frames w c (scene_of w c steps) (Face (face i)) j ≡ frames_from (faces_world w) (states_of (faces_world w) (told_to w c face steps)) i j
