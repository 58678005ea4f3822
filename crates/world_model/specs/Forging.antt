-- A schedule that its players make forges nothing, and its frames are short.
use Rattle.std.specs.Prelude.{◌≡◌, ◌≢◌, ℕ, ◌<◌, ◌≤◌, false, List, [], ◌∷◌, length, ⊤, ◌⊎◌}
use Rattle.ritas_base.specs.declared.event.Event.{Event}
use Rattle.ritas_base.specs.declared.item.Kind.TheVariants.{Init}
use Rattle.ritas_base.specs.declared.item.Msg.{Msg}
use Rattle.ritas_base.specs.Limits.{longest_frame}
use Rattle.ritas_base.specs.Messages.{item_of}
use Rattle.frame_codec.specs.Body.{IsInGrammar}
use Rattle.layer_api.specs.Broadcast.{BroadcastRules}
use Rattle.layer_api.specs.Runs.{Has}
use Rattle.layer_api.specs.Service.{ServiceRules}
use Rattle.world_model.specs.declared.audit.Audit.TheVariants.{Holds, Collision}
use Rattle.world_model.specs.World.{Setting}
use Rattle.world_model.specs.Audit.{is_forged, has_too_many, audit_of}
use Rattle.world_model.specs.EveryWorld.{IsWorld}
use Rattle.world_model.specs.Stands.{NoneStops}
use Rattle.world_model.specs.Players.{Cast, Player, Step, IsPlayer, AreSteps, scene_of, events_of, player_frames}

-- no event forges
abbrev pub ForgesNothing : Setting → List Event → Type 0
ForgesNothing w [] = ⊤
ForgesNothing w (e ∷ es) = (is_forged w es e ≡ false) × ForgesNothing w es

-- what a face shows of a message keeps its receiver, kind and slot, is in the grammar where the message is, and is the
-- message itself but for INIT
pub record IsFaceView (w : Setting) (shown : Msg → Msg) : Type 0 where
  pub to : (m : Msg) → (shown m).to ≡ m.to
  pub kind : (m : Msg) → (shown m).kind ≡ m.kind
  pub slot : (m : Msg) → (shown m).slot ≡ m.slot
  pub others : (m : Msg) → m.kind ≢ Init → shown m ≡ m
  pub good : (i : ℕ) (m : Msg) → IsInGrammar w.numbers w.mode (item_of i m) → IsInGrammar w.numbers w.mode (item_of i (shown m))

-- these steps are of players of the world, of which no replica stops between events
pub record IsPlay (service : ServiceRules) (other : BroadcastRules) (w : Setting) (c : Cast) (steps : List Step) : Type 0 where
  pub kind : IsWorld service other w
  pub going : NoneStops w
  pub shows : IsFaceView w c.shown
  pub steps_are : AreSteps w c steps

-- the law: for every world with this service and this broadcast beside the reliable one, every faces and every steps of players
abbrev pub ForgingLaw : ServiceRules → BroadcastRules → Type 0
ForgingLaw service other = (w : Setting) (c : Cast) (steps : List Step) → IsPlay service other w c steps → ForgesNothing w (events_of w c steps)

-- so its audit holds, or two hashes collide, where enough replicas are correct
abbrev pub PlayedAudit : ServiceRules → BroadcastRules → Type 0
PlayedAudit service other = (w : Setting) (c : Cast) (steps : List Step) → IsPlay service other w c steps → has_too_many w ≡ false
    → (audit_of w (events_of w c steps) ≡ Holds) ⊎ ((k : ℕ) × (audit_of w (events_of w c steps) ≡ Collision k))

-- each frame that a player made has at most so many bytes as a frame may have
abbrev pub ShortLaw : ServiceRules → BroadcastRules → Type 0
ShortLaw service other = (w : Setting) (c : Cast) (steps : List Step) → IsPlay service other w c steps → (x : Player) → IsPlayer w c x → (j : ℕ) → j < w.numbers.n
    → (bytes : List ℕ) → Has (player_frames w c (scene_of w c steps) x j) bytes → length bytes ≤ longest_frame
