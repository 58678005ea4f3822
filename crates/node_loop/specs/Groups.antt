-- What is held of a group of rounds, until it is delivered.
use Rattle.std.specs.Prelude.{◌≡◌, ◌⊎◌, ℕ, ◌<◌, ◌≤◌, Bool, true, false, List, [], ◌∷◌, ◌++◌, length, map, reverse, Option, Some, None}
use Rattle.std.specs.List.{AllByRecursion}
use Rattle.ritas_base.specs.declared.event.Event.{Event}
use Rattle.keyed_channel.specs.KeyRow.{KeyRow}
use Rattle.ritas_core.specs.Stands.{Meaning}
use Rattle.outside.specs.LinkCalls.{each_act}
use Rattle.outside.specs.Links.{LinkAct, Replies}
use Rattle.schedule_file.specs.Spelling.{event_text}
use Rattle.world_model.specs.World.{Setting}
use Rattle.node_loop.specs.declared.group.Group.{Group}
use Rattle.node_loop.specs.declared.house.House.{House}
use Rattle.node_loop.specs.declared.output.More.{More}
use Rattle.node_loop.specs.declared.output.More.TheVariants as mores
use Rattle.node_loop.specs.declared.output.Output.{Output}
use Rattle.node_loop.specs.Deeds.{sends}
use Rattle.node_loop.specs.Peers.{Keeping}
use Rattle.node_loop.specs.PeersStanding.{kept_by}
use Rattle.node_loop.specs.Keeping.{kept_of}
use Rattle.node_loop.specs.Resending.{part_of}
use Rattle.node_loop.specs.Outs.{events_text}
use Rattle.node_loop.specs.Serving.{Serving, so_far, Round, after_from}
use Rattle.node_loop.specs.Told.{MayJoin, AreJoined, enough_bytes, events_from, news_from, resends_by}
use Rattle.node_loop.specs.Standing.{HouseStands, is_again, frame_by, reply_by}

-- ---- what goes to the link: the newest first

-- what goes to a peer besides, of what is kept for each
abbrev pub more_by : Keeping → ℕ → More → List LinkAct
more_by keeping at mores.Nothing = []
more_by keeping at (mores.Note peer bytes) = sends at peer bytes ∷ []
more_by keeping at (mores.Kept peer part) = each_act (kept_by at peer) (part_of part (keeping at peer))

-- what goes to it of what came of a round: the frames, what goes to a peer besides, and then the replies
abbrev pub acts_by : Keeping → Output → List LinkAct
acts_by keeping o = each_act Replies (map (reply_by o.at) o.replies.items) ++ (more_by keeping o.at o.more ++ each_act (frame_by o.at) o.frames.items)

-- for each of a list, in its order
abbrev pub acts_each : {A : Type 0} → (A → List LinkAct) → List A → List LinkAct
acts_each f [] = []
acts_each f (x ∷ xs) = acts_each f xs ++ f x

-- it goes to a peer, and what is for a replica that isn't here is nothing
abbrev pub FitsPeers : Setting → Keeping → ℕ → More → Type 0
FitsPeers w keeping at mores.Nothing = Unit {0}
FitsPeers w keeping at (mores.Note peer bytes) = Unit {0}
FitsPeers w keeping at (mores.Kept peer part) = (peer < w.numbers.n) × (w.is_correct at ≡ false → part_of part (keeping at peer) ≡ [])

-- ---- what a group holds

-- an event, if there is one and it is kept
abbrev pub kept_listed : Bool → Option Event → List Event
kept_listed true (Some e) = e ∷ []
kept_listed kept e = []

-- the text of an event, if there is one
abbrev pub text_listed : Option Event → List ℕ
text_listed None = []
text_listed (Some e) = event_text e

-- nothing came yet
pub record IsEmpty (group : Group) : Type 0 where
  pub text : group.text.taken ≡ []
  pub kept : group.kept.items ≡ []
  pub outputs : group.outputs.items ≡ []
  pub resends : group.resends ≡ false

-- nothing goes out again by the newest of these rounds
abbrev pub IsSettled : Setting → List Event → Serving → List Round → Type 0
IsSettled w past start [] = Unit {0}
IsSettled w past start (x ∷ newest) = resends_by w past x (after_from w past start newest) ≡ false

-- something does
abbrev pub IsResending : Setting → List Event → Serving → List Round → Type 0
IsResending w past start [] = ⊥
IsResending w past start (x ∷ newest) = resends_by w past x (after_from w past start newest) ≡ true

-- It holds what came of these rounds: the text of their events, those that a journal keeps, and what goes to the link, of what is kept for peers now.
-- Only the newest round's may go by that.
pub record GroupHolds (w : Setting) (past : List Event) (start : Serving) (newest : List Round) (group : Group) : Type 0 where
  pub none : newest ≡ [] → group.outputs.items ≡ []
  pub text : group.text.taken ≡ events_text (events_from w past start newest)
  pub keeps : group.kept.items ≡ reverse (kept_of w (so_far past start) (events_from w past start newest))
  pub acts : acts_each (acts_by (after_from w past start newest).peers.keeping) group.outputs.items ≡ news_from w past start newest
  pub fit : AllByRecursion (λ o. FitsPeers w (after_from w past start newest).peers.keeping o.at o.more) group.outputs.items
  pub settled : group.resends ≡ false → AllByRecursion (λ o. is_again o.more ≡ false) group.outputs.items × IsSettled w past start newest
  pub again : group.resends ≡ true → IsResending w past start newest
  pub joined : AreJoined w past start newest

-- a turn or an item may join: nothing goes out again, and the text isn't enough
pub record MayGrow (group : Group) : Type 0 where
  pub calm : group.resends ≡ false
  pub light : length group.text.taken < enough_bytes

-- or none may
abbrev pub IsGroupEnough : Group → Type 0
IsGroupEnough group = (group.resends ≡ true) ⊎ (enough_bytes ≤ length group.text.taken)

-- a round may join the group of these
abbrev pub JoinsGroup : List Round → Round → Group → Type 0
JoinsGroup [] x group = Unit {0}
JoinsGroup (y ∷ newest) x group = MayJoin x × MayGrow group

-- the replicas stand after these rounds, and the group holds what came of them
pub record Under {S E C : Type 0} (m : Meaning S E C KeyRow) (w : Setting) (past : List Event) (numbers : List ℕ) (start : Serving) (newest : List Round)
    (house : House S E C) (group : Group) : Type 0 where
  pub stands : HouseStands m w (so_far past (after_from w past start newest)) numbers house (after_from w past start newest).waiting
      (after_from w past start newest).peers
  pub holds : GroupHolds w past start newest group
