-- What the values of serving stand for.
use Rattle.std.specs.Prelude.{◌≡◌, ℕ, ◌<◌, Bool, true, false, nat_lt, List, [], ◌∷◌, length, map, Option, Some, None, Result, Ok, Err}
use Rattle.std.specs.List.{slice_get}
use Rattle.ritas_base.specs.declared.bytes.Mem.{Mem}
use Rattle.ritas_base.specs.declared.event.Event.{Event}
use Rattle.frame_codec.specs.declared.fault.BodyFault.TheVariants as body
use Rattle.keyed_channel.specs.KeyRow.{KeyRow}
use Rattle.ritas_core.specs.declared.answer.Answer.{Answer}
use Rattle.ritas_core.specs.declared.fault.CoreFault.TheVariants as faults
use Rattle.ritas_core.specs.Stands.{Meaning}
use Rattle.outside.specs.declared.link.Sent.{Sent}
use Rattle.outside.specs.Links.{LinkAct, Sends}
use Rattle.replica.specs.Out.{OutFrame}
use Rattle.replica.specs.declared.refusal.Refusal.{Refusal}
use Rattle.replica.specs.declared.refusal.Refusal.TheVariants as refusals
use Rattle.world_model.specs.World.{Setting}
use Rattle.node_loop.specs.declared.output.More.{More}
use Rattle.node_loop.specs.declared.output.More.TheVariants as mores
use Rattle.node_loop.specs.declared.output.Output.{Output}
use Rattle.node_loop.specs.declared.output.Reply.{Reply}
use Rattle.node_loop.specs.declared.output.ReplyBytes.{ReplyBytes}
use Rattle.node_loop.specs.declared.output.ReplyBytes.TheVariants as said
use Rattle.node_loop.specs.declared.house.House.{House}
use Rattle.node_loop.specs.declared.peers.Keeper.{Keeper}
use Rattle.node_loop.specs.Waiting.{Waiting}
use Rattle.node_loop.specs.Calls.{Outcome}
use Rattle.node_loop.specs.Peers.{Peers, keep_all}
use Rattle.node_loop.specs.Deeds.{Resent, act_of, has_resent, sends}
use Rattle.node_loop.specs.Resending.{Brought, part_of}
use Rattle.node_loop.specs.Keeping.{has_kept}
use Rattle.node_loop.specs.Serving.{frames_made_by, sent_by, onto}
use Rattle.node_loop.specs.PeersStanding.{IsKeeper}
use Rattle.node_loop.specs.WaitersStanding.{IsWaiting}
use Rattle.node_loop.specs.Served.{AreHere}

-- ---- the replicas and who waits at them

pub record HouseStands {S E C : Type 0} (m : Meaning S E C KeyRow) (w : Setting) (es : List Event) (numbers : List ℕ) (house : House S E C)
    (ws : Waiting) (p : Peers) : Type 0 where
  pub here : AreHere m w es numbers house.replicas.items
  pub waiting : IsWaiting house.waiting ws
  pub many : length house.keepers.items ≡ length numbers
  pub keepers : (k i : ℕ) (keeper : Keeper) → slice_get numbers k ≡ Some i → slice_get house.keepers.items k ≡ Some keeper → IsKeeper w.mode.version w.numbers.n i keeper p

-- ---- what comes of an item or a turn, at replica `at`

-- a frame and a reply of a replica
abbrev pub frame_by : ℕ → OutFrame → LinkAct
frame_by at f = Sends (record { at = at; to = f.to; bytes = f.bytes })

abbrev pub bytes_said : ReplyBytes → List ℕ
bytes_said (said.Short bytes) = bytes
bytes_said (said.Piece bytes) = bytes

abbrev pub reply_by : ℕ → Reply → Sent
reply_by at r = record { at = at; to = r.conn; bytes = bytes_said r.bytes }

-- nothing came yet
pub record IsEmptyOutput (o : Output) : Type 0 where
  pub event : o.event ≡ None
  pub frames : o.frames.items ≡ []
  pub more : o.more ≡ mores.Nothing
  pub replies : o.replies.items ≡ []
  pub kept : o.kept ≡ false

-- a part of what is kept for a peer goes out again
abbrev pub is_again : More → Bool
is_again mores.Nothing = false
is_again (mores.Note peer bytes) = false
is_again (mores.Kept peer part) = true

-- what goes to a peer besides: nothing, a note, or a part of what is kept for it
abbrev pub IsMore : Setting → ℕ → More → Brought → Type 0
IsMore w at mores.Nothing more = more.deeds ≡ []
IsMore w at (mores.Note peer bytes) more = (map (act_of w.keys) more.deeds ≡ sends at peer bytes ∷ []) × (has_resent more.deeds ≡ false)
IsMore w at (mores.Kept peer part) more =
    (peer < w.numbers.n) × (more.deeds ≡ map (λ k. Resent at peer k.frame) (part_of part (more.peers.keeping at peer)))

-- so it is, and frames go out again just where some are kept
pub record IsMoreNow (w : Setting) (at : ℕ) (goes : More) (more : Brought) : Type 0 where
  pub besides : IsMore w at goes more
  pub again : is_again goes ≡ has_resent more.deeds

-- It is put out, with whether a journal keeps it, and the replicas and those who wait stand for it; the peers stand for it once the frames of its call are kept, as they
-- are when they go out. What is for a replica that isn't here brings nothing.
pub record ComesOut {S E C : Type 0} (m : Meaning S E C KeyRow) (w : Setting) (es : List Event) (numbers : List ℕ) (now : House S E C)
    (output : Output) (did : Outcome) (more : Brought) : Type 0 where
  pub event : output.event ≡ did.event
  pub keeps : output.kept ≡ has_kept w es did.event
  pub frames : map (frame_by output.at) output.frames.items ≡ sent_by w es did.event
  pub besides : IsMore w output.at output.more more
  pub nowhere : w.is_correct output.at ≡ false → (did.event ≡ None) × (more.deeds ≡ [])
  pub replies : map (reply_by output.at) output.replies.items ≡ did.replies
  pub before : Peers
  pub kept : keep_all w.mode.version (frames_made_by w es did.event) before ≡ more.peers
  pub stands : HouseStands m w (onto did.event es) numbers now did.waiting before

abbrev pub is_before_other : ℕ → Option ℕ → Bool
is_before_other number None = true
is_before_other number (Some other) = nat_lt number other

-- ---- refusals

-- a call answered want of memory
abbrev pub is_want : Result Answer Refusal → Bool
is_want (Err (refusals.Core faults.Mem)) = true
is_want (Err (refusals.Body body.Mem)) = true
is_want _ = false

-- a frame that was answered so opened
abbrev pub is_answer_opened : Result Answer Refusal → Bool
is_answer_opened (Err (refusals.Open fault)) = false
is_answer_opened _ = true

-- want of memory is told apart from all other answers
abbrev pub TellsWant : Result Answer Refusal → Result (Result Answer Refusal) Mem → Type 0
TellsWant answer (Ok told) = (told ≡ answer) × (is_want answer ≡ false)
TellsWant answer (Err mem) = is_want answer ≡ true
