-- What the parts of an event do: the first replicas, a call on one of them, whether a frame forges, and what was taken.
use Rattle.std.specs.Prelude.{◌≡◌, ℕ, ◌≤◌, ◌&&◌, Bool, true, false, not, List, [], ◌++◌, length, replicate, Option, Some, None, Result, Ok, Err}
use Rattle.std.specs.List.{slice_get}
use Rattle.std.specs.Str.{bytes_eq}
use Rattle.ritas_base.specs.declared.bytes.Mem.{Mem}
use Rattle.ritas_base.specs.declared.event.Event.{Event}
use Rattle.ritas_base.specs.declared.item.Item.{Item}
use Rattle.ritas_base.specs.declared.mode.Mode.{Mode}
use Rattle.ritas_base.specs.Members.{has_member}
use Rattle.ritas_base.specs.Numbers.{Numbers, IsSession}
use Rattle.frame_codec.specs.declared.fault.BodyFault.TheVariants as body
use Rattle.keyed_channel.specs.KeyRow.{KeyRow}
use Rattle.frame_codec.specs.Body.{body_answer}
use Rattle.keyed_channel.specs.Lengths.{frame_overhead}
use Rattle.keyed_channel.specs.Frames.{sender_of, seq_of, frame_body}
use Rattle.ritas_core.specs.declared.answer.Answer.{Answer}
use Rattle.ritas_core.specs.declared.answer.Answer.TheVariants as answers
use Rattle.ritas_core.specs.declared.fault.CoreFault.TheVariants as faults
use Rattle.ritas_core.specs.Machine.{CoreState, first_state}
use Rattle.ritas_core.specs.Rules.{Rules, casts_by}
use Rattle.ritas_core.specs.Shown.{first_waiting}
use Rattle.ritas_core.specs.Stands.{Meaning}
use Rattle.replica.specs.Out.{OutFrame}
use Rattle.replica.specs.declared.refusal.Refusal.{Refusal}
use Rattle.replica.specs.declared.refusal.Refusal.TheVariants as refusals
use Rattle.replica.specs.declared.replica.Replica.{Replica}
use Rattle.command_log.specs.Rows.{alone}
use Rattle.replica.specs.Replica.{ReplicaStands}
use Rattle.world_model.specs.declared.happened.Happened.{Happened}
use Rattle.world_model.specs.declared.seen.Seen.{Seen}
use Rattle.world_model.specs.declared.seen.Seen.TheVariants as seen_as
use Rattle.world_model.specs.World.{Setting, CallAt, call_of, handled_at, after_call, seen_answer, seen_call}
use Rattle.world_model.specs.Watch.{watched, IsGoodIf, IsTold}
use Rattle.world_model.specs.FramesMade.{MadeTable, made_in}
use Rattle.world_model.specs.Stands.{ReplicasStand, ReplicasLeft}
use Rattle.world_model.specs.Needs.{CallNeeds, EventNeeds}

-- ---- the first replicas

-- what the layers mean at a replica with these keys and this coin
abbrev pub rules_with : {S E C : Type 0} → Meaning S E C KeyRow → Numbers → Mode → KeyRow → C → Rules
rules_with m p root k coin =
    record { mode = root; casts = casts_by root p k.me (m.tags k) m.cast; coin = m.bits coin; service = m.service }

-- the replica with these keys and this coin before any call, where it is correct; its log of commands begins at nothing
abbrev pub IsFirstReplica : {S E C : Type 0} → Meaning S E C KeyRow → Numbers → Mode → ℕ → KeyRow → C → Option (Replica S E C) → Type 0
IsFirstReplica m p root members k coin None = has_member members k.me ≡ false
IsFirstReplica m p root members k coin (Some rep) =
    (has_member members k.me ≡ true) × ReplicaStands alone m rep (rules_with m p root k coin) k (first_state (replicate p.n []))

-- there is a place for each of these coins, with the keys and the coin of its number
pub record AreFirstReplicas {S E C : Type 0} (m : Meaning S E C KeyRow) (p : Numbers) (root : Mode) (members : ℕ)
    (rows : List KeyRow) (all_coins : List C) (places : List (Option (Replica S E C))) : Type 0 where
  pub many : length places ≡ length all_coins
  pub each : (i : ℕ) (k : KeyRow) (coin : C) (place : Option (Replica S E C)) → slice_get rows i ≡ Some k
      → slice_get all_coins i ≡ Some coin → slice_get places i ≡ Some place → IsFirstReplica m p root members k coin place

-- ---- a call

-- the frames that a call makes
abbrev pub frames_out : Setting → (ℕ → CoreState) → Option CallAt → List OutFrame
frames_out w states None = []
frames_out w states (Some c) = (handled_at w states c).out

-- a call was answered so, made these frames behind those before, and left these replicas
pub record CallAnswered {S E C : Type 0} (m : Meaning S E C KeyRow) (w : Setting) (states : ℕ → CoreState) (c : Option CallAt)
    (places : List (Option (Replica S E C))) (before after : List OutFrame) (answer : Seen) : Type 0 where
  pub seen : answer ≡ seen_call w states c
  pub out : after ≡ before ++ frames_out w states c
  pub replicas : ReplicasStand m w (after_call w states c) places

-- each outcome of a call
abbrev pub CallsOr : {S E C : Type 0} → Meaning S E C KeyRow → Setting → (ℕ → CoreState) → Option CallAt
    → List (Option (Replica S E C)) → List OutFrame → List OutFrame → Result Seen Mem → Type 0
CallsOr m w states c places before after (Ok seen) = CallAnswered m w states c places before after seen
CallsOr m w states c places before after (Err mem) = ReplicasLeft m w states (after_call w states c) c places × CallNeeds w states c

abbrev pub IsWant : Result Seen Mem → Type 0
IsWant (Ok seen) = ⊥
IsWant (Err mem) = Unit {0}

-- an answer of a replica as what became of the event, where it isn't want of memory
abbrev pub Sees : Result Answer Refusal → Result Seen Mem → Type 0
Sees (Err (refusals.Core faults.Mem)) result = IsWant result
Sees (Err (refusals.Body body.Mem)) result = IsWant result
Sees answer result = result ≡ Ok (seen_answer answer)

-- ---- whether a frame forges

abbrev pub is_frame : Option (List ℕ) → List ℕ → Bool
is_frame None bytes = false
is_frame (Some frame) bytes = bytes_eq bytes frame

-- whether the frame of this number, from 0, is this one
abbrev pub is_numbered : List (List ℕ) → ℕ → List ℕ → Bool
is_numbered frames k bytes = is_frame (slice_get frames k) bytes

-- whether these bytes name a correct sender that, by this table, hadn't made them for j
abbrev pub is_unmade : ℕ → MadeTable → ℕ → List ℕ → Bool
is_unmade correct t j bytes =
    has_member correct (sender_of bytes) && not (is_numbered (made_in t (sender_of bytes) j) (seq_of bytes) bytes)

-- whether a frame came that opened
abbrev pub is_seen_opened : Seen → Bool
is_seen_opened seen_as.Missed = false
is_seen_opened (seen_as.Refused (refusals.Open fault)) = false
is_seen_opened seen = true

-- ---- the item that was taken

-- whether an event was seen to be taken
abbrev pub is_took : Seen → Bool
is_took (seen_as.Answered answers.Took) = true
is_took seen = false

-- the item at the front of a replica's inbox, where the audit looks at it; what stands there is in the grammar
pub record IsInboxFront (w : Setting) (states : ℕ → CoreState) (at : ℕ) (front : Option Item) : Type 0 where
  pub is : front ≡ watched w.mode (first_waiting (states at).inbox)
  pub good : IsGoodIf w (first_waiting (states at).inbox)

-- the item of a frame's body, where the frame was taken and the audit looks at the item
pub record IsFrameItem (p : Numbers) (mode : Mode) (seen : Seen) (bytes : List ℕ) (found : Option Item) : Type 0 where
  pub missed : is_took seen ≡ false → found ≡ None
  pub took : (item : Item) → is_took seen ≡ true → IsSession p → frame_overhead ≤ length bytes
      → body_answer p mode (sender_of bytes) (frame_body bytes) ≡ Ok item → found ≡ watched mode (Some item)

-- ---- an event

pub record CallHappened {S E C : Type 0} (m : Meaning S E C KeyRow) (w : Setting) (states : ℕ → CoreState) (c : Option CallAt)
    (places : List (Option (Replica S E C))) (happened : Happened) : Type 0 where
  pub told : IsTold w states c happened.at happened.forged happened.taken
  pub seen : happened.seen ≡ seen_call w states c
  pub out : happened.out.items ≡ frames_out w states c
  pub replicas : ReplicasStand m w (after_call w states c) places

-- each outcome, where this needs memory
abbrev pub HappensOr : {S E C : Type 0} → Meaning S E C KeyRow → Setting → (ℕ → CoreState) → Option CallAt → Type 0
    → List (Option (Replica S E C)) → Result Happened Mem → Type 0
HappensOr m w states c Needing places (Ok happened) = CallHappened m w states c places happened
HappensOr m w states c Needing places (Err mem) = ReplicasLeft m w states (after_call w states c) c places × Needing

-- of a call, and of an event
abbrev pub CallHappens : {S E C : Type 0} → Meaning S E C KeyRow → Setting → (ℕ → CoreState) → Option CallAt
    → List (Option (Replica S E C)) → Result Happened Mem → Type 0
CallHappens m w states c places result = HappensOr m w states c (CallNeeds w states c) places result

abbrev pub EventHappens : {S E C : Type 0} → Meaning S E C KeyRow → Setting → (ℕ → CoreState) → Event
    → List (Option (Replica S E C)) → Result Happened Mem → Type 0
EventHappens m w states e places result = HappensOr m w states (call_of w states e) (EventNeeds w states e) places result
