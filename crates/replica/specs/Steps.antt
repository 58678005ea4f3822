-- What the parts of a call on a replica do: a frame is read, and what the core answers and puts out is passed on.
use Rattle.std.specs.Prelude.{◌≡◌, ◌≢◌, ◌⊎◌, ℕ, ◌+◌, ◌%◌, ◌^◌, ◌<◌, true, List, [], ◌∷◌, ◌++◌, length, Result, Ok, Err}
use Rattle.ritas_base.specs.declared.item.Item.{Item}
use Rattle.ritas_base.specs.declared.item.Msg.{Msg}
use Rattle.frame_codec.specs.declared.fault.BodyFault.{BodyFault}
use Rattle.frame_codec.specs.declared.fault.BodyFault.TheVariants as body
use Rattle.frame_codec.specs.Body.{body_answer}
use Rattle.keyed_channel.specs.KeyRow.{KeyRow}
use Rattle.keyed_channel.specs.Frames.{Opening, opening}
use Rattle.command_log.specs.Rows.{Start}
use Rattle.ritas_core.specs.declared.answer.Answer.{Answer}
use Rattle.ritas_core.specs.declared.answer.Answer.TheVariants as answers
use Rattle.ritas_core.specs.declared.fault.CoreFault.{CoreFault}
use Rattle.ritas_core.specs.declared.fault.CoreFault.TheVariants as faults
use Rattle.ritas_core.specs.Rules.{Rules}
use Rattle.ritas_core.specs.Checks.{IsGood}
use Rattle.ritas_core.specs.Parts.{Entry}
use Rattle.ritas_core.specs.Machine.{CoreState}
use Rattle.ritas_core.specs.Stands.{Meaning, CoreStands}
use Rattle.ritas_core.specs.Shown.{tagger_of}
use Rattle.replica.specs.Out.{OutFrame}
use Rattle.replica.specs.declared.refusal.Refusal.{Refusal}
use Rattle.replica.specs.declared.refusal.Refusal.TheVariants as refusals
use Rattle.replica.specs.declared.replica.Replica.{Replica}
use Rattle.replica.specs.Frames.{frames_of}
use Rattle.replica.specs.Sending.{AreCounts, counts_with}
use Rattle.replica.specs.CommandRows.{Follows, LiesBetween, ids_at}
use Rattle.replica.specs.Handling.{ReplicaCall}
use Rattle.replica.specs.Replica.{ReplicaStands}
use Rattle.replica.specs.Stands.{ReplicaDoesAll}

-- ---- reading

-- the frame opens, and its body was given this answer
pub record IsFrameRead (r : Rules) (k : KeyRow) (bytes : List ℕ) (answer : Result Item BodyFault) : Type 0 where
  pub opened : Opening
  pub opens : opening k bytes ≡ Ok opened
  pub body : body_answer r.casts.numbers r.mode opened.from opened.body ≡ answer

pub record FindsItem (r : Rules) (k : KeyRow) (bytes : List ℕ) (item : Item) : Type 0 where
  pub read : IsFrameRead r k bytes (Ok item)
  pub good : IsGood r item

-- each outcome of reading a frame
abbrev pub ReadsFrame : Rules → KeyRow → List ℕ → Result Item Refusal → Type 0
ReadsFrame r k bytes (Ok item) = FindsItem r k bytes item
ReadsFrame r k bytes (Err (refusals.Open fault)) = opening k bytes ≡ Err fault
ReadsFrame r k bytes (Err (refusals.Body body.Mem)) = (item : Item) × IsFrameRead r k bytes (Ok item)
ReadsFrame r k bytes (Err (refusals.Body fault)) = IsFrameRead r k bytes (Err fault)
ReadsFrame r k bytes (Err (refusals.Core fault)) = ⊥

-- the same of each frame that opens as from this sender with this body
abbrev pub ReadsOpened : Rules → KeyRow → ℕ → List ℕ → Result Item Refusal → Type 0
ReadsOpened r k from body result = (bytes : List ℕ) (seq : ℕ) → opening k bytes ≡ Ok (record { from = from; seq = seq; body = body }) → ReadsFrame r k bytes result

-- ---- passing on what the core answered and put out

-- nothing changed
pub record KeepsReplica {S E C : Type 0} (old new : Replica S E C) (before after : List OutFrame) : Type 0 where
  pub same : new ≡ old
  pub out : after ≡ before

-- the frames of these messages, of which there were as many as count says
pub record CountsFrames (k : KeyRow) (count : ℕ → ℕ) (ms : List Msg) (xs : List ℕ) (sent_before sent : ℕ) (before after : List OutFrame) : Type 0 where
  pub frames : after ≡ before ++ frames_of k count ms
  pub each : AreCounts k.n xs (counts_with count ms)
  pub all : sent ≡ (sent_before + length (frames_of k count ms)) % 2 ^ 64

-- the frames of these messages went out, and are counted
pub record PutsOut {S E C : Type 0} (old new : Replica S E C) (ms : List Msg) (before after : List OutFrame) : Type 0 where
  pub core : new.core ≡ old.core
  pub halted : new.stopped ≡ old.stopped
  pub counts : (count : ℕ → ℕ) → AreCounts (tagger_of old.core).n old.counts count → CountsFrames (tagger_of old.core) count ms new.counts old.sent new.sent before after

-- nothing but the log changed, and how many identifiers were entered
abbrev pub FeedsOnly : {S E C : Type 0} → Replica S E C → Replica S E C → Type 0
FeedsOnly old new = new ≡ record old { log = new.log; fed = new.fed }

-- after an entry of the core the log begins where it began, and its rows lie between what they were and those with that entry
abbrev pub FeedsSome : {S E C : Type 0} → Meaning S E C KeyRow → Replica S E C → Replica S E C → Type 0
FeedsSome m old new = (s : Start) (r : Rules) (st : CoreState) (e : Entry) (h : List Entry) → CoreStands m old.core r st → st.live ≡ true → st.history ≡ e ∷ h
    → Follows s r h old.log old.fed → (new.log.start ≡ s) × LiesBetween s r h (e ∷ h) new.log.rows

-- and it follows
pub record FeedsLog {S E C : Type 0} (m : Meaning S E C KeyRow) (old new : Replica S E C) : Type 0 where
  pub follows : (s : Start) (r : Rules) (st : CoreState) (e : Entry) (h : List Entry) → CoreStands m old.core r st → st.live ≡ true → st.history ≡ e ∷ h
      → Follows s r h old.log old.fed → Follows s r (e ∷ h) new.log new.fed
  pub some : FeedsSome m old new

-- the service appended identifiers that weren't entered yet
abbrev pub HasUnfed : {S E C : Type 0} → Meaning S E C KeyRow → Replica S E C → Type 0
HasUnfed m old = (r : Rules) (st : CoreState) → CoreStands m old.core r st → st.live ≡ true
    → old.fed < length (ids_at r st.history)

-- memory may be wanted: there is something to be entered, or to be sealed
abbrev pub MayWant : {S E C : Type 0} → Meaning S E C KeyRow → Replica S E C → List Msg → Type 0
MayWant m old ms = HasUnfed m old ⊎ (ms ≢ [])

-- for want of memory none went out, and the replica is stopped
pub record ReplicaStops {S E C : Type 0} (m : Meaning S E C KeyRow) (old new : Replica S E C) (ms : List Msg) (before after : List OutFrame) : Type 0 where
  pub core : new.core ≡ old.core
  pub halted : new.stopped ≡ true
  pub sent : new.sent ≡ old.sent
  pub out : after ≡ before
  pub some : FeedsSome m old new
  pub wanted : MayWant m old ms

-- each outcome
abbrev pub ReplicaFinishes : {S E C : Type 0} → Meaning S E C KeyRow → Replica S E C → Replica S E C → Result Answer CoreFault → List Msg → List OutFrame → List OutFrame → Result Answer Refusal → Type 0
ReplicaFinishes m old new (Ok answers.Took) ms before after (Ok answer) = (answer ≡ answers.Took) × PutsOut old new ms before after × FeedsLog m old new
ReplicaFinishes m old new (Ok answers.Took) ms before after (Err fault) = (fault ≡ refusals.Core faults.Mem) × ReplicaStops m old new ms before after
ReplicaFinishes m old new (Ok answer) ms before after result = (result ≡ Ok answer) × KeepsReplica old new before after
ReplicaFinishes m old new (Err fault) ms before after result = (result ≡ Err (refusals.Core fault)) × KeepsReplica old new before after

-- the core is as before, and whether the replica is stopped
pub record SameCore {S E C : Type 0} (old new : Replica S E C) : Type 0 where
  pub core : new.core ≡ old.core
  pub halted : new.stopped ≡ old.stopped

-- all but the counts is as before
pub record SameRest {S E C : Type 0} (old new : Replica S E C) : Type 0 where
  pub core : new.core ≡ old.core
  pub halted : new.stopped ≡ old.stopped
  pub log : new.log ≡ old.log
  pub fed : new.fed ≡ old.fed

-- ---- the frames as bytes

-- whatever call a replica had, which had made so many frames: where that call made these as frames without tags and answered so, the
-- call does what it is to do with the bytes
abbrev pub Seals : {S E C : Type 0} → Meaning S E C KeyRow → ℕ → Replica S E C → Replica S E C → Result Answer Refusal → List OutFrame → List OutFrame → List OutFrame → Result Answer Refusal → Type 0
Seals {S} {E} {C} m sent old new answer made before after result = (s : Start) (first : Replica S E C) (call : ReplicaCall) → first.sent ≡ sent
    → ReplicaDoesAll (ReplicaStands s m) first old call [] made answer → ReplicaDoesAll (ReplicaStands s m) first new call before after result
