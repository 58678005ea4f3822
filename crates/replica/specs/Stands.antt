-- What the values of a replica stand for, and what its calls do.
use Rattle.std.specs.Prelude.{◌≡◌, ℕ, true, not, ◌==◌, List, ◌++◌, Option, Some, None, Result, Ok, Err, ◌⊎◌, filter, sum_by}
use Rattle.std.specs.List.{range_with_len}
use Rattle.ritas_base.specs.declared.item.Item.{Item}
use Rattle.frame_codec.specs.declared.fault.BodyFault.{BodyFault}
use Rattle.frame_codec.specs.declared.fault.BodyFault.TheVariants as body
use Rattle.frame_codec.specs.Body.{body_answer}
use Rattle.keyed_channel.specs.KeyRow.{KeyRow}
use Rattle.keyed_channel.specs.Frames.{Opening, opening}
use Rattle.keyed_channel.specs.declared.frame.OpenFault.{OpenFault}
use Rattle.ritas_core.specs.declared.answer.Answer.{Answer}
use Rattle.ritas_core.specs.declared.fault.CoreFault.TheVariants as faults
use Rattle.ritas_core.specs.Rules.{Rules}
use Rattle.ritas_core.specs.Parts.{Entry}
use Rattle.ritas_core.specs.Machine as core
use Rattle.ritas_core.specs.Machine.{CoreState, What}
use Rattle.ritas_core.specs.Calls.{IsCoreStep, IsHolding, stopped}
use Rattle.replica.specs.Out.{OutFrame}
use Rattle.replica.specs.declared.refusal.Refusal.{Refusal}
use Rattle.replica.specs.declared.refusal.Refusal.TheVariants as refusals
use Rattle.replica.specs.Frames.{count_for}
use Rattle.replica.specs.Handling.{ReplicaCall, Frame, Input, Turn, handled}

-- the replicas but this one
abbrev pub peers : KeyRow → List ℕ
peers k = filter (λ j. not (j == k.me)) (range_with_len 0 k.n)

-- how many frames a replica with this history made
abbrev pub frames_made : Rules → KeyRow → List Entry → ℕ
frames_made r k h = sum_by (count_for r h) (peers k)

-- what the core is called with by a call, if it is
abbrev pub body_given : Result Item BodyFault → Option What
body_given (Ok item) = Some (core.Frame item)
body_given (Err fault) = None

abbrev pub frame_given : Rules → Result Opening OpenFault → Option What
frame_given r (Ok o) = body_given (body_answer r.casts.numbers r.mode o.from o.body)
frame_given r (Err fault) = None

abbrev pub core_call : Rules → KeyRow → ReplicaCall → Option What
core_call r k (Frame bytes) = frame_given r (opening k bytes)
core_call r k (Input bytes) = Some (core.Input bytes)
core_call r k Turn = Some core.Turn

-- in what follows, Stands is what a replica's value stands for
-- the call answered, made and left what the abstract replica does
pub record Handles {R : Type 0} (Stands : R → Rules → KeyRow → CoreState → Type 0) (new : R) (call : ReplicaCall) (before after : List OutFrame) (result : Result Answer Refusal) (r : Rules) (k : KeyRow) (st : CoreState) : Type 0 where
  pub answer : result ≡ (handled r k st call).answer
  pub out : after ≡ before ++ (handled r k st call).out
  pub state : Stands new r k (handled r k st call).state

-- For want of memory no frame goes out. It comes only where an item was to be held, which leaves all as before, or in a
-- step, which stops the replica.
pub record ReplicaRunsOut {R : Type 0} (Stands : R → Rules → KeyRow → CoreState → Type 0) (new : R) (call : ReplicaCall) (before after : List OutFrame) (r : Rules) (k : KeyRow) (st : CoreState) : Type 0 where
  pub out : after ≡ before
  pub live : st.live ≡ true
  pub what : What
  pub given : core_call r k call ≡ Some what
  pub state : (IsHolding r st what × Stands new r k st) ⊎ (IsCoreStep r st what × Stands new r k (stopped st what))

-- For want of memory to read a body nothing changed. It comes only where the frame opens, and its body spells an item.
pub record ReadsNone {R : Type 0} (Stands : R → Rules → KeyRow → CoreState → Type 0) (new : R) (call : ReplicaCall) (before after : List OutFrame) (r : Rules) (k : KeyRow) (st : CoreState) : Type 0 where
  pub out : after ≡ before
  pub state : Stands new r k st
  pub bytes : List ℕ
  pub opened : Opening
  pub frame : call ≡ Frame bytes
  pub opens : opening k bytes ≡ Ok opened
  pub item : Item
  pub spells : body_answer r.casts.numbers r.mode opened.from opened.body ≡ Ok item

-- each outcome of a call
abbrev pub ReplicaDoes : {R : Type 0} → (R → Rules → KeyRow → CoreState → Type 0) → R → ReplicaCall → List OutFrame → List OutFrame → Result Answer Refusal → Rules → KeyRow → CoreState → Type 0
ReplicaDoes Stands new call before after (Err (refusals.Core faults.Mem)) r k st = ReplicaRunsOut Stands new call before after r k st
ReplicaDoes Stands new call before after (Err (refusals.Body body.Mem)) r k st = ReadsNone Stands new call before after r k st
ReplicaDoes Stands new call before after result r k st = Handles Stands new call before after result r k st

-- whatever state the replica stands for
abbrev pub ReplicaDoesAll : {R : Type 0} → (R → Rules → KeyRow → CoreState → Type 0) → R → R → ReplicaCall → List OutFrame → List OutFrame → Result Answer Refusal → Type 0
ReplicaDoesAll Stands old new call before after result = (r : Rules) (k : KeyRow) (st : CoreState) → Stands old r k st → ReplicaDoes Stands new call before after result r k st

-- the same of each frame that opens as from this sender with this body, whatever its number
abbrev pub DoesOpened : {R : Type 0} → (R → Rules → KeyRow → CoreState → Type 0) → R → R → ℕ → List ℕ → List OutFrame → List OutFrame → Result Answer Refusal → Type 0
DoesOpened Stands old new from body before after result = (r : Rules) (k : KeyRow) (st : CoreState) → Stands old r k st → (bytes : List ℕ) (seq : ℕ)
    → opening k bytes ≡ Ok (record { from = from; seq = seq; body = body }) → ReplicaDoes Stands new (Frame bytes) before after result r k st
