-- What the steps of a call on a core do, for the rules that its layers have.
use Rattle.std.specs.Prelude.{◌≡◌, ℕ, ◌<◌, Bool, true, false, List, [], ◌∷◌, ◌++◌, Option, Some, None, Result, Ok, Err, if◌then◌else◌}
use Rattle.ritas_base.specs.declared.bytes.Mem.{Mem}
use Rattle.ritas_base.specs.declared.item.Item.{Item}
use Rattle.ritas_base.specs.declared.item.Msg.{Msg}
use Rattle.layer_api.specs.Broadcast.{MayTake}
use Rattle.ooc_buffers.specs.Lists.{HeldItem, is_held, held_bytes, released, remaining}
use Rattle.ritas_core.specs.declared.answer.Answer.{Answer}
use Rattle.ritas_core.specs.declared.answer.Answer.TheVariants as answers
use Rattle.ritas_core.specs.declared.fault.CoreFault.{CoreFault}
use Rattle.ritas_core.specs.declared.fault.CoreFault.TheVariants as faults
use Rattle.ritas_core.specs.declared.verdict.Verdict.{Verdict}
use Rattle.ritas_core.specs.declared.verdict.Verdict.TheVariants as verdicts
use Rattle.ritas_core.specs.declared.change.Change.{Change}
use Rattle.ritas_core.specs.declared.kernel.Core.{Core}
use Rattle.ritas_core.specs.Rules.{Rules, place_at}
use Rattle.ritas_core.specs.Casts.{OutputsShow}
use Rattle.ritas_core.specs.Parts.{Parts, Entry, Given, parts}
use Rattle.ritas_core.specs.Order.{ordered, own_items, new_messages}
use Rattle.ritas_core.specs.Checks.{is_open, is_taken_again, has_room, verdict_on, MayEnter}
use Rattle.ritas_core.specs.Machine.{CoreState, What, Frame, state_after_entry, MayGive}
use Rattle.ritas_core.specs.Stands.{Meaning, rules_of, LayersStand, LayersShow, CoreStands}
use Rattle.ritas_core.specs.LayerCalls.{SameSeat, GivesItem, is_past_in, is_open_in}
use Rattle.ritas_core.specs.Waiting.{MayLeave}
use Rattle.ritas_core.specs.Judging.{judged_in}
use Rattle.ritas_core.specs.Calls.{Does}

-- the rules that the layers of a core have
abbrev pub rules_in : {S E C T : Type 0} → Meaning S E C T → Core S E C T → Rules
rules_in m core = rules_of m core.layers

-- the core stands for this state, and isn't stopped
pub record IsLive {S E C T : Type 0} (m : Meaning S E C T) (core : Core S E C T) (st : CoreState) : Type 0 where
  pub stands : CoreStands m core (rules_in m core) st
  pub live : st.live ≡ true

-- The messages are put out in their order, what comes to oneself joins the inbox, and then what is open. Held items leave where
-- they may by what changed.
pub record Finishes {S E C T : Type 0} (m : Meaning S E C T) (change : Change) (old new : Core S E C T) (made before after : List Msg) : Type 0 where
  pub layers : new.layers ≡ old.layers
  pub stopped : new.stopped ≡ old.stopped
  pub out : after ≡ before ++ ordered made
  pub inbox : (p : Parts) → LayersStand m old.layers p → MayLeave m change old.layers p old.held
      → new.inbox.items ≡ (old.inbox.items ++ own_items old.layers.me (ordered made)) ++ released (is_open_in m old.layers p) old.held
  pub held : (p : Parts) → LayersStand m old.layers p → MayLeave m change old.layers p old.held
      → new.held ≡ remaining (λ x. is_past_in m old.layers p x.slot) (remaining (is_open_in m old.layers p) old.held)

-- for want of memory nothing is put out, and all is as it was
pub record Withdraws {S E C T : Type 0} (old new : Core S E C T) (before after : List Msg) : Type 0 where
  pub layers : new.layers ≡ old.layers
  pub inbox : new.inbox.items ≡ old.inbox.items
  pub held : new.held ≡ old.held
  pub out : after ≡ before

-- the same, but that the service and the broadcasts may have changed: what they show lies between the history and that with
-- the entry that would have been taken
pub record StopsCore {S E C T : Type 0} (m : Meaning S E C T) (old new : Core S E C T) (e : Entry) (before after : List Msg) : Type 0 where
  pub seat : SameSeat old.layers new.layers
  pub shows : (st : CoreState) → IsLive m old st → MayEnter (rules_in m old) (parts (rules_in m old) st.history) e
      → LayersShow m new.layers (rules_in m old) (parts (rules_in m old) st.history) (parts (rules_in m old) (e ∷ st.history))
  pub outputs : (st : CoreState) → IsLive m old st → MayEnter (rules_in m old) (parts (rules_in m old) st.history) e
      → OutputsShow old.layers.mode.root (rules_in m old).casts new.layers.outputs (parts (rules_in m old) st.history).calls (parts (rules_in m old) (e ∷ st.history)).calls
  pub inbox : new.inbox.items ≡ old.inbox.items
  pub held : new.held ≡ old.held
  pub out : after ≡ before

-- an entry was taken, where it met its conditions
pub record EntersCore {S E C T : Type 0} (m : Meaning S E C T) (old new : Core S E C T) (e : Entry) (before after : List Msg) : Type 0 where
  pub state : (st : CoreState) → IsLive m old st → MayEnter (rules_in m old) (parts (rules_in m old) st.history) e
      → CoreStands m new (rules_in m old) (state_after_entry (rules_in m old) st e st.inbox)
  pub out : (st : CoreState) → IsLive m old st → MayEnter (rules_in m old) (parts (rules_in m old) st.history) e
      → after ≡ before ++ new_messages (rules_in m old) st.history e

-- each outcome of giving an input to the layers
abbrev pub TriesInput : {S E C T : Type 0} → Meaning S E C T → Core S E C T → Core S E C T → List ℕ → List Msg → List Msg → Result (Unit {0}) Mem → Type 0
TriesInput m old new value before after (Ok u) = EntersCore m old new (Given value) before after
TriesInput m old new value before after (Err e) = StopsCore m old new (Given value) before after

-- what the judge tells of an item that is to be taken, if it doesn't repeat one that its slot took
pub record IsToTake (r : Rules) (p : Parts) (held : List (List HeldItem)) (item : Item) : Type 0 where
  pub may : MayTake (r.casts.at_slot item.slot) (place_at r.casts item.slot) r.casts.tags (p.calls item.slot) item
  pub opened : is_open r p item ≡ true
  pub verdict : verdict_on r p held item ≡ (if is_taken_again r p item then verdicts.Again else verdicts.Take)

-- of each verdict
abbrev pub Judged : Rules → Parts → List (List HeldItem) → Item → Verdict → Type 0
Judged r p held item (verdicts.Refuse fault) = verdict_on r p held item ≡ verdicts.Refuse fault
Judged r p held item verdicts.Again = verdict_on r p held item ≡ verdicts.Again
Judged r p held item verdicts.Hold = verdict_on r p held item ≡ (if has_room held item then verdicts.Hold else verdicts.Refuse (faults.HeldFull (held_bytes held item.from)))
Judged r p held item verdicts.Take = IsToTake r p held item

-- what a call does for the rules that the layers have
abbrev pub DoesHere : {S E C T : Type 0} → Meaning S E C T → Core S E C T → Core S E C T → What → List Msg → List Msg → Result Answer CoreFault → Type 0
DoesHere m old new what before after result = (st : CoreState) → IsLive m old st → MayGive (rules_in m old) what
    → Does m old new what before after result (rules_in m old) st

-- and for an item of which the judge has told this
abbrev pub DoesJudged : {S E C T : Type 0} → Meaning S E C T → Core S E C T → Core S E C T → Verdict → Item → List Msg → List Msg → Result Answer CoreFault → Type 0
DoesJudged m old new verdict item before after result = (st : CoreState) → IsLive m old st → MayGive (rules_in m old) (Frame item)
    → Judged (rules_in m old) (parts (rules_in m old) st.history) st.held item verdict
    → Does m old new (Frame item) before after result (rules_in m old) st

-- the layers of a core were given an open item, and nothing else changed
pub record GivesLayers {S E C T : Type 0} (m : Meaning S E C T) (old new : Core S E C T) (item : Item) (made : List Msg) (result : Result (Option Change) Mem) : Type 0 where
  pub seat : SameSeat old.layers new.layers
  pub rest : new ≡ record old { layers = new.layers }
  pub given : GivesItem m old.layers new.layers item [] made result

-- passing on what the layers made of it is the rest of the call
abbrev pub PassesOn : {S E C T : Type 0} → Meaning S E C T → Core S E C T → Core S E C T → Result (Option Change) Mem → List Msg → List Msg → List Msg → Result Answer CoreFault → Type 0
PassesOn {S} {E} {C} {T} m mid new heard made before after result = (old : Core S E C T) (item : Item) → GivesLayers m old mid item made heard
    → DoesJudged m old new verdicts.Take item before after result

-- the item at the front is given as a frame's item is, and stays there; where none waits, nothing changes
pub record GivesFront {S E C T : Type 0} (m : Meaning S E C T) (old new : Core S E C T) (before after : List Msg) (result : Result Answer CoreFault) : Type 0 where
  pub given : (item : Item) (rest : List Item) → old.inbox.items ≡ item ∷ rest → DoesHere m old new (Frame item) before after result
  pub idle : old.inbox.items ≡ [] → (result ≡ Ok answers.Idle) × (after ≡ before) × (new ≡ old)

-- whether there was not enough memory
abbrev pub is_mem : Result Answer CoreFault → Bool
is_mem (Err faults.Mem) = true
is_mem result = false

-- what the judge tells of an item
pub record IsVerdictTold {S E C T : Type 0} (m : Meaning S E C T) (core : Core S E C T) (item : Item) (v : Verdict) : Type 0 where
  pub judged : (p : Parts) → LayersStand m core.layers p → item.slot.origin < core.layers.params.n → v ≡ judged_in m core.layers p (is_held core.held item) item
  pub fresh : v ≡ verdicts.Hold → is_held core.held item ≡ false

-- and of the item at the front, if there is one
pub record IsToldFront {S E C T : Type 0} (m : Meaning S E C T) (core : Core S E C T) (v : Verdict) : Type 0 where
  pub item : Item
  pub rest : List Item
  pub front : core.inbox.items ≡ item ∷ rest
  pub told : IsVerdictTold m core item v

abbrev pub FrontIsTold : {S E C T : Type 0} → Meaning S E C T → Core S E C T → Option Verdict → Type 0
FrontIsTold m core (Some v) = IsToldFront m core v
FrontIsTold m core None = core.inbox.items ≡ []

-- a copy of an item that is to be held; without one the call ends so
abbrev pub CopiesToHold : {S E C T : Type 0} → Meaning S E C T → Core S E C T → Item → Result Item CoreFault → Type 0
CopiesToHold m core item (Ok copy) = copy ≡ item
CopiesToHold m core item (Err fault) = (sent : List Msg) → DoesJudged m core core verdicts.Hold item sent sent (Err fault)
