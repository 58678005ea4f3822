-- What each call on a core does, for every state that the core stands for.
use Rattle.std.specs.Prelude.{◌≡◌, true, false, List, [], ◌∷◌, ◌++◌, Option, Some, None, Result, Err, ◌⊎◌}
use Rattle.ritas_base.specs.declared.item.Item.{Item}
use Rattle.ritas_base.specs.declared.item.Msg.{Msg}
use Rattle.ritas_core.specs.declared.answer.Answer.{Answer}
use Rattle.ritas_core.specs.declared.fault.CoreFault.{CoreFault}
use Rattle.ritas_core.specs.declared.fault.CoreFault.TheVariants as faults
use Rattle.ritas_core.specs.declared.kernel.Core.{Core}
use Rattle.ritas_core.specs.declared.verdict.Verdict.TheVariants as verdicts
use Rattle.ritas_core.specs.Rules.{Rules}
use Rattle.ritas_core.specs.Parts.{Entry, Took, Given, parts}
use Rattle.ritas_core.specs.Checks.{verdict_on, input_check}
use Rattle.ritas_core.specs.Machine.{CoreState, What, Frame, Input, Turn, moved, MayGive}
use Rattle.ritas_core.specs.Stands.{Meaning, CoreStands}

-- the call answered, put out and left what the abstract core does
pub record Moves {S E C T : Type 0} (m : Meaning S E C T) (old new : Core S E C T) (what : What) (before after : List Msg) (result : Result Answer CoreFault) (r : Rules) (st : CoreState) : Type 0 where
  pub answer : result ≡ (moved r st what).answer
  pub out : after ≡ before ++ (moved r st what).out
  pub state : CoreStands m new r (moved r st what).state

-- what a call would take
abbrev pub front_entry : List Item → Option Entry
front_entry [] = None
front_entry (item ∷ waiting) = Some (Took item)

abbrev pub entry_of_call : CoreState → What → Option Entry
entry_of_call st (Frame item) = Some (Took item)
entry_of_call st (Input value) = Some (Given value)
entry_of_call st Turn = front_entry st.inbox

-- the call stopped the core: all is as it was, and what it would have taken is lost
abbrev pub stopped : CoreState → What → CoreState
stopped st what = record st { live = false; lost = entry_of_call st what }

-- whether a call would take an item or an input, or would hold an item: only then can it be without memory
abbrev pub TakesItem : Rules → CoreState → Item → Type 0
TakesItem r st item = verdict_on r (parts r st.history) st.held item ≡ verdicts.Take

abbrev pub HoldsItem : Rules → CoreState → Item → Type 0
HoldsItem r st item = verdict_on r (parts r st.history) st.held item ≡ verdicts.Hold

abbrev pub TakesFront : Rules → CoreState → List Item → Type 0
TakesFront r st [] = ⊥
TakesFront r st (item ∷ waiting) = TakesItem r st item

abbrev pub HoldsFront : Rules → CoreState → List Item → Type 0
HoldsFront r st [] = ⊥
HoldsFront r st (item ∷ waiting) = HoldsItem r st item

abbrev pub IsCoreStep : Rules → CoreState → What → Type 0
IsCoreStep r st (Frame item) = TakesItem r st item
IsCoreStep r st (Input value) = input_check r (parts r st.history) value ≡ None
IsCoreStep r st Turn = TakesFront r st st.inbox

abbrev pub IsHolding : Rules → CoreState → What → Type 0
IsHolding r st (Frame item) = HoldsItem r st item
IsHolding r st (Input value) = ⊥
IsHolding r st Turn = HoldsFront r st st.inbox

-- For want of memory nothing goes out. Where an item was to be held, all is as before; in any other step the core is
-- stopped.
pub record RunsOut {S E C T : Type 0} (m : Meaning S E C T) (new : Core S E C T) (what : What) (before after : List Msg) (r : Rules) (st : CoreState) : Type 0 where
  pub out : after ≡ before
  pub live : st.live ≡ true
  pub state : (IsHolding r st what × CoreStands m new r st) ⊎ (IsCoreStep r st what × CoreStands m new r (stopped st what))

-- each outcome of a call
abbrev pub Does : {S E C T : Type 0} → Meaning S E C T → Core S E C T → Core S E C T → What → List Msg → List Msg → Result Answer CoreFault → Rules → CoreState → Type 0
Does m old new what before after (Err faults.Mem) r st = RunsOut m new what before after r st
Does m old new what before after result r st = Moves m old new what before after result r st

-- whatever state the core stands for, where this may be given
abbrev pub DoesAll : {S E C T : Type 0} → Meaning S E C T → Core S E C T → Core S E C T → What → List Msg → List Msg → Result Answer CoreFault → Type 0
DoesAll m old new what before after result = (r : Rules) (st : CoreState) → CoreStands m old r st → MayGive r what → Does m old new what before after result r st
