-- The abstract core: what it answers, what it puts out, and what it is afterwards.
use Rattle.std.specs.Prelude.{ℕ, Bool, true, ◌||◌, List, [], ◌∷◌, ◌++◌, Option, Some, None, Result, Ok, Err, if◌then◌else◌}
use Rattle.ritas_base.specs.declared.item.Item.{Item}
use Rattle.ritas_base.specs.declared.item.Msg.{Msg}
use Rattle.ooc_buffers.specs.Lists.{HeldItem, with_item_held, released, remaining}
use Rattle.ritas_core.specs.declared.answer.Answer.{Answer}
use Rattle.ritas_core.specs.declared.answer.Answer.TheVariants as answers
use Rattle.ritas_core.specs.declared.fault.CoreFault.{CoreFault}
use Rattle.ritas_core.specs.declared.fault.CoreFault.TheVariants as faults
use Rattle.ritas_core.specs.declared.verdict.Verdict.{Verdict}
use Rattle.ritas_core.specs.declared.verdict.Verdict.TheVariants as verdicts
use Rattle.ritas_core.specs.Rules.{Rules}
use Rattle.ritas_core.specs.Parts.{Entry, Took, Given, parts}
use Rattle.ritas_core.specs.Order.{new_messages, own_items}
use Rattle.ritas_core.specs.Checks.{verdict_on, input_check, is_open, is_item_past, body_length, IsGood}

-- the state of a core: whether it isn't stopped, its history, the items that wait at it, and those held for each peer
pub record CoreState : Type 0 where
  pub live : Bool
  pub history : List Entry
  pub inbox : List Item
  pub held : List (List HeldItem)
  -- what the call that stopped it would have taken; a live core, and one stopped from outside, has none
  pub lost : Option Entry

-- the history with the lost entry, if there is one
abbrev pub with_entry : Option Entry → List Entry → List Entry
with_entry None h = h
with_entry (Some e) h = e ∷ h

abbrev pub with_lost : CoreState → List Entry
with_lost st = with_entry st.lost st.history

-- what a call does
pub record Moved : Type 0 where
  pub state : CoreState
  pub answer : Result Answer CoreFault
  pub out : List Msg

-- what a core is called with
pub data What : Type 0 where
  Frame : Item → What
  Input : List ℕ → What
  Turn : What

-- nothing but these waiting items changed
abbrev pub stays : CoreState → List Item → Result Answer CoreFault → Moved
stays st waiting answer = record {
  state = record st { inbox = waiting };
  answer = answer;
  out = [];
}

-- an entry is taken: what becomes due goes out, what is for oneself joins the inbox, then the held items that are
-- open do, by peer and in their order, and those that are past are dropped
abbrev pub state_after_entry : Rules → CoreState → Entry → List Item → CoreState
state_after_entry r st e waiting = record st {
  live = true;
  lost = None;
  history = e ∷ st.history;
  inbox = (waiting ++ own_items r.casts.me (new_messages r st.history e)) ++ released (is_open r (parts r (e ∷ st.history))) st.held;
  held = remaining (λ x. is_open r (parts r (e ∷ st.history)) x || is_item_past r (parts r (e ∷ st.history)) x) st.held;
}

abbrev pub enters : Rules → CoreState → Entry → List Item → Moved
enters r st e waiting = record { state = state_after_entry r st e waiting; answer = Ok answers.Took; out = new_messages r st.history e }

-- an item is given, while these wait
abbrev pub gives_item : Rules → CoreState → Item → List Item → Verdict → Moved
gives_item r st item waiting (verdicts.Refuse fault) = stays st waiting (Err fault)
gives_item r st item waiting verdicts.Again = stays st waiting (Ok answers.Repeat)
gives_item r st item waiting verdicts.Hold = record {
  state = record st { live = true; lost = None; inbox = waiting; held = with_item_held st.held item (body_length item) };
  answer = Ok answers.Held;
  out = [];
}
gives_item r st item waiting verdicts.Take = enters r st (Took item) waiting

abbrev pub given_item : Rules → CoreState → Item → List Item → Moved
given_item r st item waiting = gives_item r st item waiting (verdict_on r (parts r st.history) st.held item)

abbrev pub given_input : Rules → CoreState → List ℕ → Option CoreFault → Moved
given_input r st value (Some fault) = stays st st.inbox (Err fault)
given_input r st value None = enters r st (Given value) st.inbox

-- a turn gives the item at the front of the inbox
abbrev pub turned : Rules → CoreState → List Item → Moved
turned r st [] = stays st [] (Ok answers.Idle)
turned r st (item ∷ waiting) = given_item r st item waiting

abbrev pub moved_live : Rules → CoreState → What → Moved
moved_live r st (Frame item) = given_item r st item st.inbox
moved_live r st (Input value) = given_input r st value (input_check r (parts r st.history) value)
moved_live r st Turn = turned r st st.inbox

-- what a call does; a stopped core stays as it is
abbrev pub moved : Rules → CoreState → What → Moved
moved r st what = if st.live then moved_live r st what else stays st st.inbox (Err faults.Stopped)

-- the state of a new core, which has a list for each of n peers
abbrev pub first_state : List (List HeldItem) → CoreState
first_state held = record { live = true; history = []; inbox = []; held = held; lost = None }

-- what may be given
abbrev pub MayGive : Rules → What → Type 0
MayGive r (Frame item) = IsGood r item
MayGive r (Input value) = Unit {0}
MayGive r Turn = Unit {0}

-- each of these items may be given
abbrev pub AreGood : Rules → List Item → Type 0
AreGood r [] = Unit {0}
AreGood r (x ∷ xs) = IsGood r x × AreGood r xs
