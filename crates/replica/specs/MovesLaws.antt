-- A call on a core takes an entry, or puts nothing out and leaves the history.
use Rattle.std.proofs.Common.{◌≡◌, ℕ, Bool, true, false, List, [], ◌∷◌, Option, Some, None, Ok, Err, ◌⊎◌, inl, inr, refl, sym, ap, subst, if◌then◌else◌}
use Rattle.ritas_base.specs.declared.item.Item.{Item}
use Rattle.ritas_core.specs.declared.answer.Answer.TheVariants as answers
use Rattle.ritas_core.specs.declared.fault.CoreFault.{CoreFault}
use Rattle.ritas_core.specs.declared.fault.CoreFault.TheVariants as faults
use Rattle.ritas_core.specs.declared.verdict.Verdict.{Verdict}
use Rattle.ritas_core.specs.declared.verdict.Verdict.TheVariants as verdicts
use Rattle.ritas_core.specs.Rules.{Rules}
use Rattle.ritas_core.specs.Parts.{Entry, Took, Given, parts}
use Rattle.ritas_core.specs.Order.{new_messages}
use Rattle.ritas_core.specs.Checks.{verdict_on, input_check}
use Rattle.ritas_core.specs.Machine.{CoreState, What, Frame, Input, Turn, Moved, moved, moved_live, stays, gives_item, given_input, turned}
use Rattle.ritas_core.specs.Calls.{IsCoreStep, TakesFront, entry_of_call, front_entry}

-- it took an entry
pub record TookEntry (r : Rules) (st : CoreState) (what : What) (did : Moved) : Type 0 where
  pub answer : did.answer ≡ Ok answers.Took
  pub live : st.live ≡ true
  pub step : IsCoreStep r st what
  pub entry : Entry
  pub entered : entry_of_call st what ≡ Some entry
  pub going : did.state.live ≡ true
  pub history : did.state.history ≡ entry ∷ st.history
  pub out : did.out ≡ new_messages r st.history entry

-- it put nothing out
pub record PutsNothingOut (st : CoreState) (did : Moved) : Type 0 where
  pub answer : did.answer ≡ Ok answers.Took → ⊥
  pub live : did.state.live ≡ true → st.live ≡ true
  pub history : did.state.history ≡ st.history
  pub out : did.out ≡ []

abbrev pub View : Rules → CoreState → What → Moved → Type 0
View r st what did = TookEntry r st what did ⊎ PutsNothingOut st did

item_view : (r : Rules) (st : CoreState) (what : What) (item : Item) (waiting : List Item) (v : Verdict) → st.live ≡ true → entry_of_call st what ≡ Some (Took item)
    → (v ≡ verdicts.Take → IsCoreStep r st what) → View r st what (gives_item r st item waiting v)
item_view r st what item waiting (verdicts.Refuse fault) live entered step = inr (record { answer = λ e. cc; live = λ e. e; history = refl; out = refl })
item_view r st what item waiting verdicts.Again live entered step = inr (record { answer = λ e. cc; live = λ e. e; history = refl; out = refl })
item_view r st what item waiting verdicts.Hold live entered step = inr (record { answer = λ e. cc; live = λ e. live; history = refl; out = refl })
item_view r st what item waiting verdicts.Take live entered step =
    inl (record { answer = refl; live = live; step = step refl; entry = Took item; entered = entered; going = refl; history = refl; out = refl })

input_view : (r : Rules) (st : CoreState) (value : List ℕ) (check : Option CoreFault) → st.live ≡ true
    → (check ≡ None → IsCoreStep r st (Input value)) → View r st (Input value) (given_input r st value check)
input_view r st value (Some fault) live step = inr (record { answer = λ e. cc; live = λ e. e; history = refl; out = refl })
input_view r st value None live step =
    inl (record { answer = refl; live = live; step = step refl; entry = Given value; entered = refl; going = refl; history = refl; out = refl })

turn_view : (r : Rules) (st : CoreState) (waiting : List Item) → st.live ≡ true → st.inbox ≡ waiting → View r st Turn (turned r st waiting)
turn_view r st [] live e = inr (record { answer = λ h. cc; live = λ h. h; history = refl; out = refl })
turn_view r st (item ∷ waiting) live e =
    item_view r st Turn item waiting (verdict_on r (parts r st.history) st.held item) live (ap front_entry e)
    (λ taken. let Front : List Item → Type 0 = λ xs. TakesFront r st xs in subst Front (sym e) taken)

live_view : (r : Rules) (st : CoreState) (what : What) → st.live ≡ true → View r st what (moved_live r st what)
live_view r st (Frame item) live = item_view r st (Frame item) item st.inbox (verdict_on r (parts r st.history) st.held item) live refl (λ taken. taken)
live_view r st (Input value) live = input_view r st value (input_check r (parts r st.history) value) live (λ passed. passed)
live_view r st Turn live = turn_view r st st.inbox live refl

moved_view_at : (r : Rules) (st : CoreState) (what : What) (live : Bool) → st.live ≡ live
    → View r st what (if live then moved_live r st what else stays st st.inbox (Err faults.Stopped))
moved_view_at r st what true e = live_view r st what e
moved_view_at r st what false e = inr (record { answer = λ h. cc; live = λ h. h; history = refl; out = refl })

-- each call is one or the other
pub moved_view : (r : Rules) (st : CoreState) (what : What) → View r st what (moved r st what)
moved_view r st what = moved_view_at r st what st.live refl
