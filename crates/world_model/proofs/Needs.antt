-- Of a call that needs no memory nothing is kept: the history stays, no frame is made, and it isn't answered that it was taken. So
-- each event that was without memory needed it.
use Rattle.std.proofs.Common.{◌≡◌, ◌≢◌, ℕ, Bool, true, false, List, [], ◌∷◌, Option, Some, None, Result, Ok, Err, ◌⊎◌, inl, inr, refl, sym, ◌∙◌, ap, if◌then◌else◌}
use Rattle.std.specs.Option.{is_some}
use Rattle.std.specs.Result.{OnErr}
use Rattle.ritas_base.specs.declared.event.Event.{Event}
use Rattle.ritas_base.specs.declared.event.Event.TheVariants as events
use Rattle.ritas_base.specs.declared.item.Item.{Item}
use Rattle.ritas_base.specs.declared.mode.Mode.{Mode}
use Rattle.frame_codec.specs.declared.fault.BodyFault.{BodyFault}
use Rattle.frame_codec.specs.Body.{body_answer}
use Rattle.keyed_channel.specs.KeyRow.{KeyRow}
use Rattle.keyed_channel.specs.Frames.{Opening, opening, sealed}
use Rattle.keyed_channel.specs.declared.frame.OpenFault.{OpenFault}
use Rattle.ritas_core.specs.declared.answer.Answer.{Answer}
use Rattle.ritas_core.specs.declared.answer.Answer.TheVariants as answers
use Rattle.ritas_core.specs.declared.fault.CoreFault.{CoreFault}
use Rattle.ritas_core.specs.declared.fault.CoreFault.TheVariants as faults
use Rattle.ritas_core.specs.Rules.{Rules}
use Rattle.ritas_core.specs.Parts.{parts}
use Rattle.ritas_core.specs.Checks.{input_check}
use Rattle.ritas_core.specs.Machine as core
use Rattle.ritas_core.specs.Machine.{CoreState, What, given_input, turned, stays, moved}
use Rattle.ritas_core.specs.Calls.{IsCoreStep, IsHolding, HoldsFront, TakesFront}
use Rattle.replica.specs.declared.refusal.Refusal.{Refusal}
use Rattle.replica.specs.Handling.{ReplicaCall, Frame, Input, Turn, Handled, framed, given_body, given_frame, handled}
use Rattle.replica.specs.Stands.{body_given, frame_given, core_call}
use Rattle.world_model.specs.World.{Setting, rules_at, CallAt, call_of, handled_at, seen_answer, seen_call}
use Rattle.world_model.specs.Audit.{newest_item, taken_by}
use Rattle.world_model.specs.Watch.{item_taken, watched}
use Rattle.world_model.specs.Needs.{CoreNeeds, CallNeeds, EventNeeds}
use Rattle.world_model.specs.Steps.{is_took, frames_out}
use Rattle.world_model.proofs.Histories.{newest_none}

pub on_err : {A E : Type 0} {P : Type 0} (r : Result A E) → P → OnErr r P
on_err (Ok x) p = tt
on_err (Err e) p = p

-- ---- what isn't kept

-- nothing is taken by a call, and no frame made
record IsIdle (st : CoreState) (h : Handled) : Type 0 where
  answer : h.answer ≡ Ok answers.Took → ⊥
  history : h.state.history ≡ st.history
  out : h.out ≡ []

body_either : (r : Rules) (k : KeyRow) (st : CoreState) (found : Result Item BodyFault) → CoreNeeds r st (body_given found) ⊎ IsIdle st (given_body r k st found)
body_either r k st (Ok item) = inl tt
body_either r k st (Err fault) = inr (record { answer = λ e. cc; history = refl; out = refl })

frame_either : (r : Rules) (k : KeyRow) (st : CoreState) (found : Result Opening OpenFault) → CoreNeeds r st (frame_given r found) ⊎ IsIdle st (given_frame r k st found)
frame_either r k st (Ok o) = body_either r k st (body_answer r.casts.numbers r.mode o.from o.body)
frame_either r k st (Err fault) = inr (record { answer = λ e. cc; history = refl; out = refl })

input_either : (r : Rules) (k : KeyRow) (st : CoreState) (value : List ℕ) (live : Bool) (check : Option CoreFault) → input_check r (parts r st.history) value ≡ check
    → (input_check r (parts r st.history) value ≡ None) ⊎ IsIdle st (framed r k st (if live then given_input r st value check else stays st st.inbox (Err faults.Stopped)))
input_either r k st value true None e = inl e
input_either r k st value true (Some fault) e = inr (record { answer = λ e. cc; history = refl; out = refl })
input_either r k st value false check e = inr (record { answer = λ e. cc; history = refl; out = refl })

turn_either : (r : Rules) (k : KeyRow) (st : CoreState) (live : Bool) (waiting : List Item) → st.inbox ≡ waiting
    → (st.inbox ≢ []) ⊎ IsIdle st (framed r k st (if live then turned r st waiting else stays st st.inbox (Err faults.Stopped)))
turn_either r k st live (item ∷ waiting) e = inl (λ none. let wrong : item ∷ waiting ≡ [] = sym e ∙ none in cc)
turn_either r k st true [] e = inr (record { answer = λ e. cc; history = refl; out = refl })
turn_either r k st false [] e = inr (record { answer = λ e. cc; history = refl; out = refl })

-- a call needs memory, or nothing is kept of it
call_either : (r : Rules) (k : KeyRow) (st : CoreState) (call : ReplicaCall) → CoreNeeds r st (core_call r k call) ⊎ IsIdle st (handled r k st call)
call_either r k st (Frame bytes) = frame_either r k st (opening k bytes)
call_either r k st (Input bytes) = input_either r k st bytes st.live (input_check r (parts r st.history) bytes) refl
call_either r k st Turn = turn_either r k st st.live st.inbox refl

either_at : (w : Setting) (states : ℕ → CoreState) (c : CallAt) → CallNeeds w states (Some c) ⊎ IsIdle (states c.at) (handled_at w states c)
either_at w states c = call_either (rules_at w c.at) (w.keys c.at) (states c.at) c.call

-- ---- what is kept

took_answer : (x : Result Answer Refusal) → is_took (seen_answer x) ≡ true → x ≡ Ok answers.Took
took_answer (Ok answers.Took) e = refl
took_answer (Ok answers.Held) e = cc
took_answer (Ok answers.Repeat) e = cc
took_answer (Ok answers.Idle) e = cc
took_answer (Err refusal) e = cc

pub taking_needs : (w : Setting) (states : ℕ → CoreState) (c : Option CallAt) → is_took (seen_call w states c) ≡ true → CallNeeds w states c
taking_needs w states None e = absurd cc
taking_needs w states (Some c) e = elim (either_at w states c) [
  | inl needs ↦ needs
  | inr idle ↦ absurd (idle.answer (took_answer (handled_at w states c).answer e))
]

pub frames_need : (w : Setting) (states : ℕ → CoreState) (c : Option CallAt) → frames_out w states c ≢ [] → CallNeeds w states c
frames_need w states None made = absurd (made refl)
frames_need w states (Some c) made = elim (either_at w states c) [
  | inl needs ↦ needs
  | inr idle ↦ absurd (made idle.out)
]

watched_some : (mode : Mode) (x : Option Item) → is_some (watched mode x) ≡ true → is_some x ≡ true
watched_some mode None e = e
watched_some mode (Some item) e = refl

pub watching_needs : (w : Setting) (states : ℕ → CoreState) (c : Option CallAt) → is_some (watched w.mode (item_taken w states c)) ≡ true → CallNeeds w states c
watching_needs w states None e = absurd cc
watching_needs w states (Some c) e = elim (either_at w states c) [
  | inl needs ↦ needs
  | inr idle ↦
      let none : taken_by w states c ≡ None = ap (newest_item (states c.at).history) idle.history ∙ newest_none (states c.at).history in
      let some : is_some (taken_by w states c) ≡ true = watched_some w.mode (taken_by w states c) e in
      absurd (let wrong : false ≡ true = sym (ap is_some none) ∙ some in cc)
]

-- ---- a replica that was without memory

front_there : (r : Rules) (st : CoreState) (waiting : List Item) → HoldsFront r st waiting ⊎ TakesFront r st waiting → waiting ≢ []
front_there r st [] (inl none) = absurd none
front_there r st [] (inr none) = absurd none
front_there r st (item ∷ waiting) is = λ e. cc

pub core_needed : (r : Rules) (st : CoreState) (what : What) → IsHolding r st what ⊎ IsCoreStep r st what → CoreNeeds r st (Some what)
core_needed r st (core.Frame item) is = tt
core_needed r st (core.Input value) (inl none) = absurd none
core_needed r st (core.Input value) (inr step) = step
core_needed r st core.Turn is = front_there r st st.inbox is

-- ---- as an event

pub correct_needs : (w : Setting) (states : ℕ → CoreState) (c : CallAt) (b : Bool) → CallNeeds w states (if b then Some c else None) → b ≡ true
correct_needs w states c true needs = refl
correct_needs w states c false needs = absurd needs

pub event_needs : (w : Setting) (states : ℕ → CoreState) (e : Event) → CallNeeds w states (call_of w states e) → EventNeeds w states e
event_needs w states (events.Frame to bytes) needs = needs
event_needs w states (events.Input at bytes) needs = needs
event_needs w states (events.Turn at) needs = needs
event_needs w states (events.Pass from to m) needs = needs
event_needs w states (events.Sealed from to body) needs =
    correct_needs w states (record { at = to; call = Frame (sealed (w.keys from) to 0 body) }) (w.is_correct to) needs
