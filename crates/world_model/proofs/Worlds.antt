-- What is true of the correct replicas of a world after events that forge nothing: their histories met their conditions,
-- each item that they store is in the grammar and was due at its sender, if that is correct, and their calls are runs.
use Rattle.std.proofs.Common.{◌≡◌, ℕ, ◌<◌, Bool, true, false, not, ◌&&◌, ◌||◌, cond, Option, Some, None, Result, Ok, Err, List, [], ◌∷◌, ◌++◌, length, refl, sym, ◌∙◌, ap, subst, arith}
use Rattle.std.proofs.Math.Dec.{eqb}
use Rattle.std.proofs.lemmas.Bool.{eq-eqb, eqb-true, or_parts}
use Rattle.ritas_base.specs.declared.event.Event.{Event}
use Rattle.ritas_base.specs.declared.event.Event.TheVariants as events
use Rattle.ritas_base.specs.declared.slot.Slot.{Slot}
use Rattle.ritas_base.specs.declared.item.Item.{Item}
use Rattle.ritas_base.specs.declared.item.Msg.{Msg}
use Rattle.ritas_base.specs.Messages.{reaches, item_of}
use Rattle.ritas_base.specs.History.{replicas}
use Rattle.layer_api.specs.Runs.{Has}
use Rattle.layer_api.specs.Entries.{is_claim}
use Rattle.frame_codec.specs.Values.{column_row}
use Rattle.frame_codec.specs.declared.fault.BodyFault.{BodyFault}
use Rattle.frame_codec.specs.Body.{spelling, body_answer}
use Rattle.frame_codec.specs.Inputs.{IsInput, input_fault}
use Rattle.frame_codec.specs.Laws.{InputsFaultless}
use Rattle.keyed_channel.specs.Keyed.{tags_of}
use Rattle.keyed_channel.specs.Frames.{Opening, opening, sealed}
use Rattle.keyed_channel.specs.declared.frame.OpenFault.{OpenFault}
use Rattle.ritas_core.specs.declared.fault.CoreFault.{CoreFault}
use Rattle.ritas_core.specs.declared.fault.CoreFault.TheVariants as faults
use Rattle.ritas_core.specs.declared.verdict.Verdict.{Verdict}
use Rattle.ritas_core.specs.declared.verdict.Verdict.TheVariants as verdicts
use Rattle.ritas_core.specs.Rules.{Rules}
use Rattle.ritas_core.specs.Parts.{Parts, Entry, Took, Given, parts}
use Rattle.ritas_core.specs.Order.{new_messages, own_items}
use Rattle.ritas_core.specs.Checks.{is_open, is_item_past, body_length, verdict_on, window_fault, input_fault_or, input_check, IsGood, IsHistory, MayEnter}
use Rattle.ritas_core.specs.Machine as core
use Rattle.ritas_core.specs.Machine.{CoreState, What, state_after_entry, gives_item, given_item, given_input, turned, moved_live, moved}
use Rattle.ooc_buffers.specs.Lists.{released}
use Rattle.replica.specs.Frames.{made_for}
use Rattle.replica.specs.Handling.{ReplicaCall, Frame, Input, Turn, given_body, given_frame, handled}
use Rattle.world_model.specs.World.{Setting, rules_at, CallAt, call_at, frame_call, frame_passed, call_of, handled_at, after_call, halted_at, states_of, states_before}
use Rattle.world_model.specs.declared.audit.Audit.{Audit}
use Rattle.world_model.specs.declared.audit.Audit.TheVariants as audits
use Rattle.world_model.specs.Audit.{has_made, is_forged_opening, is_forged_call, newest_item, calls_at, place_in, given_by, is_among, is_made_up, is_forged_item, taken_by, is_forged_at, is_forged, is_colliding, broken_by, judged, first_broken}
use Rattle.world_model.proofs.Histories.{newest_taken}
use Rattle.world_model.proofs.Members.{bytes_listed}
use Rattle.world_model.proofs.Stored.{AreAll, AreAllHeld, all_map, all_held_map, all_append, all_own, all_released, all_remaining, all_with_kept, none_held}
use Rattle.world_model.proofs.Sent.{IsSent, sent_later, sent_is_due, new_due, made_sent}
use Rattle.world_model.proofs.Anywhere.{none_of, has_number}
use Rattle.world_model.proofs.Prints.{none_yet}
use Rattle.world_model.proofs.Runs.{RunAt, RunWith, run_from, IsBacked, IsBackedEntry, calls_after, run_entry, run_joined}
use Rattle.world_model.proofs.Below.{IsFounded, IsSoundOver, founded_at}

pub layer_laws : (w : Setting) → IsSoundOver w → (i : ℕ) → w.is_correct i ≡ true → IsFounded (rules_at w i)
layer_laws w sound i correct = founded_at w sound i (sound.world.within i correct)

-- ---- what is true of a stored item
abbrev pub histories_of : (ℕ → CoreState) → ℕ → List Entry
histories_of states k = (states k).history

-- the item is due at its sender, if that is correct, for replica i
abbrev pub IsSentOf : Setting → (ℕ → List Entry) → ℕ → Item → Type 0
IsSentOf w histories i x = w.is_correct x.from ≡ true → IsSent (rules_at w x.from) (histories x.from) i x

pub record IsFine (w : Setting) (histories : ℕ → List Entry) (i : ℕ) (x : Item) : Type 0 where
  pub good : IsGood (rules_at w i) x
  pub sent : IsSentOf w histories i x

-- what is due at correct replicas stays due
abbrev Grows : Setting → (ℕ → List Entry) → (ℕ → List Entry) → Type 0
Grows w before after = (k : ℕ) → w.is_correct k ≡ true → (j : ℕ) (x : Item) → IsSent (rules_at w k) (before k) j x → IsSent (rules_at w k) (after k) j x

fine_later : (w : Setting) (before after : ℕ → List Entry) → Grows w before after → (i : ℕ) (x : Item) → IsFine w before i x → IsFine w after i x
fine_later w before after grows i x fine = record { good = fine.good; sent = λ correct. grows x.from correct i x (fine.sent correct) }

-- ---- what is true of a world
pub record IsWorldAt (w : Setting) (states : ℕ → CoreState) : Type 0 where
  pub met : (k : ℕ) → w.is_correct k ≡ true → IsHistory (rules_at w k) (states k).history
  pub waiting : (k : ℕ) → w.is_correct k ≡ true → AreAll (IsFine w (histories_of states) k) (states k).inbox
  pub held : (k : ℕ) → w.is_correct k ≡ true → AreAllHeld (IsFine w (histories_of states) k) (states k).held
  pub run : (s : Slot) → RunAt w (calls_after w (histories_of states)) s

-- the histories, with another one at replica i
abbrev with_history : (ℕ → List Entry) → ℕ → List Entry → ℕ → List Entry
with_history histories i h k = cond (eqb i k) h (histories k)

-- the states, with another one at replica i
abbrev pub with_state : (ℕ → CoreState) → ℕ → CoreState → ℕ → CoreState
with_state states i st k = cond (eqb i k) st (states k)

-- the state that replica i may come to
pub record IsNext (w : Setting) (states : ℕ → CoreState) (i : ℕ) (st : CoreState) : Type 0 where
  pub met : IsHistory (rules_at w i) st.history
  pub grows : (j : ℕ) (x : Item) → IsSent (rules_at w i) (states i).history j x → IsSent (rules_at w i) st.history j x
  pub waiting : AreAll (IsFine w (with_history (histories_of states) i st.history) i) st.inbox
  pub held : AreAllHeld (IsFine w (with_history (histories_of states) i st.history) i) st.held
  pub run : (s : Slot) → RunWith w i ((parts (rules_at w i) st.history).calls s) (calls_after w (histories_of states)) s

-- ---- at each replica
grows_at : (w : Setting) (histories : ℕ → List Entry) (i : ℕ) (h : List Entry) →
    ((j : ℕ) (x : Item) → IsSent (rules_at w i) (histories i) j x → IsSent (rules_at w i) h j x) → (k : ℕ) (b : Bool) → eqb i k ≡ b →
    (j : ℕ) (x : Item) → IsSent (rules_at w k) (histories k) j x → IsSent (rules_at w k) (cond b h (histories k)) j x
grows_at w histories i h grows k true here j x sent =
    subst (λ (q : ℕ). IsSent (rules_at w q) (histories q) j x → IsSent (rules_at w q) h j x) (eqb-true i k here) (grows j x) sent
grows_at w histories i h grows k false here j x sent = sent

grows_with : (w : Setting) (histories : ℕ → List Entry) (i : ℕ) (h : List Entry) →
    ((j : ℕ) (x : Item) → IsSent (rules_at w i) (histories i) j x → IsSent (rules_at w i) h j x) → Grows w histories (with_history histories i h)
grows_with w histories i h grows k correct j x sent = grows_at w histories i h grows k (eqb i k) refl j x sent

-- the histories of the states with another one
history_at : (histories : ℕ → CoreState) (st : CoreState) (k : ℕ) (b : Bool) → (cond b st (histories k)).history ≡ cond b st.history (histories k).history
history_at states st k true = refl
history_at states st k false = refl

fine_as : (w : Setting) (one other : ℕ → List Entry) → ((k : ℕ) → one k ≡ other k) → (i : ℕ) (x : Item) → IsFine w one i x → IsFine w other i x
fine_as w one other same i x fine = record {
  good = fine.good;
  sent = λ correct. subst (λ (h : List Entry). IsSent (rules_at w x.from) h i x) (same x.from) (fine.sent correct);
}

run_as : (w : Setting) (one other : ℕ → List Entry) → ((k : ℕ) → one k ≡ other k) → (s : Slot) → RunAt w (calls_after w one) s → RunAt w (calls_after w other) s
run_as w one other same s x = record {
  steps = x.steps;
  run = x.run;
  same = λ k correct. x.same k correct ∙ ap (λ (h : List Entry). (parts (rules_at w k) h).calls s) (same k);
}

met_at : (w : Setting) (states : ℕ → CoreState) (i : ℕ) (st : CoreState) → IsHistory (rules_at w i) st.history → (k : ℕ) (b : Bool) → eqb i k ≡ b →
    IsHistory (rules_at w k) (states k).history → IsHistory (rules_at w k) (cond b st (states k)).history
met_at w states i st met k true here before = subst (λ (q : ℕ). IsHistory (rules_at w q) st.history) (eqb-true i k here) met
met_at w states i st met k false here before = before

waiting_at : (w : Setting) (states : ℕ → CoreState) (histories : ℕ → List Entry) (i : ℕ) (st : CoreState) → AreAll (IsFine w histories i) st.inbox →
    (k : ℕ) (b : Bool) → eqb i k ≡ b → AreAll (IsFine w histories k) (states k).inbox → AreAll (IsFine w histories k) (cond b st (states k)).inbox
waiting_at w states histories i st all k true here before = subst (λ (q : ℕ). AreAll (IsFine w histories q) st.inbox) (eqb-true i k here) all
waiting_at w states histories i st all k false here before = before

held_at : (w : Setting) (states : ℕ → CoreState) (histories : ℕ → List Entry) (i : ℕ) (st : CoreState) → AreAllHeld (IsFine w histories i) st.held →
    (k : ℕ) (b : Bool) → eqb i k ≡ b → AreAllHeld (IsFine w histories k) (states k).held → AreAllHeld (IsFine w histories k) (cond b st (states k)).held
held_at w states histories i st all k true here before = subst (λ (q : ℕ). AreAllHeld (IsFine w histories q) st.held) (eqb-true i k here) all
held_at w states histories i st all k false here before = before

pub world_with : (w : Setting) (states : ℕ → CoreState) → IsWorldAt w states → (i : ℕ) (st : CoreState) → IsNext w states i st → IsWorldAt w (with_state states i st)
world_with w states world i st next =
    let old : ℕ → List Entry = histories_of states in
    let new : ℕ → List Entry = with_history old i st.history in
    let now : ℕ → List Entry = histories_of (with_state states i st) in
    let same : (k : ℕ) → new k ≡ now k = λ k. sym (history_at states st k (eqb i k)) in
    let grows : Grows w old new = grows_with w old i st.history next.grows in
    let later : (k : ℕ) (x : Item) → IsFine w old k x → IsFine w now k x = λ k x fine. fine_as w new now same k x (fine_later w old new grows k x fine) in
    record {
      met = λ k correct. met_at w states i st next.met k (eqb i k) refl (world.met k correct);
      waiting = λ k correct.
          waiting_at w states now i st (all_map (IsFine w new i) (IsFine w now i) (fine_as w new now same i) st.inbox next.waiting) k (eqb i k) refl
          (all_map (IsFine w old k) (IsFine w now k) (later k) (states k).inbox (world.waiting k correct));
      held = λ k correct.
          held_at w states now i st (all_held_map (IsFine w new i) (IsFine w now i) (fine_as w new now same i) st.held next.held) k (eqb i k) refl
          (all_held_map (IsFine w old k) (IsFine w now k) (later k) (states k).held (world.held k correct));
      run = λ s. run_as w new now same s (run_joined w i old st.history s (next.run s));
    }

-- ---- what a call leaves
-- the same history
next_stays : (w : Setting) (states : ℕ → CoreState) → IsWorldAt w states → (i : ℕ) → w.is_correct i ≡ true → (st : CoreState) → st.history ≡ (states i).history →
    AreAll (IsFine w (histories_of states) i) st.inbox → AreAllHeld (IsFine w (histories_of states) i) st.held → IsNext w states i st
next_stays w states world i correct st same waiting held =
    let old : ℕ → List Entry = histories_of states in
    let new : ℕ → List Entry = with_history old i st.history in
    let grows : (j : ℕ) (x : Item) → IsSent (rules_at w i) (states i).history j x → IsSent (rules_at w i) st.history j x =
    λ j x sent. subst (λ (h : List Entry). IsSent (rules_at w i) h j x) (sym same) sent in
    let later : (x : Item) → IsFine w old i x → IsFine w new i x = fine_later w old new (grows_with w old i st.history grows) i in
    record {
      met = subst (λ (h : List Entry). IsHistory (rules_at w i) h) (sym same) (world.met i correct);
      grows = grows;
      waiting = all_map (IsFine w old i) (IsFine w new i) later st.inbox waiting;
      held = all_held_map (IsFine w old i) (IsFine w new i) later st.held held;
      run = λ s.
          subst (λ (h : List Entry). RunWith w i ((parts (rules_at w i) h).calls s) (calls_after w old) s) (sym same)
          (run_from w i correct (calls_after w old) s (world.run s));
    }

-- an item that the replica made for itself
own_fine : (w : Setting) → IsSoundOver w → (histories : ℕ → List Entry) (i : ℕ) → w.is_correct i ≡ true → (e : Entry) → IsHistory (rules_at w i) (e ∷ histories i) →
    (m : Msg) → Has (new_messages (rules_at w i) (histories i) e) m → reaches m.to i ≡ true →
    IsFine w (with_history histories i (e ∷ histories i)) i (item_of i m)
own_fine w sound histories i correct e met m here reached =
    let r = rules_at w i in
    let h = histories i in
    let laws = layer_laws w sound i correct in
    let sent : IsSent r (e ∷ h) i (item_of i m) = record { message = m; due = new_due r laws h e m here; reached = reached; same = refl } in
    record {
      good = record { in_grammar = laws.core.sent r laws.layers h e met m here; sender = laws.layers.me };
      sent = λ _. subst (λ (b : Bool). IsSent r (cond b (e ∷ h) h) i (item_of i m)) (sym (eq-eqb i i refl)) sent;
    }

-- an entry more
next_enters : (w : Setting) → IsSoundOver w → (states : ℕ → CoreState) → IsWorldAt w states → (i : ℕ) → w.is_correct i ≡ true → (e : Entry) (waiting : List Item) →
    MayEnter (rules_at w i) (parts (rules_at w i) (states i).history) e → IsBackedEntry w (calls_after w (histories_of states)) i e →
    AreAll (IsFine w (histories_of states) i) waiting → IsNext w states i (state_after_entry (rules_at w i) (states i) e waiting)
next_enters w sound states world i correct e waiting may backed all =
    let r = rules_at w i in
    let old : ℕ → List Entry = histories_of states in
    let h = (states i).history in
    let laws = layer_laws w sound i correct in
    let new : ℕ → List Entry = with_history old i (e ∷ h) in
    let met : IsHistory r (e ∷ h) = (may, world.met i correct) in
    let grows : (j : ℕ) (x : Item) → IsSent r h j x → IsSent r (e ∷ h) j x = sent_later r laws h e in
    let later : (x : Item) → IsFine w old i x → IsFine w new i x = fine_later w old new (grows_with w old i (e ∷ h) grows) i in
    let P : Item → Type 0 = IsFine w new i in
    let kept : AreAllHeld P (states i).held = all_held_map (IsFine w old i) P later (states i).held (world.held i correct) in
    record {
      met = met;
      grows = grows;
      waiting =
          all_append P (waiting ++ own_items i (new_messages r h e)) (released (is_open r (parts r (e ∷ h))) (states i).held)
          (all_append P waiting (own_items i (new_messages r h e)) (all_map (IsFine w old i) P later waiting all)
          (all_own P i (new_messages r h e) (own_fine w sound old i correct e met)))
          (all_released P (is_open r (parts r (e ∷ h))) (states i).held kept);
      held = all_remaining P (λ x. is_open r (parts r (e ∷ h)) x || is_item_past r (parts r (e ∷ h)) x) (states i).held kept;
      run = run_entry w i correct laws old (world.met i correct) e may backed world.run;
    }

-- ---- what isn't forged
-- what isn't made up was given
first_fails : (a b : Bool) → (a && b) ≡ false → a ≡ true → b ≡ false
first_fails true b h e = h
first_fails false b h e = absurd (cc)

-- what isn't forged was made
made_so : (a b : Bool) → (a && not b) ≡ false → a ≡ true → b ≡ true
made_so true true h e = refl
made_so true false h e = absurd (cc)
made_so false b h e = absurd (cc)

row_given : (entries : List (List ℕ)) (row : Option (List ℕ)) (entry : List ℕ) → is_among entries row ≡ true → row ≡ Some entry → Has entries entry
row_given entries None entry among is = absurd (cc)
row_given entries (Some found) entry among is =
    let same : found ≡ entry = cc in
    subst (λ (x : List ℕ). Has entries x) same (bytes_listed entries found among)

-- no valid entry of a correct echoer in an item is made up
unforged_given : (w : Setting) → IsSoundOver w → (states : ℕ → CoreState) (i : ℕ) (item : Item) → is_forged_item w states i (Some item) ≡ false →
    (echoer : ℕ) (entry : List ℕ) → w.is_correct echoer ≡ true →
    is_claim (place_in w i item.slot) (tags_of (w.keys i)) (calls_at w states i item.slot) item echoer ≡ true → column_row item.value echoer ≡ Some entry →
    Has (given_by w states echoer item.slot) entry
unforged_given w sound states i item honest echoer entry good claimed row =
    let claim = is_claim (place_in w i item.slot) (tags_of (w.keys i)) (calls_at w states i item.slot) item echoer in
    let among = is_among (given_by w states echoer item.slot) (column_row item.value echoer) in
    let fair : is_made_up w states i item echoer ≡ false =
    none_of (is_made_up w states i item) (replicas w.numbers.n) honest echoer (has_number 0 w.numbers.n echoer (omega arith) (let below = sound.world.within echoer good in omega arith)) in
    row_given (given_by w states echoer item.slot) (column_row item.value echoer) entry
    (made_so claim among (first_fails (w.is_correct echoer) (claim && not among) fair good) claimed) row

-- the item that a state's history has more than that of replica i isn't forged
abbrev IsHonest : Setting → (ℕ → CoreState) → ℕ → CoreState → Type 0
IsHonest w states i st = is_forged_item w states i (newest_item (states i).history st.history) ≡ false

taken_backed : (w : Setting) → IsSoundOver w → (states : ℕ → CoreState) (i : ℕ) (item : Item) → IsFine w (histories_of states) i item →
    is_forged_item w states i (newest_item (states i).history (Took item ∷ (states i).history)) ≡ false → IsBacked w (calls_after w (histories_of states)) i item
taken_backed w sound states i item fine honest = record {
  due = λ good. sent_is_due (rules_at w item.from) (states item.from).history i item refl (fine.sent good);
  given = unforged_given w sound states i item (ap (is_forged_item w states i) (sym (newest_taken (states i).history item)) ∙ honest);
}

-- ---- calls on the core
next_item : (w : Setting) → IsSoundOver w → (states : ℕ → CoreState) → IsWorldAt w states → (i : ℕ) → w.is_correct i ≡ true → (item : Item) (waiting : List Item) →
    IsFine w (histories_of states) i item → AreAll (IsFine w (histories_of states) i) waiting → (v : Verdict) →
    verdict_on (rules_at w i) (parts (rules_at w i) (states i).history) (states i).held item ≡ v →
    IsHonest w states i (gives_item (rules_at w i) (states i) item waiting v).state → IsNext w states i (gives_item (rules_at w i) (states i) item waiting v).state
next_item w sound states world i correct item waiting fine all (verdicts.Refuse fault) is honest =
    next_stays w states world i correct (gives_item (rules_at w i) (states i) item waiting (verdicts.Refuse fault)).state refl all (world.held i correct)
next_item w sound states world i correct item waiting fine all verdicts.Again is honest =
    next_stays w states world i correct (gives_item (rules_at w i) (states i) item waiting verdicts.Again).state refl all (world.held i correct)
next_item w sound states world i correct item waiting fine all verdicts.Hold is honest =
    next_stays w states world i correct (gives_item (rules_at w i) (states i) item waiting verdicts.Hold).state refl all
    (all_with_kept (IsFine w (histories_of states) i) (states i).held item (body_length item) (world.held i correct) fine)
next_item w sound states world i correct item waiting fine all verdicts.Take is honest =
    next_enters w sound states world i correct (Took item) waiting
    (sound.core.takable (rules_at w i) (layer_laws w sound i correct).layers (states i).history (world.met i correct) (states i).held item fine.good is)
    (taken_backed w sound states i item fine honest) all

fault_none : (o : Option ℕ) (fault : Option CoreFault) → input_fault_or o fault ≡ None → o ≡ None
fault_none None fault e = refl
fault_none (Some place) fault e = absurd (cc)

pub input_good : InputsFaultless → (r : Rules) (p : Parts) (v : List ℕ) → input_check r p v ≡ None → IsInput r.casts.numbers r.mode v
unfolding input_check
input_good faultless r p v free =
    (faultless r.casts.numbers r.mode v).0 (fault_none (input_fault r.casts.numbers r.mode v) (window_fault r p) free)

next_input : (w : Setting) → IsSoundOver w → (states : ℕ → CoreState) → IsWorldAt w states → (i : ℕ) → w.is_correct i ≡ true → (v : List ℕ) (fault : Option CoreFault) →
    input_check (rules_at w i) (parts (rules_at w i) (states i).history) v ≡ fault →
    IsNext w states i (given_input (rules_at w i) (states i) v fault).state
next_input w sound states world i correct v (Some fault) is =
    next_stays w states world i correct (given_input (rules_at w i) (states i) v (Some fault)).state refl (world.waiting i correct) (world.held i correct)
next_input w sound states world i correct v None is =
    let r = rules_at w i in
    let p = parts r (states i).history in
    next_enters w sound states world i correct (Given v) (states i).inbox (sound.core.givable r p v sound.world.session sound.world.serves (input_good sound.core.faultless r p v is) is) tt (world.waiting i correct)

next_turn : (w : Setting) → IsSoundOver w → (states : ℕ → CoreState) → IsWorldAt w states → (i : ℕ) → w.is_correct i ≡ true → (inbox : List Item) →
    AreAll (IsFine w (histories_of states) i) inbox → IsHonest w states i (turned (rules_at w i) (states i) inbox).state →
    IsNext w states i (turned (rules_at w i) (states i) inbox).state
next_turn w sound states world i correct [] all honest =
    next_stays w states world i correct (turned (rules_at w i) (states i) []).state refl tt (world.held i correct)
next_turn w sound states world i correct (item ∷ waiting) all honest =
    next_item w sound states world i correct item waiting all.0 all.1
    (verdict_on (rules_at w i) (parts (rules_at w i) (states i).history) (states i).held item) refl honest

-- what a call on the core may give
abbrev IsFineCall : Setting → (ℕ → List Entry) → ℕ → What → Type 0
IsFineCall w histories i (core.Frame item) = IsFine w histories i item
IsFineCall w histories i (core.Input v) = Unit {0}
IsFineCall w histories i core.Turn = Unit {0}

next_live : (w : Setting) → IsSoundOver w → (states : ℕ → CoreState) → IsWorldAt w states → (i : ℕ) → w.is_correct i ≡ true → (what : What) →
    IsFineCall w (histories_of states) i what → IsHonest w states i (moved_live (rules_at w i) (states i) what).state →
    IsNext w states i (moved_live (rules_at w i) (states i) what).state
next_live w sound states world i correct (core.Frame item) fine honest =
    next_item w sound states world i correct item (states i).inbox fine (world.waiting i correct)
    (verdict_on (rules_at w i) (parts (rules_at w i) (states i).history) (states i).held item) refl honest
next_live w sound states world i correct (core.Input v) fine honest =
    next_input w sound states world i correct v (input_check (rules_at w i) (parts (rules_at w i) (states i).history) v) refl
next_live w sound states world i correct core.Turn fine honest =
    next_turn w sound states world i correct (states i).inbox (world.waiting i correct) honest

next_same : (w : Setting) (states : ℕ → CoreState) → IsWorldAt w states → (i : ℕ) → w.is_correct i ≡ true → IsNext w states i (states i)
next_same w states world i correct = next_stays w states world i correct (states i) refl (world.waiting i correct) (world.held i correct)

next_moved_if : (w : Setting) → IsSoundOver w → (states : ℕ → CoreState) → IsWorldAt w states → (i : ℕ) → w.is_correct i ≡ true → (what : What) →
    IsFineCall w (histories_of states) i what → (live : Bool) →
    IsHonest w states i (cond live (moved_live (rules_at w i) (states i) what) (core.stays (states i) (states i).inbox (Err faults.Stopped))).state →
    IsNext w states i (cond live (moved_live (rules_at w i) (states i) what) (core.stays (states i) (states i).inbox (Err faults.Stopped))).state
next_moved_if w sound states world i correct what fine true honest = next_live w sound states world i correct what fine honest
next_moved_if w sound states world i correct what fine false honest = next_same w states world i correct

next_moved : (w : Setting) → IsSoundOver w → (states : ℕ → CoreState) → IsWorldAt w states → (i : ℕ) → w.is_correct i ≡ true → (what : What) →
    IsFineCall w (histories_of states) i what → IsHonest w states i (moved (rules_at w i) (states i) what).state →
    IsNext w states i (moved (rules_at w i) (states i) what).state
next_moved w sound states world i correct what fine honest = next_moved_if w sound states world i correct what fine (states i).live honest

-- ---- frames
abbrev pub read_as : Item → Result Item BodyFault
read_as item = Ok item

pub one_item : (a b : Item) → read_as a ≡ read_as b → a ≡ b
one_item a b e = cc

-- an item that opens as from a correct replica, and isn't forged, is due there
opened_sent : (w : Setting) → IsSoundOver w → (states : ℕ → CoreState) → IsWorldAt w states → (i : ℕ) → w.is_correct i ≡ true → (bytes : List ℕ) (o : Opening) (item : Item) →
    opening (w.keys i) bytes ≡ Ok o → is_forged_opening w states i bytes (Ok o) ≡ false → body_answer w.numbers w.mode o.from o.body ≡ Ok item →
    w.is_correct o.from ≡ true → IsSent (rules_at w o.from) (states o.from).history i item
opened_sent w sound states world i correct bytes o item opens honest reads good =
    let from = o.from in
    let k = w.keys from in
    let parts_of = sound.world.channel.opened i bytes o (sound.world.within i correct) opens in
    let made : has_made w states from i bytes ≡ true = made_so (w.is_correct from) (has_made w states from i bytes) honest good in
    let frames = made_for (rules_at w from) k (states from).history i in
    let f = made_sent (rules_at w from) (layer_laws w sound from good) k (states from).history (world.met from good) i bytes (bytes_listed frames bytes made) in
    let sent : Item = item_of from f.message in
    let body : List ℕ = spelling sent in
    let again : opening (w.keys i) (sealed k i f.seq body) ≡ Ok o = ap (opening (w.keys i)) (sym f.is_seal) ∙ opens in
    let whole : o ≡ record { from = from; seq = f.seq; body = body } =
    sound.world.channel.opens from i f.seq body o parts_of.0 (sound.world.within i correct) parts_of.1 f.fits again in
    let text : body ≡ o.body = ap (λ (x : Opening). x.body) (sym whole) in
    let back : body_answer w.numbers w.mode from body ≡ Ok sent = sound.world.codec.read from sent f.good in
    let one : read_as sent ≡ read_as item = sym back ∙ (ap (body_answer w.numbers w.mode from) text ∙ reads) in
    record { message = f.message; due = f.due; reached = f.reached; same = one_item sent item one }

opened_fine : (w : Setting) → IsSoundOver w → (states : ℕ → CoreState) → IsWorldAt w states → (i : ℕ) → w.is_correct i ≡ true → (bytes : List ℕ) (o : Opening) (item : Item) →
    opening (w.keys i) bytes ≡ Ok o → is_forged_opening w states i bytes (Ok o) ≡ false → body_answer w.numbers w.mode o.from o.body ≡ Ok item →
    IsFine w (histories_of states) i item
opened_fine w sound states world i correct bytes o item opens honest reads =
    let good = sound.world.codec.good o.from o.body item reads in
    let sender = sound.world.channel.opened i bytes o (sound.world.within i correct) opens in
    record {
      good = record { in_grammar = good.0; sender = subst (λ (k : ℕ). k < w.numbers.n) (sym good.1) sender.0 };
      sent = subst (λ (k : ℕ). w.is_correct k ≡ true → IsSent (rules_at w k) (states k).history i item) (sym good.1)
          (opened_sent w sound states world i correct bytes o item opens honest reads);
    }

next_body : (w : Setting) → IsSoundOver w → (states : ℕ → CoreState) → IsWorldAt w states → (i : ℕ) → w.is_correct i ≡ true → (bytes : List ℕ) (o : Opening) →
    opening (w.keys i) bytes ≡ Ok o → is_forged_opening w states i bytes (Ok o) ≡ false → (b : Result Item BodyFault) →
    body_answer w.numbers w.mode o.from o.body ≡ b → IsHonest w states i (given_body (rules_at w i) (w.keys i) (states i) b).state →
    IsNext w states i (given_body (rules_at w i) (w.keys i) (states i) b).state
next_body w sound states world i correct bytes o opens made (Ok item) is honest =
    next_moved w sound states world i correct (core.Frame item) (opened_fine w sound states world i correct bytes o item opens made is) honest
next_body w sound states world i correct bytes o opens made (Err fault) is honest = next_same w states world i correct

next_frame : (w : Setting) → IsSoundOver w → (states : ℕ → CoreState) → IsWorldAt w states → (i : ℕ) → w.is_correct i ≡ true → (bytes : List ℕ) (o : Result Opening OpenFault) →
    opening (w.keys i) bytes ≡ o → is_forged_opening w states i bytes o ≡ false → IsHonest w states i (given_frame (rules_at w i) (w.keys i) (states i) o).state →
    IsNext w states i (given_frame (rules_at w i) (w.keys i) (states i) o).state
next_frame w sound states world i correct bytes (Ok o) is made honest =
    next_body w sound states world i correct bytes o is made (body_answer w.numbers w.mode o.from o.body) refl honest
next_frame w sound states world i correct bytes (Err fault) is made honest = next_same w states world i correct

-- ---- a call on a replica
next_handled : (w : Setting) → IsSoundOver w → (states : ℕ → CoreState) → IsWorldAt w states → (i : ℕ) → w.is_correct i ≡ true → (call : ReplicaCall) →
    is_forged_call w states i call ≡ false → IsHonest w states i (handled (rules_at w i) (w.keys i) (states i) call).state →
    IsNext w states i (handled (rules_at w i) (w.keys i) (states i) call).state
next_handled w sound states world i correct (Frame bytes) made honest =
    next_frame w sound states world i correct bytes (opening (w.keys i) bytes) refl made honest
next_handled w sound states world i correct (Input v) made honest = next_moved w sound states world i correct (core.Input v) tt honest
next_handled w sound states world i correct Turn made honest = next_moved w sound states world i correct core.Turn tt honest

-- the call is on a correct replica
abbrev pub IsAtCorrect : Setting → Option CallAt → Type 0
IsAtCorrect w None = Unit {0}
IsAtCorrect w (Some c) = w.is_correct c.at ≡ true

called_if : (w : Setting) (j : ℕ) (call : ReplicaCall) (b : Bool) → w.is_correct j ≡ b → IsAtCorrect w (cond b (Some (record { at = j; call = call })) None)
called_if w j call true is = is
called_if w j call false is = tt

called_at : (w : Setting) (j : ℕ) (call : ReplicaCall) → IsAtCorrect w (call_at w j call)
called_at w j call = called_if w j call (w.is_correct j) refl

passed_at : (w : Setting) (j : ℕ) (frame : Option (List ℕ)) → IsAtCorrect w (frame_call w j frame)
passed_at w j None = tt
passed_at w j (Some bytes) = called_at w j (Frame bytes)

pub event_at : (w : Setting) (states : ℕ → CoreState) (e : Event) → IsAtCorrect w (call_of w states e)
event_at w states (events.Frame to bytes) = called_at w to (Frame bytes)
event_at w states (events.Input at bytes) = called_at w at (Input bytes)
event_at w states (events.Turn at) = called_at w at Turn
event_at w states (events.Pass from to m) = passed_at w to (frame_passed w states from to m)
event_at w states (events.Sealed from to body) = called_at w to (Frame (sealed (w.keys from) to 0 body))

world_called : (w : Setting) → IsSoundOver w → (states : ℕ → CoreState) → IsWorldAt w states → (c : Option CallAt) → IsAtCorrect w c →
    is_forged_at w states c ≡ false → IsWorldAt w (after_call w states c)
world_called w sound states world None correct honest = world
world_called w sound states world (Some c) correct honest =
    let parts = or_parts (is_forged_call w states c.at c.call) (is_forged_item w states c.at (taken_by w states c)) honest in
    world_with w states world c.at (handled_at w states c).state (next_handled w sound states world c.at correct c.call parts.0 parts.1)

-- ---- events
world_first : (w : Setting) → IsWorldAt w (states_of w [])
unfolding states_of
world_first w = record {
  met = λ k correct. tt;
  waiting = λ k correct. tt;
  held = λ k correct. none_held (IsFine w (histories_of (states_of w [])) k) w.numbers.n;
  run = λ s. record { steps = []; run = tt; same = λ k correct. refl };
}

-- nothing of this hangs on whether a replica is stopped
world_halted : (w : Setting) (k : ℕ) (states : ℕ → CoreState) → IsWorldAt w states → IsWorldAt w (halted_at w k states)
world_halted w k states world = record { met = world.met; waiting = world.waiting; held = world.held; run = world.run }

pub judged_holds : (a : Audit) (forged collides : Bool) (k : ℕ) → judged a (broken_by forged collides k) ≡ audits.Holds →
    (a ≡ audits.Holds) × (forged ≡ false) × (collides ≡ false)
judged_holds audits.Holds true collides k e = absurd (cc)
judged_holds audits.Holds false true k e = absurd (cc)
judged_holds audits.Holds false false k e = (refl, refl, refl)
judged_holds audits.TooManyFaulty forged collides k e = absurd (cc)
judged_holds (audits.Forged j) forged collides k e = absurd (cc)
judged_holds (audits.Collision j) forged collides k e = absurd (cc)

pub world_after : (w : Setting) → IsSoundOver w → (es : List Event) → first_broken w es ≡ audits.Holds → IsWorldAt w (states_of w es)
unfolding states_of first_broken
world_after w sound [] holds = world_first w
world_after w sound (e ∷ es) holds =
    let before = judged_holds (first_broken w es) (is_forged w es e) (is_colliding w (e ∷ es)) (length es) holds in
    let found = states_before w es in
    world_called w sound found (world_halted w (length es) (states_of w es) (world_after w sound es before.0)) (call_of w found e) (event_at w found e) before.1

-- nothing that was hashed collides
pub none_collide_after : (w : Setting) (es : List Event) → first_broken w es ≡ audits.Holds → is_colliding w es ≡ false
unfolding states_of first_broken
none_collide_after w [] holds = none_yet w (states_of w []) (λ i. refl)
none_collide_after w (e ∷ es) holds =
    (judged_holds (first_broken w es) (is_forged w es e) (is_colliding w (e ∷ es)) (length es) holds).2
