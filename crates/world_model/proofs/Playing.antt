-- What a call leaves of a player whose items are honest.
use Rattle.std.proofs.Common.{◌≡◌, ℕ, Bool, true, false, ◌||◌, List, [], ◌∷◌, ◌++◌, Option, Some, None, Result, Ok, Err, refl, sym, subst, if◌then◌else◌}
use Rattle.ritas_base.specs.declared.slot.Slot.{Slot}
use Rattle.ritas_base.specs.declared.item.Item.{Item}
use Rattle.frame_codec.specs.declared.fault.BodyFault.{BodyFault}
use Rattle.frame_codec.specs.Body.{body_answer}
use Rattle.layer_api.specs.Runs.{Has}
use Rattle.keyed_channel.specs.declared.frame.OpenFault.{OpenFault}
use Rattle.keyed_channel.specs.Frames.{Opening, opening}
use Rattle.ooc_buffers.specs.Lists.{released}
use Rattle.ritas_core.specs.declared.fault.CoreFault.{CoreFault}
use Rattle.ritas_core.specs.declared.fault.CoreFault.TheVariants as faults
use Rattle.ritas_core.specs.declared.verdict.Verdict.{Verdict}
use Rattle.ritas_core.specs.declared.verdict.Verdict.TheVariants as verdicts
use Rattle.ritas_core.specs.Parts.{Entry, Took, Given, parts}
use Rattle.ritas_core.specs.Order.{new_messages, own_items}
use Rattle.ritas_core.specs.Checks.{is_open, is_item_past, body_length, verdict_on, input_check, IsGood, IsHistory, MayEnter}
use Rattle.ritas_core.specs.Machine as core
use Rattle.ritas_core.specs.Machine.{CoreState, What, stays, state_after_entry, gives_item, given_item, given_input, turned, moved_live, moved}
use Rattle.replica.specs.Handling.{ReplicaCall, Frame, Input, Turn, given_body, given_frame, handled}
use Rattle.world_model.specs.World.{Setting, rules_at}
use Rattle.world_model.proofs.Stored.{AreAll, AreAllHeld, all_map, all_held_map, all_append, all_own, all_released, all_remaining, all_with_kept}
use Rattle.world_model.proofs.Sent.{new_due}
use Rattle.world_model.proofs.Worlds.{input_good}
use Rattle.world_model.proofs.Below.{IsFounded}
use Rattle.world_model.proofs.Fair.{IsFair}
use Rattle.world_model.proofs.Honest.{given_in, IsHonest, Grows, honest_later, given_grows, IsOwn, due_honest}
use Rattle.world_model.proofs.Took.{AllTook, took_map}

-- a player of number i in this state, where the correct replicas have these histories
pub record IsPlaying (w : Setting) (hist : ℕ → List Entry) (i : ℕ) (st : CoreState) : Type 0 where
  pub met : IsHistory (rules_at w i) st.history
  pub waiting : AreAll (IsHonest w hist) st.inbox
  pub held : AreAllHeld (IsHonest w hist) st.held
  pub took : AllTook (IsHonest w hist) st.history

pub playing_later : (w : Setting) (before after : ℕ → List Entry) → Grows w before after → (i : ℕ) (st : CoreState) → IsPlaying w before i st → IsPlaying w after i st
playing_later w before after grows i st p = record {
  met = p.met;
  waiting = all_map (IsHonest w before) (IsHonest w after) (honest_later w before after grows) st.inbox p.waiting;
  held = all_held_map (IsHonest w before) (IsHonest w after) (honest_later w before after grows) st.held p.held;
  took = took_map (IsHonest w before) (IsHonest w after) (honest_later w before after grows) st.history p.took;
}

-- the history is the same, or has an honest item more, or an input
pub data GrewBy (w : Setting) (hist : ℕ → List Entry) (before after : List Entry) : Type 0 where
  AsBefore : after ≡ before → GrewBy w hist before after
  ByItem : (x : Item) → IsHonest w hist x → after ≡ Took x ∷ before → GrewBy w hist before after
  ByInput : (v : List ℕ) → after ≡ Given v ∷ before → GrewBy w hist before after

-- the state that a player comes to by a call
pub record IsNext (w : Setting) (hist : ℕ → List Entry) (i : ℕ) (st new : CoreState) : Type 0 where
  pub grew : GrewBy w hist st.history new.history
  pub plays : (later : ℕ → List Entry) → Grows w hist later → IsOwn w later i new.history → IsPlaying w later i new

-- ---- what a call on the core leaves
next_stays : (w : Setting) (hist : ℕ → List Entry) (i : ℕ) (st new : CoreState) → IsPlaying w hist i st → new.history ≡ st.history
    → AreAll (IsHonest w hist) new.inbox → AreAllHeld (IsHonest w hist) new.held → IsNext w hist i st new
next_stays w hist i st new p same waiting held = record {
  grew = AsBefore same;
  plays = λ later grows own. playing_later w hist later grows i new (record {
    met = subst (λ (h : List Entry). IsHistory (rules_at w i) h) (sym same) p.met;
    waiting = waiting;
    held = held;
    took = subst (λ (h : List Entry). AllTook (IsHonest w hist) h) (sym same) p.took;
  });
}

enters_as : (w : Setting) → IsFair w → (i : ℕ) → IsFounded (rules_at w i) → (hist : ℕ → List Entry) (st : CoreState) → IsPlaying w hist i st → (e : Entry) (waiting : List Item)
    → MayEnter (rules_at w i) (parts (rules_at w i) st.history) e → AllTook (IsHonest w hist) (e ∷ st.history) → AreAll (IsHonest w hist) waiting
    → (later : ℕ → List Entry) → Grows w hist later → IsOwn w later i (e ∷ st.history) → IsPlaying w later i (state_after_entry (rules_at w i) st e waiting)
enters_as w fair i laws hist st p e waiting may took all later grows own =
    let r = rules_at w i in
    let h = st.history in
    let P : Item → Type 0 = IsHonest w later in
    let more : (x : Item) → IsHonest w hist x → P x = honest_later w hist later grows in
    let met : IsHistory r (e ∷ h) = (may, p.met) in
    let took_later : AllTook P (e ∷ h) = took_map (IsHonest w hist) P more (e ∷ h) took in
    let kept : AreAllHeld P st.held = all_held_map (IsHonest w hist) P more st.held p.held in
    record {
      met = met;
      waiting =
          all_append P (waiting ++ own_items i (new_messages r h e)) (released (is_open r (parts r (e ∷ h))) st.held)
          (all_append P waiting (own_items i (new_messages r h e)) (all_map (IsHonest w hist) P more waiting all)
          (all_own P i (new_messages r h e)
          (λ m here reached. due_honest w fair i laws later (e ∷ h) met took_later own m (new_due r laws h e m here) (laws.core.sent r laws.layers h e met m here))))
          (all_released P (is_open r (parts r (e ∷ h))) st.held kept);
      held = all_remaining P (λ x. is_open r (parts r (e ∷ h)) x || is_item_past r (parts r (e ∷ h)) x) st.held kept;
      took = took_later;
    }

good_of : (w : Setting) (hist : ℕ → List Entry) (i : ℕ) (x : Item) → IsHonest w hist x → IsGood (rules_at w i) x
good_of w hist i x honest = record { in_grammar = honest.grammar; sender = honest.sender }

next_item : (w : Setting) → IsFair w → (i : ℕ) → IsFounded (rules_at w i) → (hist : ℕ → List Entry) (st : CoreState) → IsPlaying w hist i st → (x : Item) (waiting : List Item)
    → IsHonest w hist x → AreAll (IsHonest w hist) waiting → (v : Verdict) → verdict_on (rules_at w i) (parts (rules_at w i) st.history) st.held x ≡ v
    → IsNext w hist i st (gives_item (rules_at w i) st x waiting v).state
next_item w fair i laws hist st p x waiting honest all (verdicts.Refuse fault) is =
    next_stays w hist i st (gives_item (rules_at w i) st x waiting (verdicts.Refuse fault)).state p refl all p.held
next_item w fair i laws hist st p x waiting honest all verdicts.Again is =
    next_stays w hist i st (gives_item (rules_at w i) st x waiting verdicts.Again).state p refl all p.held
next_item w fair i laws hist st p x waiting honest all verdicts.Hold is =
    next_stays w hist i st (gives_item (rules_at w i) st x waiting verdicts.Hold).state p refl all (all_with_kept (IsHonest w hist) st.held x (body_length x) p.held honest)
next_item w fair i laws hist st p x waiting honest all verdicts.Take is = record {
  grew = ByItem x honest refl;
  plays = enters_as w fair i laws hist st p (Took x) waiting
      (laws.core.takable (rules_at w i) laws.layers st.history p.met st.held x (good_of w hist i x honest) is) (honest, p.took) all;
}

next_input : (w : Setting) → IsFair w → (i : ℕ) → IsFounded (rules_at w i) → (hist : ℕ → List Entry) (st : CoreState) → IsPlaying w hist i st → (v : List ℕ) (fault : Option CoreFault)
    → input_check (rules_at w i) (parts (rules_at w i) st.history) v ≡ fault → IsNext w hist i st (given_input (rules_at w i) st v fault).state
next_input w fair i laws hist st p v (Some fault) is =
    next_stays w hist i st (given_input (rules_at w i) st v (Some fault)).state p refl p.waiting p.held
next_input w fair i laws hist st p v None is =
    let r = rules_at w i in
    record {
      grew = ByInput v refl;
      plays = enters_as w fair i laws hist st p (Given v) st.inbox (laws.core.givable r (parts r st.history) v laws.layers.session laws.layers.serves (input_good laws.core.faultless r (parts r st.history) v is) is) p.took p.waiting;
    }

next_turn : (w : Setting) → IsFair w → (i : ℕ) → IsFounded (rules_at w i) → (hist : ℕ → List Entry) (st : CoreState) → IsPlaying w hist i st → (inbox : List Item)
    → AreAll (IsHonest w hist) inbox → IsNext w hist i st (turned (rules_at w i) st inbox).state
next_turn w fair i laws hist st p [] all = next_stays w hist i st (turned (rules_at w i) st []).state p refl tt p.held
next_turn w fair i laws hist st p (x ∷ waiting) all =
    next_item w fair i laws hist st p x waiting all.0 all.1 (verdict_on (rules_at w i) (parts (rules_at w i) st.history) st.held x) refl

abbrev IsHonestWhat : Setting → (ℕ → List Entry) → What → Type 0
IsHonestWhat w hist (core.Frame x) = IsHonest w hist x
IsHonestWhat w hist (core.Input v) = Unit {0}
IsHonestWhat w hist core.Turn = Unit {0}

next_live : (w : Setting) → IsFair w → (i : ℕ) → IsFounded (rules_at w i) → (hist : ℕ → List Entry) (st : CoreState) → IsPlaying w hist i st → (what : What)
    → IsHonestWhat w hist what → IsNext w hist i st (moved_live (rules_at w i) st what).state
next_live w fair i laws hist st p (core.Frame x) honest =
    next_item w fair i laws hist st p x st.inbox honest p.waiting (verdict_on (rules_at w i) (parts (rules_at w i) st.history) st.held x) refl
next_live w fair i laws hist st p (core.Input v) honest =
    next_input w fair i laws hist st p v (input_check (rules_at w i) (parts (rules_at w i) st.history) v) refl
next_live w fair i laws hist st p core.Turn honest = next_turn w fair i laws hist st p st.inbox p.waiting

next_if : (w : Setting) → IsFair w → (i : ℕ) → IsFounded (rules_at w i) → (hist : ℕ → List Entry) (st : CoreState) → IsPlaying w hist i st → (what : What) (live : Bool)
    → IsHonestWhat w hist what → IsNext w hist i st (if live then moved_live (rules_at w i) st what else stays st st.inbox (Err faults.Stopped)).state
next_if w fair i laws hist st p what true honest = next_live w fair i laws hist st p what honest
next_if w fair i laws hist st p what false honest = next_stays w hist i st (stays st st.inbox (Err faults.Stopped)).state p refl p.waiting p.held

-- ---- what a call on a replica leaves
-- a frame of these bytes brings replica j no item that isn't honest
abbrev pub IsHonestFrame : Setting → (ℕ → List Entry) → ℕ → List ℕ → Type 0
IsHonestFrame w hist j bytes = (o : Opening) (x : Item) → opening (w.keys j) bytes ≡ Ok o → body_answer w.numbers w.mode o.from o.body ≡ Ok x → IsHonest w hist x

abbrev pub IsHonestCall : Setting → (ℕ → List Entry) → ℕ → ReplicaCall → Type 0
IsHonestCall w hist j (Frame bytes) = IsHonestFrame w hist j bytes
IsHonestCall w hist j (Input v) = Unit {0}
IsHonestCall w hist j Turn = Unit {0}

next_refused : (w : Setting) (hist : ℕ → List Entry) (i : ℕ) (st : CoreState) → IsPlaying w hist i st → IsNext w hist i st st
next_refused w hist i st p = next_stays w hist i st st p refl p.waiting p.held

next_body : (w : Setting) → IsFair w → (i : ℕ) → IsFounded (rules_at w i) → (hist : ℕ → List Entry) (st : CoreState) → IsPlaying w hist i st → (read : Result Item BodyFault)
    → ((x : Item) → read ≡ Ok x → IsHonest w hist x) → IsNext w hist i st (given_body (rules_at w i) (w.keys i) st read).state
next_body w fair i laws hist st p (Ok x) honest = next_if w fair i laws hist st p (core.Frame x) st.live (honest x refl)
next_body w fair i laws hist st p (Err fault) honest = next_refused w hist i st p

next_frame : (w : Setting) → IsFair w → (i : ℕ) → IsFounded (rules_at w i) → (hist : ℕ → List Entry) (st : CoreState) → IsPlaying w hist i st → (opened : Result Opening OpenFault)
    → ((o : Opening) (x : Item) → opened ≡ Ok o → body_answer w.numbers w.mode o.from o.body ≡ Ok x → IsHonest w hist x)
    → IsNext w hist i st (given_frame (rules_at w i) (w.keys i) st opened).state
next_frame w fair i laws hist st p (Ok o) honest = next_body w fair i laws hist st p (body_answer w.numbers w.mode o.from o.body) (λ x e. honest o x refl e)
next_frame w fair i laws hist st p (Err fault) honest = next_refused w hist i st p

pub next_call : (w : Setting) → IsFair w → (i : ℕ) → IsFounded (rules_at w i) → (hist : ℕ → List Entry) (st : CoreState) → IsPlaying w hist i st → (call : ReplicaCall)
    → IsHonestCall w hist i call → IsNext w hist i st (handled (rules_at w i) (w.keys i) st call).state
next_call w fair i laws hist st p (Frame bytes) honest = next_frame w fair i laws hist st p (opening (w.keys i) bytes) honest
next_call w fair i laws hist st p (Input v) honest = next_if w fair i laws hist st p (core.Input v) st.live tt
next_call w fair i laws hist st p Turn honest = next_if w fair i laws hist st p core.Turn st.live tt

-- what it gave stays given
pub grown : (w : Setting) (hist : ℕ → List Entry) (i : ℕ) (before after : List Entry) → GrewBy w hist before after → (s : Slot) (entry : List ℕ)
    → Has (given_in w i before s) entry → Has (given_in w i after s) entry
grown w hist i before after (AsBefore e) s entry there = subst (λ (h : List Entry). Has (given_in w i h s) entry) (sym e) there
grown w hist i before after (ByItem x honest e) s entry there = subst (λ (h : List Entry). Has (given_in w i h s) entry) (sym e) (given_grows w i (Took x) before s entry there)
grown w hist i before after (ByInput v e) s entry there = subst (λ (h : List Entry). Has (given_in w i h s) entry) (sym e) (given_grows w i (Given v) before s entry there)
