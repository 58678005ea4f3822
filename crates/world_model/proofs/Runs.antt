-- At each slot the calls that correct replicas had are a run, and the calls that an entry makes lead it on.
use Rattle.std.proofs.Common.{◌≡◌, ℕ, Bool, true, false, cond, Option, Some, None, List, [], ◌∷◌, refl, sym, ◌∙◌, ap, subst}
use Rattle.std.proofs.Math.Dec.{eqb}
use Rattle.std.proofs.lemmas.Bool.{cond-true, cond-false, eq-eqb, eqb-true}
use Rattle.ritas_base.specs.declared.slot.Slot.{Slot}
use Rattle.ritas_base.specs.declared.item.Item.{Item}
use Rattle.ritas_base.specs.declared.item.Say.{Say}
use Rattle.ritas_base.specs.SlotOrder.{is_slot, same_slot}
use Rattle.ritas_base.specs.History.{Call, Start, Take}
use Rattle.layer_api.specs.Broadcast.{MayStart, MayTake}
use Rattle.layer_api.specs.Entries.{given, is_claim}
use Rattle.frame_codec.specs.Values.{column_row}
use Rattle.layer_api.specs.Runs.{ReplicaStep, calls_of, Has}
use Rattle.layer_api.specs.OneValue.{IsDueTo, Group, IsFed, IsRun}
use Rattle.layer_api.specs.Words.{Ask, Hear}
use Rattle.keyed_channel.specs.Keyed.{tags_of}
use Rattle.ritas_core.specs.Rules.{seat_of, place_at, due_at_slot}
use Rattle.ritas_core.specs.Casts.{called, started_all, MayStartAll}
use Rattle.ritas_core.specs.Parts.{Entry, Took, Given, parts, heard_at, taken_at, item_delivers}
use Rattle.ritas_core.specs.Checks.{IsHistory, MayEnter}
use Rattle.world_model.specs.World.{Setting, rules_at}
use Rattle.world_model.proofs.Below.{IsFounded}

-- one slot of a world
abbrev pub group_at : Setting → Slot → Group
group_at w s = record { rules = w.at_slot s; numbers = w.numbers; slot = s; is_correct = w.is_correct; tags = λ i. tags_of (w.keys i) }

-- the calls that correct replicas had at a slot are those of a run
pub record RunAt (w : Setting) (calls : ℕ → Slot → List Call) (s : Slot) : Type 0 where
  pub steps : List (ReplicaStep Call)
  pub run : IsRun (group_at w s) steps
  pub same : (k : ℕ) → w.is_correct k ≡ true → calls_of k steps ≡ calls k s

-- so are these calls of replica i, with those that the others had
pub record RunWith (w : Setting) (i : ℕ) (own : List Call) (others : ℕ → Slot → List Call) (s : Slot) : Type 0 where
  pub steps : List (ReplicaStep Call)
  pub run : IsRun (group_at w s) steps
  pub mine : calls_of i steps ≡ own
  pub rest : (k : ℕ) → w.is_correct k ≡ true → eqb i k ≡ false → calls_of k steps ≡ others k s

-- ---- one step more
abbrev step_of : ℕ → Call → ReplicaStep Call
step_of i c = record { who = i; call = c }

step_mine : (i : ℕ) (c : Call) (xs : List (ReplicaStep Call)) → calls_of i (step_of i c ∷ xs) ≡ c ∷ calls_of i xs
step_mine i c xs = cond-true (eqb i i) (c ∷ calls_of i xs) (calls_of i xs) (eq-eqb i i refl)

step_other : (i k : ℕ) (c : Call) (xs : List (ReplicaStep Call)) → eqb i k ≡ false → calls_of k (step_of i c ∷ xs) ≡ calls_of k xs
step_other i k c xs apart = cond-false (eqb i k) (c ∷ calls_of k xs) (calls_of k xs) apart

run_step : (w : Setting) (i : ℕ) → w.is_correct i ≡ true → (own : List Call) (others : ℕ → Slot → List Call) (s : Slot) (c : Call) →
    (x : RunWith w i own others s) → IsFed (group_at w s) x.steps i c → RunWith w i (c ∷ own) others s
run_step w i correct own others s c x fed = record {
  steps = step_of i c ∷ x.steps;
  run = (correct, fed, x.run);
  mine = step_mine i c x.steps ∙ ap (λ (cs : List Call). c ∷ cs) x.mine;
  rest = λ k good apart. step_other i k c x.steps apart ∙ x.rest k good apart;
}

abbrev pub run_from : (w : Setting) (i : ℕ) → w.is_correct i ≡ true → (calls : ℕ → Slot → List Call) (s : Slot) → RunAt w calls s → RunWith w i (calls i s) calls s
run_from w i correct calls s x = record { steps = x.steps; run = x.run; mine = x.same i correct; rest = λ k good apart. x.same k good }

-- ---- starts
started_at : (w : Setting) (i : ℕ) → w.is_correct i ≡ true → (own : Slot → List Call) (others : ℕ → Slot → List Call) (q s : Slot) (v : List ℕ) (b : Bool) →
    is_slot q s ≡ b → MayStart (place_at (rules_at w i).casts q) (own q) → RunWith w i (own s) others s →
    RunWith w i (cond b (Start v ∷ own s) (own s)) others s
started_at w i correct own others q s v true here may x =
    let at : MayStart (place_at (rules_at w i).casts s) (own s) =
    subst (λ (t : Slot). MayStart (place_at (rules_at w i).casts t) (own t)) (same_slot q s here) may in
    run_step w i correct (own s) others s (Start v) x
    (subst (λ (cs : List Call). MayStart (place_at (rules_at w i).casts s) cs) (sym x.mine) at)
started_at w i correct own others q s v false here may x = x

run_starts : (w : Setting) (i : ℕ) → w.is_correct i ≡ true → (says : List Say) (own : Slot → List Call) (others : ℕ → Slot → List Call) →
    MayStartAll (rules_at w i).casts says own → ((s : Slot) → RunWith w i (own s) others s) → (s : Slot) → RunWith w i (started_all says own s) others s
run_starts w i correct [] own others may run = run
run_starts w i correct (say ∷ says) own others may run =
    run_starts w i correct says (called own say.slot (Start say.value)) others may.1
    (λ s. started_at w i correct own others say.slot s say.value (is_slot say.slot s) refl may.0 (run s))

-- ---- an item
-- what the item's sender, if it is correct, has due; and each valid entry of a correct echoer was given by it
pub record IsBacked (w : Setting) (calls : ℕ → Slot → List Call) (i : ℕ) (x : Item) : Type 0 where
  pub due : w.is_correct x.from ≡ true → IsDueTo (due_at_slot (rules_at w x.from).casts x.slot (calls x.from x.slot)) i x
  pub given : (echoer : ℕ) (entry : List ℕ) → w.is_correct echoer ≡ true
      → is_claim (place_at (rules_at w i).casts x.slot) (tags_of (w.keys i)) (calls i x.slot) x echoer ≡ true → column_row x.value echoer ≡ Some entry
      → Has (given (place_at (rules_at w echoer).casts x.slot) (tags_of (w.keys echoer)) (calls echoer x.slot)) entry

fed_take : (w : Setting) (i : ℕ) → w.is_correct i ≡ true → (calls : ℕ → Slot → List Call) (item : Item) (s : Slot) → item.slot ≡ s →
    MayTake (w.at_slot item.slot) (place_at (rules_at w i).casts item.slot) (tags_of (w.keys i)) (calls i item.slot) item →
    IsBacked w calls i item → (x : RunAt w calls s) → IsFed (group_at w s) x.steps i (Take item)
fed_take w i correct calls item s here may backed x =
    let at : MayTake (w.at_slot s) (place_at (rules_at w i).casts s) (tags_of (w.keys i)) (calls i s) item =
    subst (λ (t : Slot). MayTake (w.at_slot t) (place_at (rules_at w i).casts t) (tags_of (w.keys i)) (calls i t) item) here may in
    let due : w.is_correct item.from ≡ true → IsDueTo (due_at_slot (rules_at w item.from).casts s (calls item.from s)) i item =
    λ good. subst (λ (t : Slot). IsDueTo (due_at_slot (rules_at w item.from).casts t (calls item.from t)) i item) here (backed.due good) in
    let gave : (echoer : ℕ) (entry : List ℕ) → w.is_correct echoer ≡ true
    → is_claim (place_at (rules_at w i).casts s) (tags_of (w.keys i)) (calls i s) item echoer ≡ true → column_row item.value echoer ≡ Some entry
    → Has (given (place_at (rules_at w echoer).casts s) (tags_of (w.keys echoer)) (calls echoer s)) entry =
    subst (λ (t : Slot). (echoer : ℕ) (entry : List ℕ) → w.is_correct echoer ≡ true
    → is_claim (place_at (rules_at w i).casts t) (tags_of (w.keys i)) (calls i t) item echoer ≡ true → column_row item.value echoer ≡ Some entry
    → Has (given (place_at (rules_at w echoer).casts t) (tags_of (w.keys echoer)) (calls echoer t)) entry) here backed.given in (
      subst (λ (cs : List Call). MayTake (w.at_slot s) (place_at (rules_at w i).casts s) (tags_of (w.keys i)) cs item) (sym (x.same i correct)) at,
      λ good. subst (λ (cs : List Call). IsDueTo (due_at_slot (rules_at w item.from).casts s cs) i item) (sym (x.same item.from good)) (due good),
      λ echoer entry good claimed row.
          subst (λ (cs : List Call). Has (given (place_at (rules_at w echoer).casts s) (tags_of (w.keys echoer)) cs) entry) (sym (x.same echoer good))
          (gave echoer entry good (subst (λ (cs : List Call). is_claim (place_at (rules_at w i).casts s) (tags_of (w.keys i)) cs item echoer ≡ true) (x.same i correct) claimed) row),
    )

taken_here : (w : Setting) (i : ℕ) → w.is_correct i ≡ true → (calls : ℕ → Slot → List Call) (item : Item) (s : Slot) (b : Bool) →
    is_slot item.slot s ≡ b →
    MayTake (w.at_slot item.slot) (place_at (rules_at w i).casts item.slot) (tags_of (w.keys i)) (calls i item.slot) item →
    IsBacked w calls i item → RunAt w calls s → RunWith w i (cond b (Take item ∷ calls i s) (calls i s)) calls s
taken_here w i correct calls item s true here may backed x =
    run_step w i correct (calls i s) calls s (Take item) (run_from w i correct calls s x)
    (fed_take w i correct calls item s (same_slot item.slot s here) may backed x)
taken_here w i correct calls item s false here may backed x = run_from w i correct calls s x

-- ---- an entry
-- the calls of each replica with these histories
abbrev pub calls_after : Setting → (ℕ → List Entry) → ℕ → Slot → List Call
calls_after w histories k s = (parts (rules_at w k) (histories k)).calls s

-- what an entry needs of the others
abbrev pub IsBackedEntry : Setting → (ℕ → Slot → List Call) → ℕ → Entry → Type 0
IsBackedEntry w calls i (Took item) = IsBacked w calls i item
IsBackedEntry w calls i (Given v) = Unit {0}

run_heard : (w : Setting) (i : ℕ) → w.is_correct i ≡ true → (histories : ℕ → List Entry) (item : Item) (d : Option (List ℕ)) →
    ((v : List ℕ) → d ≡ Some v → MayStartAll (rules_at w i).casts
    ((rules_at w i).service.says (seat_of (rules_at w i)) (parts (rules_at w i) (histories i)).words (Hear item.slot v))
    (taken_at item (parts (rules_at w i) (histories i))).calls) →
    ((s : Slot) → RunWith w i ((taken_at item (parts (rules_at w i) (histories i))).calls s) (calls_after w histories) s) →
    (s : Slot) → RunWith w i ((heard_at (rules_at w i) item.slot d (taken_at item (parts (rules_at w i) (histories i)))).calls s) (calls_after w histories) s
run_heard w i correct histories item None may run = run
run_heard w i correct histories item (Some v) may run =
    let r = rules_at w i in
    let p = parts r (histories i) in
    run_starts w i correct (r.service.says (seat_of r) p.words (Hear item.slot v)) (taken_at item p).calls (calls_after w histories) (may v refl) run

pub run_entry : (w : Setting) (i : ℕ) → w.is_correct i ≡ true → IsFounded (rules_at w i) → (histories : ℕ → List Entry) →
    IsHistory (rules_at w i) (histories i) → (e : Entry) → MayEnter (rules_at w i) (parts (rules_at w i) (histories i)) e →
    IsBackedEntry w (calls_after w histories) i e → ((s : Slot) → RunAt w (calls_after w histories) s) →
    (s : Slot) → RunWith w i ((parts (rules_at w i) (e ∷ histories i)).calls s) (calls_after w histories) s
run_entry w i correct laws histories met (Took item) may backed run =
    let r = rules_at w i in
    let p = parts r (histories i) in
    run_heard w i correct histories item (item_delivers r item p) (laws.core.heard r laws.layers (histories i) met item may)
    (λ s. taken_here w i correct (calls_after w histories) item s (is_slot item.slot s) refl may.may backed (run s))
run_entry w i correct laws histories met (Given v) may backed run =
    let r = rules_at w i in
    let p = parts r (histories i) in
    run_starts w i correct (r.service.says (seat_of r) p.words (Ask v)) p.calls (calls_after w histories)
    (laws.core.given r laws.layers (histories i) met v may) (λ s. run_from w i correct (calls_after w histories) s (run s))

-- ---- a history that is changed at one replica
joined_at : (w : Setting) (i : ℕ) (histories : ℕ → List Entry) (h : List Entry) (s : Slot) →
    (x : RunWith w i ((parts (rules_at w i) h).calls s) (calls_after w histories) s) → (k : ℕ) → w.is_correct k ≡ true → (b : Bool) → eqb i k ≡ b →
    calls_of k x.steps ≡ (parts (rules_at w k) (cond b h (histories k))).calls s
joined_at w i histories h s x k correct true here =
    subst (λ (j : ℕ). calls_of j x.steps ≡ (parts (rules_at w j) h).calls s) (eqb-true i k here) x.mine
joined_at w i histories h s x k correct false here = x.rest k correct here

pub run_joined : (w : Setting) (i : ℕ) (histories : ℕ → List Entry) (h : List Entry) (s : Slot) →
    RunWith w i ((parts (rules_at w i) h).calls s) (calls_after w histories) s →
    RunAt w (calls_after w (λ k. cond (eqb i k) h (histories k))) s
run_joined w i histories h s x = record {
  steps = x.steps;
  run = x.run;
  same = λ k correct. joined_at w i histories h s x k correct (eqb i k) refl;
}
