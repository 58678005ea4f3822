-- A call on the replica at a place of a world.
use Rattle.std.proofs.Common.{◌≡◌, ℕ, ◌<◌, ◌≤◌, Bool, true, false, List, [], ◌∷◌, length, Option, Some, None, Result, Ok, Err, refl, sym, ◌∙◌, ap, subst, arith, append-nil, if◌then◌else◌, slice_set, slice_index_or, inl, inr}
use Rattle.std.specs.List.{slice_get}
use Rattle.std.proofs.lemmas.Bool.{eq-eqb, ne_eqb}
use Rattle.std.proofs.lemmas.Bool.Decides.{eqb_tells}
use Rattle.std.proofs.lemmas.List.{length-set, set-get_or}
use Rattle.std.proofs.lemmas.Option.{slice_get-get_or, same_Some}
use Rattle.ritas_base.specs.declared.bytes.Mem.{Mem}
use Rattle.ritas_base.specs.declared.item.Item.{Item}
use Rattle.frame_codec.specs.declared.fault.BodyFault.{BodyFault}
use Rattle.frame_codec.specs.declared.fault.BodyFault.TheVariants as body
use Rattle.keyed_channel.specs.KeyRow.{KeyRow}
use Rattle.keyed_channel.specs.Frames.{Opening, opening}
use Rattle.keyed_channel.specs.declared.frame.OpenFault.{OpenFault}
use Rattle.frame_codec.specs.Body.{body_answer}
use Rattle.ritas_core.specs.declared.answer.Answer.{Answer}
use Rattle.ritas_core.specs.declared.fault.CoreFault.{CoreFault}
use Rattle.ritas_core.specs.declared.fault.CoreFault.TheVariants as faults
use Rattle.ritas_core.specs.declared.verdict.Verdict.{Verdict}
use Rattle.ritas_core.specs.declared.verdict.Verdict.TheVariants as verdicts
use Rattle.ritas_core.specs.Rules.{Rules}
use Rattle.ritas_core.specs.Parts.{parts}
use Rattle.ritas_core.specs.Checks.{verdict_on, input_check}
use Rattle.ritas_core.specs.Machine as core
use Rattle.ritas_core.specs.Machine.{CoreState, What, moved, moved_live, stays, gives_item, given_input, turned}
use Rattle.ritas_core.specs.Stands.{Meaning}
use Rattle.replica.specs.Out.{OutFrame}
use Rattle.replica.specs.declared.refusal.Refusal.{Refusal}
use Rattle.replica.specs.declared.refusal.Refusal.TheVariants as refusals
use Rattle.replica.specs.declared.replica.Replica.{Replica}
use Rattle.replica.specs.Handling.{ReplicaCall, Frame, Input, Turn, handled, given_frame, given_body}
use Rattle.replica.specs.Stands.{Handles, ReplicaRunsOut, ReadsNone, ReplicaDoesAll, body_given, frame_given, core_call}
use Rattle.command_log.specs.Rows.{Start}
use Rattle.replica.specs.Replica.{ReplicaStands}
use Rattle.world_model.specs.declared.seen.Seen.{Seen}
use Rattle.world_model.specs.declared.seen.Seen.TheVariants as seen_as
use Rattle.world_model.specs.World.{Setting, rules_at, CallAt, call_at, handled_at, after_call, seen_answer}
use Rattle.world_model.specs.Stands.{StandsAt, IsReplica, IsLeft, ReplicasStand}
use Rattle.world_model.specs.Steps.{CallAnswered, CallsOr, Sees, IsWant}
use Rattle.world_model.specs.Needs.{CoreNeeds, CallNeeds}
use Rattle.world_model.proofs.Needs.{core_needed}
use Rattle.world_model.proofs.Left.{none_past, get_set_same, get_set_other, left_called}

-- ---- what isn't stopped goes on

gives_live : (r : Rules) (st : CoreState) (item : Item) (waiting : List Item) (v : Verdict) → st.live ≡ true → (gives_item r st item waiting v).state.live ≡ true
gives_live r st item waiting (verdicts.Refuse fault) live = live
gives_live r st item waiting verdicts.Again live = live
gives_live r st item waiting verdicts.Hold live = refl
gives_live r st item waiting verdicts.Take live = refl

input_live : (r : Rules) (st : CoreState) (value : List ℕ) (check : Option CoreFault) → st.live ≡ true → (given_input r st value check).state.live ≡ true
input_live r st value (Some fault) live = live
input_live r st value None live = refl

turn_live : (r : Rules) (st : CoreState) (waiting : List Item) → st.live ≡ true → (turned r st waiting).state.live ≡ true
turn_live r st [] live = live
turn_live r st (item ∷ waiting) live = gives_live r st item waiting (verdict_on r (parts r st.history) st.held item) live

what_live : (r : Rules) (st : CoreState) (what : What) → st.live ≡ true → (moved_live r st what).state.live ≡ true
what_live r st (core.Frame item) live = gives_live r st item st.inbox (verdict_on r (parts r st.history) st.held item) live
what_live r st (core.Input value) live = input_live r st value (input_check r (parts r st.history) value) live
what_live r st core.Turn live = turn_live r st st.inbox live

either_live : (r : Rules) (st : CoreState) (what : What) (b : Bool) → st.live ≡ true
    → (if b then moved_live r st what else stays st st.inbox (Err faults.Stopped)).state.live ≡ true
either_live r st what true live = what_live r st what live
either_live r st what false live = live

moved_goes_on : (r : Rules) (st : CoreState) (what : What) → st.live ≡ true → (moved r st what).state.live ≡ true
moved_goes_on r st what live = either_live r st what st.live live

body_live : (r : Rules) (k : KeyRow) (st : CoreState) (read : Result Item BodyFault) → st.live ≡ true → (given_body r k st read).state.live ≡ true
body_live r k st (Ok item) live = moved_goes_on r st (core.Frame item) live
body_live r k st (Err fault) live = live

frame_live : (r : Rules) (k : KeyRow) (st : CoreState) (opened : Result Opening OpenFault) → st.live ≡ true → (given_frame r k st opened).state.live ≡ true
frame_live r k st (Ok o) live = body_live r k st (body_answer r.casts.numbers r.mode o.from o.body) live
frame_live r k st (Err fault) live = live

pub handled_live : (r : Rules) (k : KeyRow) (st : CoreState) (call : ReplicaCall) → st.live ≡ true → (handled r k st call).state.live ≡ true
handled_live r k st (Frame bytes) live = frame_live r k st (opening k bytes) live
handled_live r k st (Input bytes) live = moved_goes_on r st (core.Input bytes) live
handled_live r k st Turn live = moved_goes_on r st core.Turn live

-- ---- a call at a place

pub faulty_call : (w : Setting) (at : ℕ) (call : ReplicaCall) → w.is_correct at ≡ false → call_at w at call ≡ None
faulty_call w at call faulty = ap (λ b. if b then Some (record { at = at; call = call }) else None) faulty

pub correct_call : (w : Setting) (at : ℕ) (call : ReplicaCall) → w.is_correct at ≡ true → call_at w at call ≡ Some (record { at = at; call = call })
correct_call w at call right = ap (λ b. if b then Some (record { at = at; call = call }) else None) right

-- nothing happens where no correct replica is
pub missed_call : {S E C : Type 0} (m : Meaning S E C KeyRow) (w : Setting) (states : ℕ → CoreState) (at : ℕ) (call : ReplicaCall) (replicas : List (Option (Replica S E C))) (before : List OutFrame) →
    ReplicasStand m w states replicas → w.is_correct at ≡ false → CallAnswered m w states (call_at w at call) replicas before before seen_as.Missed
missed_call m w states at call replicas before stand faulty =
    let P : Option CallAt → Type 0 = λ c. CallAnswered m w states c replicas before before seen_as.Missed in
    subst P (sym (faulty_call w at call faulty)) (record { seen = refl; out = sym (append-nil before); replicas = stand })

pub past_is_faulty : {S E C : Type 0} (m : Meaning S E C KeyRow) (w : Setting) (states : ℕ → CoreState) (at : ℕ) (replicas : List (Option (Replica S E C))) →
    ReplicasStand m w states replicas → length replicas ≤ at → w.is_correct at ≡ false
past_is_faulty m w states at replicas stand past = let many = stand.many in none_past w at stand.within (omega arith)

-- a correct replica is as after a call
called_place : {S E C : Type 0} (m : Meaning S E C KeyRow) (w : Setting) (states : ℕ → CoreState) (at : ℕ) (call : ReplicaCall) (new : Replica S E C) →
    w.is_correct at ≡ true → ReplicaStands w.start m new (rules_at w at) (w.keys at) (handled_at w states (record { at = at; call = call })).state → (states at).live ≡ true
    → IsReplica m w (after_call w states (Some (record { at = at; call = call }))) at new
called_place m w states at call new right stands live =
    let c : CallAt = record { at = at; call = call } in
    let same : after_call w states (Some c) at ≡ (handled_at w states c).state = ap (λ b. if b then (handled_at w states c).state else states at) (eq-eqb at at refl) in
    record {
      correct = right;
      stands = let P : CoreState → Type 0 = λ st. ReplicaStands w.start m new (rules_at w at) (w.keys at) st in subst P (sym same) stands;
      live = ap (λ st. st.live) same ∙ handled_live (rules_at w at) (w.keys at) (states at) call live;
    }

-- the others are as before
other_place : {S E C : Type 0} (m : Meaning S E C KeyRow) (w : Setting) (states : ℕ → CoreState) (c : CallAt) (i : ℕ) (place : Option (Replica S E C)) →
    (c.at ≡ i → ⊥) → StandsAt m w states i place → StandsAt m w (after_call w states (Some c)) i place
other_place m w states c i None other faulty = faulty
other_place m w states c i (Some rep) other is =
    let same : after_call w states (Some c) i ≡ states i = ap (λ b. if b then (handled_at w states c).state else states i) (ne_eqb c.at i other) in
    record {
      correct = is.correct;
      stands = let P : CoreState → Type 0 = λ st. ReplicaStands w.start m rep (rules_at w i) (w.keys i) st in subst P (sym same) is.stands;
      live = ap (λ st. st.live) same ∙ is.live;
    }

called_replicas : {S E C : Type 0} (m : Meaning S E C KeyRow) (w : Setting) (states : ℕ → CoreState) (at : ℕ) (call : ReplicaCall) (replicas : List (Option (Replica S E C))) (old new : Replica S E C) →
    ReplicasStand m w states replicas → slice_get replicas at ≡ Some (Some old) → w.is_correct at ≡ true
    → ReplicaStands w.start m new (rules_at w at) (w.keys at) (handled_at w states (record { at = at; call = call })).state → (states at).live ≡ true
    → ReplicasStand m w (after_call w states (Some (record { at = at; call = call }))) (slice_set replicas at (Some new))
called_replicas {S = S} {E = E} {C = C} m w states at call replicas old new stand there right stands live =
    let c : CallAt = record { at = at; call = call } in
    record {
      many = length-set replicas at (Some new) ∙ stand.many;
      within = stand.within;
      each = λ i place e. elim (eqb_tells at i) [
        | inl same ↦
            let here : slice_get (slice_set replicas at (Some new)) at ≡ Some (Some new) = get_set_same replicas at (Some old) (Some new) there in
            let is_new : Some new ≡ place = same_Some (Some new) place (sym here ∙ ap (slice_get (slice_set replicas at (Some new))) same.1 ∙ e) in
            let P : ℕ → Type 0 = λ k. StandsAt m w (after_call w states (Some c)) k (Some new) in
            let Q : Option (Replica S E C) → Type 0 = λ x. StandsAt m w (after_call w states (Some c)) i x in
            subst Q is_new (subst P same.1 (called_place m w states at call new right stands live))
        | inr other ↦ other_place m w states c i place other.1
            (stand.each i place (sym (get_set_other replicas at i (Some new) (λ h. other.1 (sym h))) ∙ e))
      ];
    }

-- the replica answered
answered : {S E C : Type 0} (m : Meaning S E C KeyRow) (w : Setting) (states : ℕ → CoreState) (at : ℕ) (call : ReplicaCall) (replicas : List (Option (Replica S E C))) (old new : Replica S E C) (before after : List OutFrame) (answer : Result Answer Refusal) (result : Result Seen Mem) →
    ReplicasStand m w states replicas → slice_get replicas at ≡ Some (Some old)
    → ((r : Rules) (k : KeyRow) (st : CoreState) → ReplicaStands w.start m old r k st → Handles (ReplicaStands w.start m) new call before after answer r k st)
    → result ≡ Ok (seen_answer answer) → CallsOr m w states (call_at w at call) (slice_set replicas at (Some new)) before after result
answered {S = S} {E = E} {C = C} m w states at call replicas old new before after answer result stand there does saw =
    let is : IsReplica m w states at old = stand.each at (Some old) there in
    let did = does (rules_at w at) (w.keys at) (states at) is.stands in
    let P : Result Seen Mem → Type 0 = λ x. CallsOr m w states (call_at w at call) (slice_set replicas at (Some new)) before after x in
    let Q : Option CallAt → Type 0 = λ c. CallAnswered m w states c (slice_set replicas at (Some new)) before after (seen_answer answer) in
    subst P (sym saw) (subst Q (sym (correct_call w at call is.correct)) (record {
      seen = ap seen_answer did.answer;
      out = did.out;
      replicas = called_replicas m w states at call replicas old new stand there is.correct did.state is.live;
    }))

-- it was without memory, and is as it was, or stopped
wants : {S E C : Type 0} (m : Meaning S E C KeyRow) (w : Setting) (states : ℕ → CoreState) (at : ℕ) (call : ReplicaCall) (replicas : List (Option (Replica S E C))) (old new : Replica S E C) (before after : List OutFrame) (result : Result Seen Mem) →
    ReplicasStand m w states replicas → slice_get replicas at ≡ Some (Some old)
    → IsLeft m w states (after_call w states (call_at w at call)) (call_at w at call) at new → CoreNeeds (rules_at w at) (states at) (core_call (rules_at w at) (w.keys at) call) → IsWant result
    → CallsOr m w states (call_at w at call) (slice_set replicas at (Some new)) before after result
wants m w states at call replicas old new before after (Ok seen) stand there left needs want = absurd want
wants m w states at call replicas old new before after (Err mem) stand there left needs want = (
  left_called m w states (after_call w states (call_at w at call)) (call_at w at call) at replicas old new stand there left,
  subst (CallNeeds w states) (sym (correct_call w at call (stand.each at (Some old) there).correct)) needs,
)

-- it needed memory
step_needs : {S E C : Type 0} (s : Start) (m : Meaning S E C KeyRow) (new : Replica S E C) (call : ReplicaCall) (before after : List OutFrame) (r : Rules) (k : KeyRow) (st : CoreState) →
    ReplicaRunsOut (ReplicaStands s m) new call before after r k st → CoreNeeds r st (core_call r k call)
step_needs s m new call before after r k st did =
    subst (CoreNeeds r st) (sym did.given) (core_needed r st did.what (elim did.state [ inl held ↦ inl held.0 | inr step ↦ inr step.0 ]))

read_needs : {S E C : Type 0} (s : Start) (m : Meaning S E C KeyRow) (new : Replica S E C) (call : ReplicaCall) (before after : List OutFrame) (r : Rules) (k : KeyRow) (st : CoreState) →
    ReadsNone (ReplicaStands s m) new call before after r k st → CoreNeeds r st (core_call r k call)
read_needs s m new call before after r k st did =
    let given : core_call r k call ≡ Some (core.Frame did.item) = ap (core_call r k) did.frame ∙ ap (frame_given r) did.opens ∙ ap body_given did.spells in
    subst (CoreNeeds r st) (sym given) tt

ran_out : {S E C : Type 0} (m : Meaning S E C KeyRow) (w : Setting) (states : ℕ → CoreState) (at : ℕ) (call : ReplicaCall) (old new : Replica S E C) (before after : List OutFrame) →
    IsReplica m w states at old → ReplicaRunsOut (ReplicaStands w.start m) new call before after (rules_at w at) (w.keys at) (states at)
    → IsLeft m w states (after_call w states (call_at w at call)) (call_at w at call) at new
ran_out m w states at call old new before after is did = elim did.state [
  | inl held ↦ inl (record { correct = is.correct; stands = held.1; live = is.live })
  | inr step ↦ inr (inr (record {
    correct = is.correct;
    taking = record {
      live = is.live;
      call = call;
      called = correct_call w at call is.correct;
      what = did.what;
      given = did.given;
      step = step.0;
    };
    stands = step.1;
  }))
]

-- each call on the replica at a place
called : {S E C : Type 0} (m : Meaning S E C KeyRow) (w : Setting) (states : ℕ → CoreState) (at : ℕ) (call : ReplicaCall) (replicas : List (Option (Replica S E C))) (old new : Replica S E C) (before after : List OutFrame) (answer : Result Answer Refusal) (result : Result Seen Mem) →
    ReplicasStand m w states replicas → slice_get replicas at ≡ Some (Some old) → ReplicaDoesAll (ReplicaStands w.start m) old new call before after answer
    → Sees answer result → CallsOr m w states (call_at w at call) (slice_set replicas at (Some new)) before after result
called m w states at call replicas old new before after (Err (refusals.Core faults.Mem)) result stand there does saw =
    let is : IsReplica m w states at old = stand.each at (Some old) there in
    let did : ReplicaRunsOut (ReplicaStands w.start m) new call before after (rules_at w at) (w.keys at) (states at) = does (rules_at w at) (w.keys at) (states at) is.stands in
    wants m w states at call replicas old new before after result stand there (ran_out m w states at call old new before after is did)
    (step_needs w.start m new call before after (rules_at w at) (w.keys at) (states at) did) saw
called m w states at call replicas old new before after (Err (refusals.Body body.Mem)) result stand there does saw =
    let is : IsReplica m w states at old = stand.each at (Some old) there in
    let did : ReadsNone (ReplicaStands w.start m) new call before after (rules_at w at) (w.keys at) (states at) = does (rules_at w at) (w.keys at) (states at) is.stands in
    wants m w states at call replicas old new before after result stand there
    (inl (record { correct = is.correct; stands = did.state; live = is.live })) (read_needs w.start m new call before after (rules_at w at) (w.keys at) (states at) did) saw
called m w states at call replicas old new before after answer result stand there does saw =
    answered m w states at call replicas old new before after answer result stand there does saw

-- ---- as the code has it

-- a call where a replica is
pub called_at : {S E C : Type 0} (m : Meaning S E C KeyRow) (w : Setting) (states : ℕ → CoreState) (at place : ℕ) (call : ReplicaCall) (replicas : List (Option (Replica S E C))) (here : Option (Replica S E C)) (old new : Replica S E C) (before after : List OutFrame) (answer : Result Answer Refusal) (result : Result Seen Mem) →
    ReplicasStand m w states replicas → place ≡ at → place < length replicas → slice_index_or replicas place here ≡ Some old
    → ReplicaDoesAll (ReplicaStands w.start m) old new call before after answer → Sees answer result
    → CallsOr m w states (call_at w at call) (slice_set replicas place (Some new)) before after result
called_at m w states at place call replicas here old new before after answer result stand e within old_is does saw =
    let there : slice_get replicas place ≡ Some (Some old) = slice_get-get_or replicas place here within ∙ ap (λ x. Some x) old_is in
    let P : ℕ → Type 0 = λ k. CallsOr m w states (call_at w k call) (slice_set replicas place (Some new)) before after result in
    subst P e (called m w states place call replicas old new before after answer result stand there does saw)

-- a call where no replica is
pub none_at : {S E C : Type 0} (m : Meaning S E C KeyRow) (w : Setting) (states : ℕ → CoreState) (at place : ℕ) (call : ReplicaCall) (replicas : List (Option (Replica S E C))) (here : Option (Replica S E C)) (before : List OutFrame) →
    ReplicasStand m w states replicas → place ≡ at → place < length replicas → slice_index_or replicas place here ≡ None
    → CallAnswered m w states (call_at w at call) (slice_set replicas place (slice_index_or replicas place here)) before before seen_as.Missed
none_at {S = S} {E = E} {C = C} m w states at place call replicas here before stand e within none =
    let there : slice_get replicas place ≡ Some None = slice_get-get_or replicas place here within ∙ ap (λ x. Some x) none in
    let faulty : w.is_correct place ≡ false = stand.each place None there in
    let P : List (Option (Replica S E C)) → Type 0 = λ xs. CallAnswered m w states (call_at w at call) xs before before seen_as.Missed in
    subst P (sym (set-get_or replicas place here)) (missed_call m w states at call replicas before stand (subst (λ k. w.is_correct k ≡ false) e faulty))

-- a call past all replicas
pub past_at : {S E C : Type 0} (m : Meaning S E C KeyRow) (w : Setting) (states : ℕ → CoreState) (at place : ℕ) (call : ReplicaCall) (replicas : List (Option (Replica S E C))) (before : List OutFrame) →
    ReplicasStand m w states replicas → place ≡ at → length replicas ≤ place → CallAnswered m w states (call_at w at call) replicas before before seen_as.Missed
past_at m w states at place call replicas before stand e past =
    missed_call m w states at call replicas before stand (past_is_faulty m w states at replicas stand (subst (λ k. length replicas ≤ k) e past))
