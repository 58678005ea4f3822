-- The replicas that are here, and a call on one of them.
use Rattle.std.proofs.Common.{◌≡◌, ℕ, ◌<◌, ◌≤◌, true, List, ◌∷◌, ◌++◌, length, map, slice_index_or, Some, Result, Ok, Err, OnOk, IfOk, inl, inr, refl, sym, ◌∙◌, ap, subst, arith, slice_set}
use Rattle.std.specs.List.{slice_get}
use Rattle.std.proofs.lemmas.Bool.{both_ways}
use Rattle.std.proofs.lemmas.Bool.Decides.{eqb_tells}
use Rattle.std.proofs.lemmas.List.{length-set, map-append}
use Rattle.std.proofs.lemmas.Option.{same_Some, slice_get_within, slice_get-get_or}
use Rattle.ritas_base.specs.declared.bytes.Mem.{Mem}
use Rattle.ritas_base.specs.declared.event.Event.{Event}
use Rattle.frame_codec.specs.declared.fault.BodyFault.TheVariants as body
use Rattle.keyed_channel.specs.KeyRow.{KeyRow}
use Rattle.ritas_core.specs.declared.answer.Answer.{Answer}
use Rattle.ritas_core.specs.declared.fault.CoreFault.TheVariants as faults
use Rattle.ritas_core.specs.Machine.{CoreState}
use Rattle.ritas_core.specs.Rules.{Rules}
use Rattle.command_log.specs.Rows.{Row, Start}
use Rattle.replica.specs.CommandRows.{history_rows as replica_rows}
use Rattle.ritas_core.specs.Stands.{Meaning}
use Rattle.replica.specs.Out.{OutFrame}
use Rattle.replica.specs.declared.refusal.Refusal.{Refusal}
use Rattle.replica.specs.declared.refusal.Refusal.TheVariants as refusals
use Rattle.replica.specs.declared.replica.Replica.{Replica}
use Rattle.replica.specs.Handling.{ReplicaCall}
use Rattle.replica.specs.Stands.{Handles, ReplicaDoesAll}
use Rattle.replica.specs.Replica.{ReplicaStands}
use Rattle.world_model.specs.World.{Setting, rules_at, states_of, seen_answer, seen_of}
use Rattle.world_model.specs.Stands.{IsReplica}
use Rattle.world_model.specs.Agree.{rows_at}
use Rattle.node_loop.specs.Serving.{sent_by}
use Rattle.node_loop.specs.Served.{AreHere}
use Rattle.schedule_file.specs.Spelling.{IsAlone}
use Rattle.node_loop.specs.Standing.{is_want, TellsWant, frame_by}
use Rattle.world_model.proofs.AtPlaces.{handled_live}
use Rattle.world_model.proofs.Left.{get_set_same, get_set_other}
use Rattle.node_loop.proofs.Alone.{call_in, done_by, alone_state, other_state, alone_seen, alone_sent}

-- a place of a list has an element of another that is as long
same_place : {X Y : Type 0} (xs : List X) (ys : List Y) (i : ℕ) (x : X) → length ys ≡ length xs → slice_get xs i ≡ Some x → i < length ys
same_place xs ys i x many e =
    let within : i < length xs = slice_get_within xs i x e in
    omega arith

-- there is none where there is no replica
pub nowhere : {S E C : Type 0} (m : Meaning S E C KeyRow) (w : Setting) (es : List Event) (numbers : List ℕ) (here : List (Replica S E C)) (place at : ℕ)
    → AreHere m w es numbers here → slice_get numbers place ≡ Some at → length here ≤ place → ⊥
nowhere m w es numbers here place at stand number past =
    let below : place < length here = same_place numbers here place at stand.many number in
    omega arith

-- the replica that was called
new_replica : {S E C : Type 0} (m : Meaning S E C KeyRow) (w : Setting) (es : List Event) (numbers : List ℕ) (here : List (Replica S E C)) (at : ℕ) (old new : Replica S E C) (e : Event)
    → AreHere m w es numbers here → IsReplica m w (states_of w es) at old → IsAlone at e
    → ReplicaStands w.start m new (rules_at w at) (w.keys at) (done_by w es at e).state → IsReplica m w (states_of w (e ∷ es)) at new
new_replica m w es numbers here at old new e stand is alone stands =
    let same = alone_state w es at e stand.going is.correct alone in
    record {
      correct = is.correct;
      stands = let P : CoreState → Type 0 = λ st. ReplicaStands w.start m new (rules_at w at) (w.keys at) st in subst P (sym same) stands;
      live = ap (λ (st : CoreState). st.live) same ∙ handled_live (rules_at w at) (w.keys at) (states_of w es at) (call_in e) is.live;
    }

-- another
other_replica : {S E C : Type 0} (m : Meaning S E C KeyRow) (w : Setting) (es : List Event) (numbers : List ℕ) (here : List (Replica S E C)) (at j : ℕ) (rep : Replica S E C) (e : Event)
    → AreHere m w es numbers here → w.is_correct at ≡ true → IsAlone at e → (at ≡ j → ⊥) → IsReplica m w (states_of w es) j rep → IsReplica m w (states_of w (e ∷ es)) j rep
other_replica m w es numbers here at j rep e stand right alone other is =
    let same = other_state w es at e stand.going right alone j other in
    record {
      correct = is.correct;
      stands = let P : CoreState → Type 0 = λ st. ReplicaStands w.start m rep (rules_at w j) (w.keys j) st in subst P (sym same) is.stands;
      live = ap (λ (st : CoreState). st.live) same ∙ is.live;
    }

called_here : {S E C : Type 0} (m : Meaning S E C KeyRow) (w : Setting) (es : List Event) (numbers : List ℕ) (here : List (Replica S E C)) (place at : ℕ) (old new : Replica S E C) (e : Event)
    → AreHere m w es numbers here → slice_get numbers place ≡ Some at → slice_get here place ≡ Some old → IsAlone at e
    → ReplicaStands w.start m new (rules_at w at) (w.keys at) (done_by w es at e).state → AreHere m w (e ∷ es) numbers (slice_set here place new)
called_here {S = S} {E = E} {C = C} m w es numbers here place at old new e stand number there alone stands =
    let is : IsReplica m w (states_of w es) at old = stand.each place at old number there in
    let now : IsReplica m w (states_of w (e ∷ es)) at new = new_replica m w es numbers here at old new e stand is alone stands in
    record {
      kind = stand.kind;
      going = stand.going;
      atomic = stand.atomic;
      many = length-set here place new ∙ stand.many;
      apart = stand.apart;
      named = stand.named;
      each = λ k i rep numbered seen. elim (eqb_tells place k) [
        | inl same ↦
            let one : at ≡ i = same_Some at i (sym number ∙ ap (slice_get numbers) same.1 ∙ numbered) in
            let is_new : new ≡ rep = same_Some new rep (sym (get_set_same here place old new there) ∙ ap (slice_get (slice_set here place new)) same.1 ∙ seen) in
            let P : ℕ → Type 0 = λ x. IsReplica m w (states_of w (e ∷ es)) x new in
            let Q : Replica S E C → Type 0 = λ x. IsReplica m w (states_of w (e ∷ es)) i x in
            subst Q is_new (subst P one now)
        | inr other ↦
            other_replica m w es numbers here at i rep e stand is.correct alone
            (λ one. other.1 (stand.apart place k i (number ∙ ap (λ x. Some x) one) numbered))
            (stand.each k i rep numbered (sym (get_set_other here place k new (λ h. other.1 (sym h))) ∙ seen))
      ];
    }

-- ---- what is given to a replica

-- the replicas stand for the event too, and its frames were made
abbrev pub Given : {S E C : Type 0} → Meaning S E C KeyRow → Setting → List Event → List ℕ → List (Replica S E C) → ℕ → Event → List OutFrame → List OutFrame → Type 0
Given m w es numbers here at e before after =
    AreHere m w (e ∷ es) numbers here × (map (frame_by at) after ≡ map (frame_by at) before ++ sent_by w es (Some e))

wants : (P : Type 0) (answer : Result Answer Refusal) (result : Result (Result Answer Refusal) Mem) → is_want answer ≡ true → TellsWant answer result → OnOk result P
wants P answer (Ok told) want tells = absurd (both_ways (is_want answer) tells.1 want)
wants P answer (Err mem) want tells = tt

wants_none : (P : Result Answer Refusal → Type 0) (answer : Result Answer Refusal) (result : Result (Result Answer Refusal) Mem) → is_want answer ≡ true → TellsWant answer result → IfOk result P
wants_none P answer (Ok told) want tells = absurd (both_ways (is_want answer) tells.1 want)
wants_none P answer (Err mem) want tells = tt

on_any : (P : Type 0) (result : Result (Result Answer Refusal) Mem) → P → OnOk result P
on_any P (Ok told) is = is
on_any P (Err mem) is = tt

answered : {S E C : Type 0} (m : Meaning S E C KeyRow) (w : Setting) (es : List Event) (numbers : List ℕ) (here : List (Replica S E C)) (place at : ℕ) (old new : Replica S E C) (e : Event)
    (before after : List OutFrame) (answer : Result Answer Refusal) (result : Result (Result Answer Refusal) Mem)
    → AreHere m w es numbers here → slice_get numbers place ≡ Some at → slice_get here place ≡ Some old → IsAlone at e
    → Handles (ReplicaStands w.start m) new (call_in e) before after answer (rules_at w at) (w.keys at) (states_of w es at)
    → OnOk result (Given m w es numbers (slice_set here place new) at e before after)
answered m w es numbers here place at old new e before after answer result stand number there alone did =
    let is : IsReplica m w (states_of w es) at old = stand.each place at old number there in
    on_any (Given m w es numbers (slice_set here place new) at e before after) result (
      called_here m w es numbers here place at old new e stand number there alone did.state,
      ap (map (frame_by at)) did.out ∙ map-append (frame_by at) before (done_by w es at e).out
          ∙ ap (λ xs. map (frame_by at) before ++ xs) (sym (alone_sent w es at e stand.going is.correct alone)),
    )

-- a call
pub given : {S E C : Type 0} (m : Meaning S E C KeyRow) (w : Setting) (es : List Event) (numbers : List ℕ) (here : List (Replica S E C)) (place at : ℕ) (old new : Replica S E C) (e : Event)
    (before after : List OutFrame) (answer : Result Answer Refusal) (result : Result (Result Answer Refusal) Mem)
    → AreHere m w es numbers here → slice_get numbers place ≡ Some at → slice_get here place ≡ Some old → IsAlone at e
    → ReplicaDoesAll (ReplicaStands w.start m) old new (call_in e) before after answer → TellsWant answer result
    → OnOk result (Given m w es numbers (slice_set here place new) at e before after)
given m w es numbers here place at old new e before after (Err (refusals.Core faults.Mem)) result stand number there alone does saw =
    wants (Given m w es numbers (slice_set here place new) at e before after) (Err (refusals.Core faults.Mem)) result refl saw
given m w es numbers here place at old new e before after (Err (refusals.Body body.Mem)) result stand number there alone does saw =
    wants (Given m w es numbers (slice_set here place new) at e before after) (Err (refusals.Body body.Mem)) result refl saw
given m w es numbers here place at old new e before after answer result stand number there alone does saw =
    let is : IsReplica m w (states_of w es) at old = stand.each place at old number there in
    answered m w es numbers here place at old new e before after answer result stand number there alone (does (rules_at w at) (w.keys at) (states_of w es at) is.stands)

seen_so : {S E C : Type 0} (m : Meaning S E C KeyRow) (w : Setting) (es : List Event) (at : ℕ) (new : Replica S E C) (e : Event)
    (before after : List OutFrame) (answer : Result Answer Refusal) (result : Result (Result Answer Refusal) Mem)
    → seen_of w es e ≡ seen_answer (done_by w es at e).answer
    → Handles (ReplicaStands w.start m) new (call_in e) before after answer (rules_at w at) (w.keys at) (states_of w es at)
    → TellsWant answer result → IfOk result (λ told. seen_answer told ≡ seen_of w es e)
seen_so m w es at new e before after answer (Ok told) seen did saw = ap seen_answer (saw.0 ∙ did.answer) ∙ sym seen
seen_so m w es at new e before after answer (Err mem) seen did saw = tt

-- is answered as its event is
pub tells : {S E C : Type 0} (m : Meaning S E C KeyRow) (w : Setting) (es : List Event) (numbers : List ℕ) (here : List (Replica S E C)) (place at : ℕ) (old new : Replica S E C) (e : Event)
    (before after : List OutFrame) (answer : Result Answer Refusal) (result : Result (Result Answer Refusal) Mem)
    → AreHere m w es numbers here → slice_get numbers place ≡ Some at → slice_get here place ≡ Some old → IsAlone at e
    → ReplicaDoesAll (ReplicaStands w.start m) old new (call_in e) before after answer → TellsWant answer result
    → IfOk result (λ told. seen_answer told ≡ seen_of w es e)
tells m w es numbers here place at old new e before after (Err (refusals.Core faults.Mem)) result stand number there alone does saw =
    wants_none (λ told. seen_answer told ≡ seen_of w es e) (Err (refusals.Core faults.Mem)) result refl saw
tells m w es numbers here place at old new e before after (Err (refusals.Body body.Mem)) result stand number there alone does saw =
    wants_none (λ told. seen_answer told ≡ seen_of w es e) (Err (refusals.Body body.Mem)) result refl saw
tells m w es numbers here place at old new e before after answer result stand number there alone does saw =
    let is : IsReplica m w (states_of w es) at old = stand.each place at old number there in
    seen_so m w es at new e before after answer result (alone_seen w es at e stand.going is.correct alone) (does (rules_at w at) (w.keys at) (states_of w es at) is.stands) saw

-- ---- as the code has it

is_there : {X : Type 0} (xs : List X) (place : ℕ) (x : X) → place < length xs → x ≡ slice_index_or xs place x → slice_get xs place ≡ Some x
is_there xs place x within is = slice_get-get_or xs place x within ∙ ap (λ y. Some y) (sym is)

does_so : {S E C : Type 0} (s : Start) (m : Meaning S E C KeyRow) (old new : Replica S E C) (e : Event) (call : ReplicaCall) (before after : List OutFrame) (answer : Result Answer Refusal)
    → call ≡ call_in e → ReplicaDoesAll (ReplicaStands s m) old new call before after answer → ReplicaDoesAll (ReplicaStands s m) old new (call_in e) before after answer
does_so s m old new e call before after answer is does =
    let P : ReplicaCall → Type 0 = λ x. ReplicaDoesAll (ReplicaStands s m) old new x before after answer in subst P is does

told_so : (answer said : Result Answer Refusal) (result : Result (Result Answer Refusal) Mem) → said ≡ answer → TellsWant said result → TellsWant answer result
told_so answer said result is saw = let P : Result Answer Refusal → Type 0 = λ x. TellsWant x result in subst P is saw

pub gave : {S E C : Type 0} (m : Meaning S E C KeyRow) (w : Setting) (es : List Event) (numbers : List ℕ) (here now : List (Replica S E C)) (place at : ℕ) (old new : Replica S E C) (e : Event) (call : ReplicaCall)
    (before after out : List OutFrame) (answer said : Result Answer Refusal) (result : Result (Result Answer Refusal) Mem)
    → AreHere m w es numbers here → slice_get numbers place ≡ Some at → place < length here → old ≡ slice_index_or here place old → IsAlone at e → call ≡ call_in e
    → ReplicaDoesAll (ReplicaStands w.start m) old new call before after answer → TellsWant said result → said ≡ answer → now ≡ slice_set here place new → out ≡ after
    → OnOk result (Given m w es numbers now at e before out)
gave {S = S} {E = E} {C = C} m w es numbers here now place at old new e call before after out answer said result stand number within is alone calls does saw same now_is out_is =
    let P : List (Replica S E C) → Type 0 = λ x. OnOk result (Given m w es numbers x at e before out) in
    let Q : List OutFrame → Type 0 = λ x. OnOk result (Given m w es numbers (slice_set here place new) at e before x) in
    subst P (sym now_is) (subst Q (sym out_is)
    (given m w es numbers here place at old new e before after answer result stand number (is_there here place old within is) alone
    (does_so w.start m old new e call before after answer calls does) (told_so answer said result same saw)))

pub answers : {S E C : Type 0} (m : Meaning S E C KeyRow) (w : Setting) (es : List Event) (numbers : List ℕ) (here : List (Replica S E C)) (place at : ℕ) (old new : Replica S E C) (e : Event) (call : ReplicaCall)
    (before after : List OutFrame) (answer said : Result Answer Refusal) (result : Result (Result Answer Refusal) Mem)
    → AreHere m w es numbers here → slice_get numbers place ≡ Some at → place < length here → old ≡ slice_index_or here place old → IsAlone at e → call ≡ call_in e
    → ReplicaDoesAll (ReplicaStands w.start m) old new call before after answer → TellsWant said result → said ≡ answer
    → IfOk result (λ told. seen_answer told ≡ seen_of w es e)
answers m w es numbers here place at old new e call before after answer said result stand number within is alone calls does saw same =
    tells m w es numbers here place at old new e before after answer result stand number (is_there here place old within is) alone
    (does_so w.start m old new e call before after answer calls does) (told_so answer said result same saw)

-- ---- what is read of a replica

pub as_here : {S E C : Type 0} (m : Meaning S E C KeyRow) (w : Setting) (es : List Event) (numbers : List ℕ) (here xs : List (Replica S E C)) → xs ≡ here
    → AreHere m w es numbers here → AreHere m w es numbers xs
as_here {S = S} {E = E} {C = C} m w es numbers here xs same stand = let P : List (Replica S E C) → Type 0 = λ x. AreHere m w es numbers x in subst P (sym same) stand

-- the replica at a place
pub read_at : {S E C : Type 0} (m : Meaning S E C KeyRow) (w : Setting) (es : List Event) (numbers : List ℕ) (here xs : List (Replica S E C)) (place at : ℕ) (rep : Replica S E C)
    → AreHere m w es numbers here → xs ≡ here → slice_get numbers place ≡ Some at → place < length xs → rep ≡ slice_index_or xs place rep → IsReplica m w (states_of w es) at rep
read_at m w es numbers here xs place at rep stand same number within is =
    (as_here m w es numbers here xs same stand).each place at rep number (is_there xs place rep within is)

-- its log has the rows of its history
pub log_at : {S E C : Type 0} (m : Meaning S E C KeyRow) (w : Setting) (es : List Event) (at : ℕ) (rep : Replica S E C) (log : List Row)
    → IsReplica m w (states_of w es) at rep
    → ((r : Rules) (k : KeyRow) (st : CoreState) → ReplicaStands w.start m rep r k st → st.live ≡ true → log ≡ replica_rows w.start r st.history) → log ≡ rows_at w es at
log_at m w es at rep log is shows = shows (rules_at w at) (w.keys at) (states_of w es at) is.stands is.live
