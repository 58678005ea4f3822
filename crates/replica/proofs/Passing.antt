-- A call on a replica, from what its core did and what was passed on.
use Rattle.std.proofs.Common.{◌≡◌, ℕ, ◌+◌, ◌%◌, ◌^◌, Bool, true, false, List, [], ◌∷◌, ◌++◌, length, Option, Some, None, Result, Ok, Err, inl, inr, refl, sym, ◌∙◌, ap, subst, append-nil, if◌then◌else◌}
use Rattle.ritas_base.specs.declared.item.Msg.{Msg}
use Rattle.frame_codec.specs.declared.fault.BodyFault.TheVariants as body
use Rattle.keyed_channel.specs.KeyRow.{KeyRow}
use Rattle.command_log.specs.Rows.{Start}
use Rattle.ritas_core.specs.declared.answer.Answer.{Answer}
use Rattle.ritas_core.specs.declared.answer.Answer.TheVariants as answers
use Rattle.ritas_core.specs.declared.fault.CoreFault.{CoreFault}
use Rattle.ritas_core.specs.declared.fault.CoreFault.TheVariants as faults
use Rattle.ritas_core.specs.declared.kernel.Core.{Core}
use Rattle.ritas_core.specs.Rules.{Rules}
use Rattle.ritas_core.specs.Parts.{Entry}
use Rattle.ritas_core.specs.Order.{new_messages}
use Rattle.ritas_core.specs.Machine.{CoreState, What, MayGive, with_entry, moved, moved_live, stays}
use Rattle.ritas_core.specs.Stands.{Meaning, CoreStands}
use Rattle.ritas_core.specs.Shown.{tagger_of}
use Rattle.ritas_core.specs.Calls as calls
use Rattle.ritas_core.specs.Calls.{IsCoreStep, entry_of_call, stopped}
use Rattle.replica.specs.Out.{OutFrame}
use Rattle.replica.specs.declared.refusal.Refusal.{Refusal}
use Rattle.replica.specs.declared.refusal.Refusal.TheVariants as refusals
use Rattle.replica.specs.declared.replica.Replica.{Replica}
use Rattle.replica.specs.Frames.{frames_of, count_for, new_frames}
use Rattle.replica.specs.Handling.{ReplicaCall, handled, framed, core_answer}
use Rattle.replica.specs.Stands.{Handles, ReplicaRunsOut, ReplicaDoes, core_call, frames_made}
use Rattle.replica.specs.Sending.{AreCounts}
use Rattle.replica.specs.Replica.{ReplicaStands, StandsGoing, AreCounted, revived}
use Rattle.replica.specs.Steps.{KeepsReplica, PutsOut, ReplicaStops, CountsFrames, FeedsLog, ReplicaFinishes}
use Rattle.replica.specs.CommandRows.{Follows, LiesBetween}
use Rattle.replica.proofs.Sends.{mod_more}
use Rattle.replica.proofs.Counting.{made_more}
use Rattle.replica.specs.MovesLaws.{moved_view}

-- the replica with another core
abbrev pub with_core : {S E C : Type 0} → Replica S E C → Core S E C KeyRow → Replica S E C
with_core old core = record { core = core; log = old.log; fed = old.fed; counts = old.counts; sent = old.sent; stopped = old.stopped }

-- what a call is given to the core as, and so does
pub record IsCall (r : Rules) (k : KeyRow) (st : CoreState) (call : ReplicaCall) (what : What) : Type 0 where
  pub given : core_call r k call ≡ Some what
  pub does : handled r k st call ≡ framed r k st (moved r st what)

pub going_of : {S E C : Type 0} (s : Start) (m : Meaning S E C KeyRow) (rep : Replica S E C) (r : Rules) (k : KeyRow) (st : CoreState) →
    ReplicaStands s m rep r k st → rep.stopped ≡ false → StandsGoing s m rep r k st
going_of s m rep r k st stands going = elim stands.state [
  | inl on ↦ on
  | inr off ↦ let same : true ≡ false = sym off.halted ∙ going in absurd (cc same)
]

-- the core stands for another state with the same history
kept : {S E C : Type 0} (s : Start) (m : Meaning S E C KeyRow) (old : Replica S E C) (core : Core S E C KeyRow) (r : Rules) (k : KeyRow) (st after : CoreState) →
    ReplicaStands s m old r k st → StandsGoing s m old r k st → tagger_of core ≡ k → CoreStands m core r after → after.history ≡ st.history
    → ReplicaStands s m (with_core old core) r k after
kept s m old core r k st after stands on keys now same = record {
  keys = keys;
  own = stands.own;
  many = stands.many;
  state = inl (record {
    going = on.going;
    core = now;
    counted = let P : List Entry → Type 0 = λ x. AreCounted r k x old.counts old.sent in subst P (sym same) on.counted;
    log = let P : List Entry → Type 0 = λ x. Follows s r x old.log old.fed in subst P (sym same) on.log;
  });
}

-- neither is want of memory
abbrev NotMem : Result Answer Refusal → Type 0
NotMem (Err (refusals.Core faults.Mem)) = ⊥
NotMem (Err (refusals.Body body.Mem)) = ⊥
NotMem result = Unit {0}

pub does_of : {S E C : Type 0} (s : Start) (m : Meaning S E C KeyRow) (new : Replica S E C) (call : ReplicaCall) (before after : List OutFrame) (r : Rules) (k : KeyRow) (st : CoreState) (result : Result Answer Refusal) →
    NotMem result → Handles (ReplicaStands s m) new call before after result r k st → ReplicaDoes (ReplicaStands s m) new call before after result r k st
does_of s m new call before after r k st (Err (refusals.Core faults.Mem)) bad h = absurd bad
does_of s m new call before after r k st (Err (refusals.Body body.Mem)) bad h = absurd bad
does_of s m new call before after r k st result fine h = h

-- nothing went out, and the replica is as before with the core as it is now
quiet_handles : {S E C : Type 0} (s : Start) (m : Meaning S E C KeyRow) (old new : Replica S E C) (core : Core S E C KeyRow) (what : What) (call : ReplicaCall) (ms : List Msg) (before after : List OutFrame) (answer : Result Answer CoreFault) (r : Rules) (k : KeyRow) (st : CoreState) →
    StandsGoing s m old r k st → ReplicaStands s m old r k st → tagger_of core ≡ k → IsCall r k st call what → calls.Moves m old.core core what [] ms answer r st
    → (answer ≡ Ok answers.Took → ⊥) → KeepsReplica (with_core old core) new before after → Handles (ReplicaStands s m) new call before after (core_answer answer) r k st
quiet_handles {S = S} {E = E} {C = C} s m old new core what call ms before after answer r k st on stands keys call_is did other keeps = elim (moved_view r st what) [
  | inl enters ↦ absurd (other (did.answer ∙ enters.answer))
  | inr quiet ↦ record {
    answer = ap core_answer did.answer ∙ ap (λ h. h.answer) (sym call_is.does);
    out =
        keeps.out ∙ sym (append-nil before) ∙ ap (λ ms. before ++ frames_of k (count_for r st.history) ms) (sym quiet.out)
        ∙ ap (λ h. before ++ h.out) (sym call_is.does);
    state =
        let P : CoreState → Type 0 = λ x. ReplicaStands s m new r k x in
        let Q : Replica S E C → Type 0 = λ x. ReplicaStands s m x r k (moved r st what).state in
        subst P (ap (λ h. h.state) (sym call_is.does)) (subst Q (sym keeps.same) (kept s m old core r k st (moved r st what).state stands on keys did.state quiet.history));
  }
]

-- the counts are those with the frames of one entry more
counted_more : (r : Rules) (k : KeyRow) (h : List Entry) (e : Entry) (xs ys : List ℕ) (sent_before sent : ℕ) (before after : List OutFrame) →
    AreCounted r k h xs sent_before → CountsFrames k (count_for r h) (new_messages r h e) ys sent_before sent before after → AreCounted r k (e ∷ h) ys sent
counted_more r k h e xs ys sent_before sent before after was now = record {
  each = now.each;
  all =
      let made = length (new_frames r k h e) in
      now.all ∙ ap (λ x. (x + made) % 2 ^ 64) was.all ∙ mod_more (frames_made r k h) made (2 ^ 64) ∙ ap (λ x. x % 2 ^ 64) (sym (made_more r k h e));
}

-- what went out is counted by the keys that the replica stands for
counts_by : {S E C : Type 0} (old : Replica S E C) (k : KeyRow) (count : ℕ → ℕ) (ms : List Msg) (ys : List ℕ) (sent : ℕ) (before after : List OutFrame) →
    tagger_of old.core ≡ k → AreCounts k.n old.counts count
    → (AreCounts (tagger_of old.core).n old.counts count → CountsFrames (tagger_of old.core) count ms ys old.sent sent before after) → CountsFrames k count ms ys old.sent sent before after
counts_by old k count ms ys sent before after same are counts =
    let P : KeyRow → Type 0 = λ x. AreCounts x.n old.counts count → CountsFrames x count ms ys old.sent sent before after in
    subst P same counts are

-- the core took an entry, and the frames went out
took_handles : {S E C : Type 0} (s : Start) (m : Meaning S E C KeyRow) (old new : Replica S E C) (core : Core S E C KeyRow) (what : What) (call : ReplicaCall) (ms : List Msg) (before after : List OutFrame) (r : Rules) (k : KeyRow) (st : CoreState) →
    StandsGoing s m old r k st → ReplicaStands s m old r k st → tagger_of core ≡ k → IsCall r k st call what → calls.Moves m old.core core what [] ms (Ok answers.Took) r st
    → PutsOut (with_core old core) new ms before after → FeedsLog m (with_core old core) new → Handles (ReplicaStands s m) new call before after (Ok answers.Took) r k st
took_handles {S = S} {E = E} {C = C} s m old new core what call ms before after r k st on stands keys call_is did puts feeds = elim (moved_view r st what) [
  | inl enters ↦
      let was = on.counted in
      let sent_are : ms ≡ new_messages r st.history enters.entry = did.out ∙ enters.out in
      let counts = counts_by (with_core old core) k (count_for r st.history) ms new.counts new.sent before after keys was.each (puts.counts (count_for r st.history)) in
      record {
        answer = ap core_answer did.answer ∙ ap (λ h. h.answer) (sym call_is.does);
        out = counts.frames ∙ ap (λ ms. before ++ frames_of k (count_for r st.history) ms) did.out ∙ ap (λ h. before ++ h.out) (sym call_is.does);
        state =
            let P : CoreState → Type 0 = λ x. ReplicaStands s m new r k x in
            let Q : Core S E C KeyRow → Type 0 = λ x. CoreStands m x r (moved r st what).state in
            let R : List Entry → Type 0 = λ h. AreCounted r k h new.counts new.sent in
            let M : List Msg → Type 0 = λ ms. CountsFrames k (count_for r st.history) ms new.counts old.sent new.sent before after in
            subst P (ap (λ h. h.state) (sym call_is.does)) (record {
              keys = ap tagger_of puts.core ∙ keys;
              own = stands.own;
              many = stands.many;
              state = inl (record {
                going = puts.halted ∙ on.going;
                core = subst Q (sym puts.core) did.state;
                counted = subst R (sym enters.history) (counted_more r k st.history enters.entry old.counts new.counts old.sent new.sent before after was (subst M sent_are counts));
                log =
                    let F : List Entry → Type 0 = λ h. Follows s r h new.log new.fed in
                    subst F (sym enters.history) (feeds.follows s r (moved r st what).state enters.entry st.history did.state enters.going enters.history on.log);
              });
            });
      }
  | inr quiet ↦ absurd (quiet.answer (sym did.answer))
]

-- the state before a call is that to which the stopped one is brought back
pub revived_is : (st : CoreState) (what : What) → st.live ≡ true → st.lost ≡ None → revived (stopped st what) ≡ st
revived_is st what live lost =
    ap (λ (b : Bool). record st { live = b; lost = None }) (sym live) ∙ ap (λ (o : Option Entry). record st { lost = o }) (sym lost)

-- the core took an entry, and the replica is stopped for want of memory
stops_runs_out : {S E C : Type 0} (s : Start) (m : Meaning S E C KeyRow) (old new : Replica S E C) (core : Core S E C KeyRow) (what : What) (call : ReplicaCall) (ms : List Msg) (before after : List OutFrame) (r : Rules) (k : KeyRow) (st : CoreState) →
    StandsGoing s m old r k st → ReplicaStands s m old r k st → tagger_of core ≡ k → IsCall r k st call what → calls.Moves m old.core core what [] ms (Ok answers.Took) r st
    → ReplicaStops m (with_core old core) new ms before after → ReplicaRunsOut (ReplicaStands s m) new call before after r k st
stops_runs_out {S = S} {E = E} {C = C} s m old new core what call ms before after r k st on stands keys call_is did stops = elim (moved_view r st what) [
  | inl enters ↦ record {
    out = stops.out;
    live = enters.live;
    what = what;
    given = call_is.given;
    state =
        let Q : Core S E C KeyRow → Type 0 = λ x. CoreStands m x r (moved r st what).state in
        let same = sym (revived_is st what enters.live (on.core.lost enters.live)) in
        inr (
          enters.step,
          record {
            keys = ap tagger_of stops.core ∙ keys;
            own = stands.own;
            many = stands.many;
            state = inr (record {
              halted = stops.halted;
              dead = refl;
              ahead = record {
                what = what;
                step = subst (λ (x : CoreState). IsCoreStep r x what) same enters.step;
                lost = ap (λ (x : CoreState). entry_of_call x what) same;
                stands = subst (λ (x : CoreState). CoreStands m new.core r (moved r x what).state) same (subst Q (sym stops.core) did.state);
              };
              sent = stops.sent ∙ on.counted.all;
              start = (stops.some s r (moved r st what).state enters.entry st.history did.state enters.going enters.history on.log).0;
              log =
                  let L : Option Entry → Type 0 = λ o. LiesBetween s r st.history (with_entry o st.history) new.log.rows in
                  subst L (sym enters.entered) (stops.some s r (moved r st what).state enters.entry st.history did.state enters.going enters.history on.log).1;
            });
          },
        );
  }
  | inr quiet ↦ absurd (quiet.answer (sym did.answer))
]

-- the core was without memory
core_runs_out : {S E C : Type 0} (s : Start) (m : Meaning S E C KeyRow) (old new : Replica S E C) (core : Core S E C KeyRow) (what : What) (call : ReplicaCall) (ms : List Msg) (before after : List OutFrame) (r : Rules) (k : KeyRow) (st : CoreState) →
    StandsGoing s m old r k st → ReplicaStands s m old r k st → tagger_of core ≡ k → IsCall r k st call what → calls.RunsOut m core what [] ms r st
    → KeepsReplica (with_core old core) new before after → ReplicaRunsOut (ReplicaStands s m) new call before after r k st
core_runs_out {S = S} {E = E} {C = C} s m old new core what call ms before after r k st on stands keys call_is did keeps = record {
  out = keeps.out;
  live = did.live;
  what = what;
  given = call_is.given;
  state =
      let P : CoreState → Type 0 = λ x. ReplicaStands s m new r k x in
      let Q : CoreState → Replica S E C → Type 0 = λ x rep. ReplicaStands s m rep r k x in
      elim did.state [
        | inl holds ↦ inl (holds.0, subst (Q st) (sym keeps.same) (kept s m old core r k st st stands on keys holds.1 refl))
        | inr steps ↦ inr (
          steps.0,
          subst (Q (stopped st what)) (sym keeps.same) (kept s m old core r k st (stopped st what) stands on keys steps.1 refl),
        )
      ];
}

-- each call on a replica that isn't stopped
pub passed_on : {S E C : Type 0} (s : Start) (m : Meaning S E C KeyRow) (old new : Replica S E C) (core : Core S E C KeyRow) (what : What) (call : ReplicaCall) (ms : List Msg) (before after : List OutFrame) (r : Rules) (k : KeyRow) (st : CoreState) (answer : Result Answer CoreFault) (result : Result Answer Refusal) →
    StandsGoing s m old r k st → ReplicaStands s m old r k st → tagger_of core ≡ k → IsCall r k st call what → calls.Does m old.core core what [] ms answer r st
    → ReplicaFinishes m (with_core old core) new answer ms before after result → ReplicaDoes (ReplicaStands s m) new call before after result r k st
passed_on s m old new core what call ms before after r k st (Ok answers.Took) (Ok answer) on stands keys call_is did ends =
    let P : Answer → Type 0 = λ x. ReplicaDoes (ReplicaStands s m) new call before after (Ok x) r k st in
    subst P (sym ends.0) (took_handles s m old new core what call ms before after r k st on stands keys call_is did ends.1 ends.2)
passed_on s m old new core what call ms before after r k st (Ok answers.Took) (Err fault) on stands keys call_is did ends =
    let P : Refusal → Type 0 = λ x. ReplicaDoes (ReplicaStands s m) new call before after (Err x) r k st in
    subst P (sym ends.0) (stops_runs_out s m old new core what call ms before after r k st on stands keys call_is did ends.1)
passed_on s m old new core what call ms before after r k st (Err faults.Mem) result on stands keys call_is did ends =
    let P : Result Answer Refusal → Type 0 = λ x. ReplicaDoes (ReplicaStands s m) new call before after x r k st in
    subst P (sym ends.0) (core_runs_out s m old new core what call ms before after r k st on stands keys call_is did ends.1)
passed_on s m old new core what call ms before after r k st (Ok answer) result on stands keys call_is did ends =
    let P : Result Answer Refusal → Type 0 = λ x. ReplicaDoes (ReplicaStands s m) new call before after x r k st in
    subst P (sym ends.0) (quiet_handles s m old new core what call ms before after (Ok answer) r k st on stands keys call_is did (λ e. cc) ends.1)
passed_on s m old new core what call ms before after r k st (Err fault) result on stands keys call_is did ends =
    let P : Result Answer Refusal → Type 0 = λ x. ReplicaDoes (ReplicaStands s m) new call before after x r k st in
    subst P (sym ends.0) (quiet_handles s m old new core what call ms before after (Err fault) r k st on stands keys call_is did (λ e. cc) ends.1)

-- each call on a replica that isn't stopped
pub passes : {S E C : Type 0} (s : Start) (m : Meaning S E C KeyRow) (old new : Replica S E C) (core : Core S E C KeyRow) (what : What) (call : ReplicaCall) (first ms : List Msg) (before after : List OutFrame) (answer : Result Answer CoreFault) (result : Result Answer Refusal) (r : Rules) (k : KeyRow) (st : CoreState) →
    ReplicaStands s m old r k st → old.stopped ≡ false → IsCall r k st call what → MayGive r what → tagger_of core ≡ tagger_of old.core → first ≡ []
    → calls.DoesAll m old.core core what first ms answer → ReplicaFinishes m (with_core old core) new answer ms before after result → ReplicaDoes (ReplicaStands s m) new call before after result r k st
passes s m old new core what call first ms before after answer result r k st stands going call_is may same none did ends =
    let on = going_of s m old r k st stands going in
    let P : List Msg → Type 0 = λ x. calls.Does m old.core core what x ms answer r st in
    passed_on s m old new core what call ms before after r k st answer result on stands (same ∙ stands.keys) call_is (subst P none (did r st on.core may)) ends

dead_of : {S E C : Type 0} (s : Start) (m : Meaning S E C KeyRow) (rep : Replica S E C) (r : Rules) (k : KeyRow) (st : CoreState) →
    ReplicaStands s m rep r k st → rep.stopped ≡ true → st.live ≡ false
dead_of s m rep r k st stands halted = elim stands.state [
  | inl on ↦ let same : true ≡ false = sym halted ∙ on.going in absurd (cc same)
  | inr off ↦ off.dead
]

moved_dead : (r : Rules) (st : CoreState) (what : What) → st.live ≡ false → moved r st what ≡ stays st st.inbox (Err faults.Stopped)
moved_dead r st what dead = ap (λ b. if b then moved_live r st what else stays st st.inbox (Err faults.Stopped)) dead

-- a call that is for the core of a replica that is stopped
pub halted_handles : {S E C : Type 0} (s : Start) (m : Meaning S E C KeyRow) (rep : Replica S E C) (what : What) (call : ReplicaCall) (before : List OutFrame) (r : Rules) (k : KeyRow) (st : CoreState) →
    ReplicaStands s m rep r k st → rep.stopped ≡ true → IsCall r k st call what → Handles (ReplicaStands s m) rep call before before (Err (refusals.Core faults.Stopped)) r k st
halted_handles s m rep what call before r k st stands halted call_is =
    let same : handled r k st call ≡ framed r k st (stays st st.inbox (Err faults.Stopped)) =
    call_is.does ∙ ap (framed r k st) (moved_dead r st what (dead_of s m rep r k st stands halted)) in
    let P : CoreState → Type 0 = λ x. ReplicaStands s m rep r k x in
    record {
      answer = ap (λ h. h.answer) (sym same);
      out = sym (append-nil before) ∙ ap (λ h. before ++ h.out) (sym same);
      state = subst P (ap (λ h. h.state) (sym same)) stands;
    }
