-- What correct replicas show where an event stopped the world.
use Rattle.std.proofs.Common.{◌≡◌, ℕ, true, List, [], ◌∷◌, Option, Some, Result, Ok, Err, refl, sym, ◌∙◌, ap, subst, inl, inr, eqb}
use Rattle.std.proofs.lemmas.Bool.{cond-true, eq-eqb}
use Rattle.std.proofs.lemmas.Option.{same_Some}
use Rattle.ritas_base.specs.declared.item.Item.{Item}
use Rattle.frame_codec.specs.declared.fault.BodyFault.{BodyFault}
use Rattle.frame_codec.specs.Body.{body_answer}
use Rattle.keyed_channel.specs.KeyRow.{KeyRow}
use Rattle.keyed_channel.specs.declared.frame.OpenFault.{OpenFault}
use Rattle.keyed_channel.specs.Frames.{Opening, opening}
use Rattle.command_log.specs.Rows.{Row}
use Rattle.ritas_core.specs.declared.fault.CoreFault.{CoreFault}
use Rattle.ritas_core.specs.declared.fault.CoreFault.TheVariants as faults
use Rattle.ritas_core.specs.declared.verdict.Verdict.{Verdict}
use Rattle.ritas_core.specs.Rules.{Rules}
use Rattle.ritas_core.specs.Machine as core
use Rattle.ritas_core.specs.Machine.{CoreState, What, Moved, stays, gives_item, given_input, turned, moved_live, moved, with_entry, with_lost}
use Rattle.ritas_core.specs.Calls.{IsCoreStep, TakesFront, front_entry, entry_of_call}
use Rattle.replica.specs.Handling.{ReplicaCall, Frame, Input, Turn, given_body, given_frame, handled}
use Rattle.replica.specs.Stands.{body_given, frame_given, core_call}
use Rattle.world_model.specs.World.{Setting, rules_at, CallAt, call_of, after_call, states_of}
use Rattle.world_model.specs.Agree.{rows_at}
use Rattle.world_model.specs.Stopped.{LostIsTaken, EqualRows, OnePrefix}
use Rattle.world_model.proofs.Continues.{found_as_left}
use Rattle.world_model.proofs.Positions.{row_in_part, one_row, has_row_at, part_of_part, parts_of_one}

-- ---- what a step takes

turn_takes : (r : Rules) (st : CoreState) (waiting : List Item) → TakesFront r st waiting
    → (turned r st waiting).state.history ≡ with_entry (front_entry waiting) st.history
turn_takes r st [] step = absurd (step)
turn_takes r st (item ∷ waiting) step = ap (λ (v : Verdict). (gives_item r st item waiting v).state.history) step

live_takes : (r : Rules) (st : CoreState) (what : What) → IsCoreStep r st what
    → (moved_live r st what).state.history ≡ with_entry (entry_of_call st what) st.history
live_takes r st (core.Frame item) step = ap (λ (v : Verdict). (gives_item r st item st.inbox v).state.history) step
live_takes r st (core.Input value) step = ap (λ (check : Option CoreFault). (given_input r st value check).state.history) step
live_takes r st core.Turn step = turn_takes r st st.inbox step

moved_takes : (r : Rules) (st : CoreState) (what : What) → st.live ≡ true → IsCoreStep r st what
    → (moved r st what).state.history ≡ with_entry (entry_of_call st what) st.history
moved_takes r st what live step =
    ap (λ (did : Moved). did.state.history) (cond-true st.live (moved_live r st what) (stays st st.inbox (Err faults.Stopped)) live)
    ∙ live_takes r st what step

-- ---- what a call takes

body_takes : (r : Rules) (k : KeyRow) (st : CoreState) (read : Result Item BodyFault) (what : What) → body_given read ≡ Some what
    → (given_body r k st read).state ≡ (moved r st what).state
body_takes r k st (Ok item) what is = ap (λ (x : What). (moved r st x).state) (same_Some (core.Frame item) what is)
body_takes r k st (Err fault) what is = absurd (cc)

frame_takes : (r : Rules) (k : KeyRow) (st : CoreState) (opened : Result Opening OpenFault) (what : What) → frame_given r opened ≡ Some what
    → (given_frame r k st opened).state ≡ (moved r st what).state
frame_takes r k st (Ok o) what is = body_takes r k st (body_answer r.casts.numbers r.mode o.from o.body) what is
frame_takes r k st (Err fault) what is = absurd (cc)

call_takes : (r : Rules) (k : KeyRow) (st : CoreState) (call : ReplicaCall) (what : What) → core_call r k call ≡ Some what
    → (handled r k st call).state ≡ (moved r st what).state
call_takes r k st (Frame bytes) what is = frame_takes r k st (opening k bytes) what is
call_takes r k st (Input bytes) what is = ap (λ (x : What). (moved r st x).state) (same_Some (core.Input bytes) what is)
call_takes r k st Turn what is = ap (λ (x : What). (moved r st x).state) (same_Some core.Turn what is)

-- the state of the replica that is called
state_called : (w : Setting) (states : ℕ → CoreState) (i : ℕ) (call : ReplicaCall) (c : Option CallAt) → c ≡ Some (record { at = i; call = call })
    → after_call w states c i ≡ (handled (rules_at w i) (w.keys i) (states i) call).state
state_called w states i call c is =
    ap (λ (x : Option CallAt). after_call w states x i) is
    ∙ cond-true (eqb i i) (handled (rules_at w i) (w.keys i) (states i) call).state (states i) (eq-eqb i i refl)

pub lost_is_taken : LostIsTaken
unfolding states_of
lost_is_taken w es e i going taking =
    let r = rules_at w i in
    let st = states_of w es i in
    let found = subst (λ (states : ℕ → CoreState). states_of w (e ∷ es) i ≡ after_call w states (call_of w states e) i) (sym (found_as_left w es going)) refl in
    ap (λ (x : CoreState). x.history) (found ∙ state_called w (states_of w es) i taking.call (call_of w (states_of w es) e) taking.called)
    ∙ (ap (λ (x : CoreState). x.history) (call_takes r (w.keys i) st taking.call taking.what taking.given) ∙ moved_takes r st taking.what taking.live taking.step)

-- ---- rows

pub equal_rows : EqualRows
equal_rows w es agree i j left right rows others mine theirs position below there =
    let r = has_row_at (rows_at w es i) position below in
    let q = has_row_at (rows_at w es j) position there in
    let same = one_row (rows_at w es i) (rows_at w es j) (agree.logs i j left right) position r.0 q.0 r.1 q.1 in
    row_in_part (rows_at w es i) rows mine position r.0 r.1
    ∙ (ap (λ (row : Row). Some row) same ∙ sym (row_in_part (rows_at w es j) others theirs position q.0 q.1))

pub one_prefix : OnePrefix
one_prefix w es agree i j left right rows others mine theirs =
    let a = rows_at w es i in
    let b = rows_at w es j in
    elim (agree.logs i j left right) [
      | inl part ↦ parts_of_one rows others b (part_of_part rows a b mine part) theirs
      | inr part ↦ parts_of_one rows others a mine (part_of_part others b a theirs part)
    ]
