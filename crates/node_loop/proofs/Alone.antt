-- An event that is a call on one correct replica alone.
use Rattle.std.proofs.Common.{◌≡◌, ℕ, Bool, true, List, [], ◌∷◌, length, map, Option, Some, None, refl, sym, ◌∙◌, ap, if◌then◌else◌}
use Rattle.std.proofs.lemmas.Bool.{eq-eqb, ne_eqb}
use Rattle.ritas_base.specs.declared.event.Event.{Event}
use Rattle.ritas_base.specs.declared.event.Event.TheVariants as events
use Rattle.ritas_core.specs.Machine.{CoreState}
use Rattle.replica.specs.Out.{OutFrame}
use Rattle.replica.specs.Handling.{ReplicaCall, Frame, Input, Turn, Handled, handled}
use Rattle.world_model.specs.World.{Setting, rules_at, CallAt, call_at, call_of, handled_at, after_call, states_of, states_before, seen_answer, seen_call, seen_of}
use Rattle.world_model.specs.Stands.{NoneStops}
use Rattle.world_model.specs.MadeOrder.{frames_of_call}
use Rattle.node_loop.specs.Serving.{as_sent, sent_by}
use Rattle.schedule_file.specs.Spelling.{IsAlone}
use Rattle.node_loop.specs.Standing.{frame_by}
use Rattle.world_model.proofs.Continues.{found_as_left}

-- ---- the call

abbrev pub call_in : Event → ReplicaCall
call_in (events.Frame to bytes) = Frame bytes
call_in (events.Input at bytes) = Input bytes
call_in (events.Turn at) = Turn
call_in (events.Pass from to m) = Turn
call_in (events.Sealed from to body) = Turn

-- what it does
abbrev pub done_by : Setting → List Event → ℕ → Event → Handled
done_by w es at e = handled (rules_at w at) (w.keys at) (states_of w es at) (call_in e)

correct_call : (w : Setting) (at : ℕ) (call : ReplicaCall) → w.is_correct at ≡ true → call_at w at call ≡ Some (record { at = at; call = call })
correct_call w at call right = ap (λ b. if b then Some (record { at = at; call = call }) else None) right

alone_call : (w : Setting) (states : ℕ → CoreState) (at : ℕ) (e : Event) → w.is_correct at ≡ true → IsAlone at e
    → call_of w states e ≡ Some (record { at = at; call = call_in e })
alone_call w states at (events.Frame to bytes) right alone = ap (λ k. call_at w k (Frame bytes)) alone ∙ correct_call w at (Frame bytes) right
alone_call w states at (events.Input to bytes) right alone = ap (λ k. call_at w k (Input bytes)) alone ∙ correct_call w at (Input bytes) right
alone_call w states at (events.Turn to) right alone = ap (λ k. call_at w k Turn) alone ∙ correct_call w at Turn right
alone_call w states at (events.Pass from to m) right alone = absurd alone
alone_call w states at (events.Sealed from to body) right alone = absurd alone

after_alone : (w : Setting) (es : List Event) (at : ℕ) (e : Event) → NoneStops w → w.is_correct at ≡ true → IsAlone at e → (i : ℕ)
    → states_of w (e ∷ es) i ≡ after_call w (states_of w es) (Some (record { at = at; call = call_in e })) i
unfolding states_of
after_alone w es at e going right alone i =
    let before = states_before w es in
    let c : CallAt = record { at = at; call = call_in e } in
    ap (λ (x : Option CallAt). after_call w before x i) (alone_call w before at e right alone)
    ∙ ap (λ (st : ℕ → CoreState). after_call w st (Some c) i) (sym (found_as_left w es going))

-- the replica's state is that which the call leaves
pub alone_state : (w : Setting) (es : List Event) (at : ℕ) (e : Event) → NoneStops w → w.is_correct at ≡ true → IsAlone at e
    → states_of w (e ∷ es) at ≡ (done_by w es at e).state
alone_state w es at e going right alone =
    let c : CallAt = record { at = at; call = call_in e } in
    after_alone w es at e going right alone at
    ∙ ap (λ (b : Bool). if b then (handled_at w (states_of w es) c).state else states_of w es at) (eq-eqb at at refl)

-- the others are as before
pub other_state : (w : Setting) (es : List Event) (at : ℕ) (e : Event) → NoneStops w → w.is_correct at ≡ true → IsAlone at e → (j : ℕ) → (at ≡ j → ⊥)
    → states_of w (e ∷ es) j ≡ states_of w es j
other_state w es at e going right alone j other =
    let c : CallAt = record { at = at; call = call_in e } in
    after_alone w es at e going right alone j
    ∙ ap (λ (b : Bool). if b then (handled_at w (states_of w es) c).state else states_of w es j) (ne_eqb at j other)

-- what became of it is what the call answers
pub alone_seen : (w : Setting) (es : List Event) (at : ℕ) (e : Event) → NoneStops w → w.is_correct at ≡ true → IsAlone at e
    → seen_of w es e ≡ seen_answer (done_by w es at e).answer
alone_seen w es at e going right alone =
    ap (λ (st : ℕ → CoreState). seen_call w st (call_of w st e)) (sym (found_as_left w es going))
    ∙ ap (λ (x : Option CallAt). seen_call w (states_of w es) x) (alone_call w (states_of w es) at e right alone)

as_frames : (k at : ℕ) (out : List OutFrame) → map as_sent (map (λ o. record { event = k; from = at; to = o.to; bytes = o.bytes }) out) ≡ map (frame_by at) out
as_frames k at [] = refl
as_frames k at (o ∷ out) = ap (λ xs. frame_by at o ∷ xs) (as_frames k at out)

-- the frames that are sent are those of the call
pub alone_sent : (w : Setting) (es : List Event) (at : ℕ) (e : Event) → NoneStops w → w.is_correct at ≡ true → IsAlone at e
    → sent_by w es (Some e) ≡ map (frame_by at) (done_by w es at e).out
alone_sent w es at e going right alone =
    ap (λ (st : ℕ → CoreState). map as_sent (frames_of_call (length es) w st (call_of w st e))) (sym (found_as_left w es going))
    ∙ ap (λ (x : Option CallAt). map as_sent (frames_of_call (length es) w (states_of w es) x)) (alone_call w (states_of w es) at e right alone)
    ∙ as_frames (length es) at (done_by w es at e).out
