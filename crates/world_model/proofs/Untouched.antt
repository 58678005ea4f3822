-- What an event adds to the frames of each replica.
use Rattle.std.proofs.Common.{◌≡◌, ◌≢◌, ℕ, ◌==◌, Bool, not, ◌&&◌, if◌then◌else◌, Option, Some, None, List, [], ◌∷◌, ◌++◌, length, map, reverse, ap, sym, subst, ◌∙◌, refl, ◌<◌, inl, inr, append-nil, arith}
use Rattle.std.proofs.lemmas.Bool.{ne_eqb}
use Rattle.std.proofs.lemmas.Bool.Decides.{eqb_tells}
use Rattle.std.proofs.lemmas.List.{length-append, nil_from_length}
use Rattle.ritas_base.specs.declared.event.Event.{Event}
use Rattle.ritas_base.specs.declared.event.Event.TheVariants as events
use Rattle.keyed_channel.specs.Frames.{sealed}
use Rattle.ritas_core.specs.Machine.{CoreState}
use Rattle.replica.specs.Frames.{made_for}
use Rattle.replica.specs.Laws.{MadeByEntry}
use Rattle.replica.specs.Handling.{Frame, Input, Turn}
use Rattle.world_model.specs.World.{Setting, rules_at, CallAt, frame_call, frame_passed, call_of, handled_at, after_call, states_of, states_before}
use Rattle.world_model.specs.Watch.{IsAt}
use Rattle.world_model.specs.FramesMade.{frames_to}
use Rattle.world_model.specs.MadeOrder.{MadeFrame, all_made, frames_of_call}
use Rattle.world_model.specs.Quiet.{comes_to, QuietLaw, OthersLaw}
use Rattle.world_model.specs.Stands.{frames_from}
use Rattle.world_model.proofs.Happening.{at_call}
use Rattle.world_model.proofs.TableAfter.{at_maker}
use Rattle.world_model.proofs.Worlds.{IsAtCorrect, event_at}

-- ---- the replica that an event comes to

at_frame : (w : Setting) (j : ℕ) (frame : Option (List ℕ)) → IsAt w (frame_call w j frame) j
at_frame w j None = tt
at_frame w j (Some bytes) = at_call w j (Frame bytes)

at_event : (w : Setting) (states : ℕ → CoreState) (e : Event) → IsAt w (call_of w states e) (comes_to e)
at_event w states (events.Frame to bytes) = at_call w to (Frame bytes)
at_event w states (events.Input at bytes) = at_call w at (Input bytes)
at_event w states (events.Turn at) = at_call w at Turn
at_event w states (events.Pass from to m) = at_frame w to (frame_passed w states from to m)
at_event w states (events.Sealed from to body) = at_call w to (Frame (sealed (w.keys from) to 0 body))

-- every other one stays as it is
stays_at : (w : Setting) (states : ℕ → CoreState) (c : Option CallAt) (at i : ℕ) → IsAt w c at → at ≢ i → after_call w states c i ≡ states i
stays_at w states None at i is differ = refl
stays_at w states (Some c) at i is differ = ap (λ (b : Bool). if b then (handled_at w states c).state else states i) (ne_eqb c.at i (λ same. differ (cc)))

pub others_law : OthersLaw
unfolding states_of
others_law w es e i j differ =
    let found = states_before w es in
    ap (λ (st : CoreState). if w.is_correct i && not (i == j) then reverse (made_for (rules_at w i) (w.keys i) st.history j) else [])
    (stays_at w found (call_of w found e) (comes_to e) i (at_event w found e) differ)

-- ---- where no frame more was made

none_more : (xs ys : List MadeFrame) → length (xs ++ ys) ≡ length xs → ys ≡ []
none_more xs ys same = nil_from_length ys (omega (arith, same, length-append xs ys))

none_of_none : {X Y : Type 0} (f : X → Y) (xs : List X) → map f xs ≡ [] → xs ≡ []
none_of_none f [] none = refl
none_of_none f (x ∷ xs) none = absurd (cc)

-- no replica's frames are more
quiet_called : MadeByEntry → (w : Setting) (states : ℕ → CoreState) (c : Option CallAt) → IsAtCorrect w c → (event : ℕ) → frames_of_call event w states c ≡ []
    → (i j : ℕ) → (w.keys i).me ≡ i → j < (w.keys i).n → frames_from w (after_call w states c) i j ≡ frames_from w states i j
quiet_called made w states None correct event none i j own below = refl
quiet_called made w states (Some c) correct event none i j own below = elim (eqb_tells c.at i) [
  | inl same ↦
      let P : ℕ → Type 0 = λ k. (w.keys k).me ≡ k → j < (w.keys k).n → frames_from w (after_call w states (Some c)) k j ≡ frames_from w states k j in
      subst P same.1
      (λ own_at below_at.
      sym (at_maker made w states c j own_at below_at correct)
      ∙ ap (λ fs. frames_from w states c.at j ++ frames_to j fs) (none_of_none (λ o. record { event = event; from = c.at; to = o.to; bytes = o.bytes }) (handled_at w states c).out none)
      ∙ append-nil (frames_from w states c.at j))
      own below
  | inr other ↦
      ap (λ (st : CoreState). if w.is_correct i && not (i == j) then reverse (made_for (rules_at w i) (w.keys i) st.history j) else [])
      (ap (λ (b : Bool). if b then (handled_at w states c).state else states i) (ne_eqb c.at i other.1))
]

pub quiet_law : MadeByEntry → QuietLaw
unfolding states_of all_made
quiet_law made w es e same i j own below =
    let found = states_before w es in
    let c = call_of w found e in
    quiet_called made w found c (event_at w found e) (length es) (none_more (all_made w es) (frames_of_call (length es) w found c) same) i j own below
