-- What a step changes: the inbox and the history of the player that it comes to. No frame is lost.
use Rattle.std.proofs.Common.{◌≡◌, ◌≢◌, ℕ, ◌%◌, ◌^◌, ◌≤◌, ◌==◌, Bool, true, false, List, [], ◌∷◌, ◌++◌, length, map, reverse, Option, Some, None, refl, sym, ◌∙◌, ap, subst, inl, inr, if◌then◌else◌, arith}
use Rattle.std.specs.List.{slice_get}
use Rattle.std.proofs.lemmas.Bool.{ne_eqb, eqb-true}
use Rattle.std.proofs.lemmas.List.{length-reverse}
use Rattle.ritas_base.specs.declared.event.Event.{Event}
use Rattle.ritas_base.specs.declared.event.Event.TheVariants as events
use Rattle.ritas_base.specs.declared.item.Msg.{Msg}
use Rattle.keyed_channel.specs.KeyRow.{KeyRow}
use Rattle.keyed_channel.specs.Frames.{sealed}
use Rattle.ritas_core.specs.Machine.{CoreState}
use Rattle.ritas_core.specs.Rules.{Rules}
use Rattle.ritas_core.specs.Parts.{Entry}
use Rattle.ritas_core.specs.Order.{new_messages, sent_to}
use Rattle.replica.specs.Frames.{sealed_onto, made_for, body_of}
use Rattle.replica.specs.Handling.{ReplicaCall, Frame, Input, Turn, handled}
use Rattle.world_model.specs.World.{Setting, rules_at, CallAt, call_at, frame_call, frame_passed, call_of, handled_at, after_call, states_of, states_before}
use Rattle.world_model.specs.declared.player.Player.{Player}
use Rattle.world_model.specs.declared.player.Player.TheVariants.{Correct, Face}
use Rattle.world_model.specs.Players.{Cast, Scene, state_at, player_frames, frames_shown_as, Step, Give, Go, Carry, Throw, happened, happened_if, faced, faced_if, scene_after, scene_of, number_of}
use Rattle.world_model.proofs.Histories.{Grew, grew}
use Rattle.schedule_plan.specs.Sweeps.{frame_counts}
use Rattle.schedule_drive.specs.Pickers.{ComesToPlayer}

-- ---- a state that is as it was

pub record IsKept (before after : CoreState) : Type 0 where
  pub inbox : after.inbox ≡ before.inbox
  pub history : after.history ≡ before.history

kept_same : (before after : CoreState) → after ≡ before → IsKept before after
kept_same before after same = record { inbox = ap (λ (st : CoreState). st.inbox) same; history = ap (λ (st : CoreState). st.history) same }

-- ---- what happens to a correct replica

call_stays : (w : Setting) (states : ℕ → CoreState) (j i : ℕ) (call : ReplicaCall) → j ≢ i → after_call w states (call_at w j call) i ≡ states i
call_stays w states j i call apart = at (w.is_correct j)
  where
    at : (b : Bool) → after_call w states (if b then Some (record { at = j; call = call }) else None) i ≡ states i
    at true = ap (λ (b : Bool). if b then (handled_at w states (record { at = j; call = call })).state else states i) (ne_eqb j i apart)
    at false = refl

frame_stays : (w : Setting) (states : ℕ → CoreState) (j i : ℕ) (o : Option (List ℕ)) → j ≢ i → after_call w states (frame_call w j o) i ≡ states i
frame_stays w states j i None apart = refl
frame_stays w states j i (Some bytes) apart = call_stays w states j i (Frame bytes) apart

call_grew : (w : Setting) (states : ℕ → CoreState) (o : Option CallAt) (i : ℕ) → Grew (states i).history (after_call w states o i).history
call_grew w states None i = inl refl
call_grew w states (Some c) i = at (c.at == i) refl
  where
    at : (b : Bool) → (c.at == i) ≡ b → Grew (states i).history (if b then (handled_at w states c).state else states i).history
    at true is = subst (λ (k : ℕ). Grew (states k).history (handled_at w states c).state.history) (eqb-true c.at i is) (grew (rules_at w c.at) (w.keys c.at) (states c.at) c.call)
    at false is = inl refl

happened_grew : (w : Setting) (s : Scene) (e : Event) (x : Player) → Grew (state_at w s x).history (state_at w (happened s e) x).history
unfolding states_of
happened_grew w s e (Correct i) = call_grew w (states_before w s.events) (call_of w (states_before w s.events) e) i
happened_grew w s e (Face a) = inl refl

happened_if_grew : (w : Setting) (s : Scene) (j : ℕ) (o : Option (List ℕ)) (x : Player) → Grew (state_at w s x).history (state_at w (happened_if s j o) x).history
happened_if_grew w s j None x = inl refl
happened_if_grew w s j (Some bytes) x = happened_grew w s (events.Frame j bytes) x

faced_grew : (w : Setting) (c : Cast) (s : Scene) (a : ℕ) (call : ReplicaCall) (x : Player) → Grew (state_at w s x).history (state_at w (faced w c s a call) x).history
faced_grew w c s a call (Correct i) = inl refl
faced_grew w c s a call (Face b) = at (a == b) refl
  where
    at : (t : Bool) → (a == b) ≡ t → Grew (s.faces b).history (if t then (handled (rules_at w (c.number a)) (w.keys (c.number a)) (s.faces a) call).state else s.faces b).history
    at true is = subst (λ (k : ℕ). Grew (s.faces k).history (handled (rules_at w (c.number a)) (w.keys (c.number a)) (s.faces a) call).state.history) (eqb-true a b is) (grew (rules_at w (c.number a)) (w.keys (c.number a)) (s.faces a) call)
    at false is = inl refl

faced_if_grew : (w : Setting) (c : Cast) (s : Scene) (a : ℕ) (o : Option (List ℕ)) (x : Player) → Grew (state_at w s x).history (state_at w (faced_if w c s a o) x).history
faced_if_grew w c s a None x = inl refl
faced_if_grew w c s a (Some bytes) x = faced_grew w c s a (Frame bytes) x

-- a history grows by each step
pub after_grew : (w : Setting) (c : Cast) (s : Scene) (step : Step) (x : Player) → Grew (state_at w s x).history (state_at w (scene_after w c s step) x).history
after_grew w c s (Give (Correct i) value) x = happened_grew w s (events.Input i value) x
after_grew w c s (Give (Face a) value) x = faced_grew w c s a (Input value) x
after_grew w c s (Go (Correct i)) x = happened_grew w s (events.Turn i) x
after_grew w c s (Go (Face a)) x = faced_grew w c s a Turn x
after_grew w c s (Carry (Correct i) (Correct j) m) x = happened_grew w s (events.Pass i j m) x
after_grew w c s (Carry (Face a) (Correct j) m) x = happened_if_grew w s j (slice_get (player_frames w c s (Face a) j) m) x
after_grew w c s (Carry (Correct i) (Face a) m) x = faced_if_grew w c s a (slice_get (player_frames w c s (Correct i) (c.number a)) m) x
after_grew w c s (Carry (Face b) (Face a) m) x = faced_if_grew w c s a (slice_get (player_frames w c s (Face b) (c.number a)) m) x
after_grew w c s (Throw from to rest) x = happened_grew w s _ x

-- ---- frames

more_sealed : (k : KeyRow) (j : ℕ) (ms : List Msg) (frames : List (List ℕ)) → length frames ≤ length (sealed_onto k j ms frames)
more_sealed k j [] frames = omega arith
more_sealed k j (m ∷ ms) frames = let more = more_sealed k j ms (sealed k j (length frames % 2 ^ 64) (body_of k.me m) ∷ frames) in omega (arith, more)

more_made : (r : Rules) (k : KeyRow) (before after : List Entry) (j : ℕ) → Grew before after → length (reverse (made_for r k before j)) ≤ length (reverse (made_for r k after j))
more_made r k before after j (inl same) = let e = ap (λ (h : List Entry). length (reverse (made_for r k h j))) same in omega (arith, e)
more_made r k before after j (inr (e, is)) =
    let same = ap (λ (h : List Entry). length (reverse (made_for r k h j))) is in
    let old = length-reverse (made_for r k before j) in
    let new = length-reverse (made_for r k (e ∷ before) j) in
    let more = more_sealed k j (sent_to j (new_messages r before e)) (made_for r k before j) in
    omega (arith, same, old, new, more)

more_shown : (shown : Msg → Msg) (r : Rules) (k : KeyRow) (before after : List Entry) (j : ℕ) → Grew before after → length (reverse (frames_shown_as shown r k before j)) ≤ length (reverse (frames_shown_as shown r k after j))
more_shown shown r k before after j (inl same) = let e = ap (λ (h : List Entry). length (reverse (frames_shown_as shown r k h j))) same in omega (arith, e)
more_shown shown r k before after j (inr (e, is)) =
    let same = ap (λ (h : List Entry). length (reverse (frames_shown_as shown r k h j))) is in
    let old = length-reverse (frames_shown_as shown r k before j) in
    let new = length-reverse (frames_shown_as shown r k (e ∷ before) j) in
    let more = more_sealed k j (map shown (sent_to j (new_messages r before e))) (frames_shown_as shown r k before j) in
    omega (arith, same, old, new, more)

-- no frame is lost by a step
pub more_frames : (w : Setting) (c : Cast) (s : Scene) (step : Step) (x y : Player) → frame_counts w c s x y ≤ frame_counts w c (scene_after w c s step) x y
more_frames w c s step (Correct i) y = more_made (rules_at w i) (w.keys i) (state_at w s (Correct i)).history (state_at w (scene_after w c s step) (Correct i)).history (number_of c y) (after_grew w c s step (Correct i))
more_frames w c s step (Face a) y = more_shown c.shown (rules_at w (c.number a)) (w.keys (c.number a)) (state_at w s (Face a)).history (state_at w (scene_after w c s step) (Face a)).history (number_of c y) (after_grew w c s step (Face a))

pub more_by_steps : (w : Setting) (c : Cast) (more steps : List Step) (x y : Player) → frame_counts w c (scene_of w c steps) x y ≤ frame_counts w c (scene_of w c (more ++ steps)) x y
more_by_steps w c [] steps x y = omega arith
more_by_steps w c (step ∷ more) steps x y =
    let first = more_by_steps w c more steps x y in
    let last = more_frames w c (scene_of w c (more ++ steps)) step x y in
    omega (arith, first, last)

-- ---- the other players

happened_kept : (w : Setting) (s : Scene) (e : Event) (i : ℕ) (x : Player) → Correct i ≢ x
    → ((k : ℕ) → i ≢ k → after_call w (states_before w s.events) (call_of w (states_before w s.events) e) k ≡ states_before w s.events k) → IsKept (state_at w s x) (state_at w (happened s e) x)
unfolding states_of
happened_kept w s e i (Correct k) apart stays = let e = stays k (λ same. apart (ap Correct same)) in record { inbox = ap (λ (st : CoreState). st.inbox) e; history = ap (λ (st : CoreState). st.history) e }
happened_kept w s e i (Face a) apart stays = record { inbox = refl; history = refl }

framed_kept : (w : Setting) (s : Scene) (j : ℕ) (o : Option (List ℕ)) (x : Player) → Correct j ≢ x → IsKept (state_at w s x) (state_at w (happened_if s j o) x)
framed_kept w s j None x apart = record { inbox = refl; history = refl }
framed_kept w s j (Some bytes) x apart = happened_kept w s (events.Frame j bytes) j x apart (λ k other. call_stays w (states_before w s.events) j k (Frame bytes) other)

faced_kept : (w : Setting) (c : Cast) (s : Scene) (a : ℕ) (call : ReplicaCall) (x : Player) → Face a ≢ x → IsKept (state_at w s x) (state_at w (faced w c s a call) x)
faced_kept w c s a call (Correct i) apart = record { inbox = refl; history = refl }
faced_kept w c s a call (Face b) apart =
    kept_same (s.faces b) _ (ap (λ (t : Bool). if t then (handled (rules_at w (c.number a)) (w.keys (c.number a)) (s.faces a) call).state else s.faces b) (ne_eqb a b (λ same. apart (ap Face same))))

faced_if_kept : (w : Setting) (c : Cast) (s : Scene) (a : ℕ) (o : Option (List ℕ)) (x : Player) → Face a ≢ x → IsKept (state_at w s x) (state_at w (faced_if w c s a o) x)
faced_if_kept w c s a None x apart = record { inbox = refl; history = refl }
faced_if_kept w c s a (Some bytes) x apart = faced_kept w c s a (Frame bytes) x apart

go_kept : (w : Setting) (c : Cast) (s : Scene) (y x : Player) → y ≢ x → IsKept (state_at w s x) (state_at w (scene_after w c s (Go y)) x)
go_kept w c s (Correct j) x apart = happened_kept w s (events.Turn j) j x apart (λ k other. call_stays w (states_before w s.events) j k Turn other)
go_kept w c s (Face a) x apart = faced_kept w c s a Turn x apart

carry_kept : (w : Setting) (c : Cast) (s : Scene) (z y : Player) (m : ℕ) (x : Player) → y ≢ x → IsKept (state_at w s x) (state_at w (scene_after w c s (Carry z y m)) x)
carry_kept w c s (Correct i) (Correct j) m x apart =
    happened_kept w s (events.Pass i j m) j x apart (λ k other. frame_stays w (states_before w s.events) j k (frame_passed w (states_before w s.events) i j m) other)
carry_kept w c s (Face b) (Correct j) m x apart = framed_kept w s j (slice_get (player_frames w c s (Face b) j) m) x apart
carry_kept w c s (Correct i) (Face a) m x apart = faced_if_kept w c s a (slice_get (player_frames w c s (Correct i) (c.number a)) m) x apart
carry_kept w c s (Face b) (Face a) m x apart = faced_if_kept w c s a (slice_get (player_frames w c s (Face b) (c.number a)) m) x apart

pub others_kept : (w : Setting) (c : Cast) (s : Scene) (step : Step) (y x : Player) → ComesToPlayer step y → x ≢ y → IsKept (state_at w s x) (state_at w (scene_after w c s step) x)
others_kept w c s (Go v) y x is apart = go_kept w c s v x (λ same. apart (sym same ∙ is))
others_kept w c s (Carry z v m) y x is apart = carry_kept w c s z v m x (λ same. apart (sym same ∙ is))
others_kept w c s (Give v value) y x is apart = absurd is
others_kept w c s (Throw from to rest) y x is apart = absurd is

-- so it made no frame
pub same_counts : (w : Setting) (c : Cast) (s t : Scene) (x y : Player) → IsKept (state_at w s x) (state_at w t x) → frame_counts w c t x y ≡ frame_counts w c s x y
same_counts w c s t (Correct i) y kept = ap (λ (h : List Entry). length (reverse (made_for (rules_at w i) (w.keys i) h (number_of c y)))) kept.history
same_counts w c s t (Face a) y kept = ap (λ (h : List Entry). length (reverse (frames_shown_as c.shown (rules_at w (c.number a)) (w.keys (c.number a)) h (number_of c y)))) kept.history
