-- A schedule that players make forges nothing, so its audit holds, or two hashes collide.
use Rattle.std.proofs.Common.{◌≡◌, ◌≢◌, ℕ, ◌<◌, Bool, true, false, ◌==◌, List, [], ◌∷◌, length, reverse, replicate, Option, Some, None, refl, sym, ap, subst, inl, inr, ◌⊎◌, if◌then◌else◌}
use Rattle.std.specs.List.{slice_get}
use Rattle.std.proofs.lemmas.Bool.{eqb-true}
use Rattle.ritas_base.specs.declared.event.Event.{Event}
use Rattle.ritas_base.specs.declared.event.Event.TheVariants as events
use Rattle.layer_api.specs.Broadcast.{BroadcastRules}
use Rattle.layer_api.specs.Service.{ServiceRules}
use Rattle.ritas_core.specs.Parts.{Entry}
use Rattle.ritas_core.specs.Machine.{CoreState, first_state}
use Rattle.replica.specs.Frames.{made_for}
use Rattle.replica.specs.Handling.{ReplicaCall, Frame, Input, Turn, handled}
use Rattle.world_model.specs.declared.audit.Audit.{Audit}
use Rattle.world_model.specs.declared.audit.Audit.TheVariants as audits
use Rattle.world_model.specs.World.{Setting, rules_at, CallAt, frame_call, frame_passed, call_of, after_call, states_of}
use Rattle.world_model.specs.Audit.{is_forged_call, is_forged_at, is_forged, is_colliding, broken_by, judged, first_broken}
use Rattle.world_model.specs.Players.{Cast, Scene, Player, Correct, Face, Step, Give, Go, Carry, Throw, IsPlayer, IsStep, AreSteps, number_of, frames_shown_as, player_frames, happened, happened_if, faced, faced_if, scene_after, first_scene, scene_of, events_of, thrown}
use Rattle.world_model.specs.Forging.{IsFaceView, ForgesNothing, IsPlay, ForgingLaw, PlayedAudit}
use Rattle.world_model.proofs.Members.{reverse_listed, got_listed}
use Rattle.world_model.proofs.Stored.{none_held}
use Rattle.world_model.proofs.Worlds.{histories_of}
use Rattle.world_model.proofs.Below.{founded_at}
use Rattle.world_model.proofs.Continues.{found_as_left}
use Rattle.world_model.proofs.Fair.{IsFair, AreLayers, world_fair}
use Rattle.world_model.proofs.Honest.{IsHonest, IsOwn}
use Rattle.world_model.proofs.Playing.{IsPlaying, IsNext, IsHonestCall, IsHonestFrame, next_call}
use Rattle.world_model.proofs.Safe.{AreSafe, called_safe, call_forges_nothing}
use Rattle.world_model.proofs.Carrying.{ComesFrom, made_comes, shown_comes, thrown_comes, unforged_made, unforged_faulty}

-- in a scene all players' items are honest, and its events forge nothing
pub record IsSafe (w : Setting) (c : Cast) (s : Scene) : Type 0 where
  pub players : AreSafe w c (states_of w s.events) s.faces
  pub clean : ForgesNothing w s.events

abbrev hist_of : Setting → Scene → ℕ → List Entry
hist_of w s = histories_of (states_of w s.events)

-- ---- an event
-- a call that may come to a correct replica
pub record IsFairCall (w : Setting) (states : ℕ → CoreState) (x : CallAt) : Type 0 where
  pub correct : w.is_correct x.at ≡ true
  pub honest : IsHonestCall w (histories_of states) x.at x.call
  pub made : is_forged_call w states x.at x.call ≡ false

safe_after : (w : Setting) (c : Cast) (states faces : ℕ → CoreState) → IsFair w → AreSafe w c states faces → (o : Option CallAt) → ((x : CallAt) → o ≡ Some x → IsFairCall w states x)
    → AreSafe w c (after_call w states o) faces
safe_after w c states faces fair safe None calls = safe
safe_after w c states faces fair safe (Some x) calls = let call = calls x refl in called_safe w c states faces fair safe x call.correct call.honest

clean_after : (w : Setting) (c : Cast) (states faces : ℕ → CoreState) → IsFair w → AreSafe w c states faces → (o : Option CallAt) → ((x : CallAt) → o ≡ Some x → IsFairCall w states x)
    → is_forged_at w states o ≡ false
clean_after w c states faces fair safe None calls = refl
clean_after w c states faces fair safe (Some x) calls = let call = calls x refl in call_forges_nothing w c states faces fair safe x call.correct call.honest call.made

-- each event finds the replicas as the one before it left them
event_safe : (w : Setting) (c : Cast) (s : Scene) → IsFair w → IsSafe w c s → (e : Event) → ((x : CallAt) → call_of w (states_of w s.events) e ≡ Some x → IsFairCall w (states_of w s.events) x)
    → IsSafe w c (happened s e)
unfolding states_of
event_safe w c s fair safe e calls =
    let states = states_of w s.events in
    let same = found_as_left w s.events fair.going in
    let P : (ℕ → CoreState) → Type 0 = λ found. AreSafe w c (after_call w found (call_of w found e)) s.faces in
    let Q : (ℕ → CoreState) → Type 0 = λ found. is_forged_at w found (call_of w found e) ≡ false in
    record {
      players = subst P same (safe_after w c states s.faces fair safe.players (call_of w states e) calls);
      clean = (subst Q same (clean_after w c states s.faces fair safe.players (call_of w states e) calls), safe.clean);
    }

-- what a call at a replica is
call_if : (w : Setting) (states : ℕ → CoreState) (j : ℕ) (call : ReplicaCall) (b : Bool) → w.is_correct j ≡ b
    → (w.is_correct j ≡ true → IsFairCall w states (record { at = j; call = call }))
    → (x : CallAt) → (if b then Some (record { at = j; call = call }) else None) ≡ Some x → IsFairCall w states x
call_if w states j call true is fair x e = subst (λ (y : CallAt). IsFairCall w states y) (let same : record { at = j; call = call } ≡ x = cc in same) (fair is)
call_if w states j call false is fair x e = absurd cc

-- ---- the frames of players
comes_to : (w : Setting) (c : Cast) (s : Scene) → IsFair w → IsFaceView w c.shown → IsSafe w c s → (x : Player) (j m : ℕ) (bytes : List ℕ) → IsPlayer w c x → j < w.numbers.n → number_of c x ≢ j
    → slice_get (player_frames w c s x j) m ≡ Some bytes → ComesFrom w (hist_of w s) (number_of c x) j bytes
comes_to w c s fair shows safe (Correct i) j m bytes plays below other got =
    let states = states_of w s.events in
    made_comes w fair (hist_of w s) i j (states i) (fair.sound.world.within i plays) below other (safe.players.correct i plays) (λ good slot entry there. there) bytes
    (reverse_listed (made_for (rules_at w i) (w.keys i) (states i).history j) bytes (got_listed _ m bytes got))
comes_to w c s fair shows safe (Face a) j m bytes plays below other got =
    shown_comes w fair c shows (hist_of w s) (c.number a) j (s.faces a) plays.0 plays.1 below other (safe.players.face a plays) bytes
    (reverse_listed (frames_shown_as c.shown (rules_at w (c.number a)) (w.keys (c.number a)) (s.faces a).history j) bytes (got_listed _ m bytes got))

-- ---- a call on a face
faces_at : (w : Setting) (c : Cast) (hist : ℕ → List Entry) (faces : ℕ → CoreState) (a : ℕ) (new : CoreState) → IsPlaying w hist (c.number a) new → (b : ℕ) (t : Bool) → (a == b) ≡ t
    → IsPlaying w hist (c.number b) (faces b) → IsPlaying w hist (c.number b) (if t then new else faces b)
faces_at w c hist faces a new plays b true here old = subst (λ (q : ℕ). IsPlaying w hist (c.number q) new) (eqb-true a b here) plays
faces_at w c hist faces a new plays b false here old = old

faced_safe : (w : Setting) (c : Cast) (s : Scene) → IsFair w → IsSafe w c s → (a : ℕ) → IsPlayer w c (Face a) → (call : ReplicaCall) → IsHonestCall w (hist_of w s) (c.number a) call
    → IsSafe w c (faced w c s a call)
faced_safe w c s fair safe a plays call honest =
    let i = c.number a in
    let hist : ℕ → List Entry = hist_of w s in
    let new = (handled (rules_at w i) (w.keys i) (s.faces a) call).state in
    let next : IsNext w hist i (s.faces a) new = next_call w fair i (founded_at w fair.sound i plays.1) hist (s.faces a) (safe.players.face a plays) call honest in
    let own : IsOwn w hist i new.history = λ correct. absurd (let faulty = plays.0 in cc) in
    let now : IsPlaying w hist i new = next.plays hist (λ k slot entry good there. there) own in
    record {
      players = record {
        correct = safe.players.correct;
        face = λ b plays_b. faces_at w c hist s.faces a new now b (a == b) refl (safe.players.face b plays_b);
      };
      clean = safe.clean;
    }

-- ---- steps
faced_got : (w : Setting) (c : Cast) (s : Scene) → IsFair w → IsSafe w c s → (a : ℕ) → IsPlayer w c (Face a) → (o : Option (List ℕ)) → ((bytes : List ℕ) → o ≡ Some bytes → IsHonestFrame w (hist_of w s) (c.number a) bytes)
    → IsSafe w c (faced_if w c s a o)
faced_got w c s fair safe a plays None honest = safe
faced_got w c s fair safe a plays (Some bytes) honest = faced_safe w c s fair safe a plays (Frame bytes) (honest bytes refl)

framed : (w : Setting) (c : Cast) (s : Scene) → IsFair w → IsSafe w c s → (i j : ℕ) (bytes : List ℕ) → w.is_correct i ≡ false → (w.is_correct j ≡ true → ComesFrom w (hist_of w s) i j bytes)
    → IsSafe w c (happened s (events.Frame j bytes))
framed w c s fair safe i j bytes faulty comes =
    let states = states_of w s.events in
    event_safe w c s fair safe (events.Frame j bytes)
    (call_if w states j (Frame bytes) (w.is_correct j) refl
    (λ good. record { correct = good; honest = (comes good).honest; made = unforged_faulty w states i j bytes faulty (comes good).sender }))

framed_got : (w : Setting) (c : Cast) (s : Scene) → IsFair w → IsSafe w c s → (i j : ℕ) → w.is_correct i ≡ false → (o : Option (List ℕ))
    → ((bytes : List ℕ) → o ≡ Some bytes → ComesFrom w (hist_of w s) i j bytes) → IsSafe w c (happened_if s j o)
framed_got w c s fair safe i j faulty None comes = safe
framed_got w c s fair safe i j faulty (Some bytes) comes = framed w c s fair safe i j bytes faulty (λ good. comes bytes refl)

passed_call : (w : Setting) (c : Cast) (s : Scene) → IsFair w → IsFaceView w c.shown → IsSafe w c s → (i j m : ℕ) → w.is_correct i ≡ true → w.is_correct j ≡ true → i ≢ j
    → (o : Option (List ℕ)) → slice_get (player_frames w c s (Correct i) j) m ≡ o → (x : CallAt) → frame_call w j o ≡ Some x → IsFairCall w (states_of w s.events) x
passed_call w c s fair shows safe i j m correct good other None got x e = absurd cc
passed_call w c s fair shows safe i j m correct good other (Some bytes) got x e =
    let states = states_of w s.events in
    let comes = comes_to w c s fair shows safe (Correct i) j m bytes correct (fair.sound.world.within j good) other got in
    call_if w states j (Frame bytes) (w.is_correct j) refl
    (λ _. record {
      correct = good;
      honest = comes.honest;
      made = unforged_made w states i j bytes (reverse_listed (made_for (rules_at w i) (w.keys i) (states i).history j) bytes (got_listed _ m bytes got)) comes.sender;
    }) x e

passed_is : (w : Setting) (states : ℕ → CoreState) (i j m : ℕ) → w.is_correct i ≡ true → frame_passed w states i j m ≡ slice_get (reverse (made_for (rules_at w i) (w.keys i) (states i).history j)) m
passed_is w states i j m correct = ap (λ (b : Bool). if b then slice_get (reverse (made_for (rules_at w i) (w.keys i) (states i).history j)) m else None) correct

step_safe : (w : Setting) (c : Cast) → IsFair w → IsFaceView w c.shown → (s : Scene) → IsSafe w c s → (step : Step) → IsStep w c step → IsSafe w c (scene_after w c s step)
step_safe w c fair shows s safe (Give (Correct i) v) is =
    let states = states_of w s.events in
    event_safe w c s fair safe (events.Input i v) (call_if w states i (Input v) (w.is_correct i) refl (λ good. record { correct = good; honest = tt; made = refl }))
step_safe w c fair shows s safe (Give (Face a) v) is = faced_safe w c s fair safe a is (Input v) tt
step_safe w c fair shows s safe (Go (Correct i)) is =
    let states = states_of w s.events in
    event_safe w c s fair safe (events.Turn i) (call_if w states i Turn (w.is_correct i) refl (λ good. record { correct = good; honest = tt; made = refl }))
step_safe w c fair shows s safe (Go (Face a)) is = faced_safe w c s fair safe a is Turn tt
step_safe w c fair shows s safe (Carry (Correct i) (Correct j) m) is =
    let states = states_of w s.events in
    event_safe w c s fair safe (events.Pass i j m)
    (λ x e. passed_call w c s fair shows safe i j m is.0 is.1 is.2 (frame_passed w states i j m) (sym (passed_is w states i j m is.0)) x e)
step_safe w c fair shows s safe (Carry (Face a) (Correct j) m) is =
    framed_got w c s fair safe (c.number a) j is.0.0 (slice_get (player_frames w c s (Face a) j) m)
    (λ bytes got. comes_to w c s fair shows safe (Face a) j m bytes is.0 (fair.sound.world.within j is.1) is.2 got)
step_safe w c fair shows s safe (Carry (Correct i) (Face b) m) is =
    faced_got w c s fair safe b is.1 (slice_get (player_frames w c s (Correct i) (c.number b)) m)
    (λ bytes got. (comes_to w c s fair shows safe (Correct i) (c.number b) m bytes is.0 is.1.1 is.2 got).honest)
step_safe w c fair shows s safe (Carry (Face a) (Face b) m) is =
    faced_got w c s fair safe b is.1 (slice_get (player_frames w c s (Face a) (c.number b)) m)
    (λ bytes got. (comes_to w c s fair shows safe (Face a) (c.number b) m bytes is.0 is.1.1 is.2 got).honest)
step_safe w c fair shows s safe (Throw from j rest) is =
    framed w c s fair safe from j (thrown w.mode.version from j rest) is (λ good. thrown_comes w (hist_of w s) w.mode.version from j rest)

first_plays : (w : Setting) (hist : ℕ → List Entry) (i : ℕ) → IsPlaying w hist i (first_state (replicate w.numbers.n []))
first_plays w hist i = record { met = tt; waiting = tt; held = none_held (IsHonest w hist) w.numbers.n; took = tt }

first_safe : (w : Setting) (c : Cast) → IsSafe w c (first_scene w)
unfolding states_of
first_safe w c = record {
  players = record {
    correct = λ i good. first_plays w (hist_of w (first_scene w)) i;
    face = λ a plays. first_plays w (hist_of w (first_scene w)) (c.number a);
  };
  clean = tt;
}

all_safe : (w : Setting) (c : Cast) → IsFair w → IsFaceView w c.shown → (steps : List Step) → AreSteps w c steps → IsSafe w c (scene_of w c steps)
all_safe w c fair shows [] are = first_safe w c
all_safe w c fair shows (step ∷ steps) are = step_safe w c fair shows (scene_of w c steps) (all_safe w c fair shows steps are.1) step are.0

pub fair_of : (service : ServiceRules) (other : BroadcastRules) → AreLayers service other → (w : Setting) (c : Cast) (steps : List Step) → IsPlay service other w c steps → IsFair w
fair_of service other layers w c steps play = world_fair service other layers w play.kind play.going

pub play_safe : (service : ServiceRules) (other : BroadcastRules) → AreLayers service other → (w : Setting) (c : Cast) (steps : List Step) → IsPlay service other w c steps
    → IsSafe w c (scene_of w c steps)
play_safe service other layers w c steps play = all_safe w c (fair_of service other layers w c steps play) play.shows steps play.steps_are

pub forging_law : (service : ServiceRules) (other : BroadcastRules) → AreLayers service other → ForgingLaw service other
forging_law service other layers w c steps play = (play_safe service other layers w c steps play).clean

-- ---- the audit
abbrev IsClean : Audit → Type 0
IsClean a = (a ≡ audits.Holds) ⊎ ((k : ℕ) × (a ≡ audits.Collision k))

now_clean : (b : Bool) (k : ℕ) → IsClean (broken_by false b k)
now_clean true k = inr (k, refl)
now_clean false k = inl refl

judged_clean : (before now : Audit) → IsClean before → IsClean now → IsClean (judged before now)
judged_clean before now (inl e) clean = subst (λ (a : Audit). IsClean (judged a now)) (sym e) clean
judged_clean before now (inr c) clean = inr (c.0, ap (λ (a : Audit). judged a now) c.1)

broken_clean : (w : Setting) (es : List Event) → ForgesNothing w es → IsClean (first_broken w es)
unfolding first_broken
broken_clean w [] clean = inl refl
broken_clean w (e ∷ es) clean =
    judged_clean (first_broken w es) (broken_by (is_forged w es e) (is_colliding w (e ∷ es)) (length es)) (broken_clean w es clean.1)
    (subst (λ (b : Bool). IsClean (broken_by b (is_colliding w (e ∷ es)) (length es))) (sym clean.0) (now_clean (is_colliding w (e ∷ es)) (length es)))

pub played_audit : (service : ServiceRules) (other : BroadcastRules) → AreLayers service other → PlayedAudit service other
played_audit service other layers w c steps play enough =
    let es = events_of w c steps in
    subst IsClean (sym (ap (λ (b : Bool). if b then audits.TooManyFaulty else first_broken w es) enough)) (broken_clean w es (forging_law service other layers w c steps play))
