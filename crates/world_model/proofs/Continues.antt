-- A world after one event more.
use Rattle.std.proofs.Common.{◌≡◌, ℕ, ◌+◌, ◌-◌, ◌<◌, ◌%◌, ◌^◌, Bool, true, false, not, ◌&&◌, ◌≤◌, List, ◌∷◌, ◌++◌, length, Option, Some, None, Result, Ok, Err, Bor, refl, sym, ◌∙◌, ap, ap₂, subst, arith, slice_index_or}
use Rattle.std.specs.Result.{IsErr, OnErr}
use Rattle.std.specs.List.{slice_get}
use Rattle.std.specs.Option.{MatchOption, option_copied}
use Rattle.std.proofs.lemmas.Option.{slice_get-get_or}
use Rattle.ritas_base.specs.declared.bytes.Mem.{Mem}
use Rattle.ritas_base.specs.declared.event.Event.{Event}
use Rattle.keyed_channel.specs.KeyRow.{KeyRow}
use Rattle.ritas_core.specs.Machine.{CoreState}
use Rattle.ritas_core.specs.Stands.{Meaning}
use Rattle.replica.specs.Laws.{MadeByEntry}
use Rattle.replica.specs.Out.{OutFrame}
use Rattle.replica.specs.declared.replica.Replica.{Replica}
use Rattle.world_model.specs.declared.happened.Happened.{Happened}
use Rattle.world_model.specs.declared.seen.Seen.{Seen}
use Rattle.world_model.specs.declared.seats.Seats.{Seats}
use Rattle.world_model.specs.declared.world.World.{World}
use Rattle.world_model.specs.declared.watch.Watch.{Watch}
use Rattle.world_model.specs.World.{Setting, CallAt, call_of, handled_at, states_of, states_before, after_call}
use Rattle.world_model.specs.declared.audit.Audit.{Audit}
use Rattle.world_model.specs.Audit.{first_broken}
use Rattle.world_model.specs.MadeOrder.{frames_of_call, all_made}
use Rattle.world_model.specs.FramesMade.{MadeTable, IsOrderOf, with_frames}
use Rattle.world_model.specs.Stands.{EventDoes, NoneStops, SeatsStand, StandsAt, IsReplica, ReplicasStand, ReplicasLeft, FramesStand, WorldStands, WorldStopped, Seeing}
use Rattle.world_model.specs.Watch.{IsAt, IsTold, WatchStands, verdict_after}
use Rattle.world_model.specs.Needs.{EventNeeds}
use Rattle.world_model.specs.Steps.{frames_out, CallHappened}
use Rattle.world_model.proofs.AtPlaces.{past_is_faulty}
use Rattle.world_model.proofs.TableAfter.{table_after}
use Rattle.world_model.proofs.Ordered.{order_next}

-- the table after a call, if there is one
table_next : MadeByEntry → (w : Setting) (seats : Seats) (states : ℕ → CoreState) (c : Option CallAt) (t : MadeTable) (event at : ℕ) (out : List OutFrame) → SeatsStand w seats → FramesStand w states t
    → ((i : ℕ) → w.is_correct i ≡ true → i < w.numbers.n) → IsAt w c at → out ≡ frames_out w states c → FramesStand w (after_call w states c) (with_frames t event at out)
table_next made_by w seats states None t event at out seats_stand stand within is none =
    let P : List OutFrame → Type 0 = λ x. FramesStand w states (with_frames t event at x) in
    subst P (sym none) stand
table_next made_by w seats states (Some c) t event at out seats_stand stand within is made =
    let P : List OutFrame → Type 0 = λ x. FramesStand w (after_call w states (Some c)) (with_frames t event at x) in
    let Q : ℕ → Type 0 = λ i. FramesStand w (after_call w states (Some c)) (with_frames t event i (handled_at w states c).out) in
    let right : w.is_correct c.at ≡ true = ap w.is_correct is.0 ∙ is.1 in
    subst P (sym made) (subst Q is.0 (table_after made_by w seats states c t event seats_stand stand (within c.at right) right))

-- ---- where no replica is stopped between events, the next event finds them as they are

and_true : (b : Bool) → b ≡ (b && true)
and_true true = refl
and_true false = refl

not_halted : (state : CoreState) (stopped : Bool) → stopped ≡ false → state ≡ record state { live = state.live && not stopped }
not_halted state stopped none =
    ap (λ (b : Bool). record state { live = b }) (and_true state.live ∙ ap (λ (b : Bool). state.live && not b) (sym none))

pub found_as_left : (w : Setting) (es : List Event) → NoneStops w → states_of w es ≡ states_before w es
found_as_left w es going = λ t i. not_halted (states_of w es i) (w.stops (length es) i) (going (length es) i) t

pub replicas_before : {S E C : Type 0} (m : Meaning S E C KeyRow) (w : Setting) (es : List Event) (places : List (Option (Replica S E C))) → NoneStops w
    → ReplicasStand m w (states_of w es) places → ReplicasStand m w (states_before w es) places
replicas_before {S = S} {E = E} {C = C} m w es places going stand =
    let P : (ℕ → CoreState) → Type 0 = λ states. ReplicasStand m w states places in
    subst P (found_as_left w es going) stand

pub frames_before : (w : Setting) (es : List Event) (t : MadeTable) → NoneStops w → FramesStand w (states_of w es) t → FramesStand w (states_before w es) t
frames_before w es t going stand =
    let P : (ℕ → CoreState) → Type 0 = λ states. FramesStand w states t in
    subst P (found_as_left w es going) stand

watch_before : (w : Setting) (es : List Event) (verdict : Audit) (watch : Watch) → NoneStops w → WatchStands w (states_of w es) verdict watch → WatchStands w (states_before w es) verdict watch
watch_before w es verdict watch going stand =
    let P : (ℕ → CoreState) → Type 0 = λ states. WatchStands w states verdict watch in
    subst P (found_as_left w es going) stand

-- ---- one event more

-- the fields of the world after an event
pub record IsNext {S E C : Type 0} (old new : World S E C) (happened : Happened) : Type 0 where
  pub seats : new.seats ≡ old.seats
  pub made : new.made ≡ with_frames old.made old.events happened.at happened.out.items
  pub events : new.events ≡ (old.events + 1) % 2 ^ 64
  pub watch : (w : Setting) (states : ℕ → CoreState) (c : Option CallAt) (verdict : Audit) → SeatsStand w old.seats → ((i : ℕ) → w.is_correct i ≡ true → i < w.numbers.n)
      → IsTold w states c happened.at happened.forged happened.taken → WatchStands w states verdict old.watch
      → WatchStands w (after_call w states c) (verdict_after w states c verdict old.events) new.watch
  pub live : new.live ≡ true

pub continues : {S E C : Type 0} → MadeByEntry → (m : Meaning S E C KeyRow) (old new : World S E C) (w : Setting) (es : List Event) (e : Event) (places : List (Option (Replica S E C))) (happened : Happened) →
    WorldStands m old w es → length es < 2 ^ 64 - 1 → CallHappened m w (states_before w es) (call_of w (states_before w es) e) places happened
    → (length places ≡ length old.replicas.items → new.replicas.items ≡ places) → IsNext old new happened → Seeing m new w es e happened.seen
unfolding states_of first_broken all_made
continues {S = S} {E = E} {C = C} made_by m old new w es e places happened stand few happens same next =
    let events = stand.events in
    let before = states_before w es in
    let call = call_of w before e in
    let P : Seats → Type 0 = λ x. SeatsStand w x in
    let R : List (Option (Replica S E C)) → Type 0 = λ xs. ReplicasStand m w (states_of w (e ∷ es)) xs in
    let Q : MadeTable → Type 0 = λ t. FramesStand w (states_of w (e ∷ es)) t in
    record {
      seen = happens.seen;
      stands = record {
        kind = stand.kind;
        going = stand.going;
        seats = subst P (sym next.seats) stand.seats;
        replicas = subst R (sym (same (happens.replicas.many ∙ sym stand.replicas.many))) happens.replicas;
        made = subst Q (sym next.made)
            (table_next made_by w old.seats before call old.made old.events happened.at happened.out.items stand.seats (frames_before w es old.made stand.going stand.made) stand.replicas.within happens.told.place happens.out);
        order = subst (λ (t : MadeTable). IsOrderOf t (all_made w (e ∷ es))) (sym next.made)
            (subst (λ (k : ℕ). IsOrderOf (with_frames old.made old.events happened.at happened.out.items) (all_made w es ++ frames_of_call k w before call)) stand.events
            (order_next made_by w old.seats before call old.made old.events happened.at happened.out.items (all_made w es) stand.seats
            (frames_before w es old.made stand.going stand.made) stand.replicas.within happens.told.place happens.out stand.order));
        events = next.events ∙ omega arith;
        watch = subst (λ (k : ℕ). WatchStands w (after_call w before call) (verdict_after w before call (first_broken w es) k) new.watch) stand.events
            (next.watch w before call (first_broken w es) stand.seats stand.replicas.within happens.told (watch_before w es (first_broken w es) old.watch stand.going stand.watch));
        live = next.live;
      };
    }

-- ---- an event that was without memory

-- the fields of the world after it
pub record IsHalted {S E C : Type 0} (old new : World S E C) : Type 0 where
  pub seats : new.seats ≡ old.seats
  pub made : new.made ≡ old.made
  pub events : new.events ≡ old.events
  pub verdict : new.watch.verdict ≡ old.watch.verdict
  pub live : new.live ≡ false

pub halts : {S E C : Type 0} (m : Meaning S E C KeyRow) (old new : World S E C) (w : Setting) (es : List Event) (e : Event) (places : List (Option (Replica S E C))) →
    WorldStands m old w es → ReplicasLeft m w (states_before w es) (after_call w (states_before w es) (call_of w (states_before w es) e)) (call_of w (states_before w es) e) places
    → EventNeeds w (states_before w es) e → (length places ≡ length old.replicas.items → new.replicas.items ≡ places) → IsHalted old new → WorldStopped m new w es e
unfolding states_of
halts {S = S} {E = E} {C = C} m old new w es e places stand left needs same halted =
    let P : Seats → Type 0 = λ x. SeatsStand w x in
    let Q : MadeTable → Type 0 = λ t. FramesStand w (states_of w es) t in
    let R : List (Option (Replica S E C)) → Type 0 = λ xs. ReplicasLeft m w (states_of w es) (states_of w (e ∷ es)) (call_of w (states_of w es) e) xs in
    let B : (ℕ → CoreState) → Type 0 = λ states. ReplicasLeft m w states (states_of w (e ∷ es)) (call_of w states e) places in
    record {
      kind = stand.kind;
      seats = subst P (sym halted.seats) stand.seats;
      replicas = subst R (sym (same (left.many ∙ sym stand.replicas.many))) (subst B (sym (found_as_left w es stand.going)) left);
      made = subst Q (sym halted.made) stand.made;
      order = subst (λ (t : MadeTable). IsOrderOf t (all_made w es)) (sym halted.made) stand.order;
      events = halted.events ∙ stand.events;
      verdict = halted.verdict ∙ stand.watch.found;
      live = halted.live;
      needs = subst (λ (states : ℕ → CoreState). EventNeeds w states e) (sym (found_as_left w es stand.going)) needs;
    }

pub event_stops : {S E C : Type 0} (m : Meaning S E C KeyRow) (new : World S E C) (w : Setting) (es : List Event) (e : Event) (result : Result Seen Mem) →
    IsErr result → WorldStopped m new w es e → EventDoes m new w es e result
event_stops m new w es e (Ok seen) err stopped = absurd (cc)
event_stops m new w es e (Err mem) err stopped = stopped

pub event_needed : {S E C : Type 0} (m : Meaning S E C KeyRow) (new : World S E C) (w : Setting) (es : List Event) (e : Event) (result : Result Seen Mem) →
    EventDoes m new w es e result → OnErr result (EventNeeds w (states_of w es) e)
event_needed m new w es e (Ok seen) does = tt
event_needed m new w es e (Err mem) does = does.needs

-- ---- the replica at a place

standing_at : {S E C : Type 0} (m : Meaning S E C KeyRow) (w : Setting) (states : ℕ → CoreState) (i : ℕ) (place : Option (Replica S E C)) (result : Option (Bor (Replica S E C))) →
    StandsAt m w states i place → option_copied result ≡ place → MatchOption result (w.is_correct i ≡ false) (λ replica. IsReplica m w states i replica.now)
standing_at {S = S} {E = E} {C = C} m w states i place None stands e =
    let P : Option (Replica S E C) → Type 0 = λ x. StandsAt m w states i x in
    subst P (sym e) stands
standing_at {S = S} {E = E} {C = C} m w states i place (Some replica) stands e =
    let P : Option (Replica S E C) → Type 0 = λ x. StandsAt m w states i x in
    subst P (sym e) stands

pub replica_at : {S E C : Type 0} (m : Meaning S E C KeyRow) (w : Setting) (states : ℕ → CoreState) (i at : ℕ) (replicas list : List (Option (Replica S E C))) (place : Option (Replica S E C)) (result : Option (Bor (Replica S E C))) →
    ReplicasStand m w states replicas → list ≡ replicas → at ≡ i → at < length list → place ≡ slice_index_or list at place → option_copied result ≡ place
    → MatchOption result (w.is_correct i ≡ false) (λ replica. IsReplica m w states i replica.now)
replica_at {S = S} {E = E} {C = C} m w states i at replicas list place result stand same number within read copied =
    let there : slice_get list at ≡ Some place = slice_get-get_or list at place within ∙ ap (λ x. Some x) (sym read) in
    let here : slice_get replicas i ≡ Some place = ap₂ slice_get (sym same) (sym number) ∙ there in
    standing_at m w states i place result (stand.each i place here) copied

pub no_replica_at : {S E C : Type 0} (m : Meaning S E C KeyRow) (w : Setting) (states : ℕ → CoreState) (i at : ℕ) (replicas list : List (Option (Replica S E C))) →
    ReplicasStand m w states replicas → list ≡ replicas → at ≡ i → length list ≤ at → w.is_correct i ≡ false
no_replica_at m w states i at replicas list stand same number past =
    let long : length list ≡ length replicas = ap length same in
    past_is_faulty m w states i replicas stand (omega arith)

pub same_places : {S E C : Type 0} (m : Meaning S E C KeyRow) (w : Setting) (states : ℕ → CoreState) (replicas list : List (Option (Replica S E C))) →
    replicas ≡ list → ReplicasStand m w states replicas → ReplicasStand m w states list
same_places {S = S} {E = E} {C = C} m w states replicas list same stand =
    let P : List (Option (Replica S E C)) → Type 0 = λ xs. ReplicasStand m w states xs in
    subst P same stand
