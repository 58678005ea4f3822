-- What an event does to the replicas of a world.
use Rattle.std.proofs.Common.{◌≡◌, ◌≢◌, ℕ, ◌<◌, ◌≤◌, Bool, true, false, not, ◌&&◌, List, [], ◌++◌, length, reverse, Option, Some, None, Result, Ok, Err, refl, sym, ◌∙◌, ap, subst, if◌then◌else◌, slice_index_or}
use Rattle.std.specs.List.{slice_get}
use Rattle.std.proofs.lemmas.Bool.{ne_eqb}
use Rattle.std.proofs.lemmas.Option.{slice_get-get_or, slice_get_past}
use Rattle.ritas_base.specs.declared.bytes.Mem.{Mem}
use Rattle.ritas_base.specs.declared.event.Event.{Event}
use Rattle.ritas_base.specs.declared.item.Item.{Item}
use Rattle.ritas_base.specs.declared.event.Event.TheVariants as events
use Rattle.layer_api.specs.Runs.{Has}
use Rattle.frame_codec.specs.Laws.{AnswersGood}
use Rattle.keyed_channel.specs.KeyRow.{KeyRow}
use Rattle.ritas_core.specs.Machine.{CoreState}
use Rattle.ritas_core.specs.Stands.{Meaning}
use Rattle.replica.specs.Out.{OutFrame}
use Rattle.replica.specs.declared.replica.Replica.{Replica}
use Rattle.replica.specs.Frames.{made_for}
use Rattle.replica.specs.Handling.{ReplicaCall, Frame, Input, Turn}
use Rattle.world_model.specs.declared.happened.Happened.{Happened}
use Rattle.world_model.specs.declared.seats.Seats.{Seats}
use Rattle.world_model.specs.declared.seen.Seen.TheVariants as seen_as
use Rattle.world_model.specs.World.{Setting, rules_at, CallAt, call_at, frame_call, frame_passed, call_of}
use Rattle.world_model.specs.Audit.{is_forged_call}
use Rattle.world_model.specs.Watch.{IsAt, is_forged_frame}
use Rattle.world_model.specs.FramesMade.{MadeTable, made_in}
use Rattle.world_model.specs.Stands.{SeatsStand, ReplicasStand, FramesStand, frames_from}
use Rattle.ritas_base.specs.Events.{MayHappen}
use Rattle.world_model.specs.Steps.{CallAnswered, frames_out, is_took, IsInboxFront, IsFrameItem, CallHappened, CallHappens, EventHappens, is_seen_opened}
use Rattle.keyed_channel.specs.Frames.{sealed}
use Rattle.world_model.proofs.AtPlaces.{faulty_call}
use Rattle.world_model.proofs.Forging.{IsFound, forged_is}
use Rattle.world_model.proofs.Members.{got_listed}
use Rattle.world_model.proofs.Needs.{event_needs}
use Rattle.world_model.proofs.Takings.{IsItemOf, frame_item_is, input_item_is, turn_item_is}

at_either : (w : Setting) (at : ℕ) (call : ReplicaCall) (b : Bool) → w.is_correct at ≡ b → IsAt w (if b then Some (record { at = at; call = call }) else None) at
at_either w at call true e = (refl, e)
at_either w at call false e = tt

pub at_call : (w : Setting) (at : ℕ) (call : ReplicaCall) → IsAt w (call_at w at call) at
at_call w at call = at_either w at call (w.is_correct at) refl

happens : {S E C : Type 0} (m : Meaning S E C KeyRow) (w : Setting) (states : ℕ → CoreState) (at : ℕ) (call : ReplicaCall) (places : List (Option (Replica S E C))) (happened : Happened) (before : List OutFrame) →
    before ≡ [] → CallAnswered m w states (call_at w at call) places before happened.out.items happened.seen → happened.at ≡ at → happened.forged ≡ is_forged_frame w states (call_at w at call)
    → IsItemOf w states (call_at w at call) happened.taken → CallHappened m w states (call_at w at call) places happened
happens m w states at call places happened before none calls e forged taken = record {
  told = record { place = subst (IsAt w (call_at w at call)) (sym e) (at_call w at call); frame = forged; item = taken.is; good = taken.good };
  seen = calls.seen;
  out = let P : List OutFrame → Type 0 = λ x. happened.out.items ≡ x ++ frames_out w states (call_at w at call) in subst P none calls.out;
  replicas = calls.replicas;
}

-- a frame
pub frame_happens : {S E C : Type 0} → AnswersGood → (m : Meaning S E C KeyRow) (w : Setting) (seats : Seats) (states : ℕ → CoreState) (t : MadeTable) (at : ℕ) (bytes : List ℕ) (old places : List (Option (Replica S E C))) (happened : Happened) (before : List OutFrame) (unmade : Bool) →
    SeatsStand w seats → FramesStand w states t → ReplicasStand m w states old → before ≡ [] → CallAnswered m w states (call_at w at (Frame bytes)) places before happened.out.items happened.seen
    → happened.at ≡ at → IsFound seats.correct t at bytes unmade → happened.forged ≡ (is_seen_opened happened.seen && unmade)
    → IsFrameItem seats.params seats.mode happened.seen bytes happened.taken → CallHappened m w states (call_at w at (Frame bytes)) places happened
frame_happens good m w seats states t at bytes old places happened before unmade seats_stand stand replicas none calls e found forged item =
    happens m w states at (Frame bytes) places happened before none calls e
    (forged ∙ forged_is w seats states t at bytes unmade happened.seen seats_stand stand (replicas.within at) found calls.seen)
    (frame_item_is good w seats states at bytes happened.taken happened.seen seats_stand item calls.seen)

-- a frame that doesn't forge
fair_frame : (w : Setting) (states : ℕ → CoreState) (at : ℕ) (bytes : List ℕ) (b : Bool) → is_forged_call w states at (Frame bytes) ≡ false
    → is_forged_frame w states (if b then Some (record { at = at; call = Frame bytes }) else None) ≡ false
fair_frame w states at bytes true fair = fair
fair_frame w states at bytes false fair = refl

pub made_happens : {S E C : Type 0} → AnswersGood → (m : Meaning S E C KeyRow) (w : Setting) (seats : Seats) (states : ℕ → CoreState) (at : ℕ) (bytes : List ℕ) (places : List (Option (Replica S E C))) (happened : Happened) (before : List OutFrame) →
    SeatsStand w seats → before ≡ [] → CallAnswered m w states (call_at w at (Frame bytes)) places before happened.out.items happened.seen
    → happened.at ≡ at → happened.forged ≡ false → is_forged_call w states at (Frame bytes) ≡ false
    → IsFrameItem seats.params seats.mode happened.seen bytes happened.taken → CallHappened m w states (call_at w at (Frame bytes)) places happened
made_happens good m w seats states at bytes places happened before seats_stand none calls e forged fair item =
    happens m w states at (Frame bytes) places happened before none calls e
    (forged ∙ sym (fair_frame w states at bytes (w.is_correct at) fair))
    (frame_item_is good w seats states at bytes happened.taken happened.seen seats_stand item calls.seen)

-- neither an input nor a turn forges by a frame
input_forges : (w : Setting) (states : ℕ → CoreState) (at : ℕ) (bytes : List ℕ) (b : Bool) → false ≡ is_forged_frame w states (if b then Some (record { at = at; call = Input bytes }) else None)
input_forges w states at bytes true = refl
input_forges w states at bytes false = refl

turn_forges : (w : Setting) (states : ℕ → CoreState) (at : ℕ) (b : Bool) → false ≡ is_forged_frame w states (if b then Some (record { at = at; call = Turn }) else None)
turn_forges w states at true = refl
turn_forges w states at false = refl

pub input_happens : {S E C : Type 0} (m : Meaning S E C KeyRow) (w : Setting) (states : ℕ → CoreState) (at : ℕ) (bytes : List ℕ) (places : List (Option (Replica S E C))) (happened : Happened) (before : List OutFrame) →
    before ≡ [] → CallAnswered m w states (call_at w at (Input bytes)) places before happened.out.items happened.seen → happened.at ≡ at → happened.forged ≡ false → happened.taken ≡ None
    → CallHappened m w states (call_at w at (Input bytes)) places happened
input_happens m w states at bytes places happened before none calls e forged taken =
    happens m w states at (Input bytes) places happened before none calls e (forged ∙ input_forges w states at bytes (w.is_correct at)) (input_item_is w states at bytes happened.taken taken)

pub turn_happens : {S E C : Type 0} (m : Meaning S E C KeyRow) (w : Setting) (states : ℕ → CoreState) (at : ℕ) (places : List (Option (Replica S E C))) (happened : Happened) (before : List OutFrame) (front : Option Item) →
    before ≡ [] → CallAnswered m w states (call_at w at Turn) places before happened.out.items happened.seen → happened.at ≡ at → happened.forged ≡ false
    → (w.is_correct at ≡ true → IsInboxFront w states at front) → happened.taken ≡ (if is_took happened.seen then front else None) → CallHappened m w states (call_at w at Turn) places happened
turn_happens m w states at places happened before front none calls e forged first taken =
    happens m w states at Turn places happened before none calls e (forged ∙ turn_forges w states at (w.is_correct at)) (turn_item_is w states at happened.taken front happened.seen first taken calls.seen)

-- ---- a frame that passes

from_either : (right : Bool) (made : List (List ℕ)) (k : ℕ) → slice_get (if right && true then reverse made else []) k ≡ (if right then slice_get (reverse made) k else None)
from_either true made k = refl
from_either false made k = refl

passed_is : (w : Setting) (states : ℕ → CoreState) (t : MadeTable) (from to k : ℕ) → FramesStand w states t → from < w.numbers.n → to < w.numbers.n → from ≢ to
    → slice_get (made_in t from to) k ≡ frame_passed w states from to k
passed_is w states t from to k stand from_below to_below other =
    let made = made_for (rules_at w from) (w.keys from) (states from).history to in
    ap (λ xs. slice_get xs k) (stand.each from to from_below to_below)
    ∙ ap (λ b. slice_get (if w.is_correct from && not b then reverse made else []) k) (ne_eqb from to other)
    ∙ from_either (w.is_correct from) made k

-- the one of this number is the frame
pub frame_passes_is : {S E C : Type 0} (m : Meaning S E C KeyRow) (w : Setting) (states : ℕ → CoreState) (t : MadeTable) (from to k : ℕ) (list : List (List ℕ)) (frame bytes : List ℕ) (places : List (Option (Replica S E C))) (result : Result Happened Mem) →
    FramesStand w states t → from < w.numbers.n → to < w.numbers.n → from ≢ to → list ≡ made_in t from to → k < length list → frame ≡ slice_index_or list k frame → bytes ≡ frame
    → CallHappens m w states (call_at w to (Frame bytes)) places result → CallHappens m w states (frame_call w to (frame_passed w states from to k)) places result
frame_passes_is m w states t from to k list frame bytes places result stand from_below to_below other is within read same does =
    let there : Some bytes ≡ frame_passed w states from to k =
    ap (λ x. Some x) (same ∙ read) ∙ sym (slice_get-get_or list k frame within) ∙ ap (λ xs. slice_get xs k) is ∙ passed_is w states t from to k stand from_below to_below other in
    let P : Option (List ℕ) → Type 0 = λ x. CallHappens m w states (frame_call w to x) places result in
    subst P there does

-- it is among those that the sender made
pub frame_listed : (w : Setting) (states : ℕ → CoreState) (t : MadeTable) (from to k : ℕ) (list : List (List ℕ)) (frame bytes : List ℕ) →
    FramesStand w states t → from < w.numbers.n → to < w.numbers.n → list ≡ made_in t from to → k < length list → frame ≡ slice_index_or list k frame → bytes ≡ frame
    → Has (frames_from w states from to) bytes
frame_listed w states t from to k list frame bytes stand from_below to_below is within read same =
    let there : slice_get (frames_from w states from to) k ≡ Some bytes =
    ap (λ xs. slice_get xs k) (sym (is ∙ stand.each from to from_below to_below)) ∙ slice_get-get_or list k frame within ∙ ap (λ x. Some x) (sym (same ∙ read)) in
    got_listed (frames_from w states from to) k bytes there

-- nothing happens
nothing_happens : {S E C : Type 0} (m : Meaning S E C KeyRow) (w : Setting) (states : ℕ → CoreState) (places : List (Option (Replica S E C))) (happened : Happened) (c : Option CallAt) →
    ReplicasStand m w states places → happened.seen ≡ seen_as.Missed → happened.forged ≡ false → happened.taken ≡ None → happened.out.items ≡ [] → c ≡ None
    → CallHappened m w states c places happened
nothing_happens m w states places happened c replicas seen forged taken out none =
    let P : Option CallAt → Type 0 = λ x. CallHappened m w states x places happened in
    subst P (sym none) (record { told = record { place = tt; frame = forged; item = taken; good = tt }; seen = seen; out = out; replicas = replicas })

pub none_passes : {S E C : Type 0} (m : Meaning S E C KeyRow) (w : Setting) (states : ℕ → CoreState) (t : MadeTable) (from to k : ℕ) (list : List (List ℕ)) (places : List (Option (Replica S E C))) (happened : Happened) →
    ReplicasStand m w states places → FramesStand w states t → from < w.numbers.n → to < w.numbers.n → from ≢ to → list ≡ made_in t from to → length list ≤ k
    → happened.seen ≡ seen_as.Missed → happened.forged ≡ false → happened.taken ≡ None → happened.out.items ≡ []
    → CallHappened m w states (frame_call w to (frame_passed w states from to k)) places happened
none_passes m w states t from to k list places happened replicas stand from_below to_below other is past seen forged taken out =
    let none : frame_passed w states from to k ≡ None =
    sym (passed_is w states t from to k stand from_below to_below other) ∙ ap (λ xs. slice_get xs k) (sym is) ∙ slice_get_past list k past in
    nothing_happens m w states places happened (frame_call w to (frame_passed w states from to k)) replicas seen forged taken out (ap (frame_call w to) none)

-- ---- a frame that is sealed

-- what is said of some bytes is said of the same
pub same_frame : {S E C : Type 0} (m : Meaning S E C KeyRow) (w : Setting) (states : ℕ → CoreState) (to : ℕ) (bytes frame : List ℕ) (places : List (Option (Replica S E C))) (result : Result Happened Mem) →
    bytes ≡ frame → CallHappens m w states (call_at w to (Frame bytes)) places result → CallHappens m w states (call_at w to (Frame frame)) places result
same_frame m w states to bytes frame places result same does =
    let P : List ℕ → Type 0 = λ x. CallHappens m w states (call_at w to (Frame x)) places result in
    subst P same does

-- as the event
pub sealed_happens : {S E C : Type 0} (m : Meaning S E C KeyRow) (w : Setting) (states : ℕ → CoreState) (from to : ℕ) (body frame : List ℕ) (places : List (Option (Replica S E C))) (result : Result Happened Mem) →
    frame ≡ sealed (w.keys from) to 0 body → CallHappens m w states (call_at w to (Frame frame)) places result → EventHappens m w states (events.Sealed from to body) places result
sealed_happens m w states from to body frame places result same does =
    go result (same_frame m w states to frame (sealed (w.keys from) to 0 body) places result same does)
  where
    go : (result : Result Happened Mem) → CallHappens m w states (call_at w to (Frame (sealed (w.keys from) to 0 body))) places result
        → EventHappens m w states (events.Sealed from to body) places result
    go (Ok happened) does = does
    go (Err mem) does = (does.0, event_needs w states (events.Sealed from to body) does.1)

-- nothing is sealed for a faulty receiver
pub none_sealed : {S E C : Type 0} (m : Meaning S E C KeyRow) (w : Setting) (states : ℕ → CoreState) (from to : ℕ) (body : List ℕ) (places : List (Option (Replica S E C))) (happened : Happened) →
    ReplicasStand m w states places → w.is_correct to ≡ false → happened.seen ≡ seen_as.Missed → happened.forged ≡ false → happened.taken ≡ None → happened.out.items ≡ []
    → CallHappened m w states (call_of w states (events.Sealed from to body)) places happened
none_sealed m w states from to body places happened replicas faulty seen forged taken out =
    nothing_happens m w states places happened (call_of w states (events.Sealed from to body)) replicas seen forged taken out
    (faulty_call w to (Frame (sealed (w.keys from) to 0 body)) faulty)

-- ---- by event

pub by_event : {S E C : Type 0} (m : Meaning S E C KeyRow) (w : Setting) (states : ℕ → CoreState) (e which : Event) (places : List (Option (Replica S E C))) (result : Result Happened Mem) →
    e ≡ which → (MayHappen w.numbers.n which → EventHappens m w states which places result) → MayHappen w.numbers.n e → EventHappens m w states e places result
by_event m w states e which places result is does =
    let P : Event → Type 0 = λ x. MayHappen w.numbers.n x → EventHappens m w states x places result in
    subst P (sym is) does

pub same_input : {S E C : Type 0} (m : Meaning S E C KeyRow) (w : Setting) (states : ℕ → CoreState) (at : ℕ) (bytes input : List ℕ) (places : List (Option (Replica S E C))) (result : Result Happened Mem) →
    bytes ≡ input → CallHappens m w states (call_at w at (Input bytes)) places result → CallHappens m w states (call_at w at (Input input)) places result
same_input m w states at bytes input places result same does =
    let P : List ℕ → Type 0 = λ x. CallHappens m w states (call_at w at (Input x)) places result in
    subst P same does

pub same_body : {S E C : Type 0} (m : Meaning S E C KeyRow) (w : Setting) (states : ℕ → CoreState) (from to : ℕ) (bytes body : List ℕ) (places : List (Option (Replica S E C))) (result : Result Happened Mem) →
    bytes ≡ body → EventHappens m w states (events.Sealed from to bytes) places result → EventHappens m w states (events.Sealed from to body) places result
same_body m w states from to bytes body places result same does =
    let P : List ℕ → Type 0 = λ x. EventHappens m w states (events.Sealed from to x) places result in
    subst P same does
