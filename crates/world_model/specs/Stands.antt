-- What the value of a world stands for, and what an event does to it.
use Rattle.std.specs.Prelude.{◌≡◌, ℕ, ◌<◌, ◌==◌, ◌&&◌, nat_lt, Bool, true, false, not, List, [], ◌∷◌, length, filter, reverse, Option, Some, None, Result, Ok, Err, ◌⊎◌, if◌then◌else◌}
use Rattle.std.specs.List.{slice_get}
use Rattle.ritas_base.specs.declared.bytes.Mem.{Mem}
use Rattle.ritas_base.specs.declared.event.Event.{Event}
use Rattle.ritas_base.specs.declared.mode.Mode.{Mode}
use Rattle.ritas_base.specs.declared.mode.FrameVersion.{FrameVersion}
use Rattle.ritas_base.specs.History.{replicas as numbers_below}
use Rattle.ritas_base.specs.Members.{has_member}
use Rattle.ritas_base.specs.Numbers.{Numbers, IsSession}
use Rattle.keyed_channel.specs.KeyRow.{KeyRow}
use Rattle.ritas_core.specs.Machine.{CoreState, What}
use Rattle.ritas_core.specs.Calls.{IsCoreStep, stopped}
use Rattle.ritas_core.specs.Rules.{at_slot_of}
use Rattle.ritas_core.specs.Stands.{Meaning}
use Rattle.replica.specs.declared.replica.Replica.{Replica}
use Rattle.replica.specs.Frames.{made_for}
use Rattle.replica.specs.Handling.{ReplicaCall}
use Rattle.replica.specs.Stands.{core_call}
use Rattle.command_log.specs.Rows.{alone}
use Rattle.replica.specs.Replica.{ReplicaStands}
use Rattle.world_model.specs.declared.seats.Seats.{Seats}
use Rattle.world_model.specs.declared.seen.Seen.{Seen}
use Rattle.world_model.specs.declared.world.World.{World}
use Rattle.world_model.specs.World.{Setting, rules_at, CallAt, call_of, states_of, seen_of}
use Rattle.world_model.specs.Audit.{first_broken}
use Rattle.world_model.specs.EveryWorld.{IsWorld}
use Rattle.world_model.specs.MadeOrder.{all_made}
use Rattle.world_model.specs.Needs.{EventNeeds}
use Rattle.world_model.specs.FramesMade.{MadeTable, IsSquare, IsOrderOf, made_in}
use Rattle.world_model.specs.Watch.{WatchStands}

-- ---- which world

-- the keys of each of n replicas, in order
abbrev pub AreKeys : ℕ → List KeyRow → Type 0
AreKeys n keys = (i : ℕ) (k : KeyRow) → slice_get keys i ≡ Some k → (k.me ≡ i) × (k.n ≡ n)

-- the keys tag frames of this version
abbrev pub AreOfVersion : FrameVersion → List KeyRow → Type 0
AreOfVersion version keys = (i : ℕ) (k : KeyRow) → slice_get keys i ≡ Some k → k.version ≡ version

-- no replica is stopped between events
abbrev pub NoneStops : Setting → Type 0
NoneStops w = (k i : ℕ) → w.stops k i ≡ false

-- the world of these numbers, mode, correct replicas, and keys and coins of each replica: a session by itself
pub record IsWorldOf {S E C : Type 0} (m : Meaning S E C KeyRow) (p : Numbers) (root : Mode) (members : ℕ)
    (rows : List KeyRow) (all_coins : List C) (w : Setting) : Type 0 where
  pub numbers : w.numbers ≡ p
  pub mode : w.mode ≡ root
  pub correct : (i : ℕ) → w.is_correct i ≡ has_member members i
  pub casts : w.at_slot ≡ at_slot_of root m.cast
  pub service : w.service ≡ m.service
  pub keys : (i : ℕ) (k : KeyRow) → slice_get rows i ≡ Some k → w.keys i ≡ k
  pub coins : (i : ℕ) (coin : C) → slice_get all_coins i ≡ Some coin → w.coin i ≡ m.bits coin
  pub going : NoneStops w
  pub start : w.start ≡ alone

-- ---- what a world stands for

-- how many replicas there are, in which mode, which of them are correct, and their keys
pub record SeatsStand (w : Setting) (seats : Seats) : Type 0 where
  pub session : IsSession w.numbers
  pub numbers : seats.params ≡ w.numbers
  pub mode : seats.mode ≡ w.mode
  pub correct : (i : ℕ) → w.is_correct i ≡ has_member seats.correct i
  pub keys : (i : ℕ) → i < w.numbers.n → slice_get seats.keys.items i ≡ Some (w.keys i)
  pub own : (i : ℕ) → i < w.numbers.n → ((w.keys i).me ≡ i) × ((w.keys i).n ≡ w.numbers.n)

-- a correct replica, in its state, which isn't stopped
pub record IsReplica {S E C : Type 0} (m : Meaning S E C KeyRow) (w : Setting) (states : ℕ → CoreState) (i : ℕ)
    (rep : Replica S E C) : Type 0 where
  pub correct : w.is_correct i ≡ true
  pub stands : ReplicaStands w.start m rep (rules_at w i) (w.keys i) (states i)
  pub live : (states i).live ≡ true

-- there is no replica where it is faulty
abbrev pub StandsAt : {S E C : Type 0} → Meaning S E C KeyRow → Setting → (ℕ → CoreState) → ℕ → Option (Replica S E C) → Type 0
StandsAt m w states i None = w.is_correct i ≡ false
StandsAt m w states i (Some rep) = IsReplica m w states i rep

pub record ReplicasStand {S E C : Type 0} (m : Meaning S E C KeyRow) (w : Setting) (states : ℕ → CoreState)
    (replicas : List (Option (Replica S E C))) : Type 0 where
  pub many : length replicas ≡ w.numbers.n
  pub within : (i : ℕ) → w.is_correct i ≡ true → i < w.numbers.n
  pub each : (i : ℕ) (place : Option (Replica S E C)) → slice_get replicas i ≡ Some place → StandsAt m w states i place

-- the numbers of the correct replicas, in order
abbrev pub members : Setting → List ℕ
members w = filter w.is_correct (numbers_below w.numbers.n)

-- one stands here for each correct replica, in the order of their numbers, and is as this says
pub record AreInOrder {R : Type 0} (w : Setting) (Is : ℕ → R → Type 0) (here : List R) : Type 0 where
  pub many : length here ≡ length (members w)
  pub each : (k i : ℕ) (rep : R) → slice_get (members w) k ≡ Some i → slice_get here k ≡ Some rep → Is i rep

-- these are the correct replicas, in the order of their numbers
abbrev pub AreMembers : {S E C : Type 0} → Meaning S E C KeyRow → Setting → (ℕ → CoreState) → List (Replica S E C) → Type 0
AreMembers m w states here = AreInOrder w (λ i rep. IsReplica m w states i rep) here

-- the frames that one replica made for another, the oldest first
abbrev pub frames_from : Setting → (ℕ → CoreState) → ℕ → ℕ → List (List ℕ)
frames_from w states i j =
    if w.is_correct i && not (i == j) then reverse (made_for (rules_at w i) (w.keys i) (states i).history j) else []

-- none were made for a number that no replica has
abbrev pub frames_between : Setting → (ℕ → CoreState) → ℕ → ℕ → List (List ℕ)
frames_between w states i j = if nat_lt j w.numbers.n then frames_from w states i j else []

pub record FramesStand (w : Setting) (states : ℕ → CoreState) (t : MadeTable) : Type 0 where
  pub square : IsSquare t w.numbers.n
  pub each : (i j : ℕ) → i < w.numbers.n → j < w.numbers.n → made_in t i j ≡ frames_from w states i j

-- a world that isn't stopped, after these events
pub record WorldStands {S E C : Type 0} (m : Meaning S E C KeyRow) (world : World S E C) (w : Setting) (es : List Event) : Type 0 where
  pub kind : IsWorld m.service m.cast w
  pub going : NoneStops w
  pub seats : SeatsStand w world.seats
  pub replicas : ReplicasStand m w (states_of w es) world.replicas.items
  pub made : FramesStand w (states_of w es) world.made
  pub order : IsOrderOf world.made (all_made w es)
  pub events : world.events ≡ length es
  pub watch : WatchStands w (states_of w es) (first_broken w es) world.watch
  pub live : world.live ≡ true

-- ---- what a stopped world stands for

-- a call on replica i that takes an entry in this state
pub record IsTaking (w : Setting) (state : CoreState) (c : Option CallAt) (i : ℕ) : Type 0 where
  pub live : state.live ≡ true
  pub call : ReplicaCall
  pub called : c ≡ Some (record { at = i; call = call })
  pub what : What
  pub given : core_call (rules_at w i) (w.keys i) call ≡ Some what
  pub step : IsCoreStep (rules_at w i) state what

-- a correct replica, which such a call stopped for want of memory
pub record IsStoppedBy {S E C : Type 0} (m : Meaning S E C KeyRow) (w : Setting) (state : CoreState) (c : Option CallAt) (i : ℕ)
    (rep : Replica S E C) : Type 0 where
  pub correct : w.is_correct i ≡ true
  pub taking : IsTaking w state c i
  pub stands : ReplicaStands w.start m rep (rules_at w i) (w.keys i) (stopped state taking.what)

-- a correct replica as it was before a call that was without memory, or as it was to be after it, or stopped by it
abbrev pub IsLeft : {S E C : Type 0} → Meaning S E C KeyRow → Setting → (ℕ → CoreState) → (ℕ → CoreState) → Option CallAt → ℕ → Replica S E C → Type 0
IsLeft m w before after c i rep = IsReplica m w before i rep ⊎ (IsReplica m w after i rep ⊎ IsStoppedBy m w (before i) c i rep)

-- these are the correct replicas so, in the order of their numbers
abbrev pub AreMembersLeft : {S E C : Type 0} → Meaning S E C KeyRow → Setting → (ℕ → CoreState) → (ℕ → CoreState) → Option CallAt → List (Replica S E C) → Type 0
AreMembersLeft m w before after c here = AreInOrder w (λ i rep. IsLeft m w before after c i rep) here

-- there is no replica where it is faulty
abbrev pub LeftAt : {S E C : Type 0} → Meaning S E C KeyRow → Setting → (ℕ → CoreState) → (ℕ → CoreState) → Option CallAt → ℕ → Option (Replica S E C) → Type 0
LeftAt m w before after c i None = w.is_correct i ≡ false
LeftAt m w before after c i (Some rep) = IsLeft m w before after c i rep

pub record ReplicasLeft {S E C : Type 0} (m : Meaning S E C KeyRow) (w : Setting) (before after : ℕ → CoreState) (c : Option CallAt)
    (replicas : List (Option (Replica S E C))) : Type 0 where
  pub many : length replicas ≡ w.numbers.n
  pub within : (i : ℕ) → w.is_correct i ≡ true → i < w.numbers.n
  pub each : (i : ℕ) (place : Option (Replica S E C)) → slice_get replicas i ≡ Some place → LeftAt m w before after c i place

-- A world which the event e stopped after these events, for want of the memory that it needs. It shows what it showed before e; of the replica
-- that e was to come to, what it has before e or after it, or where e stopped it. What its tables keep for the audit of later
-- events is lost.
pub record WorldStopped {S E C : Type 0} (m : Meaning S E C KeyRow) (world : World S E C) (w : Setting) (es : List Event) (e : Event) : Type 0 where
  pub kind : IsWorld m.service m.cast w
  pub seats : SeatsStand w world.seats
  pub replicas : ReplicasLeft m w (states_of w es) (states_of w (e ∷ es)) (call_of w (states_of w es) e) world.replicas.items
  pub made : FramesStand w (states_of w es) world.made
  pub order : IsOrderOf world.made (all_made w es)
  pub events : world.events ≡ length es
  pub verdict : world.watch.verdict ≡ first_broken w es
  pub live : world.live ≡ false
  pub needs : EventNeeds w (states_of w es) e

-- whether a world isn't stopped
abbrev pub is_world_live : {S E C : Type 0} → World S E C → Bool
is_world_live world = world.live

-- ---- what an event does

-- what became of the event is answered, and the world stands for the events with it
pub record Seeing {S E C : Type 0} (m : Meaning S E C KeyRow) (new : World S E C) (w : Setting) (es : List Event) (e : Event)
    (answer : Seen) : Type 0 where
  pub seen : answer ≡ seen_of w es e
  pub stands : WorldStands m new w (e ∷ es)

-- or it is stopped
abbrev pub EventDoes : {S E C : Type 0} → Meaning S E C KeyRow → World S E C → Setting → List Event → Event → Result Seen Mem → Type 0
EventDoes m new w es e (Ok seen) = Seeing m new w es e seen
EventDoes m new w es e (Err mem) = WorldStopped m new w es e
