-- A world: its replicas, and what each event does to them. Lists of events have the newest first.
use Rattle.std.specs.Prelude.{ℕ, Bool, not, ◌==◌, ◌&&◌, List, [], ◌∷◌, length, reverse, replicate, Option, Some, None, Result, Ok, Err, if◌then◌else◌}
use Rattle.std.specs.List.{slice_get}
use Rattle.ritas_base.specs.declared.event.Event.{Event}
use Rattle.ritas_base.specs.declared.event.Event.TheVariants as events
use Rattle.ritas_base.specs.declared.mode.Mode.{Mode}
use Rattle.ritas_base.specs.declared.slot.Slot.{Slot}
use Rattle.ritas_base.specs.Numbers.{Numbers}
use Rattle.layer_api.specs.Broadcast.{BroadcastRules}
use Rattle.layer_api.specs.Service.{ServiceRules}
use Rattle.keyed_channel.specs.KeyRow.{KeyRow}
use Rattle.keyed_channel.specs.Keyed.{tags_of}
use Rattle.keyed_channel.specs.Frames.{sealed}
use Rattle.command_log.specs.Rows.{Start}
use Rattle.ritas_core.specs.declared.answer.Answer.{Answer}
use Rattle.ritas_core.specs.Rules.{Rules}
use Rattle.ritas_core.specs.Parts.{Entry}
use Rattle.ritas_core.specs.Machine.{CoreState, first_state}
use Rattle.replica.specs.declared.refusal.Refusal.{Refusal}
use Rattle.replica.specs.Frames.{made_for}
use Rattle.replica.specs.Handling.{ReplicaCall, Frame, Input, Turn, Handled, handled}
use Rattle.world_model.specs.declared.seen.Seen.{Seen}
use Rattle.world_model.specs.declared.seen.Seen.TheVariants as seen_as

-- a world: its numbers and mode, which replicas are correct, what the layers mean, the replicas' coins and their keys, and
-- which replicas are stopped before the event of a number, from 0; and where the logs of commands begin: at nothing in a session by
-- itself, and in an epoch of a chain with the rows of the epochs before
pub record Setting : Type 0 where
  pub numbers : Numbers
  pub mode : Mode
  pub is_correct : ℕ → Bool
  pub at_slot : Slot → BroadcastRules
  pub service : ServiceRules
  pub coin : ℕ → Slot → Bool
  pub keys : ℕ → KeyRow
  pub stops : ℕ → ℕ → Bool
  pub start : Start

-- what the layers of replica i mean
abbrev pub rules_at : Setting → ℕ → Rules
rules_at w i = record {
  mode = w.mode;
  casts = record { numbers = w.numbers; me = i; tags = tags_of (w.keys i); at_slot = w.at_slot };
  coin = w.coin i;
  service = w.service;
}

-- a call on a replica
pub record CallAt : Type 0 where
  pub at : ℕ
  pub call : ReplicaCall

-- a call on a replica, if it is correct
abbrev pub call_at : Setting → ℕ → ReplicaCall → Option CallAt
call_at w j call = if w.is_correct j then Some (record { at = j; call = call }) else None

-- the frame, if there is one
abbrev pub frame_call : Setting → ℕ → Option (List ℕ) → Option CallAt
frame_call w j None = None
frame_call w j (Some bytes) = call_at w j (Frame bytes)

-- the m-th frame, from 0, that a replica with this history made for j: made frames have the newest first
abbrev pub made_frame : Rules → KeyRow → List Entry → ℕ → ℕ → Option (List ℕ)
made_frame r k h j m = slice_get (reverse (made_for r k h j)) m

-- the frame that passes from one replica to another, which a correct one made
abbrev pub frame_passed : Setting → (ℕ → CoreState) → ℕ → ℕ → ℕ → Option (List ℕ)
frame_passed w states from to m = if w.is_correct from then made_frame (rules_at w from) (w.keys from) (states from).history to m else None

-- the call that an event is on a correct replica, where the replicas are in these states
abbrev pub call_of : Setting → (ℕ → CoreState) → Event → Option CallAt
call_of w states (events.Frame to bytes) = call_at w to (Frame bytes)
call_of w states (events.Input at bytes) = call_at w at (Input bytes)
call_of w states (events.Turn at) = call_at w at Turn
call_of w states (events.Pass from to m) = frame_call w to (frame_passed w states from to m)
call_of w states (events.Sealed from to body) = call_at w to (Frame (sealed (w.keys from) to 0 body))

-- what a call on a replica does
abbrev pub handled_at : Setting → (ℕ → CoreState) → CallAt → Handled
handled_at w states c = handled (rules_at w c.at) (w.keys c.at) (states c.at) c.call

-- the states after a call
abbrev pub after_call : Setting → (ℕ → CoreState) → Option CallAt → ℕ → CoreState
after_call w states None i = states i
after_call w states (Some c) i = if c.at == i then (handled_at w states c).state else states i

-- the states with the replicas stopped that are so before the event of this number
abbrev pub halted_at : Setting → ℕ → (ℕ → CoreState) → ℕ → CoreState
halted_at w k states i = record (states i) { live = (states i).live && not (w.stops k i) }

-- the states of the replicas after these events
unfoldable pub states_of : Setting → List Event → ℕ → CoreState
states_of w [] i = first_state (replicate w.numbers.n [])
states_of w (e ∷ es) i =
    after_call w (halted_at w (length es) (states_of w es)) (call_of w (halted_at w (length es) (states_of w es)) e) i

-- the states in which an event after these finds the replicas
abbrev pub states_before : Setting → List Event → ℕ → CoreState
states_before w es = halted_at w (length es) (states_of w es)

-- what became of an answered call
abbrev pub seen_answer : Result Answer Refusal → Seen
seen_answer (Ok answer) = seen_as.Answered answer
seen_answer (Err refusal) = seen_as.Refused refusal

abbrev pub seen_call : Setting → (ℕ → CoreState) → Option CallAt → Seen
seen_call w states None = seen_as.Missed
seen_call w states (Some c) = seen_answer (handled_at w states c).answer

-- what becomes of an event after these
abbrev pub seen_of : Setting → List Event → Event → Seen
seen_of w es e = seen_call w (states_before w es) (call_of w (states_before w es) e)
