-- Which of the events that are served a journal keeps. Lists of events have the newest first.
use Rattle.std.specs.Prelude.{◌≡◌, ℕ, ◌≤◌, Bool, true, false, List, [], ◌∷◌, ◌++◌, length, Option, Some, None}
use Rattle.std.specs.List.{AllByRecursion}
use Rattle.ritas_base.specs.declared.event.Event.{Event}
use Rattle.ritas_base.specs.declared.event.Event.TheVariants as events
use Rattle.ritas_base.specs.Limits.{longest_frame}
use Rattle.ritas_core.specs.declared.answer.Answer.TheVariants as answers
use Rattle.world_model.specs.declared.seen.Seen.{Seen}
use Rattle.world_model.specs.declared.seen.Seen.TheVariants as seen
use Rattle.world_model.specs.World.{Setting, seen_of, states_of}
use Rattle.world_model.specs.Stands.{NoneStops}

-- what was taken or is held is kept
abbrev pub is_kept_answer : Seen → Bool
is_kept_answer (seen.Answered answers.Took) = true
is_kept_answer (seen.Answered answers.Held) = true
is_kept_answer (seen.Answered answers.Repeat) = false
is_kept_answer (seen.Answered answers.Idle) = false
is_kept_answer (seen.Refused refusal) = false
is_kept_answer seen.Missed = false

-- an event that was answered so is kept: each turn, and a frame or an input that was taken or is held
abbrev pub is_kept_so : Event → Seen → Bool
is_kept_so (events.Turn at) answer = true
is_kept_so (events.Frame to bytes) answer = is_kept_answer answer
is_kept_so (events.Input at bytes) answer = is_kept_answer answer
is_kept_so (events.Pass from to m) answer = false
is_kept_so (events.Sealed from to body) answer = false

-- an event after these is kept
abbrev pub is_kept : Setting → List Event → Event → Bool
is_kept w es e = is_kept_so e (seen_of w es e)

-- there is an event, and it is kept
abbrev pub has_kept : Setting → List Event → Option Event → Bool
has_kept w es None = false
has_kept w es (Some e) = is_kept w es e

abbrev pub kept_onto : Bool → Event → List Event → List Event
kept_onto true e es = e ∷ es
kept_onto false e es = es

-- of the events after these past ones, those that are kept
abbrev pub kept_of : Setting → List Event → List Event → List Event
kept_of w past [] = []
kept_of w past (e ∷ es) = kept_onto (is_kept w (es ++ past) e) e (kept_of w past es)

-- ---- what follows

-- a frame, an input or a turn
abbrev pub IsCallEvent : Event → Type 0
IsCallEvent (events.Frame to bytes) = Unit {0}
IsCallEvent (events.Input at bytes) = Unit {0}
IsCallEvent (events.Turn at) = Unit {0}
IsCallEvent (events.Pass from to m) = ⊥
IsCallEvent (events.Sealed from to body) = ⊥

-- the replicas stand after the kept events where they stand after all
abbrev pub KeptStands : Type 0
KeptStands = (w : Setting) (past es : List Event) → NoneStops w → AllByRecursion IsCallEvent es
    → states_of w (kept_of w past es ++ past) ≡ states_of w (es ++ past)

-- the bytes of a frame or an input
abbrev pub call_bytes : Event → List ℕ
call_bytes (events.Frame to bytes) = bytes
call_bytes (events.Input at bytes) = bytes
call_bytes (events.Turn at) = []
call_bytes (events.Pass from to m) = []
call_bytes (events.Sealed from to body) = []

-- a kept frame or input has no more bytes than a frame may have
abbrev pub KeptIsShort : Type 0
KeptIsShort = (w : Setting) (es : List Event) (e : Event) → is_kept w es e ≡ true → length (call_bytes e) ≤ longest_frame
