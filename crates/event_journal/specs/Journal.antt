-- The file of a journal, and for which events it stands. Lists of events have the newest first.
--
-- Byte 0 is 1 where the file is made; the head follows, and the records. A record is an open gate, the length of an event
-- in two bytes, and the event. A closed gate stands behind the last record, and what follows it counts for nothing.
use Rattle.std.specs.Prelude.{◌≡◌, ◌≢◌, ◌⊎◌, ℕ, ◌<◌, ◌≤◌, ◌^◌, List, [], ◌∷◌, ◌++◌, length, drop, reverse, slice_index}
use Rattle.std.specs.List.{flat_map, AllByRecursion}
use Rattle.ritas_base.specs.declared.event.Event.{Event}
use Rattle.schedule_file.specs.FileBytes.{limit}
use Rattle.schedule_file.specs.Spelling.{event_text, sized, IsAlone, IsSized}

-- an event that may stand in the journal of a replica
pub record IsRecord (me : ℕ) (e : Event) : Type 0 where
  pub alone : IsAlone me e
  pub fits : IsSized e
  pub short : length (event_text e) < 2 ^ 16

abbrev pub record_text : Event → List ℕ
record_text e = 1 ∷ sized (event_text e)

-- the records of events, the oldest first
abbrev pub records : List Event → List ℕ
records es = flat_map record_text (reverse es)

-- what is written behind the closed gate: these records but for their first gate, and the next closed gate
abbrev pub behind_text : List Event → List ℕ
behind_text es = drop 1 (records es ++ 0 ∷ [])

-- a made file up to the closed gate
abbrev pub closed_front : List ℕ → List Event → List ℕ
closed_front head es = 1 ∷ head ++ records es

-- a made file, which opens as these events of a replica
pub record Opens (me : ℕ) (head file : List ℕ) (es : List Event) : Type 0 where
  pub gate : ℕ
  pub rest : List ℕ
  pub text : file ≡ closed_front head es ++ gate ∷ rest
  pub shut : gate ≢ 1
  pub each : AllByRecursion (IsRecord me) es
  pub size : length file ≤ limit

-- a file that isn't made
abbrev pub IsUnmade : List ℕ → Type 0
IsUnmade file = (length file < 53) ⊎ (slice_index file 0 ≢ 1)

-- a file opens as these events: one that isn't made as none
abbrev pub OpensAs : ℕ → List ℕ → List ℕ → List Event → Type 0
OpensAs me head file es = (IsUnmade file × (length file ≤ limit) × (es ≡ [])) ⊎ Opens me head file es
