-- At which replicas the events of a file may be.
use Rattle.std.specs.Prelude.{◌≡◌, ◌≢◌, ℕ, ◌≤◌, ◌⊎◌, Bool, true, ◌&&◌, nat_lt, ◌==◌, Option, Some, None}
use Rattle.ritas_base.specs.Events.{MayHappen}
use Rattle.ritas_base.specs.declared.event.Event.{Event}
use Rattle.ritas_base.specs.declared.event.Event.TheVariants.{Frame, Input, Turn, Pass, Sealed}
use Rattle.schedule_file.specs.declared.header.HeaderKeys.{HeaderKeys}
use Rattle.schedule_file.specs.declared.header.HeaderKeys.TheVariants.{Master, Row}
use Rattle.schedule_file.specs.declared.scope.Scope.{Scope}
use Rattle.schedule_file.specs.ReadHeader.{Heading}
use Rattle.schedule_file.specs.Spelling.{IsSized}

-- the replica at which all events are, where the file has its keys alone
abbrev pub only_of : HeaderKeys → Option ℕ
only_of (Master master) = None
only_of (Row me row coin) = Some me

-- the scope of the events behind a header
abbrev pub scope_of : Heading → Scope
scope_of h = record { n = h.p.n; only = only_of h.keys }

-- whether a replica is the one, where there is one
abbrev pub is_the_one : Option ℕ → ℕ → Bool
is_the_one None at = true
is_the_one (Some me) at = at == me

-- whether an event of a scope may be at a replica
abbrev pub has_replica : Scope → ℕ → Bool
has_replica scope at = nat_lt at scope.n && is_the_one scope.only at

-- the same in words
abbrev pub IsTheOne : Option ℕ → ℕ → Type 0
IsTheOne None at = Unit {0}
IsTheOne (Some me) at = at ≡ me

abbrev pub IsAnother : Option ℕ → ℕ → Type 0
IsAnother None at = ⊥
IsAnother (Some me) at = at ≢ me

-- a number that no event of a scope has
abbrev pub IsOutOfScope : Scope → ℕ → Type 0
IsOutOfScope scope at = (scope.n ≤ at) ⊎ IsAnother scope.only at

-- the event keeps to the one replica, where there is one; then no frame is passed on or sealed
abbrev pub KeepsTo : Option ℕ → Event → Type 0
KeepsTo only (Frame to bytes) = IsTheOne only to
KeepsTo only (Input at bytes) = IsTheOne only at
KeepsTo only (Turn at) = IsTheOne only at
KeepsTo only (Pass from to m) = only ≡ None
KeepsTo only (Sealed from to body) = only ≡ None

-- an event of a scope: one that may stand behind a header (`of_scope`)
abbrev pub IsInScope : Scope → Event → Type 0
IsInScope scope e = MayHappen scope.n e × KeepsTo scope.only e × IsSized e
