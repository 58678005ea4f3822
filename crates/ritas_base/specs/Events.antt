-- Which events may happen in a world.
use Rattle.std.specs.Prelude.{◌≢◌, ℕ, ◌<◌}
use Rattle.ritas_base.specs.declared.event.Event.{Event}
use Rattle.ritas_base.specs.declared.event.Event.TheVariants as events

-- the numbers of an event are those of replicas, and a frame's receiver isn't its sender
abbrev pub MayHappen : ℕ → Event → Type 0
MayHappen n (events.Frame to bytes) = to < n
MayHappen n (events.Input at bytes) = at < n
MayHappen n (events.Turn at) = at < n
MayHappen n (events.Pass from to m) = (from < n) × (to < n) × (from ≢ to)
MayHappen n (events.Sealed from to bytes) = (from < n) × (to < n) × (from ≢ to)
