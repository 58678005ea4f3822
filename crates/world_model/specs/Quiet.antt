-- An event adds to the frames of the replica that it comes to alone, and to none where no frame more was made.
use Rattle.std.specs.Prelude.{◌≡◌, ◌≢◌, ℕ, ◌<◌, List, ◌∷◌, length}
use Rattle.ritas_base.specs.declared.event.Event.{Event}
use Rattle.ritas_base.specs.declared.event.Event.TheVariants as events
use Rattle.world_model.specs.World.{Setting, states_of}
use Rattle.world_model.specs.MadeOrder.{all_made}
use Rattle.world_model.specs.Stands.{frames_from}

-- the replica that an event comes to
abbrev pub comes_to : Event → ℕ
comes_to (events.Frame to bytes) = to
comes_to (events.Input at bytes) = at
comes_to (events.Turn at) = at
comes_to (events.Pass from to m) = to
comes_to (events.Sealed from to body) = to

-- a replica with keys of its own makes frames for those that it has keys of
abbrev pub QuietLaw : Type 0
QuietLaw = (w : Setting) (es : List Event) (e : Event) → length (all_made w (e ∷ es)) ≡ length (all_made w es)
    → (i j : ℕ) → (w.keys i).me ≡ i → j < (w.keys i).n → frames_from w (states_of w (e ∷ es)) i j ≡ frames_from w (states_of w es) i j

abbrev pub OthersLaw : Type 0
OthersLaw = (w : Setting) (es : List Event) (e : Event) (i j : ℕ) → comes_to e ≢ i
    → frames_from w (states_of w (e ∷ es)) i j ≡ frames_from w (states_of w es) i j
