-- Between numbers that replicas have, what a world shows are the frames that the one made for the other.
use Rattle.std.specs.Prelude.{◌≡◌, ℕ, ◌<◌, Bool, [], if◌then◌else◌}
use Rattle.std.proofs.Common.{ap}
use Rattle.std.proofs.lemmas.Bool.{lt-ltb}
use Rattle.ritas_core.specs.Machine.{CoreState}
use Rattle.world_model.specs.World.{Setting}
use Rattle.world_model.specs.Stands.{frames_from, frames_between}

pub between_below : (w : Setting) (states : ℕ → CoreState) (i j : ℕ) → j < w.numbers.n → frames_between w states i j ≡ frames_from w states i j
between_below w states i j below = ap (λ (b : Bool). if b then frames_from w states i j else []) (lt-ltb j w.numbers.n below)
