-- What a slot newly delivers was not there before, and is there now.
use Rattle.std.specs.Prelude.{◌≡◌, ℕ, List, Option, Some, None, refl}
use Rattle.ritas_core.specs.Casts.{newly_there}

pub newly_before : (x y : Option (List ℕ)) (v : List ℕ) → newly_there x y ≡ Some v → x ≡ None
newly_before None y v h = refl
newly_before (Some u) y v h = absurd (cc)

pub newly_after : (x y : Option (List ℕ)) (v : List ℕ) → newly_there x y ≡ Some v → y ≡ Some v
newly_after None y v h = h
newly_after (Some u) y v h = absurd (cc)
