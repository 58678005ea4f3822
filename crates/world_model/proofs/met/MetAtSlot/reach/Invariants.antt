use Rattle.std.proofs.Common.{◌≡◌, ℕ, ◌+◌, length, Some}
use Rattle.world_model.specs.Hashed.{met_in}
use Rattle.world_model.proofs.met.MetAtSlot.reach.Given as goal

-- there is a place below this, and none was changed
abbrev pub invariant-loop : goal.invariant-loop
invariant-loop l =
    (length l.self.places.items ≡ l.counter) × (l.end ≡ l.replica + 1) × ((i : ℕ) → met_in (Some l.self) i ≡ met_in (Some l.fn.self) i)
