use Rattle.std.proofs.Common.{◌≡◌, ℕ, None, length, slice_index_or}
use Rattle.observer.proofs.given.no_rows.Given as goal

abbrev pub invariant-loop : goal.invariant-loop
invariant-loop l = (length l.places.items ≡ l.counter) × ((i : ℕ) → slice_index_or l.places.items i None ≡ None)
