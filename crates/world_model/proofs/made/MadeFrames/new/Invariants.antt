use Rattle.std.proofs.Common.{◌≡◌, ℕ, [], replicate, List, length}
use Rattle.std.specs.Prelude.{map}
use Rattle.world_model.proofs.made.MadeFrames.new.Given as goal

abbrev pub invariant-loop-pair : goal.invariant-loop-pair
invariant-loop-pair l =
    let lists : List (List (List ℕ)) = map (λ frames. frames.items) l.lists.items in
    record { empty : lists ≡ replicate l._pair []; count : length l.lists.items ≡ l._pair }
