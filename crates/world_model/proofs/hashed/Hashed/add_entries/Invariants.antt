use Rattle.std.proofs.Common.{◌≡◌, ℕ, List, ◌∷◌, ◌++◌}
use Rattle.keyed_channel.specs.Keyed.{tags_of}
use Rattle.layer_api.specs.Entries.{Print, OfMessage}
use Rattle.world_model.specs.Met.{met_with}
use Rattle.world_model.specs.Hashed.{HashedStand}
use Rattle.world_model.proofs.Meeting.{met_below}
use Rattle.world_model.proofs.hashed.Hashed.add_entries.Given as goal

-- the message and the entries so far are in the maps
abbrev pub invariant-loop-other : goal.invariant-loop-other
invariant-loop-other l =
    (m : List ℕ) → l.fn.met ≡ met_with l.fn.keys l.fn.slot ((tags_of l.fn.keys).digest m)
    → (prints : List Print) → HashedStand l.fn.self (OfMessage m ((tags_of l.fn.keys).digest m) ∷ prints)
    → HashedStand l.self (met_below l.fn.keys l.fn.slot m l.other ++ prints)
