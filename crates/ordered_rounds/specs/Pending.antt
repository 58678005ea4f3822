-- Pending identifiers in a set.
use Rattle.std.specs.Prelude.{◌≡◌, ℕ, ◌<◌, List, slice_index}
use Rattle.std.specs.BTreeSet.{BTreeSet, contains}
use Rattle.ritas_base.specs.declared.id.Id.{Id}
use Rattle.layer_api.specs.Service.{has_id}
use Rattle.frame_codec.specs.Ids.{of_origin}
use Rattle.ordered_rounds.specs.Early.{id_cmp}

-- the set has the identifiers of the list
abbrev pub HoldsIds : BTreeSet Id → List Id → Type 0
HoldsIds set ids = (x : Id) → contains id_cmp set x ≡ has_id ids x

-- so many of each origin are in the list
abbrev pub CountsOrigins : List ℕ → List Id → Type 0
CountsOrigins counts ids = (o : ℕ) → o < 31 → slice_index counts o ≡ of_origin o ids
