-- The table tells what the words tell.
use Rattle.std.specs.Prelude.{ℕ, List, Option}
use Rattle.ritas_base.specs.Numbers.{support_of}
use Rattle.layer_api.specs.Words.{Word, value_at}
use Rattle.layer_api.specs.Multi.{Scope}
use Rattle.multivalued.specs.Consensus.{init, vect_slot}
use Rattle.multivalued.specs.Tables.{IsTable}
use Rattle.multivalued.specs.declared.table.Table.{Table}

-- the VECT of k
abbrev pub vect_of : Scope → List Word → ℕ → Option (List ℕ)
vect_of at w k = value_at w (vect_slot at k)

abbrev pub IsKnown : Scope → List Word → Table → Type 0
IsKnown at w t = IsTable at.numbers.n (support_of at.numbers) (init at w) (vect_of at w) t
