-- Of two columns that are due one was made of the other's HASHES, and perhaps of more.
use Rattle.std.specs.Prelude.{◌≡◌, ◌⊎◌, ℕ, List, get_or, Option, Some, None}
use Rattle.ritas_base.specs.declared.item.Kind.TheVariants.{Column}
use Rattle.ritas_base.specs.declared.item.Msg.{Msg}
use Rattle.ritas_base.specs.Messages.{Place}
use Rattle.ritas_base.specs.History.{Call}
use Rattle.ritas_base.specs.Tags.{Tags}
use Rattle.layer_api.specs.Runs.{Has}
use Rattle.echo_bcast.specs.Due.{IsColumnOf}
use Rattle.echo_bcast.specs.Matrix.{matrix_due, hashes_in}

-- the second has the HASHES of the first, and perhaps more
abbrev pub HasAll : List (Option (List ℕ)) → List (Option (List ℕ)) → Type 0
HasAll hs more = (j : ℕ) (v : List ℕ) → get_or hs j None ≡ Some v → get_or more j None ≡ Some v

-- two columns, each of the HASHES at a prefix
pub record AreNested (at : Place) (h : List Call) (m o : Msg) : Type 0 where
  pub one : IsColumnOf at h m
  pub two : IsColumnOf at h o
  pub nested : HasAll (hashes_in at one.prefix) (hashes_in at two.prefix) ⊎ HasAll (hashes_in at two.prefix) (hashes_in at one.prefix)

abbrev pub ColumnsGrow : Type 0
ColumnsGrow = (at : Place) (tags : Tags) (h : List Call) (m o : Msg) → Has (matrix_due at tags h) m → Has (matrix_due at tags h) o
    → m.kind ≡ Column → o.kind ≡ Column → AreNested at h m o
