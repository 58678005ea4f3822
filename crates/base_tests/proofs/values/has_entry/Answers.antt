use Rattle.std.proofs.Common.{refl, [], ◌∷◌}
use Rattle.std.specs.Int.RustNames.{count_ones}
use Rattle.ritas_base.specs.Numbers.{Numbers}
use Rattle.frame_codec.specs.Grammar.{ids_from, entry, times, vector}
use Rattle.frame_codec.specs.Format.{◌>>◌}
use Rattle.frame_codec.proofs.Formats.{read_is}
use Rattle.base_tests.proofs.values.has_entry.Goals as goal

pub vector_entry-requires : goal.vector_entry-requires
unfolding vector times entry ids_from ◌>>◌ count_ones
vector_entry-requires c =
    let p : Numbers = record { n = 4; f = 1 } in
    (p, 5, read_is (vector p 5) (0 ∷ 0 ∷ 0 ∷ 11 ∷ 0 ∷ 1 ∷ 97 ∷ 0 ∷ 2 ∷ 98 ∷ 99 ∷ 0 ∷ 1 ∷ 100 ∷ []) refl)
