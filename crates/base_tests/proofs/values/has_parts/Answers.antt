use Rattle.std.proofs.Common.{refl, [], ◌∷◌}
use Rattle.std.specs.Int.RustNames.{count_ones}
use Rattle.ritas_base.specs.Numbers.{Numbers}
use Rattle.frame_codec.specs.Grammar.{class3, vect}
use Rattle.frame_codec.proofs.Formats.{read_is}
use Rattle.base_tests.proofs.values.has_parts.Goals as goal

pub vect_parts-requires : goal.vect_parts-requires
unfolding vect class3 count_ones
vect_parts-requires c =
    let p : Numbers = record { n = 4; f = 1 } in
    (p, 4, read_is (vect p 4) (0 ∷ 0 ∷ 0 ∷ 3 ∷ 120 ∷ 121 ∷ []) refl)
