use Rattle.std.proofs.Common.{refl}
use Rattle.std.specs.Int.RustNames.{count_ones}
use Rattle.base_tests.proofs.values.column.Goals as goal

pub write_column-requires : goal.write_column-requires
unfolding count_ones
write_column-requires c = rw c.from_mask-places.ensures refl
