use Rattle.std.proofs.Common.{refl}
use Rattle.std.specs.Int.RustNames.{count_ones}
use Rattle.base_tests.proofs.values.vector.Goals as goal

pub write_vector-requires-clause-one_each : goal.write_vector-requires-clause-one_each
unfolding count_ones
write_vector-requires-clause-one_each c = rw c.from_mask-places.ensures refl
