use Rattle.world_model.proofs.Stopped.{lost_is_taken, equal_rows, one_prefix}
use Rattle.world_model.proofs.laws.stopped_between.Goals as goal

pub returns : goal.returns
returns c = record { took = lost_is_taken; same = equal_rows; one = one_prefix }
