use Rattle.std.proofs.Common.{◌∙◌, arith}
use Rattle.frame_codec.specs.Limits.{most_ids}
use Rattle.direct_atomic.proofs.Counting.{take_few}
use Rattle.direct_atomic.proofs.list_round.least_ids.Goals as goal

pub returns : goal.returns
returns c = c.split_at.ensures.front ∙ take_few most_ids c.min.result c.args.ids.now (omega arith) (λ less. omega (arith, less))
