use Rattle.std.proofs.Common.{◌++◌, length, ap}
use Rattle.std.proofs.lemmas.List.{drop-replicate}
use Rattle.ritas_base.specs.Bytes.{zero_key}
use Rattle.keyed_channel.proofs.keys.filled_row.Goals as goal

pub returns : goal.returns
returns c = rw c.copy_from_slice.ensures.after (ap (λ rest. c.args.keys.now ++ rest) (drop-replicate (length c.args.keys.now) 31 zero_key))
