use Rattle.std.proofs.Common.{◌≡◌, ◌-◌, ◌++◌, map, take, replicate}
use Rattle.ritas_base.specs.Bytes.{zero_key}
use Rattle.keyed_channel.specs.Epochs.{epoch_key}
use Rattle.keyed_channel.proofs.keys.epoch_row.Given as goal

abbrev pub invariant-loop-j : goal.invariant-loop-j
invariant-loop-j l = l.row ≡ map (epoch_key l.session l.epoch) (take l.j l.keys) ++ replicate (31 - l.j) zero_key
