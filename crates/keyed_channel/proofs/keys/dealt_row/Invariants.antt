use Rattle.std.proofs.Common.{◌≡◌, ◌-◌, ◌++◌, replicate}
use Rattle.ritas_base.specs.Bytes.{zero_key}
use Rattle.keyed_channel.specs.Keyed.{dealt_keys}
use Rattle.keyed_channel.proofs.keys.dealt_row.Given as goal

abbrev pub invariant-loop-j : goal.invariant-loop-j
invariant-loop-j l = l.row ≡ dealt_keys l.master l.session l.j l.me ++ replicate (31 - l.j) zero_key
