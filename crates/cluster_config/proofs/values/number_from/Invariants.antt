use Rattle.std.proofs.Common.{◌≡◌, drop}
use Rattle.cluster_config.specs.Values.{number_from}
use Rattle.cluster_config.proofs.values.number_from.Given as goal

abbrev pub invariant-loop-digit : goal.invariant-loop-digit
invariant-loop-digit l = number_from l.number (drop l.digit-index l.digits) ≡ number_from l.fn.first l.digits
