use Rattle.std.proofs.Common.{ℕ, List, ◌-◌, ◌<◌, length}
use Rattle.record_file.specs.Reading.{AtGate}
use Rattle.record_file.proofs.reading.closed_gate.Given as goal

abbrev pub invariant-loop-next : goal.invariant-loop-next
invariant-loop-next l = (rs : List (List ℕ)) × AtGate l.form l.file l.at rs × (l.at < length l.file)

abbrev pub decreases-loop-next : goal.decreases-loop-next
decreases-loop-next l = length l.file - l.at
