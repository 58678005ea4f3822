use Rattle.ritas_core.proofs.Verdicts.{takable_from, givable_from}
use Rattle.ritas_core.proofs.Lookup.{found_repeat}
use Rattle.ritas_core.proofs.laws.verdict_laws.Goals as goal

pub returns : goal.returns
returns c = record { takable = takable_from; givable = givable_from; repeats = found_repeat }
