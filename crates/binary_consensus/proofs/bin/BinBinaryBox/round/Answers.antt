use Rattle.binary_consensus.specs.Stands.{shows_box}
use Rattle.binary_consensus.proofs.bin.BinBinaryBox.round.Goals as goal

pub returns-clause-rules : goal.returns-clause-rules
returns-clause-rules c = λ at w stands. (shows_box c.args.self.now at w stands).1.round
