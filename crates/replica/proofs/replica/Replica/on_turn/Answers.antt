use Rattle.std.proofs.Common.{refl}
use Rattle.replica.specs.Handling.{Turn}
use Rattle.replica.proofs.Sealed.{from_none}
use Rattle.replica.proofs.replica.Replica.on_turn.Goals as goal

pub returns : goal.returns
returns g c = λ s.
    c.seal.ensures s c.args.self.now Turn refl
    (from_none _ c.args.self.now _ Turn c.new-made.result.items _ _ c.new-made.ensures.items (c.on_turn_lazily-answer.ensures s))
