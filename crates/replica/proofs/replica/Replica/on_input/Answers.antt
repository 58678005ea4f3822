use Rattle.std.proofs.Common.{refl}
use Rattle.replica.specs.Handling.{Input}
use Rattle.replica.proofs.Sealed.{from_none}
use Rattle.replica.proofs.replica.Replica.on_input.Goals as goal

pub returns : goal.returns
returns g c = λ s.
    c.seal.ensures s c.args.self.now (Input c.args.bytes.now) refl
    (from_none _ c.args.self.now _ (Input c.args.bytes.now) c.new-made.result.items _ _ c.new-made.ensures.items (c.on_input_lazily-answer.ensures s))
