use Rattle.std.proofs.Common.{refl}
use Rattle.replica.specs.Handling.{Frame}
use Rattle.replica.proofs.Isolated.{isolated}
use Rattle.replica.proofs.Sealed.{from_none}
use Rattle.replica.proofs.replica.Replica.on_frame.Goals as goal

pub returns-clause-does : goal.returns-clause-does
returns-clause-does g c = λ s.
    c.seal.ensures s c.args.self.now (Frame c.args.bytes.now) refl
    (from_none _ c.args.self.now _ (Frame c.args.bytes.now) c.new-made.result.items _ _ c.new-made.ensures.items (c.on_frame_lazily-answer.ensures.does s))

pub returns-clause-isolated : goal.returns-clause-isolated
returns-clause-isolated g c = λ s. isolated _ c.args.self.now c.seal.new.self c.args.bytes.now c.args.out.now.items c.seal.new.out.items c.seal.result
    (returns-clause-does g c s)
