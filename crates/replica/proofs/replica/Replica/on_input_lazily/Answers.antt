use Rattle.std.proofs.Common.{refl}
use Rattle.ritas_core.specs.Machine as core
use Rattle.replica.specs.Handling.{Input}
use Rattle.replica.proofs.Passing.{passes}
use Rattle.replica.proofs.replica.Replica.on_input_lazily.Goals as goal

pub returns : goal.returns
returns g c = λ s r k st stands.
    passes s _ _ _ _ (core.Input c.args.bytes.now) (Input c.args.bytes.now) _ _ _ _ _ _ r k st stands c.if-self.false (record { given = refl; does = refl }) tt c.input-answer.ensures.tagger c.new-msgs.ensures.items c.input-answer.ensures.does c.finish.ensures
