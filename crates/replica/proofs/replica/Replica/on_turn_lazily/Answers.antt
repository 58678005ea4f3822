use Rattle.std.proofs.Common.{refl}
use Rattle.ritas_core.specs.Machine as core
use Rattle.replica.specs.Handling.{Turn}
use Rattle.replica.proofs.Passing.{passes}
use Rattle.replica.proofs.replica.Replica.on_turn_lazily.Goals as goal

pub returns : goal.returns
returns g c = λ s r k st stands.
    passes s _ _ _ _ core.Turn Turn _ _ _ _ _ _ r k st stands c.if-self.false (record { given = refl; does = refl }) tt c.turn-answer.ensures.tagger c.new-msgs.ensures.items c.turn-answer.ensures.does c.finish.ensures
