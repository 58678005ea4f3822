use Rattle.keyed_channel.specs.Keyed.{tags_of}
use Rattle.ritas_core.specs.Stands.{meaning}
use Rattle.world_model.specs.Steps.{AreFirstReplicas}
use Rattle.world_model.proofs.first.first_replicas.Given as goal

abbrev pub invariant-loop-coin : goal.invariant-loop-coin
invariant-loop-coin g l =
    AreFirstReplicas (meaning g.S.Service.stands g.S.Service.rules g.S.Service.shown g.E.Broadcast.stands g.E.Broadcast.rules g.E.Broadcast.shown g.C.Coin.bits (λ k. k.me) tags_of)
    l.p l.mode l.correct l.keys l.yielded l.places.items
