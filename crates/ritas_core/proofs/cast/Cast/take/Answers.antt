use Rattle.ritas_core.proofs.OneCast.{plain_takes, digest_takes}
use Rattle.ritas_core.proofs.cast.Cast.take.Goals as goal

pub returns-in-Plain : goal.returns-in-Plain
returns-in-Plain g c =
    let e = g.E.Broadcast in
    λ route. plain_takes e.stands e.rules e.live e.shown route _ _ _ _ _ _ c.in-Plain.is _ _ c.take.ensures

pub returns-in-Digest : goal.returns-in-Digest
returns-in-Digest g c =
    let e = g.E.Broadcast in
    λ route. digest_takes e.stands e.rules e.live e.shown route _ _ _ _ _ _ c.in-Digest.is _ _ c.take-in-Digest.ensures
