use Rattle.ritas_core.proofs.OneCast.{digest_starts}
use Rattle.ritas_core.proofs.cast.Cast.start.Goals as goal

pub returns-in-Digest : goal.returns-in-Digest
returns-in-Digest g c =
    let e = g.E.Broadcast in
    λ route. digest_starts e.stands e.rules e.live e.shown route _ _ _ _ _ _ c.in-Digest.is _ _ c.start-in-Digest.ensures
