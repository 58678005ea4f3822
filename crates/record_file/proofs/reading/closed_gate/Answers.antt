use Rattle.std.proofs.Common.{◌∷◌}
use Rattle.record_file.proofs.reading.closed_gate.Goals as goal

pub loop-next-preserved : goal.loop-next-preserved
loop-next-preserved c =
    let rs = c.loop-next.invariant.0 in
    (c.in-Some.field-0-0.now ∷ rs, c.in-Some.ensures.next rs c.loop-next.invariant.1, c.in-Some.ensures.fits.2)
