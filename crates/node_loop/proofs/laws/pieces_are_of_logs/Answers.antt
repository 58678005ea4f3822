use Rattle.node_loop.proofs.PieceReading.{pieces_of_logs}
use Rattle.node_loop.proofs.laws.pieces_are_of_logs.Goals as goal

pub returns : goal.returns
returns g c = record {
  pieces = λ w past start groups is base fits.
      pieces_of_logs g.S.Service.rules g.E.Broadcast.rules (λ w more es i is. c.logs_grow.ensures w more es i is) (λ w es i is correct rows. c.rows_fit.ensures w es i is correct rows)
      c.pieces_are_read.ensures.of_log c.pieces_are_read.ensures.read w is base past start groups fits;
}
