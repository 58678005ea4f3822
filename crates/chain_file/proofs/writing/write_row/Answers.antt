use Rattle.std.proofs.Common.{ℕ, List, IsErr, subst, refl}
use Rattle.outside.specs.Writing.{Writes}
use Rattle.outside.specs.declared.source.Failed.{Failed}
use Rattle.chain_file.proofs.Written.{then_at}
use Rattle.chain_file.proofs.writing.write_row.Goals as goal

pub returns : goal.returns
returns g c =
    let payload = c.args.row.now.payload in
    subst (λ (t : List ℕ). Writes {E = Failed} t g.K.Sink.tells (g.K.Sink.taken c.args.sink.now) (g.K.Sink.taken c.write_all-2.new.sink)
    (g.K.Sink.faults c.args.sink.now) (g.K.Sink.faults c.write_all-2.new.sink) c.write_all-2.result (IsErr c.write_all-2.result)) c.row_front.ensures
    (then_at c.row_front.result c.as_slice.result.now c.row_front.result payload refl c.as_slice.ensures _ _ _ _ _ _ _ _ c.in_ok-write_all.ensures c.write_all-2.ensures)
