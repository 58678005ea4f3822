use Rattle.std.proofs.Common.{sym, arith}
use Rattle.std.proofs.lemmas.List.{length-take-le, take_all}
use Rattle.observer.proofs.reading.front_of.Goals as goal

pub slice_bounds-result-end : goal.slice_bounds-result-end
slice_bounds-result-end c = sym (length-take-le 16384 c.args.bytes.now (omega (arith, c.if-bytes-gt-LONGEST_LOG_PIECE.true)))

pub returns-else-bytes-gt-LONGEST_LOG_PIECE : goal.returns-else-bytes-gt-LONGEST_LOG_PIECE
returns-else-bytes-gt-LONGEST_LOG_PIECE c = sym (take_all 16384 c.args.bytes.now (omega (arith, c.if-bytes-gt-LONGEST_LOG_PIECE.false)))
