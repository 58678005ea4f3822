use Rattle.std.proofs.Common.{ap, sym, ◌∙◌, length, arith}
use Rattle.std.proofs.lemmas.List.{length-take, take_all}
use Rattle.observer.specs.Reading.{piece_left}
use Rattle.observer.proofs.Right.{whole_from}
use Rattle.observer.proofs.reading.form_fault.Goals as goal

pub overflow_cast-result : goal.overflow_cast-result
overflow_cast-result c =
    let long = ap length c.front_of-short.ensures ∙ length-take 16384 c.args.bytes.now in
    omega (arith, long)

pub returns-else-bytes-gt-LONGEST_LOG_PIECE-clause-whole : goal.returns-else-bytes-gt-LONGEST_LOG_PIECE-clause-whole
returns-else-bytes-gt-LONGEST_LOG_PIECE-clause-whole c =
    let short = c.front_of-short.ensures ∙ take_all 16384 c.args.bytes.now (omega (arith, c.if-bytes-gt-LONGEST_LOG_PIECE.false)) in
    whole_from c.args.n c.args.bytes.now (ap (piece_left c.args.n) (sym short) ∙ sym c.in-None.ensures.value)
