-- A fault of the head is that of the whole answer.
use Rattle.std.proofs.Common.{sym}
use Rattle.std.proofs.lemmas.Result.{err_from_is_err_and}
use Rattle.frame_codec.proofs.BodyFaults.{head_fails}
use Rattle.frame_codec.proofs.reading.answer.Goals as goal

pub returns-in_err-kind-clause-exact : goal.returns-in_err-kind-clause-exact
returns-in_err-kind-clause-exact c =
    let p = err_from_is_err_and c.from_residual.result c.from_residual.ensures.1 in
    rw (p.1, p.2) (head_fails c.args.p.now c.args.mode.now c.args.from c.args.bytes.now _ (sym c.in_err-kind.ensures.value))
