use Rattle.std.proofs.lemmas.Result.{err_from_is_err_and}
use Rattle.schedule_drive.proofs.making.make.Goals as goal

pub returns-in_err-play : goal.returns-in_err-play
returns-in_err-play g c =
    let q = err_from_is_err_and c.from_residual-in_err-play.result c.from_residual-in_err-play.ensures.1 in
    rw (q.1, q.2) (c.in_err-play.ensures c.args.what c.in_ok-stage.ensures)

pub returns : goal.returns
returns g c = c.finish.ensures c.args.what _ (c.in_ok-play.ensures c.args.what c.in_ok-stage.ensures)
