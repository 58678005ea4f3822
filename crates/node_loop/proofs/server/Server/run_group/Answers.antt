use Rattle.std.proofs.Common.{[]}
use Rattle.std.proofs.lemmas.Result.{err_from_is_err_and}
use Rattle.node_loop.proofs.server.Server.run_group.Goals as goal

pub returns-in_err-gather_more-clause-goes : goal.returns-in_err-gather_more-clause-goes
returns-in_err-gather_more-clause-goes g c = λ o run.
    let end = err_from_is_err_and c.from_residual-in_err-gather_more.result c.from_residual-in_err-gather_more.ensures.1 in
    rw end.1 (c.in_err-gather_more.ensures.gathers o (c.in_ok-begin_group.ensures.begins o run) end.0 end.2)

pub returns-in_err-deliver-clause-goes : goal.returns-in_err-deliver-clause-goes
returns-in_err-deliver-clause-goes g c = λ o run.
    let end = err_from_is_err_and c.from_residual-in_err-deliver.result c.from_residual-in_err-deliver.ensures.1 in
    rw end.1 (c.in_err-deliver.ensures.goes o [] (c.in_ok-gather_more.ensures.gathers o (c.in_ok-begin_group.ensures.begins o run)) end.0 end.2)
