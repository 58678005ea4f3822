use Rattle.std.proofs.Common.{[]}
use Rattle.std.proofs.lemmas.Result.{err_from_is_err_and}
use Rattle.schedule_replay.proofs.played.load.Goals as goal

pub returns-in_err-play-clause-exact : goal.returns-in_err-play-clause-exact
returns-in_err-play-clause-exact g c = λ tells.
    let p = err_from_is_err_and c.from_residual-in_err-play.result c.from_residual-in_err-play.ensures.1 in
    rw (p.1, p.2) (c.in_err-play.ensures.exact tells [] c.in_ok-played.ensures.stands)

pub returns-clause-exact : goal.returns-clause-exact
returns-clause-exact g c = λ tells. c.in_ok-play.ensures.exact tells [] c.in_ok-played.ensures.stands

pub returns-in_err-play-clause-counts : goal.returns-in_err-play-clause-counts
returns-in_err-play-clause-counts g c =
    let p = err_from_is_err_and c.from_residual-in_err-play.result c.from_residual-in_err-play.ensures.1 in
    rw (p.1, p.2) c.in_err-play.ensures.counts

pub returns-clause-end : goal.returns-clause-end
returns-clause-end g c = λ tells. c.in_ok-play.ensures.end tells
