use Rattle.std.proofs.Common.{ap, ◌∙◌, arith}
use Rattle.std.proofs.lemmas.Result.{on_err_weaker}
use Rattle.outside.specs.Faults.{count_after}
use Rattle.node_loop.proofs.Pieces.{two_on_ok}
use Rattle.node_loop.proofs.past.put.Goals as goal

pub returns-clause-whole : goal.returns-clause-whole
returns-clause-whole g c =
    let first = c.in_ok-join.ensures.whole in
    two_on_ok c.hand_on.result _ _ _ (λ went none. (went.0 ∙ first.0, λ t base text took. rw none (went.1 t base _ (first.1 t base text took)))) c.hand_on.ensures.whole c.hand_on.ensures.empty

pub returns-clause-front : goal.returns-clause-front
returns-clause-front g c =
    let first = c.in_ok-join.ensures.whole in
    on_err_weaker c.hand_on.result
    (λ stopped. (stopped.0 ∙ ap count_after first.0, omega (arith, first.0, stopped.1), λ t base text took. stopped.2 t base _ (first.1 t base text took))) c.hand_on.ensures.front
