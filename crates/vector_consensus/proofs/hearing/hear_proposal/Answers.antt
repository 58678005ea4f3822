use Rattle.std.proofs.lemmas.Result.{IfOk-weaker}
use Rattle.vector_consensus.specs.Going.{AttemptsGoOn}
use Rattle.vector_consensus.specs.Holding.{FollowsProposal}
use Rattle.vector_consensus.proofs.Calls.{follows_proposal}
use Rattle.vector_consensus.proofs.hearing.hear_proposal.Goals as goal

pub returns-clause-ok : goal.returns-clause-ok
returns-clause-ok g c =
    let stands = g.M.MultiBox.stands in
    let rules = g.M.MultiBox.rules in
    let part = c.args.part.now in
    let own = c.args.own in
    let table = c.args.table.now in
    let kept = c.hear.new.self in
    let old = c.args.tries.now.items in
    let new = c.go_on.new.tries.items in
    let before = c.args.made.now.items in
    let after = c.go_on.new.made.items in
    let k = c.args.k in
    let v = c.args.value.now in
    IfOk-weaker c.go_on.result (λ now. AttemptsGoOn stands rules part own kept old new before after now) (λ now. FollowsProposal stands rules part own table kept old new before after now k v)
    (λ now goes. follows_proposal stands rules g.met.M.MultiBox.multi_laws part own table kept old new before after now k v c.in_ok-hear.ensures goes) c.go_on.ensures.ok
