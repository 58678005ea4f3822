use Rattle.std.proofs.Common.{true}
use Rattle.std.proofs.lemmas.Result.{IfOk-weaker}
use Rattle.vector_consensus.specs.Going.{AttemptsGoOn}
use Rattle.vector_consensus.specs.Holding.{StartsAttempts}
use Rattle.vector_consensus.proofs.Calls.{starts}
use Rattle.vector_consensus.proofs.hearing.start.Goals as goal

pub returns-clause-ok : goal.returns-clause-ok
returns-clause-ok g c =
    let stands = g.M.MultiBox.stands in
    let rules = g.M.MultiBox.rules in
    let part = c.args.part.now in
    let table = c.args.table.now in
    let old = c.args.tries.now.items in
    let new = c.go_on.new.tries.items in
    let before = c.args.made.now.items in
    let middle = c.push.new.self.items in
    let after = c.go_on.new.made.items in
    let v = c.args.value.now in
    IfOk-weaker c.go_on.result (λ now. AttemptsGoOn stands rules part true table old new middle after now) (λ now. StartsAttempts stands rules part table old new before after now v)
    (λ now goes.
    starts stands rules g.met.M.MultiBox.multi_laws part table old new before middle after now v c.in_ok-value.value c.slot.result
    c.in_ok-push.ensures.items c.slot.ensures c.in_ok-value.ensures goes)
    c.go_on.ensures.ok
