use Rattle.std.proofs.lemmas.Result.{IfOk-weaker}
use Rattle.vector_consensus.specs.Going.{AttemptsGoOn}
use Rattle.vector_consensus.specs.Holding.{FollowsTry}
use Rattle.vector_consensus.proofs.Calls.{near_lost, near_after, follows_try}
use Rattle.vector_consensus.proofs.hearing.hear_try.Goals as goal

pub returns-in_err-hear_in-clause-near : goal.returns-in_err-hear_in-clause-near
returns-in_err-hear_in-clause-near g c =
    near_lost g.M.MultiBox.stands g.M.MultiBox.rules g.met.M.MultiBox.multi_laws g.M.MultiBox.live g.M.MultiBox.shown g.met.M.MultiBox.shows c.args.part.now (g.C.Coin.bits c.args.coin.now)
    c.args.own c.args.table.now c.args.tries.now.items c.hear_in.new.tries.items c.args.slot.now c.args.value.now c.args.made.now.items c.hear_in.new.made.items c.hear_in.result c.hear_in.ensures

pub returns-clause-near : goal.returns-clause-near
returns-clause-near g c =
    near_after g.M.MultiBox.stands g.M.MultiBox.rules g.met.M.MultiBox.multi_laws g.M.MultiBox.live g.M.MultiBox.shown g.met.M.MultiBox.shows c.args.part.now (g.C.Coin.bits c.args.coin.now)
    c.args.own c.args.table.now c.args.tries.now.items c.hear_in.new.tries.items c.args.slot.now c.args.value.now c.args.made.now.items c.hear_in.new.made.items c.hear_in.result
    c.go_on.new.tries.items c.hear_in.ensures c.go_on.ensures.keeps

pub returns-clause-ok : goal.returns-clause-ok
returns-clause-ok g c =
    let stands = g.M.MultiBox.stands in
    let rules = g.M.MultiBox.rules in
    let bits = g.C.Coin.bits c.args.coin.now in
    let part = c.args.part.now in
    let own = c.args.own in
    let table = c.args.table.now in
    let old = c.args.tries.now.items in
    let middle = c.hear_in.new.tries.items in
    let new = c.go_on.new.tries.items in
    let before = c.args.made.now.items in
    let now = c.hear_in.new.made.items in
    let after = c.go_on.new.made.items in
    let s = c.args.slot.now in
    let v = c.args.value.now in
    IfOk-weaker c.go_on.result (λ next. AttemptsGoOn stands rules part own table middle new now after next) (λ next. FollowsTry stands rules part bits own table old new before after next s v)
    (λ next goes.
    follows_try stands rules g.met.M.MultiBox.multi_laws g.M.MultiBox.live g.M.MultiBox.shown g.met.M.MultiBox.shows part bits own table old middle s v before now after new next
    c.in_ok-hear_in.ensures goes) c.go_on.ensures.ok
