use Rattle.std.proofs.Common.{ap, sym, is_some}
use Rattle.std.specs.Prelude.{IsSome}
use Rattle.std.specs.BTreeMap.{get}
use Rattle.node_loop.specs.WaitersStanding.{caller_cmp, is_asked_in}
use Rattle.node_loop.proofs.Indexing.{popped, some_first}
use Rattle.node_loop.proofs.index.Index.pop.Goals as goal

pub returns-in-Some-clause-removes : goal.returns-in-Some-clause-removes
returns-in-Some-clause-removes c =
    let there : IsSome (get caller_cmp c.args.self.now.by_caller c.args.caller) = ap is_some (sym c.in-Some.ensures.value) in
    popped c.args.self.now (record { by_caller = c.get_mut.follows.lender c.pop_first.new.self }) c.args.caller c.pop_first.new.self c.in-Some.listed.now
    c.pop_first.result ((c.get_mut.follows.holds c.pop_first.new.self).3 there).0 (λ a. ap (λ o. is_asked_in o a) c.in-Some.ensures.value)
    c.pop_first.ensures.unchanged (some_first c.pop_first.new.self c.in-Some.listed.now c.pop_first.result c.pop_first.ensures.updates)
