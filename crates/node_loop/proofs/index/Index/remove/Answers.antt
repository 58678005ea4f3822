use Rattle.std.proofs.Common.{sym, ap, is_some}
use Rattle.std.specs.Prelude.{IsSome}
use Rattle.std.specs.BTreeMap.{get}
use Rattle.std.specs.BTreeSet.{contains}
use Rattle.node_loop.specs.WaitersStanding.{asked_cmp, caller_cmp, is_asked_in}
use Rattle.node_loop.proofs.Indexing.{one_unlisted}
use Rattle.node_loop.proofs.index.Index.remove.Goals as goal

pub returns-in-Some : goal.returns-in-Some
returns-in-Some c = record {
  removes =
      let there : IsSome (get caller_cmp c.args.self.now.by_caller c.args.caller) = ap is_some (sym c.in-Some.ensures.value) in
      one_unlisted c.args.self.now (record { by_caller = c.get_mut.follows.lender c.remove.new.self }) c.args.caller c.args.asked c.remove.new.self (contains asked_cmp c.in-Some.listed.now)
      ((c.get_mut.follows.holds c.remove.new.self).3 there).0 c.remove.ensures.updates.0 (λ a. ap (λ o. is_asked_in o a) c.in-Some.ensures.value);
}
