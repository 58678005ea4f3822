use Rattle.std.proofs.Common.{ap, sym, is_some}
use Rattle.std.specs.Prelude.{IsSome}
use Rattle.std.specs.BTreeMap.{get}
use Rattle.node_loop.specs.WaitersStanding.{asked_cmp}
use Rattle.node_loop.proofs.Indexing.{changed_at}
use Rattle.node_loop.specs.Waiting.{without_conn}
use Rattle.node_loop.proofs.waiting.Waiters.leave_one.Goals as goal

pub returns-in-Some-clause-leaves : goal.returns-in-Some-clause-leaves
returns-in-Some-clause-leaves c =
    let there : IsSome (get asked_cmp c.args.self.now.by_request c.args.asked) = ap is_some (sym c.in-Some.ensures.value) in
    changed_at (without_conn c.args.conn) c.args.self.now.by_request (c.get_mut.follows.lender c.leave.new.conns) c.args.asked c.in-Some.conns.now c.leave.new.conns
    c.in-Some.ensures.value c.leave.ensures.leaves ((c.get_mut.follows.holds c.leave.new.conns).3 there).0
