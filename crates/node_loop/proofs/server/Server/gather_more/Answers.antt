use Rattle.std.proofs.Common.{[], arith}
use Rattle.node_loop.proofs.Gathering.{over_enough, over_many}
use Rattle.node_loop.proofs.Serverwise.{same_self}
use Rattle.node_loop.proofs.server.Server.gather_more.Goals as goal

pub loop-init : goal.loop-init
loop-init g c = record { same = same_self c.args.self.now; gathers = λ o run. run }

pub returns-then-not-goes_on-clause-gathers : goal.returns-then-not-goes_on-clause-gathers
returns-then-not-goes_on-clause-gathers g c = λ o first.
    let pace = c.loop.self.pace in
    let run = c.loop.invariant.gathers o first in
    record {
      many = c.loop.counter;
      within = omega (arith, c.loop.auto.counter-end);
      run = run;
      over = over_enough _ o.world o.past o.numbers _ o.base pace.limits o.start _ _ _ pace.taken [] c.loop.counter run (c.goes_on.ensures.stops c.if-not-goes_on.true);
    }

pub returns-clause-gathers : goal.returns-clause-gathers
returns-clause-gathers g c = λ o first.
    let pace = c.loop.self.pace in
    let run = c.loop.invariant.gathers o first in
    record {
      many = c.loop.counter;
      within = omega (arith, c.loop.auto.counter-end);
      run = run;
      over = over_many _ o.world o.past o.numbers _ o.base pace.limits o.start _ _ _ pace.taken [] c.loop.counter run (omega (arith, c.loop.auto.counter-end, c.loop-test.false));
    }
