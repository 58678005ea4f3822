use Rattle.std.proofs.Common.{refl}
use Rattle.node_loop.proofs.Hearing.{if_some_at}
use Rattle.node_loop.proofs.house.House.respond.Goals as goal

pub returns-then-is_deferred-clause-marks : goal.returns-then-is_deferred-clause-marks
returns-then-is_deferred-clause-marks g c = λ w es numbers ws p at stand number opened deferred.
    if_some_at _ c.args.carried c.in-Some.frame c.in-Some.is (c.mark.ensures.marks w es numbers ws p at stand number, refl)

pub returns-else-is_deferred-clause-takes : goal.returns-else-is_deferred-clause-takes
returns-else-is_deferred-clause-takes g c = λ w es numbers at stand number opened deferred.
    if_some_at _ c.args.carried c.in-Some.frame c.in-Some.is (λ below. (refl, c.acknowledge.ensures.note w es numbers at stand number below))
