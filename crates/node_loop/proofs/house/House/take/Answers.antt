use Rattle.std.proofs.Common.{sym, subst, OnErr}
use Rattle.std.proofs.lemmas.Result.{on_ok_weaker}
use Rattle.outside.specs.declared.link.LinkItem.TheVariants as items
use Rattle.node_loop.specs.Queries.{ItemFits}
use Rattle.node_loop.specs.Wanting.{ItemMayWant}
use Rattle.node_loop.proofs.Hearing.{same_item}
use Rattle.node_loop.proofs.house.House.take.Goals as goal

pub returns-in-Frame-clause-comes : goal.returns-in-Frame-clause-comes
returns-in-Frame-clause-comes g c = λ w es numbers ws p stand.
    on_ok_weaker c.hear.result
    (same_item _ w es numbers c.hear.new.self c.hear.new.output ws p (items.Frame c.in-Frame.to c.in-Frame.bytes) c.args.item (sym c.in-Frame.is))
    (c.hear.ensures.comes w es numbers ws p stand)

pub returns-in-Up-clause-comes : goal.returns-in-Up-clause-comes
returns-in-Up-clause-comes g c = λ w es numbers ws p stand.
    same_item _ w es numbers c.up.new.self c.up.new.output ws p (items.Up c.in-Up.at c.in-Up.peer) c.args.item (sym c.in-Up.is) (c.up.ensures.comes w es numbers ws p stand)

pub returns-in-Client-clause-fits : goal.returns-in-Client-clause-fits
returns-in-Client-clause-fits g c = λ w es numbers stand. subst (λ x. ItemFits w es x) (sym c.in-Client.is) (c.ask.ensures.fits w es numbers stand)

pub returns-in-Frame-clause-memory : goal.returns-in-Frame-clause-memory
returns-in-Frame-clause-memory g c = λ w es numbers ws p stand.
    subst (λ x. OnErr c.hear.result (ItemMayWant w es x ws)) (sym c.in-Frame.is) (c.hear.ensures.memory w es numbers stand.here)

pub returns-in-Client-clause-memory : goal.returns-in-Client-clause-memory
returns-in-Client-clause-memory g c = λ w es numbers ws p stand.
    subst (λ x. OnErr c.ask.result (ItemMayWant w es x ws)) (sym c.in-Client.is) (c.ask.ensures.memory w es numbers ws p stand)
