use Rattle.log_watch.proofs.Going.{not_prepared, not_begun}
use Rattle.log_watch.proofs.watching.watch.Goals as goal

pub returns-in-Err : goal.returns-in-Err
returns-in-Err g c = record { watches = not_prepared _ _ _ _ _ _ _ c.requires.new }

pub returns : goal.returns
returns g c =
    let did = rw (c.n.ensures.value, c.write_query.ensures, c.in-Ok.ensures.plan) at c.in-Err-hand_in.ensures.handed in
    record { watches = not_begun _ _ _ _ _ _ _ _ _ _ _ c.requires.new did c.from.ensures }
