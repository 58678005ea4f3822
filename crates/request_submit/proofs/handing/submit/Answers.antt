use Rattle.request_submit.proofs.Going.{not_prepared, not_handed_in}
use Rattle.request_submit.proofs.handing.submit.Goals as goal

pub returns-in-Err : goal.returns-in-Err
returns-in-Err g c = record { submits = not_prepared _ _ _ _ _ _ }

pub returns : goal.returns
returns g c =
    let did = rw (c.n.ensures.value, c.as_slice.ensures, c.in-Ok.ensures.plan, c.in-Ok.ensures.message) at c.in-Err-hand_in.ensures.handed in
    record { submits = not_handed_in _ _ _ _ _ _ _ _ _ _ did c.from.ensures }
