use Rattle.node_loop.proofs.Chaining.{closing_none, closing_nobody, closing_first}
use Rattle.node_loop.proofs.house.House.due_to_close.Goals as goal

pub returns-in_default : goal.returns-in_default
returns-in_default g c = record { first = λ w es numbers ws p stands. closing_none w c.args.closing es ws c.in_default.is }

pub returns-in_err-at : goal.returns-in_err-at
returns-in_err-at g c = record {
  first = λ w es numbers ws p stands.
      rw c.from_residual.ensures (closing_nobody w c.args.closing es ws c.in-Some.closing c.in-Some.is (c.in_err-at.ensures.least w es numbers ws p stands));
}

pub returns : goal.returns
returns g c = record {
  first = λ w es numbers ws p stands.
      let found = c.in_ok-at.ensures.least w es numbers ws p stands in
      (found.1, closing_first w c.args.closing es ws c.in-Some.closing c.in_ok-at.at found.0 c.in-Some.is found.3);
}
