use Rattle.std.proofs.lemmas.Bool.{both_ways}
use Rattle.node_loop.proofs.Overfull.{overflow_is}
use Rattle.node_loop.proofs.house.House.overflow.Goals as goal

pub returns-in_err-at : goal.returns-in_err-at
returns-in_err-at g c = record {
  first = λ w es numbers ws p stands. rw c.from_residual.ensures (c.in_err-at.ensures.least w es numbers ws p stands);
}

pub returns-in_err-place_of : goal.returns-in_err-place_of
returns-in_err-place_of g c = record {
  first = λ w es numbers ws p stands.
      let found = c.in_ok-at.ensures.least w es numbers ws p stands in
      absurd (both_ways (w.is_correct c.in_ok-at.at) (c.in_err-place_of.ensures.place w es numbers stands.here) found.1);
}

pub returns : goal.returns
returns g c = record {
  first = λ w es numbers ws p stands.
      let found = c.in_ok-at.ensures.least w es numbers ws p stands in
      let place = c.in_ok-place_of.ensures.place w es numbers stands.here in
      overflow_is w p c.in_ok-at.at found.0 c.overfull_at.result found.2 found.3
      (c.overfull_at.ensures.over w es numbers ws p c.in_ok-at.at stands place.1);
}
