use Rattle.std.proofs.lemmas.Bool.{both_ways}
use Rattle.node_loop.specs.Resending.{peers_due}
use Rattle.node_loop.proofs.Wishing.{due_first, not_none}
use Rattle.node_loop.proofs.house.House.least_due.Goals as goal

pub returns-in_err-at : goal.returns-in_err-at
returns-in_err-at g c = record {
  first = λ w es numbers ws p stands. rw c.from_residual.ensures (c.in_err-at.ensures.least w es numbers ws p stands);
}

pub returns-in_err-place_of : goal.returns-in_err-place_of
returns-in_err-place_of g c = record {
  first = λ w es numbers ws p stands.
      let found = c.in_ok-at.ensures.least w es numbers ws p stands in
      absurd (both_ways (w.is_correct c.in_ok-at.at) (c.in_err-place_of.ensures.place w es numbers stands.here) found.1);
}

pub returns-in_err-peer : goal.returns-in_err-peer
returns-in_err-peer g c = record {
  first = λ w es numbers ws p stands.
      let found = c.in_ok-at.ensures.least w es numbers ws p stands in
      let place = c.in_ok-place_of.ensures.place w es numbers stands.here in
      absurd (not_none (peers_due w es p c.in_ok-at.at) found.2 (c.in_err-peer.ensures.first w es numbers ws p c.in_ok-at.at stands place.1));
}

pub returns : goal.returns
returns g c = record {
  first = λ w es numbers ws p stands.
      let found = c.in_ok-at.ensures.least w es numbers ws p stands in
      let place = c.in_ok-place_of.ensures.place w es numbers stands.here in
      let first = c.in_ok-peer.ensures.first w es numbers ws p c.in_ok-at.at stands place.1 in
      due_first w es p c.in_ok-at.at c.in_ok-peer.peer first.0 found.0 first.1 found.3;
}
