use Rattle.std.proofs.Common.{◌≡◌, ◌+◌, ◌-◌, ◌≤◌, length}
use Rattle.cluster_config.specs.Lines.{fields_up_to}
use Rattle.cluster_config.specs.Cluster.{most_requests}
use Rattle.cluster_config.specs.Values.{request_of_line}
use Rattle.cluster_config.proofs.Loops.{with_more}
use Rattle.cluster_config.proofs.lines.Lines.requests.Given as goal

abbrev pub invariant-loop-self : goal.invariant-loop-self
invariant-loop-self l = record {
  reads : fields_up_to l.name (request_of_line l.n) most_requests l.fn.self ≡ with_more l.requests (fields_up_to l.name (request_of_line l.n) (most_requests - length l.requests) l.self);
  number : l.self.number ≡ l.fn.self.number + length l.requests;
  within : length l.requests ≤ most_requests;
}

abbrev pub decreases-loop-self : goal.decreases-loop-self
decreases-loop-self l = most_requests - length l.requests
