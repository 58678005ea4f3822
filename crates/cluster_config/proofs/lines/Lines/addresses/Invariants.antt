use Rattle.std.proofs.Common.{◌≡◌, ◌+◌, ◌-◌, ◌≤◌, length}
use Rattle.cluster_config.specs.Lines.{fields_at}
use Rattle.cluster_config.specs.Values.{address_in}
use Rattle.cluster_config.proofs.Loops.{with_more}
use Rattle.cluster_config.proofs.lines.Lines.addresses.Given as goal

abbrev pub invariant-loop-addresses : goal.invariant-loop-addresses
invariant-loop-addresses l = record {
  reads : fields_at l.name address_in l.n l.fn.self ≡ with_more l.addresses (fields_at l.name address_in (l.n - length l.addresses) l.self);
  number : l.self.number ≡ l.fn.self.number + length l.addresses;
  within : length l.addresses ≤ l.n;
}

abbrev pub decreases-loop-addresses : goal.decreases-loop-addresses
decreases-loop-addresses l = l.n - length l.addresses
