use Rattle.std.proofs.Common.{◌≡◌}
use Rattle.std.specs.Prelude.{map, take}
use Rattle.node_session.specs.Configs.{first_item}
use Rattle.node_session.proofs.configs.first_items.Given as goal

abbrev pub invariant-loop-at : goal.invariant-loop-at
invariant-loop-at l = l.items.items ≡ map first_item (take l.at l.requests)
