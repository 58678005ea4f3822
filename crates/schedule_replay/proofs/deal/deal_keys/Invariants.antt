use Rattle.std.proofs.Common.{◌≡◌}
use Rattle.std.specs.Prelude.{map}
use Rattle.std.specs.List.{range_with_len}
use Rattle.schedule_replay.specs.Layers.{dealt_to}
use Rattle.schedule_replay.proofs.deal.deal_keys.Given as goal

abbrev pub invariant-loop-i : goal.invariant-loop-i
invariant-loop-i l = l.keys.items ≡ map (dealt_to l.header) (range_with_len 0 l.i)
