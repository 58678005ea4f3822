use Rattle.std.proofs.Common.{◌≡◌}
use Rattle.world_model.proofs.seats.channels.Given as goal

-- the channels so far are those of the keys so far
abbrev pub invariant-loop-keys : goal.invariant-loop-keys
invariant-loop-keys l = l.channels.items ≡ l.yielded
