use Rattle.std.proofs.Common.{◌≡◌, map, take}
use Rattle.keyed_channel.proofs.channel.Channel.new.Given as goal

abbrev pub invariant-loop-j : goal.invariant-loop-j
invariant-loop-j l = map (λ key. key.value) l.hashed.items ≡ take l.j l.keys.row
