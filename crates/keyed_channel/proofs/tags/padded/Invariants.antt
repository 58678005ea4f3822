use Rattle.std.proofs.Common.{◌≡◌, ◌++◌, map, take, drop, bit_xor}
use Rattle.keyed_channel.proofs.tags.padded.Given as goal

abbrev pub invariant-loop-x : goal.invariant-loop-x
invariant-loop-x l =
    l.x-items ≡ map (λ x. bit_xor x l.byte) (take l.x-index l.initial.x-items) ++ drop l.x-index l.initial.x-items
