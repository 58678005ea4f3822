use Rattle.std.proofs.Common.{◌≡◌, map, take}
use Rattle.cluster_config.proofs.views.Addresses.copy.Given as goal

abbrev pub invariant-loop-text : goal.invariant-loop-text
invariant-loop-text l = l.texts ≡ map (λ t. t.now) (take l.text-index l.text-items)
