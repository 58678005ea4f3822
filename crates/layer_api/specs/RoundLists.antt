-- What each replica proposed in a round of consensus, by the words so far, the newest first.
use Rattle.std.specs.Prelude.{ℕ, List, [], ◌∷◌, map, Option, Some, None}
use Rattle.ritas_base.specs.declared.slot.Slot.{Slot}
use Rattle.ritas_base.specs.History.{replicas}
use Rattle.layer_api.specs.Words.{Word, value_at}
use Rattle.layer_api.specs.Multi.{Scope}
use Rattle.layer_api.specs.Proposals.{list_slot}

abbrev pub prop_slot : Scope → ℕ → Slot
prop_slot at k = list_slot at.a k

-- what each replica proposed
abbrev pub props : Scope → List Word → List (Option (List ℕ))
props at h = map (λ k. value_at h (prop_slot at k)) (replicas at.numbers.n)

-- those that are there
abbrev pub present : List (Option (List ℕ)) → List (List ℕ)
present [] = []
present (None ∷ os) = present os
present (Some v ∷ os) = v ∷ present os
