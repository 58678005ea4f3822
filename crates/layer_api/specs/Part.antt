-- A layer's words, and the words of an instance inside it: the instance is proposed something once, and hears what is heard
-- at its own slots. Lists have the newest first.
use Rattle.std.specs.Prelude.{ℕ, Bool, List, [], ◌∷◌, ◌++◌, Option, Some, None, if◌then◌else◌}
use Rattle.std.specs.Option.{option_or}
use Rattle.ritas_base.specs.declared.slot.Slot.{Slot}
use Rattle.ritas_base.specs.declared.item.Say.{Say}
use Rattle.layer_api.specs.Words.{Word, Ask, Hear}

-- what was proposed first
abbrev pub proposed : List Word → Option (List ℕ)
proposed [] = None
proposed (Ask v ∷ w) = option_or (proposed w) (Some v)
proposed (Hear s v ∷ w) = proposed w

-- a broadcast to start, where something is there that was not there before
abbrev pub newly : Slot → Option (List ℕ) → Option (List ℕ) → List Say
newly s before None = []
newly s None (Some v) = record { slot = s; value = v } ∷ []
newly s (Some u) (Some v) = []

-- a proposal, where one is there that was not there before
abbrev pub newly_asked : Option (List ℕ) → Option (List ℕ) → List Word
newly_asked before None = []
newly_asked None (Some v) = Ask v ∷ []
newly_asked (Some u) (Some v) = []

-- what is heard at these slots
abbrev pub passed : (Slot → Bool) → Word → List Word
passed takes (Ask v) = []
passed takes (Hear s v) = if takes s then Hear s v ∷ [] else []

-- the words that a word makes for an instance inside, by what is proposed to it and by its slots
abbrev pub part_of : (List Word → Option (List ℕ)) → (Slot → Bool) → List Word → Word → List Word
part_of ask takes w c = newly_asked (ask w) (ask (c ∷ w)) ++ passed takes c

-- all words of the instance
abbrev pub part_words : (List Word → Option (List ℕ)) → (Slot → Bool) → List Word → List Word
part_words ask takes [] = []
part_words ask takes (c ∷ w) = part_of ask takes w c ++ part_words ask takes w

-- what an instance says in some words, after those before
abbrev pub says_in : (List Word → Word → List Say) → List Word → List Word → List Say
says_in says [] before = []
says_in says (d ∷ ds) before = says_in says ds before ++ says (ds ++ before) d
