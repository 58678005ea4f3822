-- Runs of a layer's values, one at each correct replica: each word meets its conditions, what is heard at a slot is what all
-- correct replicas heard there, and it was said there before by its origin where that is correct. Services and boxes have this
-- one notion of a run.
use Rattle.std.specs.Prelude.{◌≡◌, ℕ, Bool, true, List, [], ◌∷◌, Some, ⊤}
use Rattle.ritas_base.specs.declared.item.Say.{Say}
use Rattle.layer_api.specs.Runs.{ReplicaStep, calls_of, Has}
use Rattle.layer_api.specs.Words.{Word, Ask, Hear, AllMet, HasSay, value_at}

-- the values of one instance: what each replica's said in its words, and when a word may come to it
pub record Play : Type 1 where
  pub said : ℕ → List Word → List Say
  pub may : ℕ → List Word → Word → Type 0

-- each of a replica's words met its conditions
abbrev pub Met : Play → ℕ → List Word → Type 0
Met g i w = AllMet (g.may i) w

-- the value is what all correct replicas heard at the slot, and was said there by its origin where that is correct
pub record IsGenuine (g : Play) (is_correct : ℕ → Bool) (steps : List (ReplicaStep Word)) (y : Say) : Type 0 where
  pub same : (j : ℕ) (u : List ℕ) → is_correct j ≡ true → value_at (calls_of j steps) y.slot ≡ Some u → u ≡ y.value
  pub said : is_correct y.slot.origin ≡ true → HasSay (g.said y.slot.origin (calls_of y.slot.origin steps)) y

-- what a word brings is genuine
abbrev pub Brings : Play → (ℕ → Bool) → List (ReplicaStep Word) → Word → Type 0
Brings g is_correct steps (Ask v) = ⊤
Brings g is_correct steps (Hear s v) = IsGenuine g is_correct steps (record { slot = s; value = v })

-- a word of replica i after these steps
abbrev pub IsFed : Play → (ℕ → Bool) → List (ReplicaStep Word) → ℕ → Word → Type 0
IsFed g is_correct steps i c = g.may i (calls_of i steps) c × Brings g is_correct steps c

abbrev pub IsFedRun : Play → (ℕ → Bool) → List (ReplicaStep Word) → Type 0
IsFedRun g is_correct [] = ⊤
IsFedRun g is_correct (x ∷ xs) = (is_correct x.who ≡ true) × IsFed g is_correct xs x.who x.call × IsFedRun g is_correct xs

-- all that correct replicas proposed is equal
abbrev pub ProposeOne : (ℕ → Bool) → List (ReplicaStep Word) → Type 0
ProposeOne is_correct steps =
    (j k : ℕ) (v u : List ℕ) → is_correct j ≡ true → is_correct k ≡ true → Has (calls_of j steps) (Ask v) → Has (calls_of k steps) (Ask u) → v ≡ u
