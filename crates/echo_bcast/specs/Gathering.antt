-- Places for what replicas give: there is one for each of them, or none at all before anybody gave something.
use Rattle.std.specs.Prelude.{◌≡◌, ◌⊎◌, ℕ, List, [], ◌∷◌, length, replicate, Option, None}

-- what each of n replicas gave
abbrev pub gathered : ℕ → List (Option (List ℕ)) → List (Option (List ℕ))
gathered n [] = replicate n None
gathered n (place ∷ places) = place ∷ places

abbrev pub HasPlaces : ℕ → List (Option (List ℕ)) → Type 0
HasPlaces n places = (places ≡ []) ⊎ (length places ≡ n)
