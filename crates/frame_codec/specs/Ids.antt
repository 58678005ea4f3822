-- What an identifier list is, in words on the whole list.
use Rattle.std.specs.Prelude.{◌≡◌, ℕ, ◌<◌, ◌≤◌, true, ◌==◌, ◌&&◌, ◌||◌, nat_lt, List, [], ◌∷◌, length, count_by}
use Rattle.std.specs.List.{AllByRecursion}
use Rattle.ritas_base.specs.Limits.{number_limit}
use Rattle.ritas_base.specs.declared.id.Id.{Id}
use Rattle.frame_codec.specs.Limits.{most_ids, share_of}

-- by origin, then by number
abbrev pub IsBelow : Id → Id → Type 0
IsBelow x y = (nat_lt x.origin y.origin || (y.origin == x.origin && nat_lt x.num y.num)) ≡ true

abbrev pub Ascends : List Id → Type 0
Ascends [] = Unit {0}
Ascends (x ∷ []) = Unit {0}
Ascends (x ∷ y ∷ xs) = IsBelow x y × Ascends (y ∷ xs)

abbrev pub of_origin : ℕ → List Id → ℕ
of_origin k xs = count_by (λ x. x.origin == k) xs

-- an identifier list of any shares
pub record AreAnyIds (n : ℕ) (xs : List Id) : Type 0 where
  pub most : length xs ≤ most_ids
  pub in_range : AllByRecursion (λ x. (x.origin < n) × (x.num < number_limit)) xs
  pub ascending : Ascends xs

-- and one in which each origin has an equal share
pub record AreIds (n : ℕ) (xs : List Id) : Type 0 where
  pub most : length xs ≤ most_ids
  pub in_range : AllByRecursion (λ x. (x.origin < n) × (x.num < number_limit)) xs
  pub ascending : Ascends xs
  pub few : (k : ℕ) → of_origin k xs ≤ share_of n
