-- A set of votes as a relation.
use Rattle.std.specs.Prelude.{◌≡◌, ℕ, Bool, true, List, [], ◌∷◌, length, ◌⊎◌, ⊤}

-- the list ys is chosen from the votes, in their order
abbrev pub IsPick : List ℕ → List ℕ → Type 0
IsPick [] vs = ⊤
IsPick (y ∷ ys) [] = ⊥
IsPick (y ∷ ys) (v ∷ vs) = ((y ≡ v) × IsPick ys vs) ⊎ IsPick (y ∷ ys) vs

-- a set of m of the votes that passes the test
pub record PassingSet (test : List ℕ → Bool) (m : ℕ) (vs : List ℕ) : Type 0 where
  pub set : List ℕ
  pub pick : IsPick set vs
  pub size : length set ≡ m
  pub passes : test set ≡ true
