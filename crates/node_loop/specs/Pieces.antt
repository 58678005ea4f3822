-- A text that goes to a tape in pieces.
use Rattle.std.specs.Prelude.{◌≡◌, ℕ, List, ◌++◌}

-- new is old and then a text, but for a piece at its end
pub record TookAllBut (old new text piece : List ℕ) : Type 0 where
  pub done : List ℕ
  pub parts : text ≡ done ++ piece
  pub taken : new ≡ old ++ done
