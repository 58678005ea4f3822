-- How a text is written to a sink.
use Rattle.std.specs.Prelude.{◌≡◌, ◌≤◌, ℕ, List, ◌++◌, Bool, true, Result, OnOk}
use Rattle.outside.specs.Faults.{CountsFault, Rose}

-- new is old and then a front of the text
pub record TookFront (old new text : List ℕ) : Type 0 where
  pub front : List ℕ
  pub rest : List ℕ
  pub parts : text ≡ front ++ rest
  pub taken : new ≡ old ++ front

-- At Ok the sink took the whole text, and in any case a front of it. Where this call fails, one of the sink's did, and else none.
pub record Writes {E : Type 0} (text : List ℕ) (tells : Bool) (old new : List ℕ) (before now : ℕ) (result : Result (Unit {0}) E) (failed : Type 0) : Type 0 where
  pub whole : tells ≡ true → OnOk result (new ≡ old ++ text)
  pub front : tells ≡ true → TookFront old new text
  pub later : before ≤ now
  pub cause : failed → Rose before now
  pub counts : CountsFault before now result failed
