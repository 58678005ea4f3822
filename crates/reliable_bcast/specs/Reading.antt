-- 'The value that, at the shortest prefix with such a value, passes a test', in words. The newest call is first, so that
-- a prefix is a tail.
use Rattle.std.specs.Prelude.{◌≡◌, ◌↔◌, ℕ, Bool, true, false, List, ◌∷◌, ◌++◌, Option, Some, None}
use Rattle.ritas_base.specs.History.{Call}

-- v passes after some prefix of h, it alone passes there, and no value passes after a shorter one
pub record IsOnlyAtShortest (test : List Call → List ℕ → Bool) (h : List Call) (v : List ℕ) : Type 0 where
  pub later : List Call
  pub prefix : List Call
  pub whole : later ++ prefix ≡ h
  pub passes : test prefix v ≡ true
  pub only : (w : List ℕ) → test prefix w ≡ true → w ≡ v
  pub none_before : (r : List Call) (c : Call) (b : List Call) → r ++ c ∷ b ≡ prefix → (w : List ℕ) → test b w ≡ false

-- f gives that value, and nothing exactly where no value passes after any prefix
pub record IsTheValue (test : List Call → List ℕ → Bool) (f : List Call → Option (List ℕ)) : Type 0 where
  pub some : (h : List Call) (v : List ℕ) → ((f h ≡ Some v) ↔ IsOnlyAtShortest test h v)
  pub none : (h : List Call) → ((f h ≡ None) ↔ ((r b : List Call) → r ++ b ≡ h → (w : List ℕ) → test b w ≡ false))
