-- A source or a sink over the system.
use Rattle.std.specs.Prelude.{◌≡◌, ◌&&◌, ℕ, nat_le, Result, Ok, Err, if◌then◌else◌}
use Rattle.outside.specs.declared.source.Failed.{Failed}

-- what it goes over, and how many of its calls failed
pub record Adapter (S : Type 0) : Type 0 where
  pub inner : S
  pub faults : ℕ

-- What comes of the answer to a call of what it goes over: the count, or a fault where that was an error, or fewer bytes than it has to
-- take or more than it may.
abbrev pub comes_of : {E : Type 0} → ℕ → ℕ → Result ℕ E → Result ℕ Failed
comes_of least most (Ok count) = if nat_le least count && nat_le count most then Ok count else Err (record {})
comes_of least most (Err e) = Err (record {})

-- it made one call, and this came of the answer to that
pub record ComesOf {E : Type 0} (call : Result ℕ E → Type 0) (least most : ℕ) (result : Result ℕ Failed) : Type 0 where
  pub answer : Result ℕ E
  pub made : call answer
  pub outcome : result ≡ comes_of least most answer
