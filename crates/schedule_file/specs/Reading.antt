-- A language for reading a text from the left, up to its first fault of a type F.
use Rattle.std.specs.Prelude.{◌≡◌, ℕ, Bool, true, false, List, Result, Ok, Err}

-- a place in a text, and the bytes from there on
pub record Spot : Type 0 where
  pub at : ℕ
  pub rest : List ℕ

-- the start of a text
abbrev pub text_start : List ℕ → Spot
text_start bytes = record { at = 0; rest = bytes }

-- read, and go on with what was read
infixl 10 ◌>>=◌
abbrev pub ◌>>=◌ : {A B F : Type 0} → Result A F → (A → Result B F) → Result B F
(Ok x) >>= f = f x
(Err e) >>= f = Err e

-- a condition, and the fault where it doesn't hold
abbrev pub test : {F : Type 0} → Bool → F → Result (Unit {0}) F
test true f = Ok tt
test false f = Err f

-- What a call answered is what reading gives, but for faults that are not the text's: at those, nothing is said.
abbrev pub FailsBut : {Y F : Type 0} → (F → Bool) → F → Result Y F → Type 0
FailsBut is_other e reading = is_other e ≡ false → reading ≡ Err e

abbrev pub GivesBut : {X Y F : Type 0} → (F → Bool) → (X → Y) → Result X F → Spot → Result (Y × Spot) F → Type 0
GivesBut is_other view (Ok x) after reading = reading ≡ Ok (view x, after)
GivesBut is_other view (Err e) after reading = FailsBut is_other e reading
