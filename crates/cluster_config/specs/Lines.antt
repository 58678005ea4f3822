-- Reading a text line by line: a line is a name, a space and a value, and ends with a line feed.
use Rattle.std.specs.Prelude.{◌≡◌, ℕ, zero, suc, ◌+◌, ◌==◌, List, [], ◌∷◌, length, take, drop, Option, Some, None, Result, Ok, Err, option_and_then, if◌then◌else◌}
use Rattle.std.specs.Str.{bytes_eq}
use Rattle.cluster_config.specs.Cuts.{cut_at}
use Rattle.cluster_config.specs.declared.lines.WrongLine.{WrongLine}

-- the number of a line, from 1, and the text from there on
pub record LinePlace : Type 0 where
  pub number : ℕ
  pub rest : List ℕ

abbrev pub first_line : List ℕ → LinePlace
first_line text = record { number = 1; rest = text }

-- what was read, and where the text goes on, or the number of the first line that is wrong or missing
abbrev pub Reading : Type 0 → Type 0
Reading A = Result (A × LinePlace) ℕ

-- read, and go on with what was read
infixl 10 ◌>>=◌
abbrev pub ◌>>=◌ : {A B : Type 0} → Result A ℕ → (A → Result B ℕ) → Result B ℕ
(Ok x) >>= f = f x
(Err line) >>= f = Err line

-- what a call answered, and where it left the text, is what reading gives
abbrev pub GivesLine : {X Y : Type 0} → (X → Y) → Result X WrongLine → LinePlace → Reading Y → Type 0
GivesLine view (Ok x) after reading = reading ≡ Ok (view x, after)
GivesLine view (Err wrong) after reading = reading ≡ Err wrong.line

-- a value, or else this line
abbrev pub or_line : {A : Type 0} → ℕ → Option A → Result A ℕ
or_line line (Some x) = Ok x
or_line line None = Err line

abbrev pub line_from : ℕ → Option (List ℕ × List ℕ) → Reading (List ℕ)
line_from number None = Err number
line_from number (Some x) = Ok (x.0, record { number = number + 1; rest = x.1 })

-- the next line
unfoldable pub line_at : LinePlace → Reading (List ℕ)
line_at s = line_from s.number (cut_at 10 s.rest)

-- nothing follows
abbrev pub text_end_from : ℕ → List ℕ → Reading (Unit {0})
text_end_from number [] = Ok (tt, record { number = number; rest = [] })
text_end_from number (b ∷ rest) = Err number

unfoldable pub text_end_at : LinePlace → Reading (Unit {0})
text_end_at s = text_end_from s.number s.rest

-- what is behind a front
abbrev pub behind : List ℕ → List ℕ → Option (List ℕ)
behind front text = if bytes_eq (take (length front) text) front then Some (drop (length front) text) else None

-- the value of a line of this name
abbrev pub value_in : List ℕ → List ℕ → Option (List ℕ)
value_in name line = option_and_then (behind (32 ∷ [])) (behind name line)

-- the value of the next line, which has this name
unfoldable pub line_value_at : List ℕ → LinePlace → Reading (List ℕ)
line_value_at name s = do
  line ← line_at s
  value ← or_line s.number (value_in name line.0)
  Ok (value, line.1)

-- what the value of the next line reads as
unfoldable pub field_at : {A : Type 0} → List ℕ → (List ℕ → Option A) → LinePlace → Reading A
field_at name read s = do
  value ← line_value_at name s
  x ← or_line s.number (read value.0)
  Ok (x, value.1)

-- what the values of so many lines of this name read as
unfoldable pub fields_at : {A : Type 0} → List ℕ → (List ℕ → Option A) → ℕ → LinePlace → Reading (List A)
fields_at name read zero s = Ok ([], s)
fields_at name read (suc k) s = do
  x ← field_at name read s
  more ← fields_at name read k x.1
  Ok (x.0 ∷ more.0, more.1)

-- what the values of the lines that are left read as, which have this name and are at most so many
unfoldable pub fields_up_to : {A : Type 0} → List ℕ → (List ℕ → Option A) → ℕ → LinePlace → Reading (List A)
fields_up_to name read zero s = text_end_at s >>= λ over. Ok ([], over.1)
fields_up_to name read (suc k) s = if length s.rest == 0 then Ok ([], s)
    else (field_at name read s >>= λ x. fields_up_to name read k x.1 >>= λ more. Ok (x.0 ∷ more.0, more.1))
