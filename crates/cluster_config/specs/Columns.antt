-- A configuration as a table of lines, and what a text of such lines says: read from above, as a grammar, and its first wrong line.
use Rattle.std.specs.Prelude.{◌≡◌, ◌⊎◌, ◌↔◌, ℕ, zero, suc, ◌+◌, ◌==◌, ◌&&◌, Bool, true, not, List, [], ◌∷◌, ◌++◌, length, Option, Some, Result, Ok, Err, if◌then◌else◌}
use Rattle.cluster_config.specs.Lines.{LinePlace, Reading, ◌>>=◌, first_line, text_end_at, field_at}

-- no line feed is among these bytes
abbrev pub is_one_line : List ℕ → Bool
is_one_line [] = true
is_one_line (b ∷ bs) = not (b == 10) && is_one_line bs

-- nothing more, and what was said; a line: its name, how its value reads, and what follows it; or perhaps nothing more, and
-- perhaps such a line
pub data Column (X : Type 0) : Type 1 where
  Done : X → Column X
  Line : {A : Type 0} (name : List ℕ) → is_one_line name ≡ true → (List ℕ → Option A) → (A → Column X) → Column X
  Perhaps : {A : Type 0} → X → (name : List ℕ) → is_one_line name ≡ true → (List ℕ → Option A) → (A → Column X) → Column X

-- so many lines of this name, and what follows them
unfoldable pub lines_of : {A X : Type 0} (name : List ℕ) → is_one_line name ≡ true → (List ℕ → Option A) → ℕ → (List A → Column X) → Column X
lines_of name one read zero next = next []
lines_of name one read (suc k) next = Line name one read (λ x. lines_of name one read k (λ more. next (x ∷ more)))

-- at most so many lines of this name, and nothing more
unfoldable pub lines_up_to : {A X : Type 0} (name : List ℕ) → is_one_line name ≡ true → (List ℕ → Option A) → ℕ → (List A → X) → Column X
lines_up_to name one read zero said = Done (said [])
lines_up_to name one read (suc k) said = Perhaps (said []) name one read (λ x. lines_up_to name one read k (λ more. said (x ∷ more)))

-- ---- read from above

unfoldable pub read_by : {X : Type 0} → Column X → LinePlace → Reading X
read_by (Done x) s = text_end_at s >>= λ over. Ok (x, over.1)
read_by (Line name one read next) s = field_at name read s >>= λ x. read_by (next x.0) x.1
read_by (Perhaps x name one read next) s = if length s.rest == 0 then Ok (x, s) else (field_at name read s >>= λ y. read_by (next y.0) y.1)

abbrev pub without_place : {X : Type 0} → Reading X → Result X ℕ
without_place (Ok x) = Ok x.0
without_place (Err line) = Err line

-- what a text says, or the number of its first line that is wrong or missing
unfoldable pub read_text : {X : Type 0} → Column X → List ℕ → Result X ℕ
read_text c text = without_place (read_by c (first_line text))

-- ---- as a grammar

-- the text begins with a line of this name, whose value reads as x, and goes on with the rest
pub record BeginsWith {A : Type 0} (name : List ℕ) (read : List ℕ → Option A) (x : A) (rest text : List ℕ) : Type 0 where
  pub value : List ℕ
  pub whole : text ≡ name ++ 32 ∷ value ++ 10 ∷ rest
  pub one_line : is_one_line value ≡ true
  pub reads : read value ≡ Some x

-- the text is of the column's lines, and says x
abbrev pub IsText : {X : Type 0} → Column X → X → List ℕ → Type 0
IsText (Done y) x text = (text ≡ []) × (y ≡ x)
IsText (Line {A} name one read next) x text = (y : A) × (rest : List ℕ) × BeginsWith name read y rest text × IsText (next y) x rest
IsText (Perhaps {A} z name one read next) x text = ((text ≡ []) × (z ≡ x))
    ⊎ ((y : A) × (rest : List ℕ) × BeginsWith name read y rest text × IsText (next y) x rest)

-- ---- the first wrong line

-- the text begins with so many right lines; behind the last line it is right that nothing follows
abbrev pub AreRight : {X : Type 0} → Column X → ℕ → List ℕ → Type 0
AreRight (Done x) zero text = Unit {0}
AreRight (Done x) (suc k) text = text ≡ []
AreRight (Line name one read next) zero text = Unit {0}
AreRight (Line {A} name one read next) (suc k) text = (y : A) × (rest : List ℕ) × BeginsWith name read y rest text × AreRight (next y) k rest
AreRight (Perhaps z name one read next) zero text = Unit {0}
AreRight (Perhaps {A} z name one read next) (suc k) text = (text ≡ [])
    ⊎ ((y : A) × (rest : List ℕ) × BeginsWith name read y rest text × AreRight (next y) k rest)

-- the line of this number, from 1, is the first that is wrong or missing
pub record IsFirstWrongLine {X : Type 0} (c : Column X) (text : List ℕ) (line : ℕ) : Type 0 where
  pub before : ℕ
  pub next : line ≡ before + 1
  pub right : AreRight c before text
  pub wrong : ¬ AreRight c (suc before) text

-- what is read of a text is what it says, line by line, and what it says is read of it; any other text is refused at its first
-- line that is wrong or missing
pub record IsReadRight {X : Type 0} (c : Column X) : Type 0 where
  pub found : (text : List ℕ) (x : X) → read_text c text ≡ Ok x → IsText c x text
  pub only : (text : List ℕ) (x : X) → IsText c x text → read_text c text ≡ Ok x
  pub fault : (text : List ℕ) (line : ℕ) → (read_text c text ≡ Err line) ↔ IsFirstWrongLine c text line
