-- What is read of lines that several columns have, and of what follows them.
use Rattle.std.proofs.Common.{◌≡◌, ℕ, zero, suc, ◌==◌, Bool, true, false, List, [], ◌∷◌, length, Option, Result, Ok, Err, codes, refl, ◌∙◌, if◌then◌else◌}
use Rattle.ritas_base.specs.Numbers.{Numbers}
use Rattle.ritas_base.specs.declared.mode.FrameVersion.{FrameVersion}
use Rattle.cluster_config.specs.Values.{most, number_in}
use Rattle.cluster_config.specs.Lines.{LinePlace, Reading, ◌>>=◌, text_end_at, field_at, fields_at, fields_up_to}
use Rattle.cluster_config.specs.Columns.{Column, is_one_line, lines_of, lines_up_to, read_by}
use Rattle.cluster_config.specs.Front.{session_lines, numbers_lines, copies_line, journal_line, session_at, numbers_lines_at, copies_at, journal_at}

then_read : {A B C : Type 0} (r : Result A ℕ) (f : A → Result B ℕ) (g : B → Result C ℕ) → (r >>= λ x. f x >>= g) ≡ ((r >>= f) >>= g)
then_read (Ok x) f g = refl
then_read (Err line) f g = refl

-- the session behind a version
abbrev and_session : FrameVersion → LinePlace → Reading (FrameVersion × ℕ)
and_session version s = field_at (codes "session") (number_in 0 most) s >>= λ session. Ok ((version, session.0), session.1)

pub read_session : {X : Type 0} (next : FrameVersion → ℕ → Column X) (s : LinePlace) → read_by (session_lines next) s ≡ (session_at s >>= λ x. read_by (next x.0.0 x.0.1) x.1)
unfolding read_by session_lines session_at
read_session {X} next s = go (field_at _ _ s)
  where
    go : (r : Reading FrameVersion) → (r >>= λ x. field_at (codes "session") (number_in 0 most) x.1 >>= λ y. read_by (next x.0 y.0) y.1)
        ≡ ((r >>= λ x. and_session x.0 x.1) >>= λ x. read_by (next x.0.0 x.0.1) x.1)
    go (Err line) = refl
    go (Ok x) = then_read (field_at (codes "session") (number_in 0 most) x.1) (λ y. Ok ((x.0, y.0), y.1)) (λ y. read_by (next y.0.0 y.0.1) y.1)

pub read_numbers : {X : Type 0} (next : Numbers → Column X) (s : LinePlace) → read_by (numbers_lines next) s ≡ (numbers_lines_at s >>= λ x. read_by (next x.0) x.1)
unfolding read_by numbers_lines numbers_lines_at
read_numbers next s = then_read (field_at _ _ s) _ _

-- this was said, and nothing follows
abbrev and_over : {X : Type 0} → X → LinePlace → Reading X
and_over x s = text_end_at s >>= λ over. Ok (x, over.1)

abbrev unless_over : {X : Type 0} → Bool → X → LinePlace → Reading X → Reading X
unless_over b x s more = if b then Ok (x, s) else more

-- what is said of a last line, or of none
last_read : {A X : Type 0} (none : A) (said : A → X) (s : LinePlace) (b : Bool) (r : Reading A)
    → unless_over b (said none) s (r >>= λ x. and_over (said x.0) x.1) ≡ (unless_over b none s (r >>= λ x. and_over x.0 x.1) >>= λ x. Ok (said x.0, x.1))
last_read none said s true r = refl
last_read none said s false (Err line) = refl
last_read none said s false (Ok x) = then_read (text_end_at x.1) (λ over. Ok (x.0, over.1)) (λ y. Ok (said y.0, y.1))

-- perhaps the copies, and nothing more
pub read_copies : {X : Type 0} (n : ℕ) (said : ℕ → X) (s : LinePlace) → read_by (copies_line n said) s ≡ (copies_at n s >>= λ x. Ok (said x.0, x.1))
unfolding read_by copies_line copies_at
read_copies n said s = last_read 1 said s (length s.rest == 0) (field_at _ _ s)

-- perhaps whether a journal is kept, and nothing more
pub read_journal : {X : Type 0} (said : Bool → X) (s : LinePlace) → read_by (journal_line said) s ≡ (journal_at s >>= λ x. Ok (said x.0, x.1))
unfolding read_by journal_line journal_at
read_journal said s = last_read false said s (length s.rest == 0) (field_at _ _ s)

abbrev with_first : {A : Type 0} → A → Reading (List A) → Reading (List A)
with_first x r = r >>= λ more. Ok (x ∷ more.0, more.1)

-- so many lines, one after the other
pub read_lines : {A X : Type 0} (name : List ℕ) (one : is_one_line name ≡ true) (read : List ℕ → Option A) (k : ℕ) (next : List A → Column X) (s : LinePlace)
    → read_by (lines_of name one read k next) s ≡ (fields_at name read k s >>= λ x. read_by (next x.0) x.1)
unfolding read_by lines_of fields_at
read_lines name one read zero next s = refl
read_lines {A} {X} name one read (suc k) next s = go (λ x t. read_lines name one read k (λ more. next (x ∷ more)) t) (field_at name read s)
  where
    go : ((x : A) (t : LinePlace) → read_by (lines_of name one read k (λ more. next (x ∷ more))) t ≡ (fields_at name read k t >>= λ y. read_by (next (x ∷ y.0)) y.1))
        → (r : Reading A) → (r >>= λ x. read_by (lines_of name one read k (λ more. next (x.0 ∷ more))) x.1)
        ≡ ((r >>= λ x. with_first x.0 (fields_at name read k x.1)) >>= λ x. read_by (next x.0) x.1)
    go more_of (Err line) = refl
    go more_of (Ok x) = more_of x.0 x.1 ∙ then_read (fields_at name read k x.1) (λ more. Ok (x.0 ∷ more.0, more.1)) (λ y. read_by (next y.0) y.1)

-- at most so many, and nothing more
pub read_up_to : {A X : Type 0} (name : List ℕ) (one : is_one_line name ≡ true) (read : List ℕ → Option A) (k : ℕ) (said : List A → X) (s : LinePlace)
    → read_by (lines_up_to name one read k said) s ≡ (fields_up_to name read k s >>= λ x. Ok (said x.0, x.1))
unfolding read_by lines_up_to fields_up_to
read_up_to name one read zero said s = then_read (text_end_at s) (λ over. Ok ([], over.1)) (λ x. Ok (said x.0, x.1))
read_up_to {A} {X} name one read (suc k) said s = go (λ x t. read_up_to name one read k (λ more. said (x ∷ more)) t) (length s.rest == 0) (field_at name read s)
  where
    go : ((x : A) (t : LinePlace) → read_by (lines_up_to name one read k (λ more. said (x ∷ more))) t ≡ (fields_up_to name read k t >>= λ y. Ok (said (x ∷ y.0), y.1)))
        → (b : Bool) (r : Reading A) → (if b then Ok (said [], s) else (r >>= λ x. read_by (lines_up_to name one read k (λ more. said (x.0 ∷ more))) x.1))
        ≡ ((if b then Ok ([], s) else (r >>= λ x. with_first x.0 (fields_up_to name read k x.1))) >>= λ x. Ok (said x.0, x.1))
    go more_of true r = refl
    go more_of false (Err line) = refl
    go more_of false (Ok x) = more_of x.0 x.1 ∙ then_read (fields_up_to name read k x.1) (λ more. Ok (x.0 ∷ more.0, more.1)) (λ y. Ok (said y.0, y.1))
