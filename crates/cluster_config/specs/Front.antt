-- The lines that several configurations have.
use Rattle.std.specs.Prelude.{ℕ, ◌==◌, Bool, false, length, Ok, codes, refl, if◌then◌else◌}
use Rattle.ritas_base.specs.Numbers.{Numbers}
use Rattle.ritas_base.specs.declared.mode.FrameVersion.{FrameVersion}
use Rattle.cluster_config.specs.Values.{most, number_in, numbers_in, version_in, yes_or_no_in}
use Rattle.cluster_config.specs.Lines.{LinePlace, Reading, ◌>>=◌, text_end_at, field_at}
use Rattle.cluster_config.specs.Columns.{Column, Done, Line, Perhaps}

-- the format, which is the version of frames, the session, and what follows them
unfoldable pub session_lines : {X : Type 0} → (FrameVersion → ℕ → Column X) → Column X
session_lines next =
    Line (codes "ritas") refl version_in (λ version.
    Line (codes "session") refl (number_in 0 most) (next version))

-- how many replicas there are, how many of them may be faulty, and what follows that
unfoldable pub numbers_lines : {X : Type 0} → (Numbers → Column X) → Column X
numbers_lines next =
    Line (codes "n") refl (number_in 1 31) (λ n.
    Line (codes "f") refl (numbers_in n) next)

-- to how many of n replicas a command is given, and nothing more: to one, where it isn't said
unfoldable pub copies_line : {X : Type 0} → ℕ → (ℕ → X) → Column X
copies_line n said = Perhaps (said 1) (codes "copies") refl (number_in 1 n) (λ copies. Done (said copies))

-- whether a journal is kept, and nothing more: none is, where it isn't said
unfoldable pub journal_line : {X : Type 0} → (Bool → X) → Column X
journal_line said = Perhaps (said false) (codes "journal") refl yes_or_no_in (λ journal. Done (said journal))

-- ---- read from above

unfoldable pub session_at : LinePlace → Reading (FrameVersion × ℕ)
session_at s = do
  version ← field_at (codes "ritas") version_in s
  session ← field_at (codes "session") (number_in 0 most) version.1
  Ok ((version.0, session.0), session.1)

unfoldable pub numbers_lines_at : LinePlace → Reading Numbers
numbers_lines_at s = do
  n ← field_at (codes "n") (number_in 1 31) s
  field_at (codes "f") (numbers_in n.0) n.1

unfoldable pub copies_at : ℕ → LinePlace → Reading ℕ
copies_at n s = if length s.rest == 0 then Ok (1, s)
    else (field_at (codes "copies") (number_in 1 n) s >>= λ copies. text_end_at copies.1 >>= λ over. Ok (copies.0, over.1))

unfoldable pub journal_at : LinePlace → Reading Bool
journal_at s = if length s.rest == 0 then Ok (false, s)
    else (field_at (codes "journal") yes_or_no_in s >>= λ journal. text_end_at journal.1 >>= λ over. Ok (journal.0, over.1))
