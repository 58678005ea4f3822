-- Texts of rows and of requests, one more at a time.
use Rattle.std.specs.Prelude.{◌≡◌, ℕ, ◌+◌, ◌-◌, ◌<◌, ◌≤◌, List, [], ◌∷◌, ◌++◌, length, take, drop, refl}
use Rattle.std.proofs.Common.{sym, ◌∙◌, ap, arith, get_or, append_assoc}
use Rattle.std.proofs.lemmas.List.{append-nil, take-append-drop, take_more, take_all, length-drop}
use Rattle.command_log.specs.Rows.{Row}
use Rattle.command_log.specs.Pieces.{row_bytes, rows_bytes}
use Rattle.chain_file.specs.Epochs.{request_text, requests_text}
use Rattle.chain_file.proofs.Lists.{take_on}

-- ---- rows

pub rows_joined : (qs rs : List Row) → rows_bytes (qs ++ rs) ≡ rows_bytes qs ++ rows_bytes rs
rows_joined [] rs = refl
rows_joined (q ∷ qs) rs = ap (λ (l : List ℕ). row_bytes q ++ l) (rows_joined qs rs) ∙ sym (append_assoc (row_bytes q) (rows_bytes qs) (rows_bytes rs))

module _ (all : List Row) (first at : ℕ) (le : first ≤ at) where
  -- those up to a position
  abbrev pub rows_until : List ℕ
  rows_until = rows_bytes (take (at - first) (drop first all))

  -- the one there
  abbrev pub row_there : List ℕ
  row_there = rows_bytes (take 1 (drop at all))

  pub rows_more : rows_bytes (take (at + 1 - first) (drop first all)) ≡ rows_until ++ row_there
  rows_more = ap rows_bytes (take_on all first at le) ∙ rows_joined (take (at - first) (drop first all)) (take 1 (drop at all))

  pub rows_cut : rows_bytes (drop first all) ≡ (rows_until ++ row_there) ++ rows_bytes (drop (at + 1 - first) (drop first all))
  rows_cut =
      ap rows_bytes (sym (take-append-drop (at + 1 - first) (drop first all)))
      ∙ rows_joined (take (at + 1 - first) (drop first all)) (drop (at + 1 - first) (drop first all))
      ∙ ap (λ (l : List ℕ). l ++ rows_bytes (drop (at + 1 - first) (drop first all))) rows_more

pub no_rows_yet : (all : List Row) (first : ℕ) → rows_bytes (take (first - first) (drop first all)) ≡ []
no_rows_yet all first = let none : first - first ≡ 0 = omega arith in ap (λ (n : ℕ). rows_bytes (take n (drop first all))) none

pub rows_all : (all : List Row) (first at : ℕ) → length all ≤ at → rows_bytes (take (at - first) (drop first all)) ≡ rows_bytes (drop first all)
rows_all all first at past = ap rows_bytes (take_all (at - first) (drop first all) (omega (arith, past, length-drop first all)))

-- ---- requests

pub requests_joined : (qs rs : List (List ℕ)) → requests_text (qs ++ rs) ≡ requests_text qs ++ requests_text rs
requests_joined [] rs = refl
requests_joined (q ∷ qs) rs =
    ap (λ (l : List ℕ). request_text q ++ l) (requests_joined qs rs) ∙ sym (append_assoc (request_text q) (requests_text qs) (requests_text rs))

module _ (rs : List (List ℕ)) (i : ℕ) (d : List ℕ) (lt : i < length rs) where
  pub request_more : requests_text (take (i + 1) rs) ≡ requests_text (take i rs) ++ request_text (get_or rs i d)
  request_more =
      ap requests_text (take_more rs i d lt)
      ∙ requests_joined (take i rs) (get_or rs i d ∷ [])
      ∙ ap (λ (l : List ℕ). requests_text (take i rs) ++ l) (append-nil (request_text (get_or rs i d)))

  pub request_cut : requests_text rs ≡ (requests_text (take i rs) ++ request_text (get_or rs i d)) ++ requests_text (drop (i + 1) rs)
  request_cut =
      ap requests_text (sym (take-append-drop (i + 1) rs))
      ∙ requests_joined (take (i + 1) rs) (drop (i + 1) rs)
      ∙ ap (λ (l : List ℕ). l ++ requests_text (drop (i + 1) rs)) request_more
