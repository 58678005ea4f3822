-- Bytes begin with the text of one row, of one request, and of as many of them in one way.
use Rattle.std.specs.Prelude.{◌≡◌, ℕ, ◌+◌, ◌<◌, List, [], ◌∷◌, ◌++◌, length, take, drop, slice_index, refl}
use Rattle.std.specs.Int.{w16, w32, to_be_bytes, from_be_bytes}
use Rattle.std.specs.List.{AllByRecursion}
use Rattle.std.proofs.Common.{sym, ◌∙◌, ap, ap₂, arith, append_assoc, length-append}
use Rattle.std.proofs.lemmas.List.{drop-drop}
use Rattle.std.proofs.lemmas.Nat.{from_be_bytes-to_be_bytes_2, from_be_bytes-to_be_bytes_4}
use Rattle.std.proofs.Math.Seq.{drop-append_seam}
use Rattle.command_log.specs.Rows.{Row}
use Rattle.command_log.specs.Pieces.{row_front, row_bytes}
use Rattle.chain_file.specs.Epochs.{FitsRow, IsRequest, request_text}
use Rattle.chain_file.specs.Reading.{BeginsAs, HasFourBytes, HasTwoBytes}
use Rattle.chain_file.proofs.Lists.{all_joined}

-- the text of what fits, in front of the bytes, tells what it is and what follows
abbrev pub IsOne : {X : Type 0} → (X → Type 0) → (X → List ℕ) → Type 0
IsOne {X} Fits text = (x y : X) (us vs : List ℕ) → Fits x → Fits y → text x ++ us ≡ text y ++ vs → (x ≡ y) × (us ≡ vs)

take_front : (xs ys : List ℕ) → take (length xs) (xs ++ ys) ≡ xs
take_front [] ys = refl
take_front (x ∷ xs) ys = ap (λ (l : List ℕ). x ∷ l) (take_front xs ys)

-- ---- a row

abbrev number_in : ℕ → List ℕ → ℕ
number_in at bytes = from_be_bytes w32 (take 4 (drop at bytes))

abbrev size_in : List ℕ → ℕ
size_in bytes = from_be_bytes w16 (take 2 (drop 13 bytes))

abbrev row_in : List ℕ → Row
row_in bytes = record {
  id = record { origin = slice_index bytes 0; num = number_in 1 bytes };
  client = number_in 5 bytes;
  request = number_in 9 bytes;
  payload = take (size_in bytes) (drop row_front bytes);
}

abbrev after_row : List ℕ → List ℕ
after_row bytes = drop (row_front + size_in bytes) bytes

row_again : (r : Row) (rest : List ℕ) → FitsRow r → (row_in (row_bytes r ++ rest) ≡ r) × (after_row (row_bytes r ++ rest) ≡ rest)
row_again r rest fits =
    let bytes = row_bytes r ++ rest in
    let size : size_in bytes ≡ length r.payload = from_be_bytes-to_be_bytes_2 (length r.payload) fits.payload in
    let num : number_in 1 bytes ≡ r.id.num = from_be_bytes-to_be_bytes_4 r.id.num fits.num in
    let client : number_in 5 bytes ≡ r.client = from_be_bytes-to_be_bytes_4 r.client fits.client in
    let request : number_in 9 bytes ≡ r.request = from_be_bytes-to_be_bytes_4 r.request fits.request in
    let payload : take (size_in bytes) (drop row_front bytes) ≡ r.payload = ap (λ (k : ℕ). take k (r.payload ++ rest)) size ∙ take_front r.payload rest in
    let make : ℕ → ℕ → ℕ → List ℕ → Row = λ x y z l. record { id = record { origin = r.id.origin; num = x }; client = y; request = z; payload = l } in (
      ap₂ (λ x y. make x y (number_in 9 bytes) (take (size_in bytes) (drop row_front bytes))) num client ∙ ap₂ (λ z l. make r.id.num r.client z l) request payload,
      ap (λ (k : ℕ). drop (row_front + k) bytes) size ∙ behind_front (length r.payload) refl,
    )
  where
    behind_front : (k : ℕ) → k ≡ length r.payload → drop (row_front + k) (row_bytes r ++ rest) ≡ rest
    behind_front k e = sym (drop-drop k row_front (row_bytes r ++ rest)) ∙ (ap (λ (j : ℕ). drop j (r.payload ++ rest)) e ∙ drop-append_seam r.payload rest)

pub one_row : IsOne FitsRow row_bytes
one_row q r us vs q_fits r_fits e =
    let first = row_again q us q_fits in
    let second = row_again r vs r_fits in
    (sym first.0 ∙ ap row_in e ∙ second.0, sym first.1 ∙ ap after_row e ∙ second.1)

-- ---- a request

abbrev len_in : List ℕ → ℕ
len_in bytes = from_be_bytes w16 (take 2 bytes)

abbrev request_in : List ℕ → List ℕ
request_in bytes = take (len_in bytes) (drop 2 bytes)

abbrev after_request : List ℕ → List ℕ
after_request bytes = drop (len_in bytes) (drop 2 bytes)

request_again : (r rest : List ℕ) → IsRequest r → (request_in (request_text r ++ rest) ≡ r) × (after_request (request_text r ++ rest) ≡ rest)
request_again r rest fits =
    let short = fits.1 in
    let len : len_in (request_text r ++ rest) ≡ length r = from_be_bytes-to_be_bytes_2 (length r) (omega (arith, short)) in
    (ap (λ (k : ℕ). take k (r ++ rest)) len ∙ take_front r rest, ap (λ (k : ℕ). drop k (r ++ rest)) len ∙ drop-append_seam r rest)

pub one_request : IsOne IsRequest request_text
one_request q r us vs q_fits r_fits e =
    let first = request_again q us q_fits in
    let second = request_again r vs r_fits in
    (sym first.0 ∙ ap request_in e ∙ second.0, sym first.1 ∙ ap after_request e ∙ second.1)

-- ---- as many

module _ {X : Type 0} (Fits : X → Type 0) (text : X → List ℕ) (texts : List X → List ℕ) (none : texts [] ≡ []) (more : (x : X) (xs : List X) → texts (x ∷ xs) ≡ text x ++ texts xs) where
  -- the text of one more, in front of the others
  pub first_text : (x : X) (xs : List X) (us : List ℕ) → texts (x ∷ xs) ++ us ≡ text x ++ (texts xs ++ us)
  first_text x xs us = ap (λ (l : List ℕ). l ++ us) (more x xs) ∙ append_assoc (text x) (texts xs) us

  no_text : (us : List ℕ) → texts [] ++ us ≡ us
  no_text us = ap (λ (l : List ℕ). l ++ us) none

  -- and behind them
  pub last_text : (xs : List X) (x : X) (us : List ℕ) → texts (xs ++ x ∷ []) ++ us ≡ texts xs ++ (text x ++ us)
  last_text [] x us = first_text x [] us ∙ ap (λ (l : List ℕ). text x ++ l) (no_text us) ∙ sym (no_text (text x ++ us))
  last_text (y ∷ ys) x us =
      first_text y (ys ++ x ∷ []) us ∙ ap (λ (l : List ℕ). text y ++ l) (last_text ys x us) ∙ sym (first_text y ys (text x ++ us))

  pub many_one : IsOne Fits text → (xs ys : List X) (us vs : List ℕ) → length xs ≡ length ys → AllByRecursion Fits xs → AllByRecursion Fits ys
      → texts xs ++ us ≡ texts ys ++ vs → (xs ≡ ys) × (us ≡ vs)
  many_one one [] [] us vs same x_fit y_fit e = (refl, sym (no_text us) ∙ e ∙ no_text vs)
  many_one one [] (y ∷ ys) us vs same x_fit y_fit e = absurd (omega (arith, same))
  many_one one (x ∷ xs) [] us vs same x_fit y_fit e = absurd (omega (arith, same))
  many_one one (x ∷ xs) (y ∷ ys) us vs same x_fit y_fit e =
      let first = one x y (texts xs ++ us) (texts ys ++ vs) x_fit.0 y_fit.0 (sym (first_text x xs us) ∙ e ∙ first_text y ys vs) in
      let rest = many_one one xs ys us vs (omega (arith, same)) x_fit.1 y_fit.1 first.1 in
      (ap₂ (λ q l. q ∷ l) first.0 rest.0, rest.1)

  -- where more of them begin the bytes, the next begins what follows the first ones
  pub next_of : IsOne Fits text → (xs ys : List X) (us vs : List ℕ) → length xs < length ys → AllByRecursion Fits xs → AllByRecursion Fits ys
      → texts xs ++ us ≡ texts ys ++ vs → (y : X) × (tail : List ℕ) × Fits y × (us ≡ text y ++ tail)
  next_of one xs [] us vs fewer x_fit y_fit e = absurd (omega (arith, fewer))
  next_of one [] (y ∷ ys) us vs fewer x_fit y_fit e = (y, texts ys ++ vs, y_fit.0, sym (no_text us) ∙ e ∙ first_text y ys vs)
  next_of one (x ∷ xs) (y ∷ ys) us vs fewer x_fit y_fit e =
      let first = one x y (texts xs ++ us) (texts ys ++ vs) x_fit.0 y_fit.0 (sym (first_text x xs us) ∙ e ∙ first_text y ys vs) in
      next_of one xs ys us vs (omega (arith, fewer)) x_fit.1 y_fit.1 first.1

  -- with the next one it is one more
  pub grows : (xs : List X) (x : X) (bytes rest behind : List ℕ) (k : ℕ) → (length xs ≡ k) × AllByRecursion Fits xs → Fits x
      → bytes ≡ texts xs ++ rest → rest ≡ text x ++ behind
      → BeginsAs (λ (l : List X). (length l ≡ k + 1) × AllByRecursion Fits l) texts bytes (xs ++ x ∷ []) behind
  grows xs x bytes rest behind k are fits first next = record {
    fits = (omega (arith, are.0, length-append xs (x ∷ [])), all_joined Fits xs (x ∷ []) are.1 (fits, tt));
    parts = first ∙ ap (λ (l : List ℕ). texts xs ++ l) next ∙ sym (last_text xs x behind);
  }

-- ---- numbers

pub one_of_two : IsOne HasTwoBytes (to_be_bytes w16)
one_of_two x y us vs x_fits y_fits e =
    (sym (from_be_bytes-to_be_bytes_2 x x_fits) ∙ ap len_in e ∙ from_be_bytes-to_be_bytes_2 y y_fits, ap (drop 2) e)

pub one_of_four : IsOne HasFourBytes (to_be_bytes w32)
one_of_four x y us vs x_fits y_fits e =
    (sym (from_be_bytes-to_be_bytes_4 x x_fits) ∙ ap (number_in 0) e ∙ from_be_bytes-to_be_bytes_4 y y_fits, ap (drop 4) e)
