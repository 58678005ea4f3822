-- Lists of which one is a part of another, and what stands in them.
use Rattle.std.specs.Prelude.{◌≡◌, ℕ, zero, suc, ◌<◌, List, [], ◌∷◌, ◌++◌, length, reverse, slice_get, Some, refl, ◌⊎◌}
use Rattle.std.proofs.Common.{sym, ◌∙◌, ap, subst, inl, inr, append_assoc, get_or, arith}
use mathlib.Core.List.{reverse-cons}
use Rattle.std.proofs.lemmas.List.{length-reverse, reverse-append}
use Rattle.std.proofs.lemmas.Option.{slice_get-get_or, same_Some}
use Rattle.layer_api.specs.Service.{IsPart}
use Rattle.command_log.specs.Rows.{Row, row_at, HasRow}
use Rattle.epoch_chain.specs.Epochs.{OneIsPart}

pub part_itself : {X : Type 0} (xs : List X) → IsPart xs xs
part_itself xs = ([], refl)

-- a part of a part is a part
pub part_of_part : {X : Type 0} (xs ys zs : List X) → IsPart xs ys → IsPart ys zs → IsPart xs zs
part_of_part xs ys zs first second =
    (second.0 ++ first.0, append_assoc second.0 first.0 xs ∙ (ap (λ (l : List _). second.0 ++ l) first.1 ∙ second.1))

-- of two parts of one list one is a part of the other
both_parts : {X : Type 0} (more extra xs ys : List X) → more ++ xs ≡ extra ++ ys → OneIsPart xs ys
both_parts [] extra xs ys e = inr (extra, sym e)
both_parts (x ∷ more) [] xs ys e = inl (x ∷ more, e)
both_parts (x ∷ more) (y ∷ extra) xs ys e = both_parts more extra xs ys (cc)

pub parts_of_one : {X : Type 0} (xs ys zs : List X) → IsPart xs zs → IsPart ys zs → OneIsPart xs ys
parts_of_one xs ys zs first second = both_parts first.0 second.0 xs ys (first.1 ∙ sym second.1)

-- parts of two lists of which one is a part of the other
pub parts_of_two : {X : Type 0} (xs ys us vs : List X) → IsPart xs us → IsPart ys vs → OneIsPart us vs → OneIsPart xs ys
parts_of_two xs ys us vs first second (inl part) = parts_of_one xs ys vs (part_of_part xs us vs first part) second
parts_of_two xs ys us vs first second (inr part) = parts_of_one xs ys us first (part_of_part ys vs us second part)

-- ---- what stands in them

pub has_in_part : (xs ys : List Row) → IsPart xs ys → (r : Row) → HasRow xs r → HasRow ys r
has_in_part xs ys part r here = subst (λ (l : List Row). HasRow l r) part.1 (go part.0)
  where
    go : (more : List Row) → HasRow (more ++ xs) r
    go [] = here
    go (m ∷ more) = inr (go more)

pub has_in_two : (xs ys : List Row) (r : Row) → HasRow (xs ++ ys) r → HasRow xs r ⊎ HasRow ys r
has_in_two [] ys r here = inr here
has_in_two (x ∷ xs) ys r (inl same) = inl (inl same)
has_in_two (x ∷ xs) ys r (inr there) = elim (has_in_two xs ys r there) [ inl first ↦ inl (inr first) | inr second ↦ inr second ]

-- ---- at which position

get_more : {X : Type 0} (xs more : List X) (k : ℕ) (x : X) → slice_get xs k ≡ Some x → slice_get (xs ++ more) k ≡ Some x
get_more [] more k x here = absurd (cc)
get_more (y ∷ xs) more zero x here = here
get_more (y ∷ xs) more (suc k) x here = get_more xs more k x here

-- a row of a part stands at its position
pub row_in_part : (rs qs : List Row) → IsPart rs qs → (position : ℕ) (r : Row) → row_at rs position ≡ Some r → row_at qs position ≡ Some r
row_in_part rs qs part position r here =
    ap (λ (l : List Row). slice_get l position) (ap reverse (sym part.1) ∙ reverse-append part.0 rs)
    ∙ get_more (reverse rs) (reverse part.0) position r here

has_row_at : (rs : List Row) (position : ℕ) → position < length rs → (r : Row) × (row_at rs position ≡ Some r)
has_row_at [] position below = absurd (omega (arith, below))
has_row_at (r ∷ rs) position below = go (reverse (r ∷ rs)) (subst (λ (n : ℕ). position < n) (sym (length-reverse (r ∷ rs))) below)
  where
    go : (l : List Row) → position < length l → (q : Row) × (slice_get l position ≡ Some q)
    go l within = (get_or l position r, slice_get-get_or l position r within)

get_none : {X : Type 0} (xs : List X) (x : X) → slice_get xs (length xs) ≡ Some x → ⊥
get_none [] x here = absurd (cc)
get_none (y ∷ xs) x here = get_none xs x here

get_last : {X : Type 0} (xs : List X) (x : X) → slice_get (xs ++ x ∷ []) (length xs) ≡ Some x
get_last [] x = refl
get_last (y ∷ xs) x = get_last xs x

-- the newest row stands behind all others
newest_at : (r : Row) (rs : List Row) → row_at (r ∷ rs) (length rs) ≡ Some r
newest_at r rs =
    ap (λ (l : List Row). slice_get l (length rs)) (reverse-cons r rs)
    ∙ (ap (λ (k : ℕ). slice_get (reverse rs ++ r ∷ []) k) (sym (length-reverse rs)) ∙ get_last (reverse rs) r)

-- a part that gets the next row is a part
next_row : (more own : List Row) (r : Row) → row_at (more ++ own) (length own) ≡ Some r → IsPart (r ∷ own) (more ++ own)
next_row [] own r here = absurd (get_none (reverse own) r (ap (λ (k : ℕ). slice_get (reverse own) k) (length-reverse own) ∙ here))
next_row (m ∷ []) own r here = ([], ap (λ (x : Row). x ∷ own) (same_Some r m (sym here ∙ newest_at m own)))
next_row (m ∷ m2 ∷ more) own r here =
    let rest : List Row = m2 ∷ (more ++ own) in
    let below : length own < length rest = length_more (more) own in
    let q = has_row_at rest (length own) below in
    let same = same_Some q.0 r (sym (row_in_part rest (m ∷ rest) (m ∷ [], refl) (length own) q.0 q.1) ∙ here) in
    let part = next_row (m2 ∷ more) own r (q.1 ∙ ap Some same) in
    (m ∷ part.0, ap (λ (l : List Row). m ∷ l) part.1)
  where
    length_more : (more own : List Row) → length own < length (m2 ∷ (more ++ own))
    length_more [] own = omega arith
    length_more (x ∷ more) own = let rest = length_more more own in omega (arith, rest)

pub part_with_next : (own longest : List Row) (r : Row) → IsPart own longest → row_at longest (length own) ≡ Some r → IsPart (r ∷ own) longest
part_with_next own longest r part here =
    let next = next_row part.0 own r (ap (λ (l : List Row). row_at l (length own)) part.1 ∙ here) in
    (next.0, next.1 ∙ part.1)
