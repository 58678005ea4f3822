-- Lists: what holds of each element, and the rows from a position on.
use Rattle.std.specs.Prelude.{◌≡◌, ℕ, zero, suc, ◌+◌, ◌-◌, ◌<◌, ◌≤◌, List, [], ◌∷◌, ◌++◌, length, take, drop, reverse, Option, Some, None, MatchOption, IfSome, IfNone}
use Rattle.std.specs.List.{AllByRecursion}
use Rattle.std.proofs.Common.{sym, ◌∙◌, ap, ap₂, subst, inl, inr, arith, get_or, add-one}
use Rattle.std.proofs.Math.Seq.{drop-cons, take-add}
use Rattle.std.proofs.lemmas.List.{take-append-drop, drop-drop, drop_all, drop_at, length-reverse, length-drop, length-take-le, reverse-append}
use Rattle.std.proofs.lemmas.Bool.{cases_lt}
use Rattle.std.proofs.lemmas.Option.{slice_get_cases, slice_get_within, get_or_from_slice_get}
use Rattle.command_log.specs.Rows.{Row, row_at}
use Rattle.chain_file.specs.Epochs.{rows_from}

-- ---- each element

pub all_joined : {X : Type 0} (P : X → Type 0) (xs ys : List X) → AllByRecursion P xs → AllByRecursion P ys → AllByRecursion P (xs ++ ys)
all_joined P [] ys first second = second
all_joined P (x ∷ xs) ys first second = (first.0, all_joined P xs ys first.1 second)

pub all_behind : {X : Type 0} (P : X → Type 0) (n : ℕ) (xs : List X) → AllByRecursion P xs → AllByRecursion P (drop n xs)
all_behind P zero xs all = all
all_behind P (suc n) [] all = tt
all_behind P (suc n) (x ∷ xs) all = all_behind P n xs all.1

pub all_front : {X : Type 0} (P : X → Type 0) (n : ℕ) (xs : List X) → AllByRecursion P xs → AllByRecursion P (take n xs)
all_front P zero xs all = tt
all_front P (suc n) [] all = tt
all_front P (suc n) (x ∷ xs) all = (all.0, all_front P n xs all.1)

pub all_reversed : {X : Type 0} (P : X → Type 0) (xs : List X) → AllByRecursion P xs → AllByRecursion P (reverse xs)
all_reversed P [] all = tt
all_reversed P (x ∷ xs) all =
    subst (AllByRecursion P) (sym (reverse-append (x ∷ []) xs)) (all_joined P (reverse xs) (x ∷ []) (all_reversed P xs all.1) (all.0, tt))

pub all_at : {X : Type 0} (P : X → Type 0) (xs : List X) (i : ℕ) (d : X) → i < length xs → AllByRecursion P xs → P (get_or xs i d)
all_at P [] i d lt all = absurd (omega (arith, lt))
all_at P (x ∷ xs) zero d lt all = all.0
all_at P (x ∷ xs) (suc i) d lt all = all_at P xs i d (omega (arith, lt)) all.1

pub match_leads : {A P R : Type 0} {Q S : A → Type 0} (o : Option A) → (P → R) → ((x : A) → Q x → S x) → MatchOption o P Q → MatchOption o R S
match_leads None f g m = f m
match_leads (Some x) f g m = g x m

pub some_leads : {A : Type 0} (P : Type 0) {Q S : A → Type 0} (o : Option A) → ((x : A) → Q x → S x) → MatchOption o P Q → IfSome o S
some_leads P None g m = tt
some_leads P (Some x) g m = g x m

pub none_leads : {A P R : Type 0} (Q : A → Type 0) (o : Option A) → (P → R) → MatchOption o P Q → IfNone o R
none_leads Q None f m = f m
none_leads Q (Some x) f m = tt

-- ---- from a position on

-- of a list that is reversed
pub rows_since : (rows : List Row) (first : ℕ) → reverse (rows_from rows first) ≡ drop first (reverse rows)
rows_since rows first = elim (cases_lt (length rows) first) [
  | inl lt ↦ past lt
  | inr le ↦ within le
]
  where
    within : first ≤ length rows → reverse (rows_from rows first) ≡ drop first (reverse rows)
    within le =
        let m = length rows - first in
        let parts = ap reverse (sym (take-append-drop m rows)) ∙ reverse-append (take m rows) (drop m rows) in
        let long : length (reverse (drop m rows)) ≡ first = omega (arith, length-reverse (drop m rows), length-drop m rows, le) in
        sym (ap (drop first) parts ∙ drop_at (reverse (drop m rows)) (reverse (take m rows)) first long)

    past : length rows < first → reverse (rows_from rows first) ≡ drop first (reverse rows)
    past lt =
        let none : length rows - first ≡ 0 = omega (arith, lt) in
        ap (λ (n : ℕ). reverse (take n rows)) none ∙ sym (drop_all first (reverse rows) (omega (arith, lt, length-reverse rows)))

pub drop_on : {X : Type 0} (xs : List X) (f p : ℕ) → f ≤ p → drop (p - f) (drop f xs) ≡ drop p xs
drop_on xs f p le = drop-drop (p - f) f xs ∙ ap (λ (k : ℕ). drop k xs) (omega (arith, le))

pub take_on : {X : Type 0} (xs : List X) (f p : ℕ) → f ≤ p → take (p + 1 - f) (drop f xs) ≡ take (p - f) (drop f xs) ++ take 1 (drop p xs)
take_on {X} xs f p le =
    ap (λ (k : ℕ). take k (drop f xs)) (omega (arith, le))
    ∙ take-add (p - f) 1 (drop f xs)
    ∙ ap (λ (l : List X). take (p - f) (drop f xs) ++ take 1 l) (drop_on xs f p le)

-- the row at a position is the first from there on
pub row_here : (log : List Row) (position : ℕ) (r : Row) → row_at log position ≡ Some r → drop position (reverse log) ≡ r ∷ drop (position + 1) (reverse log)
row_here log position r is =
    drop-cons (reverse log) position r (slice_get_within (reverse log) position r is)
    ∙ ap₂ (λ x j. x ∷ drop j (reverse log)) (get_or_from_slice_get (reverse log) position r r is) (sym (add-one position))

pub no_row_here : (log : List Row) (position : ℕ) → row_at log position ≡ None → drop position (reverse log) ≡ []
no_row_here log position none =
    elim (slice_get_cases (reverse log) position).1 [
      | inl some ↦ absurd (let is = some.2 in cc)
      | inr past ↦ drop_all position (reverse log) past.0
    ]

-- how many there are
pub since_count : (rows : List Row) (first : ℕ) → length (rows_from rows first) ≡ length rows - first
since_count rows first = length-take-le (length rows - first) rows (omega arith)
