-- Lines that are read in a loop.
use Rattle.std.proofs.Common.{◌≡◌, ℕ, zero, suc, ◌+◌, ◌-◌, ◌<◌, ◌≤◌, ◌==◌, Bool, true, false, List, [], ◌∷◌, ◌++◌, length, Option, Result, Ok, Err, refl, sym, ◌∙◌, ap, ap₂, append_assoc, append-nil, length-append, arith, if◌then◌else◌}
use Rattle.cluster_config.specs.Lines.{LinePlace, Reading, ◌>>=◌, text_end_at, field_at, fields_at, fields_up_to}
use Rattle.cluster_config.proofs.Fields.{empty_is, end_again}

-- what was read, and what follows
abbrev pub with_more : {A : Type 0} → List A → Reading (List A) → Reading (List A)
with_more xs r = r >>= λ more. Ok (xs ++ more.0, more.1)

one_more : {A : Type 0} (xs : List A) (x : A) (r : Reading (List A)) → with_more xs (with_more (x ∷ []) r) ≡ with_more (xs ++ x ∷ []) r
one_more xs x (Ok more) = ap (λ (l : List _). Ok (l, more.1)) (sym (append_assoc xs (x ∷ []) more.0))
one_more xs x (Err line) = refl

left : {A : Type 0} (n : ℕ) (xs : List A) (x : A) → length xs < n → n - length xs ≡ suc (n - length (xs ++ x ∷ []))
left n xs x below = omega (arith, length-append xs (x ∷ []))

-- ---- so many lines
next_field : {A : Type 0} (name : List ℕ) (read : List ℕ → Option A) (j : ℕ) (s next : LinePlace) (x : A) → field_at name read s ≡ Ok (x, next)
    → fields_at name read (suc j) s ≡ with_more (x ∷ []) (fields_at name read j next)
unfolding fields_at
next_field name read j s next x is = rw is refl

no_field : {A : Type 0} (name : List ℕ) (read : List ℕ → Option A) (j : ℕ) (s : LinePlace) (line : ℕ) → field_at name read s ≡ Err line → fields_at name read (suc j) s ≡ Err line
unfolding fields_at
no_field name read j s line is = rw is refl

pub more_read : {A : Type 0} (name : List ℕ) (read : List ℕ → Option A) (n : ℕ) (r : Reading (List A)) (xs : List A) (s next : LinePlace) (x : A) → length xs < n
    → r ≡ with_more xs (fields_at name read (n - length xs) s) → field_at name read s ≡ Ok (x, next)
    → r ≡ with_more (xs ++ x ∷ []) (fields_at name read (n - length (xs ++ x ∷ [])) next)
more_read name read n r xs s next x below before is =
    let j = n - length (xs ++ x ∷ []) in
    before
    ∙ ap (λ (k : ℕ). with_more xs (fields_at name read k s)) (left n xs x below)
    ∙ ap (with_more xs) (next_field name read j s next x is)
    ∙ one_more xs x (fields_at name read j next)

pub none_read : {A : Type 0} (name : List ℕ) (read : List ℕ → Option A) (n : ℕ) (r : Reading (List A)) (xs : List A) (s : LinePlace) (line : ℕ) → length xs < n
    → r ≡ with_more xs (fields_at name read (n - length xs) s) → field_at name read s ≡ Err line → r ≡ Err line
none_read name read n r xs s line below before is =
    let one : n - length xs ≡ suc (n - length xs - 1) = omega arith in
    before ∙ ap (λ (k : ℕ). with_more xs (fields_at name read k s)) one ∙ ap (with_more xs) (no_field name read (n - length xs - 1) s line is)

pub all_read : {A : Type 0} (name : List ℕ) (read : List ℕ → Option A) (n : ℕ) (r : Reading (List A)) (xs : List A) (s : LinePlace) → n ≤ length xs
    → r ≡ with_more xs (fields_at name read (n - length xs) s) → r ≡ Ok (xs, s)
unfolding fields_at
all_read name read n r xs s all before =
    let none : n - length xs ≡ 0 = omega arith in
    before ∙ ap (λ (k : ℕ). with_more xs (fields_at name read k s)) none ∙ ap (λ (l : List _). Ok (l, s)) (append-nil xs)

-- ---- at most so many
next_of_some : {A : Type 0} (name : List ℕ) (read : List ℕ → Option A) (j : ℕ) (s next : LinePlace) (x : A) → (length s.rest == 0) ≡ false → field_at name read s ≡ Ok (x, next)
    → fields_up_to name read (suc j) s ≡ with_more (x ∷ []) (fields_up_to name read j next)
unfolding fields_up_to
next_of_some name read j s next x some is = rw (some, is) refl

none_of_some : {A : Type 0} (name : List ℕ) (read : List ℕ → Option A) (j : ℕ) (s : LinePlace) (line : ℕ) → (length s.rest == 0) ≡ false → field_at name read s ≡ Err line
    → fields_up_to name read (suc j) s ≡ Err line
unfolding fields_up_to
none_of_some name read j s line some is = rw (some, is) refl

pub more_of_some : {A : Type 0} (name : List ℕ) (read : List ℕ → Option A) (n : ℕ) (r : Reading (List A)) (xs : List A) (s next : LinePlace) (x : A) → length xs < n → (length s.rest == 0) ≡ false
    → r ≡ with_more xs (fields_up_to name read (n - length xs) s) → field_at name read s ≡ Ok (x, next)
    → r ≡ with_more (xs ++ x ∷ []) (fields_up_to name read (n - length (xs ++ x ∷ [])) next)
more_of_some name read n r xs s next x below some before is =
    let j = n - length (xs ++ x ∷ []) in
    before
    ∙ ap (λ (k : ℕ). with_more xs (fields_up_to name read k s)) (left n xs x below)
    ∙ ap (with_more xs) (next_of_some name read j s next x some is)
    ∙ one_more xs x (fields_up_to name read j next)

pub wrong_of_some : {A : Type 0} (name : List ℕ) (read : List ℕ → Option A) (n : ℕ) (r : Reading (List A)) (xs : List A) (s : LinePlace) (line : ℕ) → length xs < n → (length s.rest == 0) ≡ false
    → r ≡ with_more xs (fields_up_to name read (n - length xs) s) → field_at name read s ≡ Err line → r ≡ Err line
wrong_of_some name read n r xs s line below some before is =
    let one : n - length xs ≡ suc (n - length xs - 1) = omega arith in
    before ∙ ap (λ (k : ℕ). with_more xs (fields_up_to name read k s)) one ∙ ap (with_more xs) (none_of_some name read (n - length xs - 1) s line some is)

-- this was said, and nothing follows
abbrev pub and_over : {A : Type 0} → A → Reading (Unit {0}) → Reading A
and_over x r = r >>= λ over. Ok (x, over.1)

over_read : {A : Type 0} (name : List ℕ) (read : List ℕ → Option A) (k : ℕ) (s : LinePlace) → (0 < k → (length s.rest == 0) ≡ true) → fields_up_to name read k s ≡ and_over [] (text_end_at s)
unfolding fields_up_to
over_read name read zero s nothing = refl
over_read {A} name read (suc k) s nothing =
    let over = nothing (omega arith) in
    let empty = empty_is s.rest over in
    let more : Reading (List A) = field_at name read s >>= λ x. with_more (x.0 ∷ []) (fields_up_to name read k x.1) in
    ap (λ (b : Bool). if b then Ok ([], s) else more) over
    ∙ ap (λ (l : List ℕ). Ok ([], record { number = s.number; rest = l })) empty
    ∙ sym (ap (and_over []) (end_again s empty))

read_over : {A : Type 0} (xs : List A) (r : Reading (Unit {0})) → with_more xs (and_over [] r) ≡ and_over xs r
read_over xs (Ok over) = ap (λ (l : List _). Ok (l, over.1)) (append-nil xs)
read_over xs (Err line) = refl

-- where there were so many, or nothing is left
all_of_some : {A : Type 0} (name : List ℕ) (read : List ℕ → Option A) (n : ℕ) (r : Reading (List A)) (xs : List A) (s : LinePlace) → (length xs < n → (length s.rest == 0) ≡ true)
    → r ≡ with_more xs (fields_up_to name read (n - length xs) s) → r ≡ and_over xs (text_end_at s)
all_of_some name read n r xs s nothing before =
    before ∙ ap (with_more xs) (over_read name read (n - length xs) s (λ some. nothing (omega arith))) ∙ read_over xs (text_end_at s)

pub all_ok : {A : Type 0} (name : List ℕ) (read : List ℕ → Option A) (n : ℕ) (r : Reading (List A)) (xs : List A) (s end : LinePlace) (u : Unit {0}) → (length xs < n → (length s.rest == 0) ≡ true)
    → r ≡ with_more xs (fields_up_to name read (n - length xs) s) → text_end_at s ≡ Ok (u, end) → r ≡ Ok (xs, end)
all_ok name read n r xs s end u nothing before is = all_of_some name read n r xs s nothing before ∙ ap (and_over xs) is

pub all_err : {A : Type 0} (name : List ℕ) (read : List ℕ → Option A) (n : ℕ) (r : Reading (List A)) (xs : List A) (s : LinePlace) (line : ℕ) → (length xs < n → (length s.rest == 0) ≡ true)
    → r ≡ with_more xs (fields_up_to name read (n - length xs) s) → text_end_at s ≡ Err line → r ≡ Err line
all_err name read n r xs s line nothing before is = all_of_some name read n r xs s nothing before ∙ ap (and_over xs) is
