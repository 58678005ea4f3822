-- Keys that are read one behind the other.
use Rattle.std.proofs.Common.{◌≡◌, ℕ, zero, suc, ◌+◌, ◌-◌, ◌<◌, ◌≤◌, List, [], ◌∷◌, ◌++◌, length, take, drop, replicate, set, min, Option, Some, None, option_and_then, option_map, refl, sym, ◌∙◌, ap, append_assoc, append-nil, take-append-drop, arith}
use Rattle.std.proofs.lemmas.List.{take_min, drop_min, take_more_set, drop-set-lt, drop-drop, drop-replicate}
use Rattle.cluster_config.specs.Values.{key_in, keys_in, row_in}

-- the keys that were read, and those that follow
abbrev pub and_more : List (List ℕ) → Option (List (List ℕ)) → Option (List (List ℕ))
and_more keys rest = option_and_then (λ more. Some (keys ++ more)) rest

abbrev pub no_key : List ℕ
no_key = replicate 32 0

one_more : (keys : List (List ℕ)) (key : List ℕ) (o : Option (List (List ℕ))) → and_more keys (option_and_then (λ more. Some (key ∷ more)) o) ≡ and_more (keys ++ key ∷ []) o
one_more keys key None = refl
one_more keys key (Some more) = ap Some (sym (append_assoc keys (key ∷ []) more))

next_key : (j : ℕ) (text key : List ℕ) → key_in (take 64 text) ≡ Some key → keys_in (suc j) text ≡ option_and_then (λ more. Some (key ∷ more)) (keys_in j (drop 64 text))
next_key j text key is = rw is refl

no_next : (j : ℕ) (text : List ℕ) → key_in (take 64 text) ≡ None → keys_in (suc j) text ≡ None
no_next j text is = rw is refl

left : (n k : ℕ) → k < n → n - k ≡ suc (n - (k + 1))
left n k below = omega arith

pub key_read : (n k : ℕ) (text rest more key : List ℕ) (row : List (List ℕ)) → k < n → k < length row → keys_in n text ≡ and_more (take k row) (keys_in (n - k) rest)
    → key_in (take 64 rest) ≡ Some key → more ≡ drop 64 rest → keys_in n text ≡ and_more (take (k + 1) (set row k key)) (keys_in (n - (k + 1)) more)
key_read n k text rest more key row below place before is behind =
    before
    ∙ ap (λ (j : ℕ). and_more (take k row) (keys_in j rest)) (left n k below)
    ∙ ap (and_more (take k row)) (next_key (n - (k + 1)) rest key is)
    ∙ one_more (take k row) key (keys_in (n - (k + 1)) (drop 64 rest))
    ∙ ap (λ (keys : List (List ℕ)). and_more keys (keys_in (n - (k + 1)) (drop 64 rest))) (sym (take_more_set row k key place))
    ∙ ap (λ (l : List ℕ). and_more (take (k + 1) (set row k key)) (keys_in (n - (k + 1)) l)) (sym behind)

pub no_key_read : (n k : ℕ) (text rest : List ℕ) (row : List (List ℕ)) → k < n → keys_in n text ≡ and_more (take k row) (keys_in (n - k) rest) → key_in (take 64 rest) ≡ None
    → row_in n text ≡ None
no_key_read n k text rest row below before is =
    let none : keys_in n text ≡ None = before ∙ ap (λ (j : ℕ). and_more (take k row) (keys_in j rest)) (left n k below) ∙ ap (and_more (take k row)) (no_next (n - (k + 1)) rest is) in
    ap (option_map (λ keys. keys ++ replicate (31 - n) no_key)) none

-- the places behind those that were written
pub zeros_left : (k : ℕ) (key : List ℕ) (row : List (List ℕ)) → drop k row ≡ replicate (31 - k) no_key → drop (k + 1) (set row k key) ≡ replicate (31 - (k + 1)) no_key
zeros_left k key row zeros =
    drop-set-lt (k + 1) row k key (omega arith)
    ∙ sym (drop-drop 1 k row)
    ∙ ap (drop 1) zeros
    ∙ drop-replicate 1 (31 - k) no_key
    ∙ ap (λ (j : ℕ). replicate j no_key) (let same : 31 - k - 1 ≡ 31 - (k + 1) = omega arith in same)

-- nothing is left, or something is
over : (n k : ℕ) (text rest : List ℕ) (row : List (List ℕ)) → n ≡ k → keys_in n text ≡ and_more (take k row) (keys_in (n - k) rest) → keys_in n text ≡ and_more (take n row) (keys_in 0 rest)
over n k text rest row all before = before ∙ ap (λ (j : ℕ). and_more (take j row) (keys_in (n - j) rest)) (sym all) ∙ ap (λ (j : ℕ). and_more (take n row) (keys_in j rest)) (let none : n - n ≡ 0 = omega arith in none)

pub row_read : (n k : ℕ) (text rest : List ℕ) (row : List (List ℕ)) → n ≡ k → keys_in n text ≡ and_more (take k row) (keys_in (n - k) rest) → drop k row ≡ replicate (31 - k) no_key
    → rest ≡ [] → row_in n text ≡ Some row
row_read n k text rest row all before zeros nothing =
    let keys : keys_in n text ≡ Some (take n row) = over n k text rest row all before ∙ ap (λ (l : List ℕ). and_more (take n row) (keys_in 0 l)) nothing ∙ ap Some (append-nil (take n row)) in
    let back : replicate (31 - n) no_key ≡ drop n row = ap (λ (j : ℕ). replicate (31 - j) no_key) all ∙ sym zeros ∙ ap (λ (j : ℕ). drop j row) (sym all) in
    ap (option_map (λ keys. keys ++ replicate (31 - n) no_key)) keys ∙ ap (λ (l : List (List ℕ)). Some (take n row ++ l)) back ∙ ap Some (take-append-drop n row)

pub taken : (text : List ℕ) (m : ℕ) → m ≡ min (length text) 64 → take m text ≡ take 64 text
taken text m is = ap (λ (k : ℕ). take k text) (let same : m ≡ min 64 (length text) = omega (arith, is) in same) ∙ take_min 64 text

pub dropped : (text : List ℕ) (m : ℕ) → m ≡ min (length text) 64 → drop m text ≡ drop 64 text
dropped text m is = ap (λ (k : ℕ). drop k text) (let same : m ≡ min 64 (length text) = omega (arith, is) in same) ∙ drop_min 64 text
