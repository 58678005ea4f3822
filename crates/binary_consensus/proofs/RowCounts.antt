-- The counts of a row of bytes, and the votes that the bytes are.
use Rattle.std.proofs.Common.{◌≡◌, ℕ, zero, suc, ◌+◌, ◌<◌, ◌≤◌, ◌==◌, Bool, true, false, if◌then◌else◌, List, [], ◌∷◌, take, replicate, get_or, length, count_by, cond, Option, Some, None, ◌⊎◌, inl, inr, refl, sym, ◌∙◌, ap, subst, arith, eqb-true, ne_eqb}
use Rattle.std.specs.List.{range_with_len}
use Rattle.bracha_validation.specs.Votes.{votes}
use Rattle.bracha_validation.specs.Tallies.{vote_count, IsTally}
use Rattle.bracha_validation.specs.PickLaws.{one_more}
use Rattle.ritas_base.specs.Quorums.{count_no}
use Rattle.vote_lanes.specs.Plain.{equal_places}
use Rattle.ritas_base.specs.Places.{push, listed}
use Rattle.binary_consensus.specs.Counts.{byte_vote, row_tally}

-- votes that are none of 0, 1 and 2
abbrev pub is_other : ℕ → Bool
is_other x = if x == 0 then false else if x == 1 then false else if x == 2 then false else true

pub length_four : (xs : List ℕ) → length xs ≡ votes 0 xs + votes 1 xs + votes 2 xs + count_by is_other xs
length_four [] = refl
length_four (x ∷ xs) = go (x == 0) (x == 1) (x == 2) refl refl refl (one_more (λ y. y == 0) x xs) (one_more (λ y. y == 1) x xs) (one_more (λ y. y == 2) x xs) (one_more is_other x xs) (length_four xs)
  where
    go : (a b d : Bool) → (x == 0) ≡ a → (x == 1) ≡ b → (x == 2) ≡ d
        → votes 0 (x ∷ xs) ≡ cond a 1 0 + votes 0 xs → votes 1 (x ∷ xs) ≡ cond b 1 0 + votes 1 xs → votes 2 (x ∷ xs) ≡ cond d 1 0 + votes 2 xs
        → count_by is_other (x ∷ xs) ≡ cond (if a then false else if b then false else if d then false else true) 1 0 + count_by is_other xs
        → length xs ≡ votes 0 xs + votes 1 xs + votes 2 xs + count_by is_other xs
        → length (x ∷ xs) ≡ votes 0 (x ∷ xs) + votes 1 (x ∷ xs) + votes 2 (x ∷ xs) + count_by is_other (x ∷ xs)
    go true true d p q r i j k l e = let a = eqb-true x 0 p in let b = eqb-true x 1 q in absurd (omega (arith, a, b))
    go true false true p q r i j k l e = let a = eqb-true x 0 p in let b = eqb-true x 2 r in absurd (omega (arith, a, b))
    go true false false p q r i j k l e = omega arith
    go false true true p q r i j k l e = let a = eqb-true x 1 q in let b = eqb-true x 2 r in absurd (omega (arith, a, b))
    go false true false p q r i j k l e = omega arith
    go false false true p q r i j k l e = omega arith
    go false false false p q r i j k l e = omega arith

-- there are no more votes than places
pub row_few : (bytes : List ℕ) (n : ℕ) → vote_count (row_tally (take n bytes)) ≤ n
row_few bytes n = let four = length_four (take n bytes) in let short = take_few bytes n in omega (arith, four, short)
  where
    take_few : (xs : List ℕ) (n : ℕ) → length (take n xs) ≤ n
    take_few xs zero = omega arith
    take_few [] (suc n) = omega arith
    take_few (x ∷ xs) (suc n) = let l = take_few xs n in omega (arith, l)

-- a value that no byte has is counted nowhere
pub row_without : (v : ℕ) (bytes : List ℕ) (n : ℕ) → ((k : ℕ) → get_or bytes k 255 ≡ v → ⊥) → equal_places (take n bytes) v ≡ 0
row_without v bytes zero never = refl
row_without v [] (suc n) never = refl
row_without v (b ∷ bytes) (suc n) never =
    count_no (λ x. x == v) b (take n bytes) (ne_eqb b v (never 0)) ∙ row_without v bytes n (λ k. never (suc k))

-- in a row in which nothing was heard no byte is another
pub unheard_byte : (n k : ℕ) → let b : ℕ = get_or (replicate n 255) k 255 in b ≡ 255
unheard_byte zero k = refl
unheard_byte (suc n) zero = refl
unheard_byte (suc n) (suc k) = unheard_byte n k

listed_none : (said : ℕ → Option ℕ) (from n : ℕ) → ((k : ℕ) → said (from + k) ≡ None) → listed said (range_with_len from n) ≡ []
listed_none said from zero none = refl
listed_none said from (suc n) none =
    let first : from + 0 ≡ from = omega arith in
    let here : said from ≡ None = subst (λ (i : ℕ). said i ≡ None) first (none 0) in
    let rest = listed_none said (from + 1) n (λ k. let next : from + suc k ≡ from + 1 + k = omega arith in subst (λ (i : ℕ). said i ≡ None) next (none (suc k))) in
    ap (λ (o : Option ℕ). push o (listed said (range_with_len (from + 1) n))) here ∙ rest

pub vote_is : (v : ℕ) → v < 3 → byte_vote v ≡ Some v
vote_is v l = ap (λ (b : Bool). if b then None else Some v) (ne_eqb v 255 (λ e. omega (arith, l, e)))

-- one more byte, and the vote that it is
push_byte : (b : ℕ) (bytes vs : List ℕ) → (b ≡ 255) ⊎ (b < 3) → IsTally (row_tally bytes) vs → IsTally (row_tally (b ∷ bytes)) (push (byte_vote b) vs)
push_byte b bytes vs (inl e) is =
    let z = count_no (λ x. x == 0) 255 bytes refl in let o = count_no (λ x. x == 1) 255 bytes refl in let u = count_no (λ x. x == 2) 255 bytes refl in
    let all = is.all in
    subst (λ (x : ℕ). IsTally (row_tally (x ∷ bytes)) (push (byte_vote x) vs)) (sym e)
    (record { zeros = is.zeros ∙ sym z; ones = is.ones ∙ sym o; nones = is.nones ∙ sym u; all = omega (arith, z, o, u, all) })
push_byte b bytes vs (inr l) is =
    subst (λ (o : Option ℕ). IsTally (row_tally (b ∷ bytes)) (push o vs)) (sym (vote_is b l))
    (record { zeros = more 0 is.zeros; ones = more 1 is.ones; nones = more 2 is.nones; all = all b l })
  where
    more : (u : ℕ) → votes u vs ≡ equal_places bytes u → votes u (b ∷ vs) ≡ equal_places (b ∷ bytes) u
    more u e = one_more (λ x. x == u) b vs ∙ (ap (λ (n : ℕ). cond (b == u) 1 0 + n) e ∙ sym (one_more (λ x. x == u) b bytes))

    all : (v : ℕ) → v < 3 → suc (length vs) ≡ vote_count (row_tally (v ∷ bytes))
    all v l =
        let z = one_more (λ x. x == 0) v bytes in let o = one_more (λ x. x == 1) v bytes in let u = one_more (λ x. x == 2) v bytes in
        go v l z o u
      where
        go : (v : ℕ) → v < 3 → equal_places (v ∷ bytes) 0 ≡ cond (v == 0) 1 0 + equal_places bytes 0 → equal_places (v ∷ bytes) 1 ≡ cond (v == 1) 1 0 + equal_places bytes 1
            → equal_places (v ∷ bytes) 2 ≡ cond (v == 2) 1 0 + equal_places bytes 2 → suc (length vs) ≡ vote_count (row_tally (v ∷ bytes))
        go zero l z o u = let few = is.all in omega (arith, z, o, u, few)
        go (suc zero) l z o u = let few = is.all in omega (arith, z, o, u, few)
        go (suc (suc zero)) l z o u = let few = is.all in omega (arith, z, o, u, few)
        go (suc (suc (suc v))) l z o u = absurd (omega (arith, l))

-- the counts of a row are those of the votes that its bytes are
pub row_listed : (said : ℕ → Option ℕ) (bytes : List ℕ) (from n : ℕ) → ((k : ℕ) → said (from + k) ≡ byte_vote (get_or bytes k 255))
    → ((k : ℕ) → (get_or bytes k 255 ≡ 255) ⊎ (get_or bytes k 255 < 3)) → IsTally (row_tally (take n bytes)) (listed said (range_with_len from n))
row_listed said bytes from zero is of = record { zeros = refl; ones = refl; nones = refl; all = refl }
row_listed said [] from (suc n) is of =
    subst (λ (vs : List ℕ). IsTally (row_tally []) vs) (sym (listed_none said from (suc n) is)) (record { zeros = refl; ones = refl; nones = refl; all = refl })
row_listed said (b ∷ bytes) from (suc n) is of =
    let first : from + 0 ≡ from = omega arith in
    let here : said from ≡ byte_vote b = subst (λ (i : ℕ). said i ≡ byte_vote b) first (is 0) in
    let next : (k : ℕ) → said (from + 1 + k) ≡ byte_vote (get_or bytes k 255) =
    λ k. let e : from + suc k ≡ from + 1 + k = omega arith in subst (λ (i : ℕ). said i ≡ byte_vote (get_or bytes k 255)) e (is (suc k)) in
    subst (λ (o : Option ℕ). IsTally (row_tally (b ∷ take n bytes)) (push o (listed said (range_with_len (from + 1) n)))) (sym here)
    (push_byte b (take n bytes) (listed said (range_with_len (from + 1) n)) (of 0) (row_listed said bytes (from + 1) n next (λ k. of (suc k))))
