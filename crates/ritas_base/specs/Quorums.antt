-- Counting by a test, and sets that are large enough to share a member.
use Rattle.std.specs.Prelude.{◌≡◌, ℕ, zero, suc, ◌<◌, ◌≤◌, ◌+◌, ◌*◌, Bool, true, false, not, ◌&&◌, List, [], ◌∷◌, map, count_by, cond, length, refl}
use Rattle.std.proofs.Common.{sym, ◌∙◌, ap, inl, inr, arith}
use Rattle.std.proofs.lemmas.Bool.{cases_Bool, cases_lt, both_ways}
use Rattle.std.proofs.lemmas.List.Sums.{sum_by-cons, sum_by-le-sum_by, sum_by_push}
use Rattle.std.specs.List.{range_with_len}
use Rattle.ritas_base.specs.RangeLaws.{range_more}

pub count_yes : {A : Type 0} (p : A → Bool) (x : A) (xs : List A) → p x ≡ true → count_by p (x ∷ xs) ≡ 1 + count_by p xs
count_yes p x xs e = sum_by-cons (λ y. cond (p y) 1 0) x xs ∙ ap (λ (b : Bool). cond b 1 0 + count_by p xs) e

pub count_no : {A : Type 0} (p : A → Bool) (x : A) (xs : List A) → p x ≡ false → count_by p (x ∷ xs) ≡ count_by p xs
count_no p x xs e =
    let step : count_by p (x ∷ xs) ≡ 0 + count_by p xs = sum_by-cons (λ y. cond (p y) 1 0) x xs ∙ ap (λ (b : Bool). cond b 1 0 + count_by p xs) e in
    omega (arith, step)

-- one more element adds at most one
pub count_step : {A : Type 0} (p : A → Bool) (x : A) (xs : List A) → count_by p (x ∷ xs) ≤ 1 + count_by p xs
count_step p x xs =
    elim (cases_Bool (p x)) [
      | inl e ↦ let step = count_yes p x xs e in omega (arith, step)
      | inr e ↦ let step = count_no p x xs e in omega (arith, step)
    ]

pub map_same : {A B : Type 0} (f g : A → B) → ((x : A) → f x ≡ g x) → (xs : List A) → map f xs ≡ map g xs
map_same f g e [] = refl
map_same f g e (x ∷ xs) = ap (λ y. y ∷ map f xs) (e x) ∙ ap (λ ys. g x ∷ ys) (map_same f g e xs)

pub count_by-map : {A B : Type 0} (p : B → Bool) (f : A → B) (xs : List A) → count_by p (map f xs) ≡ count_by (λ x. p (f x)) xs
count_by-map p f [] = refl
count_by-map p f (x ∷ xs) =
    sum_by-cons (λ y. cond (p y) 1 0) (f x) (map f xs)
    ∙ (ap (λ n. cond (p (f x)) 1 0 + n) (count_by-map p f xs) ∙ sym (sum_by-cons (λ y. cond (p (f y)) 1 0) x xs))

-- tests that are alike count alike
pub count_same : {A : Type 0} (p q : A → Bool) → ((x : A) → p x ≡ q x) → (xs : List A) → count_by p xs ≡ count_by q xs
count_same p q e xs = sym (count_by-map (λ b. b) p xs) ∙ (ap (count_by (λ (b : Bool). b)) (map_same p q e xs) ∙ count_by-map (λ b. b) q xs)

-- a test that nothing passes
pub count_none : {A : Type 0} (p : A → Bool) (xs : List A) → ((x : A) → p x ≡ true → ⊥) → count_by p xs ≡ 0
count_none p [] none = refl
count_none p (x ∷ xs) none =
    elim (cases_Bool (p x)) [ inl e ↦ absurd (none x e) | inr e ↦ count_no p x xs e ∙ count_none p xs none ]

one_at_most : (b d : Bool) → (b ≡ true → d ≡ true) → cond b 1 0 ≤ cond d 1 0
one_at_most true true f = omega arith
one_at_most false true f = omega arith
one_at_most false false f = omega arith
one_at_most true false f = absurd (both_ways false refl (f refl))

-- a wider test counts no fewer
pub count_more : {A : Type 0} (p q : A → Bool) → ((x : A) → p x ≡ true → q x ≡ true) → (xs : List A) → count_by p xs ≤ count_by q xs
count_more p q wider xs =
    sum_by-le-sum_by (λ x. cond (p x) 1 0) (λ x. cond (q x) 1 0) xs (λ x. one_at_most (p x) (q x) (wider x))

-- where some pass, one does
pub some_member : {A : Type 0} (p : A → Bool) (xs : List A) → 0 < count_by p xs → (x : A) × (p x ≡ true)
some_member p [] l = absurd (omega (arith, l))
some_member p (x ∷ xs) l =
    elim (cases_Bool (p x)) [
      | inl e ↦ (x, e)
      | inr e ↦ let m = count_no p x xs e in some_member p xs (omega (arith, l, m))
    ]

-- where none passes the second test, no fewer pass the first and not the second
pub count_without : {A : Type 0} (p q : A → Bool) (xs : List A) → count_by q xs ≡ 0 → count_by p xs ≤ count_by (λ x. p x && not (q x)) xs
count_without p q [] e = omega arith
count_without p q (x ∷ xs) e =
    elim (cases_Bool (q x)) [
      | inl y ↦ absurd (let m = count_yes q x xs y in omega (arith, m, e))
      | inr n ↦
          let m = count_no q x xs n in
          let ih = count_without p q xs (omega (arith, m, e)) in
          elim (cases_Bool (p x)) [
            | inl y ↦
                let a = count_yes p x xs y in
                let b = count_yes (λ x. p x && not (q x)) x xs (ap (λ (b : Bool). b && not (q x)) y ∙ ap not n) in
                omega (arith, ih, a, b)
            | inr z ↦
                let a = count_no p x xs z in
                let b = count_no (λ x. p x && not (q x)) x xs (ap (λ (b : Bool). b && not (q x)) z) in
                omega (arith, ih, a, b)
          ]
    ]

-- where each of the first m numbers passes, at least m do
pub count_first : (p : ℕ → Bool) (m n : ℕ) → ((k : ℕ) → k < m → p k ≡ true) → m ≤ n → m ≤ count_by p (range_with_len 0 n)
count_first p m zero all few = omega (arith, few)
count_first p m (suc n) all few =
    let more = ap (count_by p) (range_more 0 n n (omega arith)) ∙ sum_by_push (λ k. cond {A = ℕ} (p k) 1 0) (range_with_len 0 n) n in
    elim (cases_lt n m) [
      | inl last ↦
          let one : cond {A = ℕ} (p n) 1 0 ≡ 1 = ap (λ (b : Bool). cond {A = ℕ} b 1 0) (all n last) in
          let before = count_first p n n (λ k l. all k (omega (arith, l, last))) (omega arith) in
          omega (arith, more, one, before, few)
      | inr within ↦ let before = count_first p m n all within in omega (arith, more, before)
    ]

-- an element at which both tests pass
pub record InTwo {A : Type 0} (p c : A → Bool) : Type 0 where
  pub member : A
  pub first : p member ≡ true
  pub second : c member ≡ true

-- two sets that have more members than there are elements
pub meet_two : {A : Type 0} (p c : A → Bool) (xs : List A) → length xs < count_by p xs + count_by c xs → InTwo p c
meet_two p c [] large = absurd (omega (arith, large))
meet_two p c (x ∷ xs) large =
    elim (cases_Bool (p x)) [
      | inl in_p ↦ elim (cases_Bool (c x)) [
        | inl in_c ↦ record { member = x; first = in_p; second = in_c }
        | inr no_c ↦
            let more_p = count_step p x xs in let same_c = count_no c x xs no_c in
            let rest : length xs < count_by p xs + count_by c xs = omega (arith, large, more_p, same_c) in meet_two p c xs rest
      ]
      | inr no_p ↦
          let same_p = count_no p x xs no_p in let more_c = count_step c x xs in
          let rest : length xs < count_by p xs + count_by c xs = omega (arith, large, same_p, more_c) in meet_two p c xs rest
    ]

-- the common part of two sets
pub count_meet : {A : Type 0} (p c : A → Bool) (xs : List A) → count_by p xs + count_by c xs ≤ length xs + count_by (λ x. p x && c x) xs
count_meet p c [] = omega arith
count_meet p c (x ∷ xs) =
    let both = count_meet p c xs in
    elim (cases_Bool (p x)) [
      | inl in_p ↦
          let a = count_yes p x xs in_p in
          elim (cases_Bool (c x)) [
            | inl in_c ↦
                let b = count_yes c x xs in_c in
                let e = count_yes (λ y. p y && c y) x xs (ap (λ (t : Bool). t && c x) in_p ∙ in_c) in
                omega (arith, both, a, b, e)
            | inr no_c ↦
                let b = count_no c x xs no_c in
                let e = count_no (λ y. p y && c y) x xs (ap (λ (t : Bool). t && c x) in_p ∙ no_c) in
                omega (arith, both, a, b, e)
          ]
      | inr no_p ↦
          let a = count_no p x xs no_p in
          let b = count_step c x xs in
          let e = count_no (λ y. p y && c y) x xs (ap (λ (t : Bool). t && c x) no_p) in
          omega (arith, both, a, b, e)
    ]

-- an element at which all three tests pass
pub record InThree {A : Type 0} (p q c : A → Bool) : Type 0 where
  pub member : A
  pub first : p member ≡ true
  pub second : q member ≡ true
  pub third : c member ≡ true

-- three sets that have more than twice as many members as there are elements
pub meet_three : {A : Type 0} (p q c : A → Bool) (xs : List A) → 2 * length xs < count_by p xs + count_by q xs + count_by c xs → InThree p q c
meet_three p q c [] large = absurd (omega (arith, large))
meet_three p q c (x ∷ xs) large =
    let more_p = count_step p x xs in let more_q = count_step q x xs in let more_c = count_step c x xs in
    elim (cases_Bool (p x)) [
      | inl in_p ↦ elim (cases_Bool (q x)) [
        | inl in_q ↦ elim (cases_Bool (c x)) [
          | inl in_c ↦ record { member = x; first = in_p; second = in_q; third = in_c }
          | inr no_c ↦
              let same = count_no c x xs no_c in
              let rest : 2 * length xs < count_by p xs + count_by q xs + count_by c xs = omega (arith, large, more_p, more_q, same) in meet_three p q c xs rest
        ]
        | inr no_q ↦
            let same = count_no q x xs no_q in
            let rest : 2 * length xs < count_by p xs + count_by q xs + count_by c xs = omega (arith, large, more_p, same, more_c) in meet_three p q c xs rest
      ]
      | inr no_p ↦
          let same = count_no p x xs no_p in
          let rest : 2 * length xs < count_by p xs + count_by q xs + count_by c xs = omega (arith, large, same, more_q, more_c) in meet_three p q c xs rest
    ]
