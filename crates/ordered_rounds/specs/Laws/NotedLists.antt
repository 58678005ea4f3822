-- In how many lists identifiers are noted: one list more counts as one more, and before any list there is none.
use Rattle.std.specs.Prelude.{◌≡◌, ℕ, zero, suc, ◌+◌, ◌<◌, ◌≤◌, Bool, true, false, ◌==◌, ◌&&◌, ◌||◌, cond, List, [], ◌∷◌, count_by, unwrap_or, refl}
use Rattle.std.specs.List.{range_with_len}
use Rattle.std.specs.Map.{lookup}
use Rattle.std.specs.BTreeMap.{BTreeMap, is_at}
use Rattle.std.proofs.Common.{◌∙◌, ap, inl, inr, arith}
use Rattle.std.proofs.lemmas.Bool.{cases_order, eq-eqb, ne_eqb}
use Rattle.std.proofs.lemmas.List.Sums.{sum_by-cons}
use Rattle.std.proofs.lemmas.Nat.Bits.{bit_at-zero}
use Rattle.ritas_base.specs.declared.id.Id.{Id}
use Rattle.ritas_base.specs.Members.{has_member, member_count}
use Rattle.ritas_base.specs.Quorums.{count_same}
use Rattle.layer_api.specs.Service.{has_id}
use Rattle.ordered_rounds.specs.Early.{id_cmp}
use Rattle.ordered_rounds.specs.Backing.{backing_mask, is_noted, lists_with, NotesList}

abbrev pub as_one : Bool → ℕ
as_one b = cond b 1 0

pub count_cons : {A : Type 0} (p : A → Bool) (x : A) (xs : List A) → count_by p (x ∷ xs) ≡ as_one (p x) + count_by p xs
count_cons p x xs = sum_by-cons (λ y. as_one (p y)) x xs

-- past the member nothing changed
count_past : (p q : ℕ → Bool) (k a n : ℕ) → ((j : ℕ) → q j ≡ (j == k || p j)) → k < a → count_by q (range_with_len a n) ≡ count_by p (range_with_len a n)
count_past p q k a zero with_k past = refl
count_past p q k a (suc n) with_k past =
    let rest = range_with_len (a + 1) n in
    let same = ap as_one (with_k a ∙ ap (λ (b : Bool). b || p a) (ne_eqb a k (λ e. omega (arith, e, past)))) in
    omega (arith, count_cons q a rest, count_cons p a rest, same, count_past p q k (a + 1) n with_k (omega (arith, past)))

-- a member more counts as one
count_with : (p q : ℕ → Bool) (k a n : ℕ) → p k ≡ false → ((j : ℕ) → q j ≡ (j == k || p j)) → a ≤ k → k < a + n
    → count_by q (range_with_len a n) ≡ 1 + count_by p (range_with_len a n)
count_with p q k a zero fresh with_k here within = absurd (omega (arith, here, within))
count_with p q k a (suc n) fresh with_k here within =
    let rest = range_with_len (a + 1) n in
    let split_q = count_cons q a rest in
    let split_p = count_cons p a rest in
    elim (cases_order a k) [
      | inl e ↦
          let now = ap as_one (with_k a ∙ ap (λ (b : Bool). b || p a) (eq-eqb a k e)) in
          let before = ap as_one (ap p e ∙ fresh) in
          omega (arith, split_q, split_p, now, before, count_past p q k (a + 1) n with_k (omega (arith, e)))
      | inr (inl less) ↦
          let same = ap as_one (with_k a ∙ ap (λ (b : Bool). b || p a) (ne_eqb a k (λ e. omega (arith, e, less)))) in
          omega (arith, split_q, split_p, same, count_with p q k (a + 1) n fresh with_k (omega (arith, less)) (omega (arith, within)))
      | inr (inr more) ↦ absurd (omega (arith, here, more))
    ]

-- so does one that may be it
pub count_maybe : (p q : ℕ → Bool) (k n : ℕ) (b : Bool) → p k ≡ false → ((j : ℕ) → q j ≡ (b && j == k || p j)) → k < n
    → count_by q (range_with_len 0 n) ≡ as_one b + count_by p (range_with_len 0 n)
count_maybe p q k n true fresh with_k within = count_with p q k 0 n fresh with_k (omega arith) (omega (arith, within))
count_maybe p q k n false fresh same within = let e = count_same q p same (range_with_len 0 n) in omega (arith, e)

-- an identifier of a list that wasn't noted before stands in one list more
pub lists_more : (noted noted' : BTreeMap Id ℕ) (ids : List Id) (k : ℕ) (x : Id) → k < 32 → is_noted noted x k ≡ false → NotesList noted noted' ids k
    → lists_with noted' x ≡ as_one (has_id ids x) + lists_with noted x
unfolding member_count
lists_more noted noted' ids k x small fresh notes = count_maybe (is_noted noted x) (is_noted noted' x) k 32 (has_id ids x) fresh (λ j. notes x j) small

-- ---- nothing is noted

pub no_member : (j : ℕ) → has_member 0 j ≡ false
unfolding has_member
no_member j = ap (λ (b : ℕ). b == 1) (bit_at-zero j)

pub no_lists : (noted : BTreeMap Id ℕ) (x : Id) → noted.entries ≡ [] → backing_mask noted x ≡ 0
no_lists noted x none = ap (λ (es : List (Id × ℕ)). unwrap_or (lookup (is_at (id_cmp x)) es) 0) none

pub no_count : member_count 32 0 ≡ 0
unfolding member_count has_member
no_count = refl

pub none_marked : (noted : BTreeMap Id ℕ) (x : Id) (j : ℕ) → noted.entries ≡ [] → is_noted noted x j ≡ false
none_marked noted x j none = ap (λ (b : ℕ). has_member b j) (no_lists noted x none) ∙ no_member j

pub none_noted : (noted : BTreeMap Id ℕ) (x : Id) → noted.entries ≡ [] → lists_with noted x ≡ 0
none_noted noted x none = ap (member_count 32) (no_lists noted x none) ∙ no_count
