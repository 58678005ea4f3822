-- Sets of origins: eight sets of 32 numbers each are one set.
use Rattle.std.specs.Prelude.{◌≡◌, ℕ, zero, suc, ◌+◌, ◌*◌, ◌/◌, ◌%◌, ◌<◌, ◌≤◌, Bool, List, [], ◌∷◌, length, count_by, sum_by, slice_index_or, take, cond, refl}
use Rattle.std.specs.List.{range_with_len}
use Rattle.std.proofs.Common.{sym, ◌∙◌, ap, ap₂, arith}
use Rattle.std.proofs.lemmas.List.Sums.{sum_by_push, sum_by-cons}
use Rattle.std.proofs.lemmas.List.{take_all}
use Rattle.ritas_base.specs.Members.{has_member, member_count}
use Rattle.ritas_base.specs.History.{replicas}
use Rattle.ritas_base.specs.RangeLaws.{range_more}
use Rattle.command_log.specs.declared.origins.OriginSet.{OriginSet}
use Rattle.command_log.specs.Rows.{count_origins}
use Rattle.command_log.specs.Origins.{origin_count}

-- ---- counting

count_push : (p : ℕ → Bool) (n : ℕ) → count_by p (replicas (suc n)) ≡ count_by p (replicas n) + cond {A = ℕ} (p n) 1 0
count_push p n = ap (count_by p) (range_more 0 n n (omega arith)) ∙ sum_by_push (λ k. cond {A = ℕ} (p k) 1 0) (range_with_len 0 n) n

-- tests that are alike below n count alike there
pub count_below : (p q : ℕ → Bool) (n : ℕ) → ((k : ℕ) → k < n → p k ≡ q k) → count_by p (replicas n) ≡ count_by q (replicas n)
count_below p q zero alike = refl
count_below p q (suc n) alike =
    count_push p n
    ∙ (ap₂ (λ (x : ℕ) (b : Bool). x + cond {A = ℕ} b 1 0) (count_below p q n (λ k l. alike k (omega (arith, l)))) (alike n (omega arith))
    ∙ sym (count_push q n))

-- and tests that are alike below 256 count alike
pub counts_below : (p q : ℕ → Bool) → ((k : ℕ) → k < 256 → p k ≡ q k) → count_origins p ≡ count_origins q
unfolding count_origins
counts_below p q alike = count_below p q 256 alike

-- those below a + b are those below a, and the b from there on
count_split : (p : ℕ → Bool) (a b : ℕ) → count_by p (replicas (a + b)) ≡ count_by p (replicas a) + count_by (λ k. p (a + k)) (replicas b)
count_split p a zero = let same : a + 0 ≡ a = omega arith in let is = ap (λ (n : ℕ). count_by p (replicas n)) same in omega (arith, is)
count_split p a (suc b) =
    let next : a + suc b ≡ suc (a + b) = omega arith in
    let is = ap (λ (n : ℕ). count_by p (replicas n)) next in
    let one = count_push p (a + b) in
    let rest = count_split p a b in
    let other = count_push (λ k. p (a + k)) b in
    omega (arith, is, one, rest, other)

-- ---- eight sets

abbrev member_in : List ℕ → ℕ → Bool
member_in sets k = has_member (slice_index_or sets (k / 32) 0) (k % 32)

in_first : (x : ℕ) (sets : List ℕ) (k : ℕ) → k < 32 → member_in (x ∷ sets) k ≡ has_member x k
in_first x sets k small =
    let quotient : k / 32 ≡ 0 = omega (arith, small) in
    let rest : k % 32 ≡ k = omega (arith, small) in
    ap₂ (λ (q r : ℕ). has_member (slice_index_or (x ∷ sets) q 0) r) quotient rest

in_rest : (x : ℕ) (sets : List ℕ) (k : ℕ) → member_in (x ∷ sets) (32 + k) ≡ member_in sets k
in_rest x sets k =
    let quotient : (32 + k) / 32 ≡ suc (k / 32) = omega arith in
    let rest : (32 + k) % 32 ≡ k % 32 = omega arith in
    ap₂ (λ (q r : ℕ). has_member (slice_index_or (x ∷ sets) q 0) r) quotient rest

-- the sizes of the sets add up
pub sizes_add : (sets : List ℕ) → sum_by (member_count 32) sets ≡ count_by (member_in sets) (replicas (32 * length sets))
unfolding member_count
sizes_add [] = refl
sizes_add (x ∷ sets) =
    let n = length sets in
    let many : 32 * suc n ≡ 32 + 32 * n = omega arith in
    let is = ap (λ (m : ℕ). count_by (member_in (x ∷ sets)) (replicas m)) many in
    let parts = count_split (member_in (x ∷ sets)) 32 (32 * n) in
    let first = count_below (member_in (x ∷ sets)) (has_member x) 32 (λ k small. in_first x sets k small) in
    let rest = count_below (λ k. member_in (x ∷ sets) (32 + k)) (member_in sets) (32 * n) (λ k small. in_rest x sets k) in
    let before = sizes_add sets in
    let whole = sum_by-cons (member_count 32) x sets in
    omega (arith, is, parts, first, rest, before, whole)

-- so the sizes of eight sets are that of the whole
pub whole_size : (s : OriginSet) (n : ℕ) → length s.sets ≡ 8 → 8 ≤ n → sum_by (member_count 32) (take n s.sets) ≡ origin_count s
unfolding count_origins
whole_size s n eight far =
    ap (sum_by (member_count 32)) (take_all n s.sets (omega (arith, eight, far))) ∙ sizes_add s.sets
    ∙ ap (λ (m : ℕ). count_by (member_in s.sets) (replicas (32 * m))) eight
