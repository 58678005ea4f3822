-- Sets of replicas, and how many of a VECT's places proposed its value.
use Rattle.std.specs.Prelude.{◌≡◌, ℕ, zero, suc, ◌+◌, ◌-◌, ◌≤◌, Bool, false, ◌&&◌, nat_le, count_by, cond, refl}
use Rattle.std.specs.List.{range_with_len}
use Rattle.std.proofs.Common.{◌∙◌, ap, arith}
use Rattle.std.proofs.lemmas.List.Sums.{sum_by_push}
use Rattle.ritas_base.specs.Members.{has_member, member_count}
use Rattle.ritas_base.specs.History.{replicas}
use Rattle.ritas_base.specs.Quorums.{count_same}
use Rattle.ritas_base.specs.RangeLaws.{range_more}

-- so many of the places are among those who proposed
abbrev pub are_places_backed : ℕ → ℕ → ℕ → Bool
are_places_backed support places inits = nat_le support (count_by (λ k. has_member places k && has_member inits k) (range_with_len 0 32))

-- where none from n on passes, those below n are all
count_to : (p : ℕ → Bool) (n d w : ℕ) → ((k : ℕ) → n ≤ k → p k ≡ false) → w ≡ n + d → count_by p (range_with_len 0 w) ≡ count_by p (replicas n)
count_to p n zero w none e = let same : w ≡ n = omega (arith, e) in ap (λ (x : ℕ). count_by p (range_with_len 0 x)) same
count_to p n (suc d) w none e =
    let next : w ≡ suc (n + d) = omega (arith, e) in
    let more = sum_by_push (λ (k : ℕ). cond (p k) 1 0) (range_with_len 0 (n + d)) (n + d) in
    let one : Bool → ℕ = λ b. cond b 1 0 in
    let last : one (p (n + d)) ≡ 0 = ap one (none (n + d) (omega arith)) in
    let rest = count_to p n d (n + d) none refl in
    ap (λ (x : ℕ). count_by p (range_with_len 0 x)) next ∙ (ap (count_by p) (range_more 0 (n + d) (n + d) (omega arith)) ∙ omega (arith, more, last, rest))

-- the count over all places is that over the replicas
pub count_all : (p : ℕ → Bool) (n : ℕ) → n ≤ 31 → ((k : ℕ) → n ≤ k → p k ≡ false) → count_by p (range_with_len 0 32) ≡ count_by p (replicas n)
count_all p n small none = count_to p n (32 - n) 32 none (omega (arith, small))

-- as many as the set has members
pub count_of_set : (mask n : ℕ) (p : ℕ → Bool) → n ≤ 31 → ((k : ℕ) → has_member mask k ≡ p k) → ((k : ℕ) → n ≤ k → p k ≡ false) → member_count 32 mask ≡ count_by p (replicas n)
unfolding member_count
count_of_set mask n p small same none = count_same (has_member mask) p same (range_with_len 0 32) ∙ count_all p n small none
