-- Masks that have the same members are one, and the mask of some tests has those that pass; how many members are below a number.
use Rattle.std.specs.Prelude.{◌≡◌, ℕ, zero, suc, ◌<◌, ◌≤◌, ◌+◌, ◌*◌, ◌%◌, ◌^◌, ◌==◌, Bool, true, false, List, map, length, count_by, Option, None, is_some, cond, refl}
use Rattle.std.specs.List.{range_with_len}
use Rattle.std.specs.Int.{bit_at}
use Rattle.std.specs.Int.RustNames.{count_ones}
use Rattle.std.specs.Simd.Lanes.{mask_l}
use Rattle.std.proofs.Common.{sym, ◌∙◌, ap, inl, inr, arith, get_or, take}
use Rattle.std.proofs.Math.ListN.{get_or-map}
use Rattle.std.proofs.Math.Numerals.{one-add}
use Rattle.std.proofs.Math.Pow.{pow_pos}
use Rattle.std.proofs.lemmas.Bool.{cases_Bool}
use Rattle.std.proofs.lemmas.List.Sums.{sum_by_push, count_by_more_yes, count_by_more_no}
use Rattle.std.proofs.lemmas.Nat.{ones_cat, mod-pow-add, mod_below}
use Rattle.std.proofs.lemmas.Nat.Bits.{bit_at-lt, same_from_bits}
use Rattle.std.proofs.lemmas.Simd.{bit_mask_l}
use Rattle.ritas_base.specs.Members.{has_member, member_count}
use Rattle.ritas_base.specs.RangeLaws.{range_more}

-- bits that are 1 alike are one
same_bit : (x y : ℕ) → x < 2 → y < 2 → (x == 1) ≡ (y == 1) → x ≡ y
same_bit zero zero h k e = refl
same_bit (suc zero) (suc zero) h k e = refl
same_bit zero (suc zero) h k e = absurd cc
same_bit (suc zero) zero h k e = absurd cc
same_bit (suc (suc x)) y h k e = absurd (omega (arith, h))
same_bit x (suc (suc y)) h k e = absurd (omega (arith, k))

pub same_mask : (a b : ℕ) → ((k : ℕ) → has_member a k ≡ has_member b k) → a ≡ b
unfolding has_member
same_mask a b same = same_from_bits a b (λ k. same_bit (bit_at a k) (bit_at b k) (bit_at-lt a k) (bit_at-lt b k) (same k))

bit_of : (b : Bool) → (cond {A = ℕ} b 1 0 == 1) ≡ b
bit_of true = refl
bit_of false = refl

-- a mask has those whose test passes
pub tested : (tests : List Bool) (k : ℕ) → has_member (mask_l tests) k ≡ get_or tests k false
unfolding has_member
tested tests k = ap (λ (x : ℕ). x == 1) (bit_mask_l tests k) ∙ bit_of (get_or tests k false)

-- and it is the one mask that does
pub mask_of_tests : (mask : ℕ) (tests : List Bool) → ((k : ℕ) → has_member mask k ≡ get_or tests k false) → mask ≡ mask_l tests
mask_of_tests mask tests same = same_mask mask (mask_l tests) (λ k. same k ∙ sym (tested tests k))

-- the mask of what is there has the places at which something is
pub places_there : {A : Type 0} (os : List (Option A)) (k : ℕ) → has_member (mask_l (map is_some os)) k ≡ is_some (get_or os k None)
places_there os k = tested (map is_some os) k ∙ get_or-map is_some os k None

-- ---- how many are below a number

-- one number more
pub member_more : (mask k : ℕ) → member_count (suc k) mask ≡ member_count k mask + cond (has_member mask k) 1 0
unfolding member_count
member_more mask k =
    ap (count_by (has_member mask)) (range_more 0 k k (omega arith)) ∙ sum_by_push (λ j. cond (has_member mask j) 1 0) (range_with_len 0 k) k

ones_of_bit : (b : ℕ) → b < 2 → count_ones b ≡ cond (b == 1) 1 0
unfolding count_ones
ones_of_bit zero h = refl
ones_of_bit (suc zero) h = refl
ones_of_bit (suc (suc b)) h = absurd (omega (arith, h))

-- as many ones as there are members
pub ones_are : (w n : ℕ) → count_ones (n % 2 ^ w) ≡ member_count w n
unfolding member_count has_member count_ones
ones_are zero n = let none : n % 2 ^ 0 ≡ 0 = omega (arith, mod_below n (2 ^ 0) (omega arith)) in ap count_ones none
ones_are (suc w) n =
    let split : n % 2 ^ suc w ≡ bit_at n w * 2 ^ w + n % 2 ^ w = rw one-add at (mod-pow-add n 1 w) in
    let below : n % 2 ^ w < 2 ^ w = mod_below n (2 ^ w) (pow_pos w) in
    let digits = ones_cat w (bit_at n w) (n % 2 ^ w) below in
    let bit = ones_of_bit (bit_at n w) (bit_at-lt n w) in
    let more = member_more n w in
    let here = ones_are w n in
    ap count_ones split ∙ omega (arith, digits, bit, more, here)

-- of the mask of what is there as many members are below a place as things are there before it
pub rank_there : {A : Type 0} (os : List (Option A)) (k : ℕ) → k ≤ length os → member_count k (mask_l (map is_some os)) ≡ count_by is_some (take k os)
unfolding member_count
rank_there os zero l = refl
rank_there {A} os (suc k) l =
    let mask = mask_l (map is_some os) in
    let there : Bool = is_some (get_or os k None) in
    let within : k < length os = omega (arith, l) in
    let last : suc k ≡ k + 1 = omega arith in
    let more = member_more mask k in
    let before = rank_there os k (omega (arith, l)) in
    let here : cond {A = ℕ} (has_member mask k) 1 0 ≡ cond {A = ℕ} there 1 0 = ap (λ (b : Bool). cond {A = ℕ} b 1 0) (places_there os k) in
    elim (cases_Bool there) [
      | inl is_in ↦
          let one : cond {A = ℕ} there 1 0 ≡ 1 = ap (λ (b : Bool). cond {A = ℕ} b 1 0) is_in in
          let c = count_by_more_yes is_some os k None within is_in in
          let s : member_count (suc k) mask ≡ count_by is_some (take (k + 1) os) = omega (arith, more, before, here, one, c) in
          s ∙ ap (λ (j : ℕ). count_by is_some (take j os)) (sym last)
      | inr is_out ↦
          let none : cond {A = ℕ} there 1 0 ≡ 0 = ap (λ (b : Bool). cond {A = ℕ} b 1 0) is_out in
          let c = count_by_more_no is_some os k None within is_out in
          let s : member_count (suc k) mask ≡ count_by is_some (take (k + 1) os) = omega (arith, more, before, here, none, c) in
          s ∙ ap (λ (j : ℕ). count_by is_some (take j os)) (sym last)
    ]
