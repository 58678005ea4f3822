-- A place that was looked up in a mask.
use Rattle.std.proofs.Common.{◌≡◌, ◌^◌, ◌<◌, ℕ, true, sym, subst}
use Rattle.std.specs.Int.RustNames.{count_ones}
use Rattle.ritas_base.specs.Members.{has_member, member_count}
use Rattle.frame_codec.proofs.Places.{members_below}

-- it is one of the mask's, and so many of these are below it
pub record Found (mask k at : ℕ) : Type 0 where
  pub has : has_member mask k ≡ true
  pub rank : at ≡ member_count k mask
  pub below : at < count_ones mask

-- it was found in a set, which is the mask
pub found : (set mask k at : ℕ) → set ≡ mask → has_member set k ≡ true → at ≡ member_count k set → at < count_ones set → Found mask k at
found set mask k at same has is below =
    subst (λ (m : ℕ). Found m k at) same (record { has = has; rank = is; below = below })

pub found_small : (set mask k : ℕ) → set ≡ mask → mask < 2 ^ 32 → has_member set k ≡ true → k < 32
found_small set mask k same small has = members_below set 32 k (subst (λ (m : ℕ). m < 2 ^ 32) (sym same) small) has
