-- Worked rows of a disk: what a write gives, what a stop may leave, and what it is left with by a pick.
use Rattle.std.specs.Prelude.{◌≡◌, ℕ, zero, suc, List, [], ◌∷◌, length, min, refl}
use Rattle.std.proofs.Common.{inl, inr, arith, lit≤, subst, take}
use Rattle.ritas_base.specs.Bytes.{IsBytes}
use Rattle.outside.specs.Disks.{DiskState, MayLeave, at_rest, after_sync, after_write, disk_state_of, with_write, bytes_written}
use Rattle.outside.specs.Stops.{image_left_by}

-- "abc"
abbrev file : List ℕ
file = 97 ∷ 98 ∷ 99 ∷ []

written_over_the_end : bytes_written 2 (120 ∷ 121 ∷ []) file ≡ 97 ∷ 98 ∷ 120 ∷ 121 ∷ []
written_over_the_end = refl

written_inside : bytes_written 0 (120 ∷ []) file ≡ 120 ∷ 98 ∷ 99 ∷ []
written_inside = refl

-- behind the end, zeros stand in front of what is written
written_behind_a_gap : bytes_written 5 (120 ∷ []) file ≡ 97 ∷ 98 ∷ 99 ∷ 0 ∷ 0 ∷ 120 ∷ []
written_behind_a_gap = refl

-- "abc" was synced, and then "xy" was written at 2
abbrev pending : DiskState
pending = with_write 2 (120 ∷ 121 ∷ []) (at_rest file)

is_seen : pending.seen ≡ 97 ∷ 98 ∷ 120 ∷ 121 ∷ []
is_seen = refl

is_pending : pending.ranges ≡ record { at = 2; count = 2 } ∷ []
is_pending = refl

rests_after_a_sync : disk_state_of (after_sync (after_write 2 (120 ∷ 121 ∷ []) (at_rest file ∷ []))) ≡ at_rest pending.seen
rests_after_a_sync = refl

-- ---- what a stop may leave

small : IsBytes (97 ∷ 98 ∷ 7 ∷ [])
small zero = lit≤ tt
small (suc zero) = lit≤ tt
small (suc (suc zero)) = lit≤ tt
small (suc (suc (suc i))) = lit≤ tt

all_of_it : MayLeave pending pending.seen
all_of_it = inr refl

-- another byte in the range, and the old end
another_byte : MayLeave pending (97 ∷ 98 ∷ 7 ∷ [])
another_byte = inl (file, refl, record { before = refl; after = refl; least = omega arith; most = omega arith; bytes = λ i low high. small i })

-- the byte in front of the range stays
abbrev changed : List ℕ
changed = 97 ∷ 0 ∷ 99 ∷ []

stays : MayLeave pending changed → ⊥
stays (inr is) = cc is
stays (inl (older, is, torn)) = differ (subst (λ (x : List ℕ). take (min 2 (length x)) changed ≡ take 2 x) is torn.before)
  where
    differ : take 2 changed ≡ take 2 file → ⊥
    differ e = cc e

-- ---- what a pick leaves

none_is_left : image_left_by 0 pending ≡ file
none_is_left = refl

all_is_left : image_left_by 1 pending ≡ 97 ∷ 98 ∷ 120 ∷ 121 ∷ []
all_is_left = refl

filled_to_the_new_end : image_left_by 2 pending ≡ 97 ∷ 98 ∷ 2 ∷ 2 ∷ []
filled_to_the_new_end = refl

filled_to_the_old_end : image_left_by 3 pending ≡ 97 ∷ 98 ∷ 3 ∷ []
filled_to_the_old_end = refl

-- half of one byte more is none
filled_halfway : image_left_by 4 pending ≡ 97 ∷ 98 ∷ 4 ∷ []
filled_halfway = refl

filled_with_a_byte : image_left_by 257 pending ≡ 97 ∷ 98 ∷ 1 ∷ 1 ∷ []
filled_with_a_byte = refl
