-- Worked rows of the rounds that are kept, and of the boxes of older rounds.
use Rattle.std.specs.Prelude.{◌≡◌, ℕ, true, false, [], ◌∷◌, refl}
use Rattle.ritas_base.specs.declared.mode.FrameVersion.TheVariants.{One, Two, Three}
use Rattle.ordered_rounds.specs.Rounds.{is_kept}
use Rattle.ordered_rounds.specs.Boxes.{older_then}

-- where there is a past, the two rounds before the current one are kept, and the round before them isn't
kept_by_two : is_kept One 10 8 ≡ true
kept_by_two = refl

past_by_three : is_kept One 10 7 ≡ false
past_by_three = refl

past_in_version_2 : is_kept Two 10 7 ≡ false
past_in_version_2 = refl

-- in version 3 the first round is kept, however many are complete
kept_for_good : is_kept Three 999999 0 ≡ true
kept_for_good = refl

-- the box of the round that is complete comes before the older ones, of which the oldest is dropped
oldest_dropped : older_then {V = ℕ} Two (8 ∷ 7 ∷ []) 9 ≡ 9 ∷ 8 ∷ []
oldest_dropped = refl

-- and in version 3 none is
none_dropped : older_then {V = ℕ} Three (8 ∷ 7 ∷ []) 9 ≡ 9 ∷ 8 ∷ 7 ∷ []
none_dropped = refl
