-- Worked rows: which frames make room for another, and which are a batch.
use Rattle.std.specs.Prelude.{◌≡◌, [], ◌∷◌, Some, None, true, false, refl}
use Rattle.ritas_base.specs.declared.mode.FrameVersion.TheVariants.{One, Two, Three}
use Rattle.link_resume.specs.declared.kept.Kept.{Kept}
use Rattle.link_resume.specs.Lists.{Keepings, most_kept, room_for, with_room, between, batch, batch_behind, joins_batch, last_number}

abbrev kept : Kept
kept = record { seq = 4; frame = 1 ∷ 2 ∷ 3 ∷ [] }

-- where another fits all stay; where it fits behind none, all are dropped, and the oldest first
fits_row : room_for (most_kept One) 8388605 (kept ∷ []) ≡ kept ∷ []
fits_row = refl

full_row : room_for (most_kept Two) 8388606 (kept ∷ []) ≡ []
full_row = refl

abbrev newer : Kept
newer = record { seq = 5; frame = 6 ∷ 7 ∷ [] }

oldest_row : room_for (most_kept One) 8388606 (kept ∷ newer ∷ []) ≡ newer ∷ []
oldest_row = refl

-- in version 3 all stay
no_limit_row : room_for (most_kept Three) 8388606 (kept ∷ newer ∷ []) ≡ kept ∷ newer ∷ []
no_limit_row = refl

-- what is kept for other peers stays
abbrev for_two : Keepings
for_two = record { limit = most_kept Two; lists = (kept ∷ []) ∷ (kept ∷ newer ∷ []) ∷ [] }

others_row : (with_room for_two 1 8388606).lists ≡ (kept ∷ []) ∷ (newer ∷ []) ∷ []
others_row = refl

-- those with numbers up to one, those behind one, and none where there are none between
between_rows : (between None 4 (kept ∷ newer ∷ []) ≡ kept ∷ []) × (between (Some 4) 9 (kept ∷ newer ∷ []) ≡ newer ∷ [])
    × (between (Some 5) 9 (kept ∷ newer ∷ []) ≡ [])
between_rows = (refl, refl, refl)

-- the first frame is in a batch however long it is, and another where they have the most of bytes together and no more
joins_rows : (joins_batch 16384 None 9999999 ≡ true) × (joins_batch 16384 (Some 16000) 384 ≡ true) × (joins_batch 16384 (Some 16000) 385 ≡ false)
joins_rows = (refl, refl, refl)

-- so all of a few short ones are a batch, and of these, which stand behind 16,380 bytes, the first one
batch_rows : (batch 16384 (kept ∷ newer ∷ []) ≡ kept ∷ newer ∷ []) × (batch_behind 16384 (Some 16380) (kept ∷ newer ∷ []) ≡ kept ∷ [])
    × (batch_behind 16384 (Some 16382) (kept ∷ newer ∷ []) ≡ [])
batch_rows = (refl, refl, refl)

-- with no byte the batch is the first frame, if there is one
single_rows : (batch 0 (kept ∷ newer ∷ []) ≡ kept ∷ []) × (batch 0 [] ≡ [])
single_rows = (refl, refl)

last_rows : (last_number [] ≡ None) × (last_number (kept ∷ newer ∷ []) ≡ Some 5)
last_rows = (refl, refl)
