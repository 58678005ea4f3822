-- Worked rows.
use Rattle.std.specs.Prelude.{◌≡◌, ℕ, ◌*◌, List, [], ◌∷◌, ◌++◌, length, codes, replicate, take, Ok, Err, refl}
use Rattle.ritas_base.specs.declared.mode.FrameVersion.TheVariants.{One, Two, Three}
use Rattle.ritas_base.specs.declared.mode.Vect.TheVariants.{Echo}
use Rattle.ritas_base.specs.declared.event.Event.TheVariants.{Frame, Input, Turn, Pass, Sealed}
use Rattle.schedule_file.specs.declared.fault.FileFault.TheVariants as faults
use Rattle.schedule_file.specs.declared.header.HeaderKeys.TheVariants.{Master, Row}
use Rattle.schedule_file.specs.Reading.{text_start}
use Rattle.schedule_file.specs.FileBytes.{byte_at, end_at, bytes_at, u16_at, u32_at, u64_at, text_at}
use Rattle.ritas_base.specs.Bytes.{filled_row}
use Rattle.schedule_file.specs.ReadHeader.{Heading, start_at, numbers_at, root_at, vect_at, mask_at, master_at, me_at, each_key_at, key_row_at, alone_at, keys_at, header_at}
use Rattle.schedule_file.specs.ReadEvents.{replica_at, pair_at, frame_at, input_read_at, turn_at, pass_at, sealed_at, kind_at, event_at, events_at}
use Rattle.schedule_file.specs.Schedule.{file_of}
use Rattle.schedule_file.specs.Spelling.{start_text}

-- what follows the session in a header of n replicas, of which none is faulty and which the mask names
abbrev behind_start : ℕ → ℕ → List ℕ
behind_start n mask = n ∷ 0 ∷ 1 ∷ 1 ∷ 0 ∷ 0 ∷ 0 ∷ mask ∷ 0 ∷ replicate 32 0

abbrev header_of : ℕ → ℕ → List ℕ
header_of n mask = codes "RITS" ++ (1 ∷ replicate 8 0 ++ behind_start n mask)

abbrev heading_of : ℕ → ℕ → Heading
heading_of n mask = record { session = 0; version = One; p = record { n = n; f = 0 }; root = 1; vect = Echo; correct = mask; keys = Master (replicate 32 0) }

-- one replica, and no event
no_event : file_of (header_of 1 1 ++ 0 ∷ []) ≡ Ok (heading_of 1 1, [])
unfolding file_of header_at start_at numbers_at root_at vect_at mask_at keys_at master_at event_at events_at kind_at replica_at pair_at frame_at input_read_at turn_at pass_at sealed_at text_at u16_at u32_at u64_at bytes_at byte_at end_at
no_event = refl

-- its end mark is missing
no_end : file_of (header_of 1 1) ≡ Err (faults.Truncated 54)
unfolding file_of header_at start_at numbers_at root_at vect_at mask_at keys_at master_at event_at events_at kind_at replica_at pair_at frame_at input_read_at turn_at pass_at sealed_at text_at u16_at u32_at u64_at bytes_at byte_at end_at
no_end = refl

-- a byte follows its end mark
a_byte_more : file_of (header_of 1 1 ++ 0 ∷ 0 ∷ []) ≡ Err (faults.Trailing 55)
unfolding file_of header_at start_at numbers_at root_at vect_at mask_at keys_at master_at event_at events_at kind_at replica_at pair_at frame_at input_read_at turn_at pass_at sealed_at text_at u16_at u32_at u64_at bytes_at byte_at end_at
a_byte_more = refl

-- it ends in its first field
short : file_of (take 3 (header_of 1 1)) ≡ Err (faults.Truncated 3)
unfolding file_of header_at start_at numbers_at root_at vect_at mask_at keys_at master_at event_at events_at kind_at replica_at pair_at frame_at input_read_at turn_at pass_at sealed_at text_at u16_at u32_at u64_at bytes_at byte_at end_at
short = refl

-- another magic word
other_magic : file_of (82 ∷ 73 ∷ 84 ∷ 88 ∷ []) ≡ Err faults.Magic
unfolding file_of header_at start_at numbers_at root_at vect_at mask_at keys_at master_at event_at events_at kind_at replica_at pair_at frame_at input_read_at turn_at pass_at sealed_at text_at u16_at u32_at u64_at bytes_at byte_at end_at
other_magic = refl

-- there is no version 0, and none past 3
version_zero : file_of (82 ∷ 73 ∷ 84 ∷ 83 ∷ 0 ∷ []) ≡ Err faults.Version
unfolding file_of header_at start_at numbers_at root_at vect_at mask_at keys_at master_at event_at events_at kind_at replica_at pair_at frame_at input_read_at turn_at pass_at sealed_at text_at u16_at u32_at u64_at bytes_at byte_at end_at
version_zero = refl

version_four : file_of (82 ∷ 73 ∷ 84 ∷ 83 ∷ 4 ∷ []) ≡ Err faults.Version
unfolding file_of header_at start_at numbers_at root_at vect_at mask_at keys_at master_at event_at events_at kind_at replica_at pair_at frame_at input_read_at turn_at pass_at sealed_at text_at u16_at u32_at u64_at bytes_at byte_at end_at
version_four = refl

-- the three versions, each with session 7, read and written
version_one : start_at (text_start (82 ∷ 73 ∷ 84 ∷ 83 ∷ 1 ∷ 0 ∷ 0 ∷ 0 ∷ 0 ∷ 0 ∷ 0 ∷ 0 ∷ 7 ∷ [])) ≡ Ok ((One, 7), record { at = 13; rest = [] })
unfolding start_at u32_at u64_at bytes_at byte_at
version_one = refl

version_two : start_at (text_start (82 ∷ 73 ∷ 84 ∷ 83 ∷ 2 ∷ 0 ∷ 0 ∷ 0 ∷ 0 ∷ 0 ∷ 0 ∷ 0 ∷ 7 ∷ [])) ≡ Ok ((Two, 7), record { at = 13; rest = [] })
unfolding start_at u32_at u64_at bytes_at byte_at
version_two = refl

version_three : start_at (text_start (82 ∷ 73 ∷ 84 ∷ 83 ∷ 3 ∷ 0 ∷ 0 ∷ 0 ∷ 0 ∷ 0 ∷ 0 ∷ 0 ∷ 7 ∷ [])) ≡ Ok ((Three, 7), record { at = 13; rest = [] })
unfolding start_at u32_at u64_at bytes_at byte_at
version_three = refl

text_one : start_text One 7 ≡ 82 ∷ 73 ∷ 84 ∷ 83 ∷ 1 ∷ 0 ∷ 0 ∷ 0 ∷ 0 ∷ 0 ∷ 0 ∷ 0 ∷ 7 ∷ []
text_one = refl

text_two : start_text Two 7 ≡ 82 ∷ 73 ∷ 84 ∷ 83 ∷ 2 ∷ 0 ∷ 0 ∷ 0 ∷ 0 ∷ 0 ∷ 0 ∷ 0 ∷ 7 ∷ []
text_two = refl

text_three : start_text Three 7 ≡ 82 ∷ 73 ∷ 84 ∷ 83 ∷ 3 ∷ 0 ∷ 0 ∷ 0 ∷ 0 ∷ 0 ∷ 0 ∷ 0 ∷ 7 ∷ []
text_three = refl

-- one replica of a session of version 2, and no event
no_event_of_two : file_of (codes "RITS" ++ (2 ∷ replicate 8 0 ++ behind_start 1 1) ++ 0 ∷ []) ≡ Ok (record (heading_of 1 1) { version = Two }, [])
unfolding file_of header_at start_at numbers_at root_at vect_at mask_at keys_at master_at event_at events_at kind_at replica_at pair_at frame_at input_read_at turn_at pass_at sealed_at text_at u16_at u32_at u64_at bytes_at byte_at end_at
no_event_of_two = refl

-- and of version 3
no_event_of_three : file_of (codes "RITS" ++ (3 ∷ replicate 8 0 ++ behind_start 1 1) ++ 0 ∷ []) ≡ Ok (record (heading_of 1 1) { version = Three }, [])
unfolding file_of header_at start_at numbers_at root_at vect_at mask_at keys_at master_at event_at events_at kind_at replica_at pair_at frame_at input_read_at turn_at pass_at sealed_at text_at u16_at u32_at u64_at bytes_at byte_at end_at
no_event_of_three = refl

-- no replica
none : file_of (header_of 0 0) ≡ Err (faults.Header 13)
unfolding file_of header_at start_at numbers_at root_at vect_at mask_at keys_at master_at event_at events_at kind_at replica_at pair_at frame_at input_read_at turn_at pass_at sealed_at text_at u16_at u32_at u64_at bytes_at byte_at end_at
none = refl

-- 32 replicas
too_many : file_of (header_of 32 0) ≡ Err (faults.Header 13)
unfolding file_of header_at start_at numbers_at root_at vect_at mask_at keys_at master_at event_at events_at kind_at replica_at pair_at frame_at input_read_at turn_at pass_at sealed_at text_at u16_at u32_at u64_at bytes_at byte_at end_at
too_many = refl

-- replica 1 of one is correct
no_such_correct : file_of (header_of 1 2) ≡ Err (faults.Header 17)
unfolding file_of header_at start_at numbers_at root_at vect_at mask_at keys_at master_at event_at events_at kind_at replica_at pair_at frame_at input_read_at turn_at pass_at sealed_at text_at u16_at u32_at u64_at bytes_at byte_at end_at
no_such_correct = refl

-- there is no event of first byte 6
no_such_event : file_of (header_of 1 1 ++ 6 ∷ []) ≡ Err (faults.Event 54)
unfolding file_of header_at start_at numbers_at root_at vect_at mask_at keys_at master_at event_at events_at kind_at replica_at pair_at frame_at input_read_at turn_at pass_at sealed_at text_at u16_at u32_at u64_at bytes_at byte_at end_at
no_such_event = refl

-- a turn of replica 1 of one
no_such_replica : file_of (header_of 1 1 ++ 3 ∷ 1 ∷ []) ≡ Err (faults.Event 54)
unfolding file_of header_at start_at numbers_at root_at vect_at mask_at keys_at master_at event_at events_at kind_at replica_at pair_at frame_at input_read_at turn_at pass_at sealed_at text_at u16_at u32_at u64_at bytes_at byte_at end_at
no_such_replica = refl

-- a frame that a replica made for itself
to_itself : file_of (header_of 1 1 ++ 4 ∷ 0 ∷ 0 ∷ []) ≡ Err (faults.Event 54)
unfolding file_of header_at start_at numbers_at root_at vect_at mask_at keys_at master_at event_at events_at kind_at replica_at pair_at frame_at input_read_at turn_at pass_at sealed_at text_at u16_at u32_at u64_at bytes_at byte_at end_at
to_itself = refl

-- five events of two replicas, the newest first
five_events : file_of (header_of 2 3 ++ (1 ∷ 0 ∷ 0 ∷ 2 ∷ 97 ∷ 98 ∷ 2 ∷ 1 ∷ 0 ∷ 1 ∷ 99 ∷ 3 ∷ 1 ∷ 4 ∷ 0 ∷ 1 ∷ 0 ∷ 0 ∷ 1 ∷ 4 ∷ 5 ∷ 1 ∷ 0 ∷ 0 ∷ 0 ∷ 0 ∷ [])) ≡ Ok (heading_of 2 3, Sealed 1 0 [] ∷ Pass 0 1 260 ∷ Turn 1 ∷ Input 1 (99 ∷ []) ∷ Frame 0 (97 ∷ 98 ∷ []) ∷ [])
unfolding file_of header_at start_at numbers_at root_at vect_at mask_at keys_at master_at event_at events_at kind_at replica_at pair_at frame_at input_read_at turn_at pass_at sealed_at text_at u16_at u32_at u64_at bytes_at byte_at end_at
five_events = refl

-- ---- the keys of one replica alone

-- a header with the keys of replica me alone, where the mask names the correct ones
abbrev alone_of : ℕ → ℕ → ℕ → List ℕ
alone_of n mask me = codes "RITS" ++ (1 ∷ replicate 8 0 ++ (n ∷ 0 ∷ 1 ∷ 1 ∷ 0 ∷ 0 ∷ 0 ∷ mask ∷ 1 ∷ me ∷ replicate (32 * n) 7 ++ replicate 32 9))

-- a key of sevens, and one of nines
abbrev seven : List ℕ
seven = replicate 32 7

abbrev nine : List ℕ
nine = replicate 32 9

abbrev heading_alone : ℕ → ℕ → ℕ → List (List ℕ) → Heading
heading_alone n mask me keys = record { session = 0; version = One; p = record { n = n; f = 0 }; root = 1; vect = Echo; correct = mask; keys = Row me (filled_row keys) nine }

-- replica 0 of one, whose header has 87 bytes, and no event
alone : file_of (alone_of 1 1 0 ++ 0 ∷ []) ≡ Ok (heading_alone 1 1 0 (seven ∷ []), [])
unfolding file_of header_at start_at numbers_at root_at vect_at mask_at keys_at alone_at me_at key_row_at each_key_at event_at events_at kind_at replica_at pair_at frame_at input_read_at turn_at pass_at sealed_at text_at u16_at u32_at u64_at bytes_at byte_at end_at
alone = refl

size_alone : length (alone_of 1 1 0) ≡ 87
size_alone = refl

-- three events at replica 1 of two, the newest first
events_alone : file_of (alone_of 2 2 1 ++ (1 ∷ 1 ∷ 0 ∷ 1 ∷ 97 ∷ 2 ∷ 1 ∷ 0 ∷ 1 ∷ 98 ∷ 3 ∷ 1 ∷ 0 ∷ []))
    ≡ Ok (heading_alone 2 2 1 (seven ∷ seven ∷ []), Turn 1 ∷ Input 1 (98 ∷ []) ∷ Frame 1 (97 ∷ []) ∷ [])
unfolding file_of header_at start_at numbers_at root_at vect_at mask_at keys_at alone_at me_at key_row_at each_key_at event_at events_at kind_at replica_at pair_at frame_at input_read_at turn_at pass_at sealed_at text_at u16_at u32_at u64_at bytes_at byte_at end_at
events_alone = refl

-- there is no replica 1 of one
no_me : file_of (alone_of 1 1 1) ≡ Err (faults.Header 22)
unfolding file_of header_at start_at numbers_at root_at vect_at mask_at keys_at alone_at me_at key_row_at each_key_at event_at events_at kind_at replica_at pair_at frame_at input_read_at turn_at pass_at sealed_at text_at u16_at u32_at u64_at bytes_at byte_at end_at
no_me = refl

-- replica 1 of two is not correct, or not alone
not_correct : file_of (take 23 (alone_of 2 1 1)) ≡ Err (faults.Header 17)
unfolding file_of header_at start_at numbers_at root_at vect_at mask_at keys_at alone_at me_at key_row_at each_key_at event_at events_at kind_at replica_at pair_at frame_at input_read_at turn_at pass_at sealed_at text_at u16_at u32_at u64_at bytes_at byte_at end_at
not_correct = refl

not_alone : file_of (take 23 (alone_of 2 3 1)) ≡ Err (faults.Header 17)
unfolding file_of header_at start_at numbers_at root_at vect_at mask_at keys_at alone_at me_at key_row_at each_key_at event_at events_at kind_at replica_at pair_at frame_at input_read_at turn_at pass_at sealed_at text_at u16_at u32_at u64_at bytes_at byte_at end_at
not_alone = refl

-- it ends before the number of its replica, and in its keys
short_me : file_of (take 22 (alone_of 2 3 1)) ≡ Err (faults.Truncated 22)
unfolding file_of header_at start_at numbers_at root_at vect_at mask_at keys_at alone_at me_at key_row_at each_key_at event_at events_at kind_at replica_at pair_at frame_at input_read_at turn_at pass_at sealed_at text_at u16_at u32_at u64_at bytes_at byte_at end_at
short_me = refl

short_keys : file_of (take 60 (alone_of 2 2 1)) ≡ Err (faults.Truncated 60)
unfolding file_of header_at start_at numbers_at root_at vect_at mask_at keys_at alone_at me_at key_row_at each_key_at event_at events_at kind_at replica_at pair_at frame_at input_read_at turn_at pass_at sealed_at text_at u16_at u32_at u64_at bytes_at byte_at end_at
short_keys = refl

-- another replica's frame isn't passed on
no_pass : file_of (alone_of 1 1 0 ++ 4 ∷ []) ≡ Err (faults.Event 87)
unfolding file_of header_at start_at numbers_at root_at vect_at mask_at keys_at alone_at me_at key_row_at each_key_at event_at events_at kind_at replica_at pair_at frame_at input_read_at turn_at pass_at sealed_at text_at u16_at u32_at u64_at bytes_at byte_at end_at
no_pass = refl

-- a turn of another replica
not_me : file_of (alone_of 2 2 1 ++ 3 ∷ 0 ∷ []) ≡ Err (faults.Event 119)
unfolding file_of header_at start_at numbers_at root_at vect_at mask_at keys_at alone_at me_at key_row_at each_key_at event_at events_at kind_at replica_at pair_at frame_at input_read_at turn_at pass_at sealed_at text_at u16_at u32_at u64_at bytes_at byte_at end_at
not_me = refl

-- there is no third form
no_such_form : file_of (take 21 (header_of 1 1) ++ 2 ∷ []) ≡ Err (faults.Header 21)
unfolding file_of header_at start_at numbers_at root_at vect_at mask_at keys_at alone_at me_at key_row_at each_key_at event_at events_at kind_at replica_at pair_at frame_at input_read_at turn_at pass_at sealed_at text_at u16_at u32_at u64_at bytes_at byte_at end_at
no_such_form = refl
