-- Worked rows: four replicas, of which one may be faulty, and a piece with row 0 of the log: command 0 of replica 0,
-- request 1 of client 7, "hi".
use Rattle.std.specs.Prelude.{◌≡◌, ℕ, List, [], ◌∷◌, ◌++◌, codes, length, Some, None, refl}
use Rattle.ritas_base.specs.Numbers.{Numbers}
use Rattle.command_log.specs.Rows.{Row}
use Rattle.command_log.specs.Pieces.{piece_bytes, piece_of_log}
use Rattle.client_port.specs.Messages.{four_bytes_at}
use Rattle.observer.specs.Reading.{two_at, row_left, front_left, form_fault, piece_in}
use Rattle.observer.specs.Giving.{Gift, backed, next_backed, Gave, Passed, rows_given, given_fault}
use Rattle.observer.specs.Watching.{observed, entered_given, piece_fault}
use Rattle.observer.specs.declared.fault.PieceFault.TheVariants as faults

abbrev four : Numbers
four = record { n = 4; f = 1 }

-- the front of a piece from a position on, with so many rows
abbrev front : ℕ → ℕ → List ℕ
front position count = 3 ∷ 0 ∷ 0 ∷ 0 ∷ position ∷ count ∷ []

-- a row of two bytes, of an origin; the last byte is given
abbrev row : ℕ → ℕ → List ℕ
row origin last = origin ∷ 0 ∷ 0 ∷ 0 ∷ 0 ∷ 0 ∷ 0 ∷ 0 ∷ 7 ∷ 0 ∷ 0 ∷ 0 ∷ 1 ∷ 0 ∷ 2 ∷ 104 ∷ last ∷ []

abbrev hi : List ℕ
hi = front 0 1 ++ row 0 105

-- the same with another last byte
abbrev hj : List ℕ
hj = front 0 1 ++ row 0 106

abbrev says : List ℕ → Row
says payload = record { id = record { origin = 0; num = 0 }; client = 7; request = 1; payload = payload }

abbrev gives : ℕ → List ℕ → Gift
gives k bytes = record { from = k; piece = piece_in bytes }

-- ---- pieces

is_written : piece_bytes (piece_of_log (says (codes "hi") ∷ []) 0) ≡ hi
is_written = refl

-- behind the end there are none
none_written : piece_bytes (piece_of_log (says (codes "hi") ∷ []) 1) ≡ front 1 0
none_written = refl

is_piece : form_fault 4 hi ≡ None
unfolding form_fault front_left row_left four_bytes_at two_at
is_piece = refl

is_read : piece_in hi ≡ record { position = 0; rows = says (codes "hi") ∷ [] }
unfolding four_bytes_at two_at
is_read = refl

no_rows : form_fault 4 (front 9 0) ≡ None
unfolding form_fault front_left row_left four_bytes_at two_at
no_rows = refl

no_bytes : form_fault 4 [] ≡ Some 0
unfolding form_fault front_left row_left four_bytes_at two_at
no_bytes = refl

other_form : form_fault 4 (1 ∷ []) ≡ Some 0
unfolding form_fault front_left row_left four_bytes_at two_at
other_form = refl

no_count : form_fault 4 (3 ∷ 0 ∷ 0 ∷ 0 ∷ 0 ∷ []) ≡ Some 5
unfolding form_fault front_left row_left four_bytes_at two_at
no_count = refl

nine_rows : form_fault 4 (front 0 9) ≡ Some 5
unfolding form_fault front_left row_left four_bytes_at two_at
nine_rows = refl

-- the last row would stand at position 4,294,967,295
past_the_last : form_fault 4 (3 ∷ 255 ∷ 255 ∷ 255 ∷ 255 ∷ 1 ∷ row 0 105) ≡ Some 5
unfolding form_fault front_left row_left four_bytes_at two_at
past_the_last = refl

no_row : form_fault 4 (front 0 1) ≡ Some 6
unfolding form_fault front_left row_left four_bytes_at two_at
no_row = refl

no_replica : form_fault 4 (front 0 1 ++ row 4 105) ≡ Some 6
unfolding form_fault front_left row_left four_bytes_at two_at
no_replica = refl

-- the number of a command is 1,000,000
large_number : form_fault 4 (front 0 1 ++ 0 ∷ 0 ∷ 15 ∷ 66 ∷ 64 ∷ []) ≡ Some 7
unfolding form_fault front_left row_left four_bytes_at two_at
large_number = refl

-- a payload of 4,089 bytes
long_payload : form_fault 4 (front 0 1 ++ 0 ∷ 0 ∷ 0 ∷ 0 ∷ 0 ∷ 0 ∷ 0 ∷ 0 ∷ 7 ∷ 0 ∷ 0 ∷ 0 ∷ 1 ∷ 15 ∷ 249 ∷ []) ≡ Some 19
unfolding form_fault front_left row_left four_bytes_at two_at
long_payload = refl

-- a payload of two bytes of which one is there
short_payload : form_fault 4
    (front 0 1 ++ 0 ∷ 0 ∷ 0 ∷ 0 ∷ 0 ∷ 0 ∷ 0 ∷ 0 ∷ 7 ∷ 0 ∷ 0 ∷ 0 ∷ 1 ∷ 0 ∷ 2 ∷ 104 ∷ []) ≡ Some 22
unfolding form_fault front_left row_left four_bytes_at two_at
short_payload = refl

one_byte_more : form_fault 4 (hi ++ 0 ∷ []) ≡ Some 23
unfolding form_fault front_left row_left four_bytes_at two_at
one_byte_more = refl

-- the same at another position below 256
abbrev hi_at : ℕ → List ℕ
hi_at position = front position 1 ++ row 0 105

-- ---- what f + 1 replicas gave at the next position

nothing_given : next_backed four (rows_given 0 []) ≡ None
unfolding backed
nothing_given = refl

given_by_one : next_backed four (rows_given 0 (Gave (gives 0 hi) ∷ [])) ≡ None
unfolding four_bytes_at two_at backed
given_by_one = refl

given_twice_by_one : next_backed four (rows_given 0 (Gave (gives 0 hi) ∷ Gave (gives 0 hi) ∷ [])) ≡ None
unfolding four_bytes_at two_at backed
given_twice_by_one = refl

given_by_two : next_backed four (rows_given 0 (Gave (gives 2 hi) ∷ Gave (gives 0 hi) ∷ [])) ≡ Some (says (codes "hi"))
unfolding four_bytes_at two_at backed
given_by_two = refl

-- once it is passed, the next position is awaited, where they gave nothing
is_passed : (rows_given 0 (Passed ∷ Gave (gives 2 hi) ∷ Gave (gives 0 hi) ∷ [])).len ≡ 1
is_passed = refl

none_behind_it : next_backed four (rows_given 0 (Passed ∷ Gave (gives 2 hi) ∷ Gave (gives 0 hi) ∷ [])) ≡ None
unfolding four_bytes_at two_at backed
none_behind_it = refl

-- and what they gave there before counts
given_before : next_backed four
    (rows_given 0 (Passed ∷ Gave (gives 2 (hi_at 1)) ∷ Gave (gives 0 (hi_at 1)) ∷ [])) ≡ Some (says (codes "hi"))
unfolding four_bytes_at two_at backed
given_before = refl

-- ---- what is kept of it

first_is_kept : (rows_given 0 (Gave (gives 0 hj) ∷ Gave (gives 0 hi) ∷ [])).kept 0 0 ≡ Some (says (codes "hi"))
unfolding four_bytes_at two_at
first_is_kept = refl

-- a row at a position that was passed isn't kept, and what was kept there before isn't kept twice
behind_the_next : (rows_given 0 (Gave (gives 0 hi) ∷ Passed ∷ [])).kept 0 0 ≡ None
unfolding four_bytes_at two_at
behind_the_next = refl

not_kept_twice : (rows_given 0 (Gave (gives 0 hj) ∷ Passed ∷ Gave (gives 0 hi) ∷ [])).kept 0 0
    ≡ Some (says (codes "hi"))
unfolding four_bytes_at two_at
not_kept_twice = refl

-- a row behind the window isn't kept, and one passed position later it is
behind_the_window : (rows_given 0 (Gave (gives 0 (hi_at 64)) ∷ [])).kept 0 64 ≡ None
unfolding four_bytes_at two_at
behind_the_window = refl

in_the_window : (rows_given 0 (Gave (gives 0 (hi_at 64)) ∷ Passed ∷ [])).kept 0 64 ≡ Some (says (codes "hi"))
unfolding four_bytes_at two_at
in_the_window = refl

-- rows 4 and 5: from position 5 on row 4 isn't kept, and row 5 is
abbrev two_rows : List ℕ
two_rows = front 4 2 ++ row 0 105 ++ row 0 106

before_the_first : (rows_given 5 (Gave (gives 0 two_rows) ∷ [])).kept 0 4 ≡ None
unfolding four_bytes_at two_at
before_the_first = refl

from_the_first : (rows_given 5 (Gave (gives 0 two_rows) ∷ [])).kept 0 5 ≡ Some (says (codes "hj"))
unfolding four_bytes_at two_at
from_the_first = refl

-- ---- what is entered

one_gives : (observed four (gives 0 hi ∷ [])).rows ≡ []
unfolding four_bytes_at two_at backed entered_given
one_gives = refl

the_same_again : (observed four (gives 0 hi ∷ gives 0 hi ∷ [])).rows ≡ []
unfolding four_bytes_at two_at backed entered_given
the_same_again = refl

two_give : (observed four (gives 2 hi ∷ gives 0 hi ∷ gives 0 hi ∷ [])).rows ≡ says (codes "hi") ∷ []
unfolding four_bytes_at two_at backed entered_given
two_give = refl

another_gives_another : (observed four (gives 3 hj ∷ gives 0 hi ∷ [])).rows ≡ []
unfolding four_bytes_at two_at backed entered_given
another_gives_another = refl

-- row 1 waits for row 0
waits : (observed four (gives 3 (front 1 1 ++ row 0 105) ∷ gives 0 (front 1 1 ++ row 0 105) ∷ [])).rows ≡ []
unfolding four_bytes_at two_at backed entered_given
waits = refl

then_both : length (observed four
    (gives 1 hj ∷ gives 0 hj ∷ gives 3 (front 1 1 ++ row 0 105) ∷ gives 0 (front 1 1 ++ row 0 105) ∷ [])).rows ≡ 2
unfolding four_bytes_at two_at backed entered_given
then_both = refl

-- ---- what isn't taken

from_nobody : piece_fault four (observed four []) 4 [] ≡ Some faults.NoSuchReplica
unfolding piece_fault form_fault front_left row_left four_bytes_at two_at
from_nobody = refl

no_piece : piece_fault four (observed four []) 0 (front 0 9) ≡ Some (faults.Form 5)
unfolding piece_fault form_fault front_left row_left four_bytes_at two_at
no_piece = refl

too_far : piece_fault four (observed four []) 0 (front 64 1 ++ row 0 105) ≡ Some (faults.Ahead 0)
unfolding piece_fault form_fault front_left row_left four_bytes_at two_at
too_far = refl

near_enough : piece_fault four (observed four []) 0 (front 63 1 ++ row 0 105) ≡ None
unfolding piece_fault form_fault front_left row_left four_bytes_at two_at
near_enough = refl

-- a piece without rows is nowhere too far
nothing_far : piece_fault four (observed four []) 0 (front 255 0) ≡ None
unfolding piece_fault form_fault front_left row_left four_bytes_at two_at
nothing_far = refl

changed : piece_fault four (observed four (gives 0 hi ∷ [])) 0 hj ≡ Some (faults.Changed 0)
unfolding piece_fault form_fault front_left row_left four_bytes_at two_at backed entered_given
changed = refl

-- what was entered isn't kept: another row there is no change
not_kept : piece_fault four (observed four (gives 2 hi ∷ gives 0 hi ∷ [])) 0 hj ≡ None
unfolding piece_fault form_fault front_left row_left four_bytes_at two_at backed entered_given
not_kept = refl

-- ---- what isn't taken from a position on

far_from_five : given_fault four (rows_given 5 []) 0 (hi_at 69) ≡ Some (faults.Ahead 5)
unfolding given_fault form_fault front_left row_left four_bytes_at two_at
far_from_five = refl

near_to_five : given_fault four (rows_given 5 []) 0 (hi_at 68) ≡ None
unfolding given_fault form_fault front_left row_left four_bytes_at two_at
near_to_five = refl

another_row : given_fault four (rows_given 0 (Gave (gives 0 hi) ∷ [])) 0 hj ≡ Some (faults.Changed 0)
unfolding given_fault form_fault front_left row_left four_bytes_at two_at
another_row = refl

-- where the position was passed, another row is no change
another_row_behind : given_fault four (rows_given 0 (Passed ∷ Gave (gives 0 hi) ∷ [])) 0 hj ≡ None
unfolding given_fault form_fault front_left row_left four_bytes_at two_at
another_row_behind = refl
