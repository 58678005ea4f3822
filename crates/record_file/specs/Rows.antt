-- Worked rows of files of records. Their head has one byte, 82.
use Rattle.std.specs.Prelude.{◌≡◌, ℕ, true, List, [], ◌∷◌, Some, None, refl}
use Rattle.std.proofs.Common.{inl, inr, arith, lit<, lit≤}
use Rattle.record_file.specs.Form.{Form, IsForm, first_gate, length_in, length_text}
use Rattle.record_file.specs.Records.{IsRecord, IsUnmade, Opens, behind_text, closed_front, front_text, group_text, record_text, records}
use Rattle.record_file.specs.Appending.{length_with}
use Rattle.record_file.specs.Reading.{AtGate, IsForeign, gate_behind, record_at, record_behind, records_read}
use Rattle.record_file.specs.declared.form.LengthWidth.TheVariants.{Two, Four}

-- lengths of two bytes, and of four
abbrev short : Form
short = record { width = Two; head_length = 1; limit = 100 }

abbrev long : Form
long = record { width = Four; head_length = 1; limit = 100 }

short_is_one : IsForm short
short_is_one = record { short = lit< tt; room = lit≤ tt; low = lit≤ tt }

-- "hi", and then an empty record: the newest first
abbrev two : List (List ℕ)
two = [] ∷ (104 ∷ 105 ∷ []) ∷ []

-- ---- texts

-- the most significant byte is first
two_bytes : length_text Two 258 ≡ 1 ∷ 2 ∷ []
two_bytes = refl

four_bytes : length_text Four 65538 ≡ 0 ∷ 1 ∷ 0 ∷ 2 ∷ []
four_bytes = refl

two_bytes_read : length_in Two (1 ∷ 2 ∷ 7 ∷ []) ≡ 258
two_bytes_read = refl

four_bytes_read : length_in Four (0 ∷ 1 ∷ 0 ∷ 2 ∷ 7 ∷ []) ≡ 65538
four_bytes_read = refl

front_of_five : front_text long 5 ≡ 1 ∷ 0 ∷ 0 ∷ 0 ∷ 5 ∷ []
front_of_five = refl

short_record : record_text short (104 ∷ 105 ∷ []) ≡ 1 ∷ 0 ∷ 2 ∷ 104 ∷ 105 ∷ []
short_record = refl

long_record : record_text long (104 ∷ 105 ∷ []) ≡ 1 ∷ 0 ∷ 0 ∷ 0 ∷ 2 ∷ 104 ∷ 105 ∷ []
long_record = refl

-- in the file the oldest is first
two_records : records short two ≡ 1 ∷ 0 ∷ 2 ∷ 104 ∷ 105 ∷ 1 ∷ 0 ∷ 0 ∷ []
two_records = refl

-- what is appended has a closed gate behind them
two_as_a_group : group_text short two ≡ 1 ∷ 0 ∷ 2 ∷ 104 ∷ 105 ∷ 1 ∷ 0 ∷ 0 ∷ 0 ∷ []
two_as_a_group = refl

-- and is written without its first gate, which is opened later
behind_two : behind_text short two ≡ 0 ∷ 2 ∷ 104 ∷ 105 ∷ 1 ∷ 0 ∷ 0 ∷ 0 ∷ []
behind_two = refl

behind_none : behind_text short [] ≡ []
behind_none = refl

front_of_none : closed_front short (82 ∷ []) [] ≡ 1 ∷ 82 ∷ []
front_of_none = refl

-- with them in place of the closed gate, a file of three bytes has eleven
eleven : length_with (record { form = short; end = 2; live = true }) (group_text short two) ≡ 11
eleven = refl

-- ---- files that open

a_record : IsRecord short (104 ∷ 105 ∷ [])
a_record = lit< tt

-- two records, a closed gate, and something that counts for nothing
abbrev of_two : List ℕ
of_two = 1 ∷ 82 ∷ 1 ∷ 0 ∷ 2 ∷ 104 ∷ 105 ∷ 1 ∷ 0 ∷ 0 ∷ 7 ∷ 1 ∷ 1 ∷ []

two_open : Opens short (82 ∷ []) of_two two
two_open = record { gate = 7; rest = 1 ∷ 1 ∷ []; text = refl; shut = λ is. cc is; each = (lit< tt, (a_record, tt)); size = lit≤ tt }

-- before the gate is opened, the same file opens as no records
none_open : Opens short (82 ∷ []) (1 ∷ 82 ∷ 0 ∷ 0 ∷ 2 ∷ 104 ∷ 105 ∷ 0 ∷ []) []
none_open = record { gate = 0; rest = 0 ∷ 2 ∷ 104 ∷ 105 ∷ 0 ∷ []; text = refl; shut = λ is. cc is; each = tt; size = lit≤ tt }

nothing_is_unmade : IsUnmade short []
nothing_is_unmade = inl (lit< tt)

-- a head without a gate
too_short_is_unmade : IsUnmade short (1 ∷ 82 ∷ [])
too_short_is_unmade = inl (lit< tt)

cleared_is_unmade : (rest : List ℕ) → IsUnmade short (0 ∷ rest)
cleared_is_unmade rest = inr (λ is. cc is)

-- ---- record by record

first_is_read : record_at short of_two (first_gate short) ≡ Some (104 ∷ 105 ∷ [])
first_is_read = refl

-- its length, its bytes and a gate behind it
next_gate : gate_behind short (first_gate short) (104 ∷ 105 ∷ []) ≡ 7
next_gate = refl

second_is_read : record_at short of_two 7 ≡ Some []
second_is_read = refl

closed_is_read : record_at short of_two 10 ≡ None
closed_is_read = refl

behind_the_end : record_at short of_two 13 ≡ None
behind_the_end = refl

at_the_closed_gate : AtGate short of_two 10 two
at_the_closed_gate = (7, (2, refl, refl, refl), refl, refl)

two_are_read : records_read short of_two ≡ two
two_are_read = refl

-- the same bytes in a file that isn't made
none_are_read : records_read short (0 ∷ 82 ∷ 1 ∷ 0 ∷ 2 ∷ 104 ∷ 105 ∷ 1 ∷ 0 ∷ 0 ∷ 7 ∷ 1 ∷ 1 ∷ []) ≡ []
none_are_read = refl

none_of_nothing : records_read short [] ≡ []
none_of_nothing = refl

-- no gate follows
at_the_end : record_behind short (0 ∷ 2 ∷ 104 ∷ 105 ∷ []) ≡ None
at_the_end = refl

with_a_gate : record_behind short (0 ∷ 2 ∷ 104 ∷ 105 ∷ 0 ∷ []) ≡ Some (104 ∷ 105 ∷ [])
with_a_gate = refl

-- no whole length
half_a_length : record_behind short (0 ∷ []) ≡ None
half_a_length = refl

-- ---- faults

-- the head is 83
another_head : IsForeign short (82 ∷ []) (1 ∷ 83 ∷ 0 ∷ []) 1
another_head = record { made = made; size = lit≤ tt; within = (lit≤ tt, lit< tt); before = refl; differs = λ is. omega (arith, is) }
  where
    made : IsUnmade short (1 ∷ 83 ∷ 0 ∷ []) → ⊥
    made (inl low) = omega (arith, low)
    made (inr other) = other refl
