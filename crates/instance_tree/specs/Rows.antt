-- Worked rows: which slots a drop takes, and at which place a slot stands.
use Rattle.std.specs.Prelude.{◌≡◌, ℕ, ◌+◌, ◌*◌, true, false, refl}
use Rattle.ritas_base.specs.declared.slot.Slot.{Slot}
use Rattle.ritas_base.specs.Slots.{command_slot}
use Rattle.instance_tree.specs.SlotMaps.{is_before_round, is_command_below}
use Rattle.instance_tree.specs.declared.span.Span.TheVariants.{Window, Session}
use Rattle.instance_tree.specs.Places.{place_in_ring, cell_of, place_in_origin}

abbrev at : ℕ → ℕ → Slot
at class a = record { class = class; a = a; attempt = 0; bround = 0; step = 0; origin = 3 }

-- the classes of rounds go below the round, and not at it
round_row : is_before_round 7 (at 2 6) ≡ true
round_row = refl

last_class_row : is_before_round 7 (at 5 0) ≡ true
last_class_row = refl

this_round_row : is_before_round 7 (at 4 7) ≡ false
this_round_row = refl

-- a command stays, whatever its number is, and so does a class that there isn't
command_row : is_before_round 7 (at 1 6) ≡ false
command_row = refl

no_class_row : is_before_round 7 (at 6 6) ≡ false
no_class_row = refl

-- an origin's commands go below the number, and not at it
below_row : is_command_below 3 7 (command_slot 3 6) ≡ true
below_row = refl

at_number_row : is_command_below 3 7 (command_slot 3 7) ≡ false
at_number_row = refl

-- another origin's stay, and so does a slot of a round
origin_row : is_command_below 3 7 (command_slot 2 6) ≡ false
origin_row = refl

of_round_row : is_command_below 3 7 (at 2 6) ≡ false
of_round_row = refl

-- commands stand 128 apart at one place, and all of an origin's in its first map
ring_row : place_in_ring 128 (command_slot 3 130) ≡ 2
ring_row = refl

first_row : place_in_origin Window (command_slot 3 130) ≡ 0
first_row = refl

-- of the other classes each has cells of its own, by the round
abbrev step_at : ℕ → ℕ → ℕ → ℕ → Slot
step_at a attempt bround step = record { class = 5; a = a; attempt = attempt; bround = bround; step = step; origin = 3 }

vector_row : cell_of Window (at 2 6) ≡ 2 * 16 + 6
vector_row = refl

multivalued_row : cell_of Window (at 3 6) ≡ 3 * 16 + 6
multivalued_row = refl

vect_row : cell_of Window (at 4 6) ≡ 6
vect_row = refl

-- and so has each step of binary consensus
step_row : cell_of Window (step_at 6 0 0 3) ≡ 7 * 16 + 6
step_row = refl

-- a binary round has eight kinds, and a try has four binary rounds
bround_row : cell_of Window (step_at 6 0 1 3) ≡ (8 + 7) * 16 + 6
bround_row = refl

attempt_row : cell_of Window (step_at 6 1 1 3) ≡ (5 * 8 + 7) * 16 + 6
attempt_row = refl

-- rounds 16 apart share a cell, and so do tries and binary rounds 4 apart
shared_row : cell_of Window (step_at 22 5 5 3) ≡ cell_of Window (step_at 6 1 1 3)
shared_row = refl

cell_row : place_in_origin Window (at 2 6) ≡ 1 + (2 * 16 + 6)
cell_row = refl

-- ---- for a session

-- commands don't share a place
far_ring_row : place_in_ring 1000000 (command_slot 3 130) ≡ 130
far_ring_row = refl

-- a round has eight cells, one for each kind
session_vector_row : cell_of Session (at 2 6) ≡ 6 * 8 + 2
session_vector_row = refl

session_step_row : cell_of Session (step_at 6 0 0 3) ≡ 6 * 8 + 7
session_step_row = refl

-- which no other round has
session_next_row : cell_of Session (step_at 22 5 5 3) ≡ 22 * 8 + 7
session_next_row = refl

-- but the tries and binary rounds of a round share them
session_shared_row : cell_of Session (step_at 6 1 200 3) ≡ cell_of Session (step_at 6 0 0 3)
session_shared_row = refl

session_cell_row : place_in_origin Session (at 2 6) ≡ 1 + (6 * 8 + 2)
session_cell_row = refl
