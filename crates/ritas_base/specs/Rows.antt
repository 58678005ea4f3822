-- Worked rows.
use Rattle.std.specs.Prelude.{◌≡◌, ℕ, List, [], ◌∷◌, Option, Some, None, refl}
use Rattle.std.specs.declared.cmp.Ordering.TheVariants.{Less, Greater}
use Rattle.ritas_base.specs.Numbers.{Numbers, quorum_of, ready_of, deliver_of, wait_of, support_of}
use Rattle.ritas_base.specs.declared.slot.Slot.{Slot}
use Rattle.ritas_base.specs.declared.item.Item.{Item}
use Rattle.ritas_base.specs.declared.item.Kind.TheVariants.{Init, Echo}
use Rattle.ritas_base.specs.Slots.{command_slot, slot_bytes}
use Rattle.ritas_base.specs.SlotOrder.{slot_cmp}
use Rattle.ritas_base.specs.History.{Call, Start, Take, first}
use Rattle.ritas_base.specs.Shortest.{at_shortest}

-- ---- quorums, where n isn't 3 f + 1

-- n replicas, f of them faulty
abbrev of : ℕ → ℕ → Numbers
of n f = record { n = n; f = f }

-- the five sizes: a quorum, readies to be ready, readies to deliver, a step's messages, and a value's support
abbrev sizes : Numbers → List ℕ
sizes p = quorum_of p ∷ ready_of p ∷ deliver_of p ∷ wait_of p ∷ support_of p ∷ []

sizes_of_five : sizes (of 5 1) ≡ 4 ∷ 2 ∷ 3 ∷ 4 ∷ 3 ∷ []
sizes_of_five = refl

sizes_of_six : sizes (of 6 1) ≡ 4 ∷ 2 ∷ 3 ∷ 5 ∷ 4 ∷ []
sizes_of_six = refl

sizes_of_seven : sizes (of 7 2) ≡ 5 ∷ 3 ∷ 5 ∷ 5 ∷ 3 ∷ []
sizes_of_seven = refl

sizes_of_eight : sizes (of 8 2) ≡ 6 ∷ 3 ∷ 5 ∷ 6 ∷ 4 ∷ []
sizes_of_eight = refl

sizes_of_all : sizes (of 31 10) ≡ 21 ∷ 11 ∷ 21 ∷ 21 ∷ 11 ∷ []
sizes_of_all = refl

-- ---- slots

-- a step of binary consensus: number 66051 = 1 * 65536 + 2 * 256 + 3, the second try, round 200, step 3, of replica 30
abbrev a_step : Slot
a_step = record { class = 5; a = 66051; attempt = 1; bround = 200; step = 3; origin = 30 }

bytes_of_a_step : slot_bytes a_step ≡ 5 ∷ 0 ∷ 1 ∷ 2 ∷ 3 ∷ 1 ∷ 200 ∷ 3 ∷ 30 ∷ []
bytes_of_a_step = refl

-- number 258 = 1 * 256 + 2
bytes_of_a_command : slot_bytes (command_slot 3 258) ≡ 1 ∷ 0 ∷ 0 ∷ 1 ∷ 2 ∷ 0 ∷ 0 ∷ 0 ∷ 3 ∷ []
bytes_of_a_command = refl

-- the number comes before the origin
number_first : slot_cmp (command_slot 3 255) (command_slot 0 256) ≡ Less
number_first = refl

class_first : slot_cmp a_step (command_slot 3 999999) ≡ Greater
class_first = refl

-- ---- calls, the newest first

-- an item of replica 2
abbrev item : List ℕ → Item
item value = record { from = 2; kind = Echo; slot = command_slot 0 0; value = value }

-- replica 2's second echo doesn't count
abbrev two_echoes : List Call
two_echoes = Take (item (8 ∷ [])) ∷ Take (item (7 ∷ [])) ∷ Start (9 ∷ []) ∷ []

first_of_two : first two_echoes 2 Echo ≡ Some (7 ∷ [])
first_of_two = refl

first_of_none : first two_echoes 2 Init ≡ None
first_of_none = refl

-- the list, where it has two elements or more
abbrev of_two : List ℕ → Option (List ℕ)
of_two [] = None
of_two (x ∷ []) = None
of_two (x ∷ y ∷ l) = Some (x ∷ y ∷ l)

at_two : at_shortest of_two (4 ∷ 3 ∷ 2 ∷ 1 ∷ []) ≡ Some (2 ∷ 1 ∷ [])
at_two = refl

at_no_prefix : at_shortest of_two (1 ∷ []) ≡ None
at_no_prefix = refl
