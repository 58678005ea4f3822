-- Worked rows: the command that closes an epoch, the places of commands, and what a session by itself does.
use Rattle.std.specs.Prelude.{◌≡◌, ℕ, Bool, true, false, List, [], ◌∷◌, Option, Some, None, refl, if◌then◌else◌}
use Rattle.std.proofs.Common.{ap, ◌∙◌}
use Rattle.ritas_base.specs.declared.event.Event.{Event}
use Rattle.world_model.specs.World.{Setting}
use Rattle.node_loop.specs.declared.limits.Closing.{Closing}
use Rattle.node_loop.specs.Calls.{Outcome, asked_in, asked_so, offered_unless, turned_away, submitted, silent, is_waited_for, fault_number}
use Rattle.ritas_core.specs.declared.fault.CoreFault.TheVariants as faults
use Rattle.node_loop.specs.Chains.{closing_command, closing_asked, has_place, has_clients_place, is_reserved, is_crowded}
use Rattle.node_loop.specs.Serving.{Want, Closes, Halts, close_or, closing_or, have_ended, Closed, Turned, Took, Round}
use Rattle.client_port.specs.Messages.{four_bytes_at}
use Rattle.node_loop.specs.Told.{MayJoin}
use Rattle.node_loop.specs.Laws.{items_of}
use Rattle.node_loop.specs.Waiting.{Waiting, with_waiter}

-- ---- the command

command_row : closing_command 258 ≡ 255 ∷ 255 ∷ 255 ∷ 255 ∷ 0 ∷ 0 ∷ 1 ∷ 2 ∷ []
command_row = refl

asked_row : asked_in 3 (closing_command 258) ≡ closing_asked 3 258
unfolding four_bytes_at
asked_row = refl

-- ---- places

-- the window of 64 that begins with 5 ends with 68, which a client doesn't get
last_place : has_place 5 68 ≡ true
last_place = refl

behind_window : has_place 5 69 ≡ false
behind_window = refl

last_of_clients : has_clients_place 5 67 ≡ true
last_of_clients = refl

not_a_clients : has_clients_place 5 68 ≡ false
not_a_clients = refl

-- all numbers end at 1,000,000, and those of clients at 999,936
last_number : has_place 999990 999999 ≡ true
last_number = refl

behind_numbers : has_place 999990 1000000 ≡ false
behind_numbers = refl

last_number_of_clients : has_clients_place 999930 999935 ≡ true
last_number_of_clients = refl

not_a_clients_number : has_clients_place 999930 999936 ≡ false
not_a_clients_number = refl

-- the numbers of the refusals are those of the core
reserved_number : (place : ℕ) → fault_number (faults.Input place) ≡ 8
reserved_number place = refl

crowded_number : (number : ℕ) → fault_number (faults.WindowFull number) ≡ 7
crowded_number number = refl

-- ---- who closes, and when it is over

first_closes : close_or 9 (2 ∷ 3 ∷ []) Halts ≡ Closes 2 9
first_closes = refl

none_wishes : close_or 9 [] Halts ≡ Halts
none_wishes = refl

not_here : (w : Setting) (es : List Event) (ws : Waiting) → closing_or w None es ws Halts ≡ Halts
not_here w es ws = refl

nobody_row : (w : Setting) (es : List Event) → have_ended w es [] ≡ false
nobody_row w es = refl

-- it begins a group, and takes no item
joins_row : MayJoin (Closed 2 9) → ⊥
joins_row may = may

items_row : items_of (Closed 2 9 ∷ Turned 1 ∷ []) ≡ []
items_row = refl

-- ---- a session by itself

-- no client is refused there, and no request for want of a place
module _ (w : Setting) (alone : w.start.chained ≡ false) where
  none_reserved : (client : ℕ) → is_reserved w client ≡ false
  none_reserved client = ap (λ (b : Bool). is_reserved (record w { start = record w.start { chained = b } }) client) alone

  none_crowded : (es : List Event) (i : ℕ) → is_crowded w es i ≡ false
  none_crowded es i = ap (λ (b : Bool). is_crowded (record w { start = record w.start { chained = b } }) es i) alone
