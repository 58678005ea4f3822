-- What serving does besides in an epoch of a chain: its replicas close it, and of the requests of clients those are turned away that
-- would leave no place for the command that does.
use Rattle.std.specs.Prelude.{ℕ, ◌+◌, Bool, not, ◌==◌, ◌&&◌, nat_lt, List, []}
use Rattle.ritas_base.specs.declared.event.Event.{Event}
use Rattle.ritas_base.specs.Limits.{number_limit}
use Rattle.layer_api.specs.Windows.{command_window}
use Rattle.client_port.specs.Messages.{request_bytes}
use Rattle.command_log.specs.Rows.{closing_client, has_ended}
use Rattle.ritas_core.specs.Rules.{seat_of}
use Rattle.world_model.specs.World.{Setting, rules_at}
use Rattle.world_model.specs.Agree.{words_of, own_rows_at}
use Rattle.node_loop.specs.declared.waiting.Asked.{Asked}

-- ---- the command that closes an epoch

-- the request of the closing client whose number is the epoch's, and which asks nothing
abbrev pub closing_command : ℕ → List ℕ
closing_command epoch = request_bytes (record { client = closing_client; request = epoch; payload = [] })

abbrev pub closing_asked : ℕ → ℕ → Asked
closing_asked at epoch = record { at = at; client = closing_client; request = epoch }

-- the log of a replica has ended: one of its own rows closes the epoch
abbrev pub has_ended_at : Setting → List Event → ℕ → Bool
has_ended_at w es i = has_ended w.start (own_rows_at w es i)

-- ---- the places of commands

-- the number that a replica's next command gets, and the least number of its commands that isn't finished
abbrev pub next_number_at : Setting → List Event → ℕ → ℕ
next_number_at w es i = w.service.next_number (seat_of (rules_at w i)) (words_of w es i)

abbrev pub least_number_at : Setting → List Event → ℕ → ℕ
least_number_at w es i = w.service.base (seat_of (rules_at w i)) (words_of w es i) i

-- the one input of a root service with one instance is there; of one that orders commands there is none
abbrev pub is_given_at : Setting → List Event → ℕ → Bool
is_given_at w es i = w.service.given (seat_of (rules_at w i)) (words_of w es i)

-- a command of this number has a place in the window that begins with the least: it is below the window's end, and below the limit of all numbers
abbrev pub has_place : ℕ → ℕ → Bool
has_place least number = nat_lt number (least + command_window) && nat_lt number number_limit

-- that of a client leaves one place free in the window, and a whole window below the limit
abbrev pub has_clients_place : ℕ → ℕ → Bool
has_clients_place least number = nat_lt (number + 1) (least + command_window) && nat_lt (number + command_window) number_limit

-- the core of a replica refuses no command for want of one
abbrev pub has_place_at : Setting → List Event → ℕ → Bool
has_place_at w es i = not (is_given_at w es i) && has_place (least_number_at w es i) (next_number_at w es i)

-- ---- what clients are refused

-- in an epoch of a chain the closing client is no client
abbrev pub is_reserved : Setting → ℕ → Bool
is_reserved w client = w.start.chained && client == closing_client

-- and a client's request may have no place, where the closing command has one
abbrev pub is_crowded : Setting → List Event → ℕ → Bool
is_crowded w es i = w.start.chained && not (has_clients_place (least_number_at w es i) (next_number_at w es i))
