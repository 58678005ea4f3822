-- Worked rows.
use Rattle.std.specs.Prelude.{◌≡◌, ℕ, true, false, List, [], ◌∷◌, Option, None, Some, refl}
use Rattle.ritas_base.specs.declared.id.Id.{Id}
use Rattle.command_log.specs.Rows.{CommandEntry, Row, Start, count_origins, origins, closing_client, closes, alone, chained_on, has_ended, own_rows, rows_over, rows_of, command_rows, chain_rows, row_at, position_of, entered}
use Rattle.command_log.specs.Fresh.{fresh, closed_part}

abbrev id : ℕ → ℕ → Id
id origin num = record { origin = origin; num = num }

-- commands of client 7, which differ in their payloads
abbrev hi : ℕ → List ℕ
hi request = 0 ∷ 0 ∷ 0 ∷ 7 ∷ 0 ∷ 0 ∷ 0 ∷ request ∷ 0x68 ∷ 0x69 ∷ []

abbrev ho : ℕ → List ℕ
ho request = 0 ∷ 0 ∷ 0 ∷ 7 ∷ 0 ∷ 0 ∷ 0 ∷ request ∷ 0x68 ∷ 0x6f ∷ []

abbrev entry : ℕ → ℕ → CommandEntry
entry origin request = record { id = id origin 0; command = hi request }

abbrev other : ℕ → ℕ → CommandEntry
other origin request = record { id = id origin 0; command = ho request }

abbrev row : ℕ → ℕ → Row
row origin request = record { id = id origin 0; client = 7; request = request; payload = 0x68 ∷ 0x69 ∷ [] }

-- ---- with f = 1

-- one origin enters nothing
one : rows_of 1 (entry 0 1 ∷ []) ≡ []
unfolding count_origins
one = refl

-- nor does it by coming again
again : rows_of 1 (record { id = id 0 1; command = hi 1 } ∷ entry 0 1 ∷ []) ≡ []
unfolding count_origins
again = refl

-- a second origin enters the row, with its own identifier
second : rows_of 1 (entry 2 1 ∷ entry 0 1 ∷ []) ≡ row 2 1 ∷ []
unfolding count_origins
second = refl

-- two payloads of one request don't count together
payloads : rows_of 1 (other 2 1 ∷ entry 0 1 ∷ []) ≡ []
unfolding count_origins
payloads = refl

-- nor do two requests, or two clients
requests : rows_of 1 (entry 2 2 ∷ entry 0 1 ∷ []) ≡ []
unfolding count_origins
requests = refl

clients : rows_of 1 (record { id = id 2 0; command = 0 ∷ 0 ∷ 0 ∷ 8 ∷ 0 ∷ 0 ∷ 0 ∷ 1 ∷ 0x68 ∷ 0x69 ∷ [] } ∷ entry 0 1 ∷ []) ≡ []
unfolding count_origins
clients = refl

-- what came between doesn't count, and doesn't take away
between : rows_of 1 (entry 3 1 ∷ other 2 1 ∷ entry 0 1 ∷ []) ≡ row 3 1 ∷ []
unfolding count_origins
between = refl

-- a request that has its row gets no second one
third : rows_of 1 (entry 1 1 ∷ entry 2 1 ∷ entry 0 1 ∷ []) ≡ row 2 1 ∷ []
unfolding count_origins
third = refl

-- also not where another payload is confirmed later
late : rows_of 1 (other 3 1 ∷ other 1 1 ∷ entry 2 1 ∷ entry 0 1 ∷ []) ≡ row 2 1 ∷ []
unfolding count_origins
late = refl

-- whatever its number, an origin counts
all_count : origins (entry 255 1 ∷ entry 32 1 ∷ entry 31 1 ∷ []) (row 0 1) ≡ 3
unfolding count_origins
all_count = refl

-- ---- with f = 0 each client and request has the row of its first place

first : rows_of 0 (entry 0 1 ∷ []) ≡ row 0 1 ∷ []
unfolding count_origins
first = refl

once : rows_of 0 (entry 1 1 ∷ entry 0 1 ∷ []) ≡ row 0 1 ∷ []
unfolding count_origins
once = refl

two : rows_of 0 (entry 2 2 ∷ entry 1 1 ∷ entry 0 1 ∷ []) ≡ row 2 2 ∷ row 0 1 ∷ []
unfolding count_origins
two = refl

-- ---- positions count from 0, in the order of entry

abbrev three : List CommandEntry
three = entry 2 2 ∷ entry 1 1 ∷ entry 0 1 ∷ []

first_row : row_at (rows_of 0 three) 0 ≡ Some (row 0 1)
unfolding count_origins
first_row = refl

second_row : row_at (rows_of 0 three) 1 ≡ Some (row 2 2)
unfolding count_origins
second_row = refl

no_row : row_at (rows_of 0 three) 2 ≡ None
unfolding count_origins
no_row = refl

found : position_of (rows_of 0 three) 7 2 ≡ Some 1
unfolding count_origins
found = refl

not_found : position_of (rows_of 0 three) 8 2 ≡ None
unfolding count_origins
not_found = refl

has_one : entered alone 0 (entry 3 2) three ≡ None
unfolding count_origins
has_one = refl

next : entered alone 0 (entry 3 9) three ≡ Some 2
unfolding count_origins
next = refl

-- ---- a command without a payload, of four identifiers, with f = 1

abbrev short : ℕ → ℕ → CommandEntry
short origin num = record { id = id origin num; command = 0 ∷ 0 ∷ 0 ∷ 7 ∷ 0 ∷ 0 ∷ 0 ∷ 1 ∷ [] }

at_first : entered alone 1 (short 0 0) [] ≡ None
unfolding count_origins
at_first = refl

at_second : entered alone 1 (short 0 1) (short 0 0 ∷ []) ≡ None
unfolding count_origins
at_second = refl

at_third : entered alone 1 (short 2 0) (short 0 1 ∷ short 0 0 ∷ []) ≡ Some 0
unfolding count_origins
at_third = refl

at_fourth : entered alone 1 (short 1 0) (short 2 0 ∷ short 0 1 ∷ short 0 0 ∷ []) ≡ None
unfolding count_origins
at_fourth = refl

-- ---- a request that each origin broadcast under the request's number

abbrev delivered : Id → Option (List ℕ)
delivered x = Some (hi x.num)

-- the rows of an identifier log
of_identifiers : command_rows 1 delivered (id 3 2 ∷ id 2 2 ∷ id 1 1 ∷ id 0 1 ∷ [])
    ≡ record { id = id 3 2; client = 7; request = 2; payload = 0x68 ∷ 0x69 ∷ [] } ∷ record { id = id 1 1; client = 7; request = 1; payload = 0x68 ∷ 0x69 ∷ [] } ∷ []
unfolding count_origins
of_identifiers = refl

-- ---- a log over a base, with f = 0

-- a command of the client number that closes an epoch
abbrev close : ℕ → ℕ → CommandEntry
close origin request = record { id = id origin 0; command = 0xff ∷ 0xff ∷ 0xff ∷ 0xff ∷ 0 ∷ 0 ∷ 0 ∷ request ∷ [] }

abbrev close_row : ℕ → ℕ → Row
close_row origin request = record { id = id origin 0; client = closing_client; request = request; payload = [] }

-- the epoch behind one that was closed
abbrev second_epoch : Start
second_epoch = chained_on (close_row 0 0 ∷ row 0 1 ∷ [])

-- it begins with the rows of before
as_it_begins : rows_over second_epoch 0 [] ≡ close_row 0 0 ∷ row 0 1 ∷ []
as_it_begins = refl

-- a request of the base gets no second row
old_request : own_rows second_epoch 0 (entry 1 1 ∷ []) ≡ []
unfolding count_origins
old_request = refl

old_answer : entered second_epoch 0 (entry 1 1) [] ≡ None
unfolding count_origins
old_answer = refl

-- another does, and positions go on from the base's length
new_request : rows_over second_epoch 0 (entry 1 2 ∷ entry 1 1 ∷ []) ≡ row 1 2 ∷ close_row 0 0 ∷ row 0 1 ∷ []
unfolding count_origins
new_request = refl

new_answer : entered second_epoch 0 (entry 1 2) (entry 1 1 ∷ []) ≡ Some 2
unfolding count_origins
new_answer = refl

new_place : row_at (rows_over second_epoch 0 (entry 1 2 ∷ [])) 2 ≡ Some (row 1 2)
unfolding count_origins
new_place = refl

old_place : row_at (rows_over second_epoch 0 (entry 1 2 ∷ [])) 0 ≡ Some (row 0 1)
unfolding count_origins
old_place = refl

-- a closing row that stands in the base ends nothing, and one of its request gets no second row
goes_on : has_ended second_epoch (own_rows second_epoch 0 (close 1 0 ∷ [])) ≡ false
unfolding count_origins
goes_on = refl

behind_old_close : own_rows second_epoch 0 (entry 1 2 ∷ close 1 0 ∷ []) ≡ row 1 2 ∷ []
unfolding count_origins
behind_old_close = refl

-- a new closing row ends the log
ends : has_ended second_epoch (own_rows second_epoch 0 (close 1 1 ∷ entry 1 2 ∷ [])) ≡ true
unfolding count_origins
ends = refl

-- and what comes behind it isn't entered, another closing row neither
behind_close : own_rows second_epoch 0 (close 1 2 ∷ entry 1 3 ∷ close 1 1 ∷ entry 1 2 ∷ []) ≡ close_row 1 1 ∷ row 1 2 ∷ []
unfolding count_origins
behind_close = refl

answer_behind_close : entered second_epoch 0 (entry 1 3) (close 1 1 ∷ entry 1 2 ∷ []) ≡ None
unfolding count_origins
answer_behind_close = refl

-- the first epoch of a chain has no base, and ends too
first_epoch : rows_over (chained_on []) 0 (entry 1 3 ∷ close 1 0 ∷ entry 1 2 ∷ []) ≡ close_row 1 0 ∷ row 1 2 ∷ []
unfolding count_origins
first_epoch = refl

-- a session by itself doesn't
goes_on_alone : rows_of 0 (entry 1 3 ∷ close 1 0 ∷ entry 1 2 ∷ []) ≡ row 1 3 ∷ close_row 1 0 ∷ row 1 2 ∷ []
unfolding count_origins
goes_on_alone = refl

-- the rows of an identifier log over a base
identifiers_over_base : chain_rows second_epoch 0 delivered (id 2 3 ∷ id 1 1 ∷ [])
    ≡ record { id = id 2 3; client = 7; request = 3; payload = 0x68 ∷ 0x69 ∷ [] } ∷ close_row 0 0 ∷ row 0 1 ∷ []
unfolding count_origins
identifiers_over_base = refl

-- ---- what a chain gets of the log of a session by itself

closing : closes (close_row 0 0) ≡ true
closing = refl

of_a_client : closes (row 0 1) ≡ false
of_a_client = refl

-- the rows up to the first that closes
open_log : closed_part (row 0 2 ∷ row 0 1 ∷ []) ≡ row 0 2 ∷ row 0 1 ∷ []
open_log = refl

closed_log : closed_part (close_row 0 0 ∷ row 0 1 ∷ []) ≡ close_row 0 0 ∷ row 0 1 ∷ []
closed_log = refl

-- what stands behind it is void, another closing row too
void : closed_part (row 0 3 ∷ close_row 0 1 ∷ row 0 2 ∷ close_row 0 0 ∷ row 0 1 ∷ []) ≡ close_row 0 0 ∷ row 0 1 ∷ []
void = refl

-- a row whose client and request are in the chain isn't fresh, a closing row neither
fresh_alone : fresh (close_row 0 0 ∷ row 0 1 ∷ []) (row 0 2 ∷ close_row 1 0 ∷ row 1 1 ∷ []) ≡ row 0 2 ∷ []
fresh_alone = refl

-- of the log of a session by itself, what the log over a base has
as_over_base : closed_part (fresh (close_row 0 0 ∷ row 0 1 ∷ []) (rows_of 0 (entry 1 3 ∷ close 1 1 ∷ entry 1 2 ∷ close 1 0 ∷ entry 1 1 ∷ [])))
    ≡ own_rows second_epoch 0 (entry 1 3 ∷ close 1 1 ∷ entry 1 2 ∷ close 1 0 ∷ entry 1 1 ∷ [])
unfolding count_origins
as_over_base = refl
