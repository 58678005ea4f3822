-- Worked chains: two epochs, rows behind a closing row, and a request that comes again.
use Rattle.std.specs.Prelude.{◌≡◌, ℕ, false, List, [], ◌∷◌, refl}
use Rattle.command_log.specs.Rows.{CommandEntry, Row, count_origins, closing_client, is_closed, chained_on, rows_over, rows_of}
use Rattle.command_log.specs.Fresh.{fresh, closed_part}
use Rattle.epoch_chain.specs.Chain.{chain_after, chain_of}

abbrev row : ℕ → ℕ → Row
row client request = record { id = record { origin = 0; num = request }; client = client; request = request; payload = [] }

abbrev close : ℕ → Row
close epoch = row closing_client epoch

-- ---- the chain

-- no epoch
none : chain_of [] ≡ []
none = refl

-- two epochs
two : chain_of ((row 8 1 ∷ []) ∷ (close 0 ∷ row 7 1 ∷ []) ∷ []) ≡ row 8 1 ∷ close 0 ∷ row 7 1 ∷ []
two = refl

-- a void row that comes again in the next epoch stands there once
void_again : chain_of ((row 8 1 ∷ []) ∷ (row 8 1 ∷ close 0 ∷ row 7 1 ∷ []) ∷ []) ≡ row 8 1 ∷ close 0 ∷ row 7 1 ∷ []
void_again = refl

-- a request whose row is in the chain gets no second one
again : chain_of ((row 8 1 ∷ row 7 1 ∷ []) ∷ (close 0 ∷ row 7 1 ∷ []) ∷ []) ≡ row 8 1 ∷ close 0 ∷ row 7 1 ∷ []
again = refl

-- what the chain got of an epoch is as good as the epoch's log
taken_over : chain_after (row 7 1 ∷ []) (closed_part (fresh (row 7 1 ∷ []) (row 9 1 ∷ close 1 ∷ row 7 1 ∷ row 8 1 ∷ [])))
    ≡ chain_after (row 7 1 ∷ []) (row 9 1 ∷ close 1 ∷ row 7 1 ∷ row 8 1 ∷ [])
taken_over = refl

-- ---- a closing row whose request is in the chain closes nothing

open_still : is_closed (fresh (close 0 ∷ row 7 1 ∷ []) (row 8 1 ∷ close 0 ∷ [])) ≡ false
open_still = refl

goes_on : chain_of ((row 8 1 ∷ close 0 ∷ []) ∷ (close 0 ∷ row 7 1 ∷ []) ∷ []) ≡ row 8 1 ∷ close 0 ∷ row 7 1 ∷ []
goes_on = refl

-- the next one does
closes_now : chain_of ((row 9 1 ∷ close 1 ∷ row 8 1 ∷ close 0 ∷ []) ∷ (close 0 ∷ row 7 1 ∷ []) ∷ []) ≡ close 1 ∷ row 8 1 ∷ close 0 ∷ row 7 1 ∷ []
closes_now = refl

-- ---- the log of an epoch that begins with the chain, where f is 0

abbrev entry : ℕ → ℕ → CommandEntry
entry client request = record { id = record { origin = 0; num = request }; command = client ∷ client ∷ client ∷ client ∷ 0 ∷ 0 ∷ 0 ∷ request ∷ [] }

-- of a client and request that have a row, of one that has none, of the epoch's end, and of one behind it
abbrev entries : List CommandEntry
entries = entry 0 2 ∷ entry 255 1 ∷ entry 0 1 ∷ entry 255 0 ∷ []

is_the_chain : rows_over (chained_on (chain_of ((close 0 ∷ row 7 1 ∷ []) ∷ []))) 0 entries ≡ chain_of (rows_of 0 entries ∷ (close 0 ∷ row 7 1 ∷ []) ∷ [])
unfolding count_origins
is_the_chain = refl

its_rows : rows_over (chained_on (chain_of ((close 0 ∷ row 7 1 ∷ []) ∷ []))) 0 entries ≡ close 1 ∷ row 0 1 ∷ close 0 ∷ row 7 1 ∷ []
unfolding count_origins
its_rows = refl
