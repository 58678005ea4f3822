-- The numbers by which connections, doors and pairs of replicas are found.
use Rattle.std.specs.Prelude.{◌≡◌, ℕ, ◌+◌, ◌*◌, ◌%◌, ◌-◌, ◌<◌, ◌≤◌, ◌&&◌, nat_lt, min, Option, Some, None, if◌then◌else◌}
use Rattle.tcp_link.specs.Limits.{most_replicas, most_conns, most_serials, spares_of_replica, spares_of_strangers}

-- a token: the serial number of a connection, and the place where it stands
abbrev pub token_of : ℕ → ℕ → ℕ
token_of serial place = serial * most_conns + place

-- serial numbers run from 1
abbrev pub serial_after : ℕ → ℕ
serial_after serial = serial % most_serials + 1

-- where the connection of a token stands
abbrev pub token_place : ℕ → ℕ
token_place token = token % most_conns

-- two connections have one token only if their places and serial numbers are the same; and none has the number of a door
abbrev pub TokenLaw : Type 0
TokenLaw = (serial place serial' place' : ℕ) → place < most_conns → place' < most_conns
    → (token_place (token_of serial place) ≡ place)
    × (token_of serial place ≡ token_of serial' place' → (serial ≡ serial') × (place ≡ place'))
    × (most_conns ≤ token_of (serial_after serial) place)

-- where the connection of replica `at` with `peer` is noted, if both are numbers of replicas
abbrev pub connection_place : ℕ → ℕ → Option ℕ
connection_place at peer = if nat_lt at most_replicas && nat_lt peer most_replicas then Some (at * most_replicas + peer) else None

-- no two pairs are noted at one place
abbrev pub PairLaw : Type 0
PairLaw = (at peer at' peer' place : ℕ) → connection_place at peer ≡ Some place → connection_place at' peer' ≡ Some place → (at ≡ at') × (peer ≡ peer')

-- each of n replicas has a connection with each other one, and both know of it
abbrev pub ends_of_all : ℕ → ℕ
ends_of_all n = n * (n - 1)

-- so many descriptors are held for peers: some for each replica, and some for those that told no number yet
abbrev pub spares_for : ℕ → ℕ
spares_for n = spares_of_replica * n + spares_of_strangers

-- the replicas of a list of addresses
abbrev pub replica_count : ℕ → ℕ
replica_count length = min length most_replicas
