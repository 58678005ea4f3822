-- Worked rows of addresses, requests and keys.
use Rattle.std.specs.Prelude.{◌≡◌, ℕ, List, [], ◌∷◌, ◌++◌, codes, replicate, option_map, length, Some, None, refl}
use Rattle.hex.specs.Hex.{decode_pairs}
use Rattle.cluster_config.specs.Values.{address_in, payload_in, request_of_line, row_in}

-- ---- addresses

address : address_in (codes "10.0.255.1:65535") ≡ Some (codes "10.0.255.1:65535")
address = refl

leading_zero : address_in (codes "10.0.0.01:80") ≡ None
leading_zero = refl

great_number : address_in (codes "10.0.0.256:80") ≡ None
great_number = refl

three_numbers : address_in (codes "10.0.0:80") ≡ None
three_numbers = refl

five_numbers : address_in (codes "10.0.0.0.1:80") ≡ None
five_numbers = refl

no_number : address_in (codes "10..0.1:80") ≡ None
no_number = refl

no_port : address_in (codes "10.0.0.1") ≡ None
no_port = refl

port_zero : address_in (codes "10.0.0.1:0") ≡ None
port_zero = refl

great_port : address_in (codes "10.0.0.1:65536") ≡ None
great_port = refl

space_behind : address_in (codes "10.0.0.1:80 ") ≡ None
space_behind = refl

-- ---- payloads

no_byte : payload_in (codes "-") ≡ Some []
no_byte = refl

two_bytes : payload_in (codes "0aF0") ≡ Some (10 ∷ 240 ∷ [])
unfolding decode_pairs
two_bytes = refl

odd : payload_in (codes "0aF") ≡ None
unfolding decode_pairs
odd = refl

no_digit : payload_in [] ≡ None
no_digit = refl

too_long : payload_in (replicate 8178 48) ≡ None
too_long = refl

-- ---- requests, where there are four replicas

request : request_of_line 4 (codes "3 4294967295 0 0a") ≡ Some (record { at = 3; client = 4294967295; request = 0; payload = 10 ∷ [] })
unfolding decode_pairs
request = refl

empty_request : request_of_line 4 (codes "0 1 2 -") ≡ Some (record { at = 0; client = 1; request = 2; payload = [] })
empty_request = refl

no_replica : request_of_line 4 (codes "4 1 2 -") ≡ None
no_replica = refl

great_client : request_of_line 4 (codes "0 4294967296 2 -") ≡ None
great_client = refl

two_spaces : request_of_line 4 (codes "0  1 2 -") ≡ None
two_spaces = refl

without_payload : request_of_line 4 (codes "0 1 2") ≡ None
without_payload = refl

more_behind : request_of_line 4 (codes "0 1 2 - -") ≡ None
more_behind = refl

-- ---- rows of keys, where there is one replica, or none too few digits

one_key : row_in 1 (replicate 64 48) ≡ Some (replicate 31 (replicate 32 0))
unfolding decode_pairs
one_key = refl

short_row : row_in 2 (replicate 64 48) ≡ None
unfolding decode_pairs
short_row = refl

long_row : row_in 1 (replicate 128 48) ≡ None
unfolding decode_pairs
long_row = refl
