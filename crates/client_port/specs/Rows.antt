-- Worked rows: four replicas, of which one may be faulty, and request 1 of client 7.
use Rattle.std.specs.Prelude.{◌≡◌, ℕ, ◌+◌, ◌^◌, Bool, true, nat_lt, List, [], ◌∷◌, codes, length, replicate, Option, Some, None, Ok, Err, refl, if◌then◌else◌}
use Rattle.std.proofs.Common.{arith, lit<, lit≤}
use Rattle.std.proofs.lemmas.Bool.{lt-ltb}
use Rattle.ritas_base.specs.Limits.{longest_payload}
use Rattle.client_port.specs.Laws.{HasRoom, IsFromLog, IsLogged, PositionLaw}
use Rattle.client_port.specs.Messages.{Request, four_bytes_at, request_bytes, request_in, query_bytes, query_in, position_reply, refusal_reply}
use Rattle.client_port.specs.Votes.{Wanted, ReplyCall, tally, reply_fault_of, answer_of}
use Rattle.client_port.specs.declared.votes.ReplyFault.TheVariants as faults

-- ---- requests

abbrev hi : List ℕ
hi = 0 ∷ 0 ∷ 0 ∷ 7 ∷ 0 ∷ 0 ∷ 0 ∷ 1 ∷ codes "hi"

is_written : request_bytes (record { client = 7; request = 1; payload = codes "hi" }) ≡ hi
is_written = refl

is_read : request_in hi ≡ Some (record { client = 7; request = 1; payload = codes "hi" })
unfolding request_in four_bytes_at
is_read = refl

-- a payload may be empty
no_payload : request_in (replicate 8 255) ≡ Some (record { client = 4294967295; request = 4294967295; payload = [] })
unfolding request_in four_bytes_at
no_payload = refl

seven_bytes : request_in (replicate 7 0) ≡ None
unfolding request_in four_bytes_at
seven_bytes = refl

-- ---- replies

position_is_written : position_reply 7 1 258 ≡ 1 ∷ 0 ∷ 0 ∷ 0 ∷ 7 ∷ 0 ∷ 0 ∷ 0 ∷ 1 ∷ 0 ∷ 0 ∷ 1 ∷ 2 ∷ []
position_is_written = refl

refusal_is_written : refusal_reply 16909060 1 8 ≡ 2 ∷ 1 ∷ 2 ∷ 3 ∷ 4 ∷ 0 ∷ 0 ∷ 0 ∷ 1 ∷ 0 ∷ 0 ∷ 0 ∷ 8 ∷ []
refusal_is_written = refl

-- ---- votes, the newest first

abbrev wanted : Wanted
wanted = record { numbers = record { n = 4; f = 1 }; client = 7; request = 1 }

-- replica k replies this position
abbrev gives : ℕ → ℕ → ReplyCall
gives k position = record { from = k; bytes = position_reply 7 1 position }

abbrev refuses : ℕ → ℕ → ReplyCall
refuses k code = record { from = k; bytes = refusal_reply 7 1 code }

one_reply : answer_of wanted [] (gives 0 5) ≡ Ok None
unfolding answer_of reply_fault_of four_bytes_at
one_reply = refl

other_position : answer_of wanted (gives 0 5 ∷ []) (gives 1 6) ≡ Ok None
unfolding answer_of reply_fault_of four_bytes_at
other_position = refl

two_alike : answer_of wanted (gives 1 6 ∷ gives 0 5 ∷ []) (gives 2 5) ≡ Ok (Some 5)
unfolding answer_of reply_fault_of four_bytes_at
two_alike = refl

again : answer_of wanted (gives 2 5 ∷ gives 1 6 ∷ gives 0 5 ∷ []) (gives 0 6) ≡ Err faults.Again
unfolding answer_of reply_fault_of four_bytes_at
again = refl

-- each replica's first position counts
first_counts : tally wanted (gives 0 6 ∷ gives 2 5 ∷ gives 0 5 ∷ []) ≡ Some 5 ∷ None ∷ Some 5 ∷ None ∷ []
unfolding four_bytes_at
first_counts = refl

-- a third one tells the position again
third : answer_of wanted (gives 2 5 ∷ gives 0 5 ∷ []) (gives 3 5) ≡ Ok (Some 5)
unfolding answer_of reply_fault_of four_bytes_at
third = refl

-- one replica of which none may be faulty is believed at once
alone : answer_of (record { numbers = record { n = 1; f = 0 }; client = 7; request = 1 }) [] (gives 0 5) ≡ Ok (Some 5)
unfolding answer_of reply_fault_of four_bytes_at
alone = refl

-- a replica that refused may reply later
refused : answer_of wanted (gives 0 5 ∷ []) (refuses 3 7) ≡ Err (faults.Refused 7)
unfolding answer_of reply_fault_of four_bytes_at
refused = refl

replies_later : answer_of wanted (refuses 3 7 ∷ gives 0 5 ∷ []) (gives 3 5) ≡ Ok (Some 5)
unfolding answer_of reply_fault_of four_bytes_at
replies_later = refl

-- one that replied refuses no more
refuses_later : answer_of wanted (gives 3 5 ∷ []) (refuses 3 7) ≡ Err faults.Again
unfolding answer_of reply_fault_of four_bytes_at
refuses_later = refl

-- of the faults of a message the first is named
from_nobody : answer_of wanted [] (record { from = 4; bytes = [] }) ≡ Err faults.NoSuchReplica
unfolding answer_of reply_fault_of four_bytes_at
from_nobody = refl

no_bytes : answer_of wanted [] (record { from = 0; bytes = [] }) ≡ Err faults.Length
unfolding answer_of reply_fault_of four_bytes_at
no_bytes = refl

no_form : answer_of wanted [] (record { from = 0; bytes = replicate 13 0 }) ≡ Err faults.Form
unfolding answer_of reply_fault_of four_bytes_at
no_form = refl

other_request : answer_of wanted (gives 0 5 ∷ []) (record { from = 0; bytes = position_reply 7 2 5 }) ≡ Err faults.NotMine
unfolding answer_of reply_fault_of four_bytes_at
other_request = refl

-- ---- the room of a request

abbrev asks : List ℕ → Request
asks payload = record { client = 4294967295; request = 4294967295; payload = payload }

longest : (payload : List ℕ) → length payload ≡ longest_payload → HasRoom (asks payload)
longest payload long = record { client = lit< tt; request = lit< tt; least = omega (arith, long); payload = omega (arith, long) }

one_byte_more : (payload : List ℕ) → length payload ≡ longest_payload + 1 → HasRoom (asks payload) → ⊥
one_byte_more payload long room = let within = room.payload in omega (arith, long, within)

five_bytes : (payload : List ℕ) (client : ℕ) → client ≡ 2 ^ 32 → HasRoom (record { client = client; request = 1; payload = payload }) → ⊥
five_bytes payload client large room = let within = room.client in omega (arith, large, within)

-- ---- positions and logs: replicas 0, 1 and 2 are correct and have the request at position 5

abbrev is_correct : ℕ → Bool
is_correct k = nat_lt k 3

abbrev log : ℕ → Option ℕ
log k = Some (if nat_lt k 3 then 5 else 9)

-- what a faulty replica replies is free, and so is a refusal; a correct one replies what its log has
any_of_faulty : IsFromLog wanted is_correct log (gives 3 6)
any_of_faulty = λ position correct is. absurd cc

own_position : IsFromLog wanted is_correct log (gives 0 5)
unfolding four_bytes_at
own_position = λ position correct is. is

any_refusal : IsFromLog wanted is_correct log (refuses 0 7)
unfolding four_bytes_at
any_refusal = λ position correct is. absurd cc

no_other_position : IsFromLog wanted is_correct log (gives 0 6) → ⊥
unfolding four_bytes_at
no_other_position from = let other : log 0 ≡ Some 6 = from 6 refl refl in cc

-- the log of a faulty replica says nothing, and neither does one of no replica
apart : ◌≡◌ {A = Option ℕ} (Some 5) (Some 9) → ⊥
apart same = cc

only_of_correct : IsLogged wanted is_correct log 9 → ⊥
only_of_correct logged = apart (rw logged.correct at logged.stands)

only_of_session : IsLogged wanted (λ k. true) (λ k. Some (if nat_lt k 4 then 5 else 9)) 9 → ⊥
only_of_session logged = apart (rw (lt-ltb logged.replica 4 logged.within) at logged.stands)

-- the law asks for n - f correct replicas, which are three of the four here
three_are_enough : PositionLaw → IsLogged wanted is_correct log 5
unfolding answer_of reply_fault_of four_bytes_at
three_are_enough law = law wanted is_correct log (gives 3 9 ∷ gives 0 5 ∷ []) (gives 2 5) 5 (lit≤ tt)
    ((λ position correct is. is), ((λ position correct is. absurd cc), ((λ position correct is. is), tt))) refl

-- ---- queries

query_is_written : query_bytes 258 ≡ 76 ∷ 0 ∷ 0 ∷ 1 ∷ 2 ∷ []
query_is_written = refl

asks_for_258 : query_in (76 ∷ 0 ∷ 0 ∷ 1 ∷ 2 ∷ []) ≡ Some 258
unfolding query_in four_bytes_at
asks_for_258 = refl

other_letter : query_in (77 ∷ 0 ∷ 0 ∷ 1 ∷ 2 ∷ []) ≡ None
unfolding query_in four_bytes_at
other_letter = refl

one_byte_missing : query_in (76 ∷ 0 ∷ 0 ∷ 1 ∷ []) ≡ None
unfolding query_in four_bytes_at
one_byte_missing = refl
