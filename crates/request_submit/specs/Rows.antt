-- Worked rows: four nodes, of which one may be faulty, and request 1 of client 7, which asks "hi".
use Rattle.std.specs.Prelude.{◌≡◌, ℕ, Bool, false, nat_lt, List, [], ◌∷◌, codes, Option, Some, None, refl, if◌then◌else◌}
use Rattle.std.proofs.Common.{arith, lit≤}
use Rattle.outside.specs.declared.link.FaultCounts.{FaultCounts}
use Rattle.client_port.specs.Laws.{IsLogged}
use Rattle.request_submit.specs.Laws.{OneOfLogs}
use Rattle.request_submit.specs.declared.end.SubmitEnd.TheVariants.{Position}
use Rattle.outside.specs.Links.{Starts, Sends}
use Rattle.outside.specs.declared.link.LinkItem.{LinkItem}
use Rattle.outside.specs.declared.link.LinkItem.TheVariants as items
use Rattle.outside.specs.declared.link.LinkPlan.TheVariants as plans
use Rattle.client_port.specs.Messages.{four_bytes_at, position_reply, refusal_reply}
use Rattle.client_port.specs.Votes.{Wanted, reply_fault_of, answer_of}
use Rattle.request_submit.specs.Submitting.{handed_in, settles, GoesOn, Submits}

abbrev wanted : Wanted
wanted = record { numbers = record { n = 4; f = 1 }; client = 7; request = 1 }

-- ---- handing in

abbrev hi : List ℕ
hi = 0 ∷ 0 ∷ 0 ∷ 7 ∷ 0 ∷ 0 ∷ 0 ∷ 1 ∷ codes "hi"

abbrev nodes : List (List ℕ)
nodes = codes "a" ∷ codes "b" ∷ codes "c" ∷ codes "d" ∷ []

-- the newest first
is_handed_in : handed_in wanted nodes (codes "hi") ≡
    Sends (record { at = 0; to = 3; bytes = hi })
    ∷ Sends (record { at = 0; to = 2; bytes = hi })
    ∷ Sends (record { at = 0; to = 1; bytes = hi })
    ∷ Sends (record { at = 0; to = 0; bytes = hi })
    ∷ Starts (plans.Client nodes)
    ∷ []
is_handed_in = refl

-- ---- replies, the newest first

-- node k replies this position
abbrev gives : ℕ → ℕ → LinkItem
gives k position = items.Reply k (position_reply 7 1 position)

-- with the first reply alone it goes on
first_alone : GoesOn wanted (gives 0 5 ∷ [])
unfolding answer_of reply_fault_of four_bytes_at
first_alone = (record { more = λ e. cc; quiet = refl }, tt)

second_settles : settles wanted (gives 0 5 ∷ []) (gives 2 5) ≡ Some 5
unfolding answer_of reply_fault_of four_bytes_at
second_settles = refl

other_position : settles wanted (gives 0 5 ∷ []) (gives 2 6) ≡ None
unfolding answer_of reply_fault_of four_bytes_at
other_position = refl

-- a node's second reply is refused, and so is a refusal
same_node : settles wanted (gives 0 5 ∷ []) (gives 0 5) ≡ None
unfolding answer_of reply_fault_of four_bytes_at
same_node = refl

refusal : settles wanted (gives 0 5 ∷ []) (items.Reply 2 (refusal_reply 7 1 5)) ≡ None
unfolding answer_of reply_fault_of four_bytes_at
refusal = refl

-- other items between two replies change nothing
others_between : settles wanted (items.Down 0 2 ∷ items.Frame 0 (codes "x") ∷ gives 0 5 ∷ []) (gives 2 5) ≡ Some 5
unfolding answer_of reply_fault_of four_bytes_at
others_between = refl

other_item : settles wanted (gives 0 5 ∷ []) (items.Client 2 0 (position_reply 7 1 5)) ≡ None
other_item = refl

-- ---- positions and logs: nodes 0, 1 and 2 are correct and have the request at position 5

abbrev is_correct : ℕ → Bool
is_correct k = nat_lt k 3

abbrev log : ℕ → Option ℕ
log k = Some (if nat_lt k 3 then 5 else 9)

abbrev no_faults : FaultCounts
no_faults = record { failed = 0; short = 0 }

-- node 0 replied it, node 3 another one, and node 2 settled it
ended : Submits wanted nodes (codes "hi") false [] [] no_faults no_faults (Position 5)
unfolding answer_of reply_fault_of four_bytes_at
ended = record {
  items = gives 3 9 ∷ gives 0 5 ∷ [];
  on = (record { more = λ e. cc; quiet = refl }, (record { more = λ e. cc; quiet = refl }, tt));
  later = omega arith;
  cause = refl;
  so = record { item = gives 2 5; settled = refl; told = λ tells. absurd cc };
}

-- the law asks for n - f correct nodes, which are three of the four here; what the faulty one replied is free
three_are_enough : OneOfLogs → IsLogged wanted is_correct log 5
unfolding answer_of reply_fault_of four_bytes_at ended
three_are_enough law = law wanted nodes (codes "hi") false [] [] no_faults no_faults 5 is_correct log (lit≤ tt) ended
    ((λ position correct is. is), ((λ position correct is. absurd cc), ((λ position correct is. is), tt)))
