-- Worked rows.
use Rattle.std.specs.Prelude.{◌≡◌, ℕ, Bool, true, false, List, [], ◌∷◌, Some, None, refl}
use Rattle.ritas_base.specs.declared.slot.Slot.{Slot}
use Rattle.ritas_base.specs.declared.item.Say.{Say}
use Rattle.ritas_base.specs.SlotOrder.{is_slot}
use Rattle.layer_api.specs.Service.{OfBit, OfValue, Bit}
use Rattle.layer_api.specs.Words.{Word, Ask, Hear}
use Rattle.layer_api.specs.Binary.{Bench}
use Rattle.binary_consensus.specs.Steps.{line_slot, heard, accepts, accepted}
use Rattle.binary_consensus.specs.Consensus.{next_vote, step_verdict, vote_said, decided_below, round_below, steps_say_below}
use Rattle.binary_consensus.specs.Root.{step_opens, binary_decided_in}

-- replica 0, whose coin is always 0
abbrev bench : ℕ → ℕ → Bench
bench n f = record { numbers = record { n = n; f = f }; me = 0; a = 7; attempt = 1; coin = λ s. false }

abbrev one : Bench
one = bench 1 0

abbrev two : Bench
two = bench 2 0

abbrev four : Bench
four = bench 4 1

abbrev propose : ℕ → Word
propose bit = Ask (bit ∷ [])

-- a vote at a step of the line
abbrev vote : Bench → ℕ → ℕ → ℕ → Word
vote at t origin v = Hear (line_slot at t origin) (v ∷ [])

abbrev say : Bench → ℕ → ℕ → Say
say at t v = record { slot = line_slot at t 0; value = v ∷ [] }

-- one replica alone decides its bit when it hears its third step, and says the second round's first step in that call
abbrev alone : List Word
alone = vote one 1 0 1 ∷ vote one 0 0 1 ∷ propose 1 ∷ []

alone_decides : decided_below one 6 (vote one 2 0 1 ∷ alone) ≡ Some true
alone_decides = refl

alone_not_before : decided_below one 6 alone ≡ None
alone_not_before = refl

alone_says : steps_say_below one 6 alone (vote one 2 0 1) ≡ say one 3 1 ∷ []
alone_says = refl

second_round : round_below one 2 (vote one 2 0 1 ∷ alone) ≡ 2
second_round = refl

-- after a decision the next round is said, and no more
quiet_after : steps_say_below one 7 (vote one 4 0 1 ∷ vote one 3 0 1 ∷ vote one 2 0 1 ∷ alone) (vote one 5 0 1) ≡ []
quiet_after = refl

-- votes of other instances and other classes count for nothing
other_instance : steps_say_below one 6 (propose 1 ∷ []) (Hear (record { class = 5; a = 8; attempt = 1; bround = 1; step = 1; origin = 0 }) (1 ∷ [])) ≡ []
other_instance = refl

-- two replicas propose 0 and 1: the tie gives 0, which is marked by both
abbrev tie : List Word
tie = vote two 0 0 0 ∷ propose 0 ∷ []

tie_gives_zero : steps_say_below two 6 tie (vote two 0 1 1) ≡ say two 1 0 ∷ []
tie_gives_zero = refl

tie_decides : decided_below two 3 (vote two 2 1 0 ∷ vote two 2 0 0 ∷ vote two 1 1 0 ∷ vote two 1 0 0 ∷ vote two 0 1 1 ∷ tie) ≡ Some false
tie_decides = refl

-- of four, three votes 1 1 0 let 1 follow, and 0 only once there are two of each
lone_zero : accepts four.numbers (heard four (vote four 1 3 0 ∷ vote four 0 2 0 ∷ vote four 0 1 1 ∷ vote four 0 0 1 ∷ [])) 1 3 ≡ None
lone_zero = refl

both_follow : accepts four.numbers (heard four (vote four 1 3 0 ∷ vote four 0 3 0 ∷ vote four 0 2 0 ∷ vote four 0 1 1 ∷ vote four 0 0 1 ∷ [])) 1 3 ≡ Some 0
both_follow = refl

-- a round of split votes is unmarked, and is left to the coin
abbrev split : List Word
split =
    vote four 2 2 2 ∷ vote four 2 1 2 ∷ vote four 2 0 2 ∷ vote four 1 3 1 ∷ vote four 1 2 1 ∷ vote four 1 1 0 ∷ vote four 1 0 0
    ∷ vote four 0 3 1 ∷ vote four 0 2 1 ∷ vote four 0 1 0 ∷ vote four 0 0 0 ∷ propose 0 ∷ []

split_third : accepted four.numbers (heard four split) 2 ≡ 2 ∷ 2 ∷ 2 ∷ []
split_third = refl

split_is_tossed : vote_said four 3 split ≡ Some 0
split_is_tossed = refl

split_undecided : decided_below four 3 split ≡ None
split_undecided = refl

-- ---- the coin

-- replica 0 of four, whose coin is this one
abbrev tossing : (Slot → Bool) → Bench
tossing coin = record { numbers = record { n = 4; f = 1 }; me = 0; a = 7; attempt = 1; coin = coin }

-- what follows split votes is what the coin gives
coin_of_one : vote_said (tossing (λ s. true)) 3 split ≡ Some 1
coin_of_one = refl

coin_of_zero : vote_said (tossing (λ s. false)) 3 split ≡ Some 0
coin_of_zero = refl

-- it is tossed at the replica's own slot of the third step
coin_of_its_slot : vote_said (tossing (λ s. is_slot s (record { class = 5; a = 7; attempt = 1; bround = 1; step = 3; origin = 0 }))) 3 split ≡ Some 1
coin_of_its_slot = refl

coin_of_the_next_round : vote_said (tossing (λ s. is_slot s (record { class = 5; a = 7; attempt = 1; bround = 2; step = 1; origin = 0 }))) 3 split ≡ Some 0
coin_of_the_next_round = refl

-- one vote for a bit is too few to take it, and two are enough, whatever the coin
one_vote_tosses : next_vote (tossing (λ s. false)) 2 (1 ∷ 2 ∷ 2 ∷ []) ≡ 0
one_vote_tosses = refl

one_vote_tosses_again : next_vote (tossing (λ s. true)) 2 (0 ∷ 2 ∷ 2 ∷ []) ≡ 1
one_vote_tosses_again = refl

two_ones_are_taken : next_vote (tossing (λ s. false)) 2 (1 ∷ 2 ∷ 1 ∷ []) ≡ 1
two_ones_are_taken = refl

two_zeros_are_taken : next_vote (tossing (λ s. true)) 2 (0 ∷ 2 ∷ 0 ∷ []) ≡ 0
two_zeros_are_taken = refl

-- ---- a decision takes 2f + 1 votes

three_ones_decide : step_verdict four.numbers 3 (1 ∷ 1 ∷ 1 ∷ []) ≡ Some true
three_ones_decide = refl

two_ones_do_not : step_verdict four.numbers 3 (1 ∷ 1 ∷ 2 ∷ []) ≡ None
two_ones_do_not = refl

three_zeros_decide : step_verdict four.numbers 3 (0 ∷ 0 ∷ 0 ∷ []) ≡ Some false
three_zeros_decide = refl

two_zeros_do_not : step_verdict four.numbers 3 (0 ∷ 2 ∷ 0 ∷ []) ≡ None
two_zeros_do_not = refl

second_steps_decide_nothing : step_verdict four.numbers 2 (1 ∷ 1 ∷ 1 ∷ []) ≡ None
second_steps_decide_nothing = refl

-- three votes of the third step, where a one and an unmarked vote may both follow
abbrev thirds : ℕ → ℕ → ℕ → List Word
thirds a b c =
    vote four 2 2 c ∷ vote four 2 1 b ∷ vote four 2 0 a ∷ vote four 1 3 0 ∷ vote four 1 2 1 ∷ vote four 1 1 1 ∷ vote four 1 0 1
    ∷ vote four 0 3 0 ∷ vote four 0 2 0 ∷ vote four 0 1 1 ∷ vote four 0 0 1 ∷ propose 1 ∷ []

ones_decide : decided_below four 3 (thirds 1 1 1) ≡ Some true
ones_decide = refl

two_of_three_decide_nothing : decided_below four 3 (thirds 1 1 2) ≡ None
two_of_three_decide_nothing = refl

two_of_three_go_on : vote_said four 3 (thirds 1 1 2) ≡ Some 1
two_of_three_go_on = refl

-- ---- which slots the root service has open

abbrev round_slot : ℕ → Slot
round_slot round = record { class = 5; a = 0; attempt = 0; bround = round; step = 1; origin = 3 }

shut_before_the_input : step_opens false 0 (round_slot 1) ≡ false
shut_before_the_input = refl

-- up to one round ahead
open_rounds : (step_opens true 4 (round_slot 1) ≡ true) × (step_opens true 4 (round_slot 4) ≡ true) × (step_opens true 4 (round_slot 5) ≡ true)
open_rounds = (refl, refl, refl)

two_rounds_ahead : step_opens true 4 (round_slot 6) ≡ false
two_rounds_ahead = refl

-- from 1 to 200
rounds_that_are_there : (step_opens true 200 (round_slot 0) ≡ false) × (step_opens true 200 (round_slot 200) ≡ true) × (step_opens true 200 (round_slot 201) ≡ false)
rounds_that_are_there = (refl, refl, refl)

-- of one instance, at three steps
other_slots :
    (step_opens true 1 (record { class = 4; a = 0; attempt = 0; bround = 1; step = 1; origin = 3 }) ≡ false)
    × (step_opens true 1 (record { class = 5; a = 1; attempt = 0; bround = 1; step = 1; origin = 3 }) ≡ false)
    × (step_opens true 1 (record { class = 5; a = 0; attempt = 1; bround = 1; step = 1; origin = 3 }) ≡ false)
    × (step_opens true 1 (record { class = 5; a = 0; attempt = 0; bround = 1; step = 4; origin = 3 }) ≡ false)
other_slots = (refl, refl, refl, refl)

-- ---- what the one instance of the root service decided

inside_bit : (binary_decided_in (Some true) (OfBit 0 0) ≡ Some (Bit true)) × (binary_decided_in (Some false) (OfBit 0 0) ≡ Some (Bit false))
inside_bit = (refl, refl)

inside_undecided : binary_decided_in None (OfBit 0 0) ≡ None
inside_undecided = refl

inside_no_other : (binary_decided_in (Some true) (OfBit 0 1) ≡ None) × (binary_decided_in (Some true) (OfBit 1 0) ≡ None) × (binary_decided_in (Some true) (OfValue 0 0) ≡ None)
inside_no_other = (refl, refl, refl)
