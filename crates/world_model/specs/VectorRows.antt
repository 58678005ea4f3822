-- Worked rows: what a replica of a world shows of vector consensus, and which worlds don't agree in it.
use Rattle.std.specs.Prelude.{◌≡◌, zero, suc, List, [], ◌∷◌, length, sum_by, Some, None, refl}
use Rattle.std.proofs.Common.{ap, arith}
use Rattle.ritas_base.specs.declared.event.Event.{Event}
use Rattle.ritas_base.specs.declared.event.Event.TheVariants as events
use Rattle.frame_codec.specs.Inputs as inputs
use Rattle.frame_codec.specs.Grammar as grammar
use Rattle.layer_api.specs.Service.{ServiceRules, LastVector, Undecided, Decided, Spent}
use Rattle.ritas_core.specs.Checks.{input_check}
use Rattle.world_model.specs.World.{Setting, states_of}
use Rattle.world_model.specs.Agree.{last_vector_at, Agree}
use Rattle.world_model.specs.Rows.{silent, world_of}

-- ---- what a replica shows

-- a service whose last vector tells its seat and its words: the round is so many words, and the value the seat's number
abbrev telling : ServiceRules
telling = record silent { last = λ seat w. Some (record { round = length w; attempt = 1; value = seat.me ∷ [] }) }

abbrev with_service : ServiceRules → Setting
with_service service = record (world_of 3) { service = service }

vector_of_seat : last_vector_at (with_service telling) [] 2 ≡ Some (record { round = 0; attempt = 1; value = 2 ∷ [] })
unfolding states_of
vector_of_seat = refl

-- it is by the words that the replica had, and no other's: replica 0 had an input
abbrev one_input : List Event
one_input = events.Input 0 (5 ∷ []) ∷ []

vector_after_input : last_vector_at (with_service telling) one_input 0 ≡ Some (record { round = 1; attempt = 1; value = 0 ∷ [] })
unfolding states_of input_check inputs.input_format grammar.class1
vector_after_input = refl

vector_of_other : last_vector_at (with_service telling) one_input 2 ≡ Some (record { round = 0; attempt = 1; value = 2 ∷ [] })
unfolding states_of input_check
vector_of_other = refl

no_vector : last_vector_at (world_of 3) [] 2 ≡ None
unfolding states_of
no_vector = refl

-- ---- which worlds don't agree

-- one whose replicas decided two vectors in one round
two_vectors : Agree (with_service telling) [] → ⊥
unfolding states_of
two_vectors agree =
    let same : ◌≡◌ {A = LastVector} (record { round = 0; attempt = 1; value = 0 ∷ [] }) (record { round = 0; attempt = 1; value = 2 ∷ [] })
    = agree.last_vectors 0 2 _ _ refl refl refl refl refl in
    let wrong : 0 ≡ 2 = ap (λ (x : LastVector). sum_by (λ k. k) x.value) same in
    omega (arith, wrong)

-- or one vector in two attempts
abbrev by_attempt : ServiceRules
by_attempt = record silent { last = λ seat w. Some (record { round = 0; attempt = seat.me; value = [] }) }

two_attempts : Agree (with_service by_attempt) [] → ⊥
unfolding states_of
two_attempts agree =
    let same : ◌≡◌ {A = LastVector} (record { round = 0; attempt = 0; value = [] }) (record { round = 0; attempt = 2; value = [] })
    = agree.last_vectors 0 2 _ _ refl refl refl refl refl in
    let wrong : 0 ≡ 2 = ap (λ (x : LastVector). x.attempt) same in
    omega (arith, wrong)

-- or one of whose correct replicas a vector consensus is spent
abbrev spent_at_last : ServiceRules
spent_at_last = record silent { outcome = λ seat w. elim seat.me [ zero ↦ Undecided | suc k ↦ Decided Spent ] }

one_spent : Agree (with_service spent_at_last) [] → ⊥
unfolding states_of
one_spent agree = agree.unspent 2 refl refl
