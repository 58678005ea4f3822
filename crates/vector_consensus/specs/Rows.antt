-- Worked rows, over a box that decides that no value is as soon as it has heard the proposal of replica 0.
use Rattle.std.specs.Prelude.{◌≡◌, ℕ, Bool, true, false, ◌==◌, ◌&&◌, if◌then◌else◌, List, [], ◌∷◌, Option, Some, None, refl}
use Rattle.ritas_base.specs.declared.slot.Slot.{Slot}
use Rattle.layer_api.specs.Service.{Seat, Instance, OfBit, OfValue, OfVector, Decision, Bit, Nothing, Value, Spent}
use Rattle.layer_api.specs.Words.{Word, Ask, Hear, is_heard}
use Rattle.layer_api.specs.Multi.{Scope, Desk, MultiRules}
use Rattle.ritas_base.specs.declared.mode.Vect.TheVariants.{Echo}
use Rattle.ritas_base.specs.declared.mode.FrameVersion.TheVariants.{One}
use Rattle.std.proofs.Common.{lit≤}
use Rattle.vector_consensus.specs.Consensus.{prop_slot, try_words, failed_below, vector_decided_below, inside_at, vectors}
use Rattle.vector_consensus.specs.Root.{vector_decided_in, vector_root}

abbrev start : ℕ → Slot
start k = record { class = 3; a = 0; attempt = k; bround = 0; step = 0; origin = 0 }

-- what is decided in it, and by which bit
abbrev inside_of : Scope → Decision → Bool → Instance → Option Decision
inside_of at d b (OfBit a k) = if a == at.a && k == at.attempt then Some (Bit b) else None
inside_of at d b (OfValue a k) = if a == at.a && k == at.attempt then Some d else None
inside_of at d b (OfVector a) = None

abbrev none_box : MultiRules
none_box = record {
  says = λ at w c. [];
  opens = λ at w s. true;
  decision = λ at w. if is_heard w (start at.scope.attempt) then Some None else None;
  inside = λ at w x. if is_heard w (start at.scope.attempt) then inside_of at.scope Nothing false x else None;
}

abbrev one_box : MultiRules
one_box = record {
  says = λ at w c. [];
  opens = λ at w s. true;
  decision = λ at w. if is_heard w (start at.scope.attempt) then Some (Some (7 ∷ [])) else None;
  inside = λ at w x. if is_heard w (start at.scope.attempt) then inside_of at.scope (Value (7 ∷ [])) true x else None;
}

-- replica 0 of four, of which one may be faulty
abbrev four : Desk
four = record { scope = record { numbers = record { n = 4; f = 1 }; root = 5; a = 0; attempt = 0 }; me = 0; coin = λ s. false }

abbrev prop : ℕ → ℕ → Word
prop k v = Hear (prop_slot four.scope k) (v ∷ [])

-- it proposes 61 and hears 61, 62 and 63
abbrev three : List Word
three = prop 2 0x63 ∷ prop 1 0x62 ∷ prop 0 0x61 ∷ Ask (0x61 ∷ []) ∷ []

first_vector : try_words none_box four 0 three ≡ Ask (0 ∷ 0 ∷ 0 ∷ 7 ∷ 0 ∷ 1 ∷ 0x61 ∷ 0 ∷ 1 ∷ 0x62 ∷ 0 ∷ 1 ∷ 0x63 ∷ []) ∷ []
first_vector = refl

not_before : try_words none_box four 0 (prop 1 0x62 ∷ prop 0 0x61 ∷ Ask (0x61 ∷ []) ∷ []) ≡ []
not_before = refl

-- the first attempt decides none, and no other begins
abbrev failed : List Word
failed = Hear (start 0) (7 ∷ []) ∷ three

no_second : try_words none_box four 1 failed ≡ []
no_second = refl

-- with the fourth proposal the second begins, in that call
abbrev second : List Word
second = prop 3 0x64 ∷ failed

second_vector : try_words none_box four 1 second
    ≡ Ask (0 ∷ 0 ∷ 0 ∷ 15 ∷ 0 ∷ 1 ∷ 0x61 ∷ 0 ∷ 1 ∷ 0x62 ∷ 0 ∷ 1 ∷ 0x63 ∷ 0 ∷ 1 ∷ 0x64 ∷ []) ∷ []
second_vector = refl

-- where it decides none too, the instance is spent
not_spent : failed_below none_box four 2 second ≡ false
not_spent = refl

spent : failed_below none_box four 2 (Hear (start 1) (7 ∷ []) ∷ second) ≡ true
spent = refl

nothing_decided : vector_decided_below none_box four 2 (Hear (start 1) (7 ∷ []) ∷ second) ≡ None
nothing_decided = refl

-- where the first attempt decides a value, that is the decision
decided : vector_decided_below one_box four 2 failed ≡ Some (7 ∷ [])
decided = refl

-- by the first attempt
decided_first : (vectors one_box).attempt four failed ≡ Some 0
decided_first = refl

-- where the first attempt decides none and the second a value, the second decided it
abbrev second_box : MultiRules
second_box = record {
  says = λ at w c. [];
  opens = λ at w s. true;
  decision = λ at w. if at.scope.attempt == 0 then none_box.decision at w else one_box.decision at w;
  inside = λ at w x. if at.scope.attempt == 0 then none_box.inside at w x else one_box.inside at w x;
}

decided_second : (vectors second_box).attempt four (Hear (start 1) (7 ∷ []) ∷ second) ≡ Some 1
decided_second = refl

decided_not_yet : (vectors second_box).attempt four second ≡ None
decided_not_yet = refl

no_other_attempt : try_words one_box four 1 (prop 3 0x64 ∷ failed) ≡ []
no_other_attempt = refl

-- one replica alone
abbrev one : Desk
one = record { scope = record { numbers = record { n = 1; f = 0 }; root = 5; a = 0; attempt = 0 }; me = 0; coin = λ s. false }

alone : try_words none_box one 0 (Hear (prop_slot one.scope 0) (0x61 ∷ []) ∷ Ask (0x61 ∷ []) ∷ []) ≡ Ask (0 ∷ 0 ∷ 0 ∷ 1 ∷ 0 ∷ 1 ∷ 0x61 ∷ []) ∷ []
alone = refl

-- ---- what the instances inside decided

inside_failed : inside_at none_box four failed (OfValue 0 0) ≡ Some Nothing
inside_failed = refl

inside_decided : inside_at one_box four failed (OfValue 0 0) ≡ Some (Value (7 ∷ []))
inside_decided = refl

inside_not_begun : inside_at none_box four failed (OfValue 0 1) ≡ None
inside_not_begun = refl

inside_of_no_attempt : inside_at none_box four (Hear (start 1) (7 ∷ []) ∷ second) (OfValue 0 2) ≡ None
inside_of_no_attempt = refl

inside_of_another_round : inside_at none_box four failed (OfValue 1 0) ≡ None
inside_of_another_round = refl

inside_bit : inside_at none_box four failed (OfBit 0 0) ≡ Some (Bit false)
inside_bit = refl

inside_bit_of_a_value : inside_at one_box four failed (OfBit 0 0) ≡ Some (Bit true)
inside_bit_of_a_value = refl

inside_vector : inside_at one_box four failed (OfVector 0) ≡ Some (Value (7 ∷ []))
inside_vector = refl

inside_spent : inside_at none_box four (Hear (start 1) (7 ∷ []) ∷ second) (OfVector 0) ≡ Some Spent
inside_spent = refl

inside_undecided : inside_at none_box four second (OfVector 0) ≡ None
inside_undecided = refl

abbrev seat : Seat
seat = record { numbers = record { n = 4; f = 1 }; mode = record { root = 5; vect = Echo; version = One; low = lit≤ tt; high = lit≤ tt }; me = 0; coin = λ s. false }

root_failed : vector_decided_in (vectors none_box) seat failed (OfValue 0 0) ≡ Some Nothing
root_failed = refl

root_bit : vector_decided_in (vectors none_box) seat failed (OfBit 0 0) ≡ Some (Bit false)
root_bit = refl

root_spent : vector_decided_in (vectors none_box) seat (Hear (start 1) (7 ∷ []) ∷ second) (OfVector 0) ≡ Some Spent
root_spent = refl

-- the vector as the last one
root_last : (vector_root (vectors second_box)).last seat (Hear (start 1) (7 ∷ []) ∷ second) ≡ Some (record { round = 0; attempt = 1; value = 7 ∷ [] })
root_last = refl

root_no_last : (vector_root (vectors second_box)).last seat second ≡ None
root_no_last = refl

root_decided : vector_decided_in (vectors one_box) seat failed (OfVector 0) ≡ Some (Value (7 ∷ []))
root_decided = refl
