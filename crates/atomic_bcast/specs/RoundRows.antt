-- Worked rows of the rounds of atomic broadcast, over a box of vector consensus that decides on the first vector that it hears.
use Rattle.std.specs.Prelude.{◌≡◌, ℕ, true, false, List, [], ◌∷◌, Option, Some, None, option_map, refl}
use Rattle.std.specs.Int.RustNames.{count_ones}
use Rattle.std.proofs.Common.{lit≤}
use Rattle.ritas_base.specs.declared.slot.Slot.{Slot}
use Rattle.ritas_base.specs.declared.mode.Vect.TheVariants.{Echo}
use Rattle.ritas_base.specs.declared.mode.FrameVersion.TheVariants.{One}
use Rattle.ritas_base.specs.declared.id.Id.{Id}
use Rattle.ritas_base.specs.Slots.{command_slot}
use Rattle.frame_codec.specs.Values.{mask_of, entries_in, vector_entries, ids_in, len_in, ids_bytes}
use Rattle.layer_api.specs.Words.{Word, Ask, Hear, value_at}
use Rattle.layer_api.specs.Service.{Seat, Instance, OfBit, OfValue, OfVector, Decision, Bit, Value}
use Rattle.layer_api.specs.Vectors.{VectorRules}
use Rattle.ordered_rounds.specs.Identifiers.{in_order}
use Rattle.ordered_rounds.specs.Rounds.{proposal, backed, appended, log_below, log_of, complete_of, round_words, vector_of_round, last_complete, inside_of}
use Rattle.atomic_bcast.specs.VectorRounds.{by_vectors}

abbrev id : ℕ → ℕ → Id
id origin num = record { origin = origin; num = num }

-- ---- lists of identifiers

-- identifiers are put in order by origin and then by number, and each stands there once
ordered : in_order (id 1 0 ∷ id 0 7 ∷ id 1 0 ∷ id 0 3 ∷ []) ≡ id 0 3 ∷ id 0 7 ∷ id 1 0 ∷ []
ordered = refl

-- of 31 replicas each origin has a share of 64 / 31, so that of three identifiers of one origin the least two are proposed
shared : proposal 31 (id 0 3 ∷ id 2 5 ∷ id 0 1 ∷ id 0 2 ∷ []) ≡ id 0 1 ∷ id 0 2 ∷ id 2 5 ∷ []
shared = refl

-- of 4 replicas it has 16, so that all of them are
all_shared : proposal 4 (id 0 3 ∷ id 2 5 ∷ id 0 1 ∷ id 0 2 ∷ []) ≡ id 0 1 ∷ id 0 2 ∷ id 0 3 ∷ id 2 5 ∷ []
all_shared = refl

-- ---- a vector

-- the slot at which the box hears its vector
abbrev start : ℕ → Slot
start a = record { class = 3; a = a; attempt = 0; bround = 0; step = 0; origin = 0 }

-- it decides by its first attempt, and that by the bit 1
abbrev inside_box : Option (List ℕ) → Instance → Option Decision
inside_box o (OfBit a k) = option_map (λ v. Bit true) o
inside_box o (OfValue a k) = option_map Value o
inside_box o (OfVector a) = option_map Value o

abbrev box : VectorRules
box = record {
  says = λ at w c. [];
  opens = λ at w s. true;
  decision = λ at w. value_at w (start at.scope.a);
  attempt = λ at w. option_map (λ v. 0) (value_at w (start at.scope.a));
  spent = λ at w. false;
  inside = λ at w x. inside_box (value_at w (start at.scope.a)) x;
}

-- replica 0 of four, of which one may be faulty
abbrev four : Seat
four = record { numbers = record { n = 4; f = 1 }; mode = record { root = 6; vect = Echo; version = One; low = lit≤ tt; high = lit≤ tt }; me = 0; coin = λ s. false }

-- a vector of the places 0, 1 and 2: identifier (0, 0) stands in each list, and (3, 9) in the last one alone
abbrev vector : List ℕ
vector =
    0 ∷ 0 ∷ 0 ∷ 7 ∷ 0 ∷ 5 ∷ 0 ∷ 0 ∷ 0 ∷ 0 ∷ 0 ∷ 0 ∷ 5 ∷ 0 ∷ 0 ∷ 0 ∷ 0 ∷ 0 ∷ 0 ∷ 10 ∷ 0 ∷ 0 ∷ 0 ∷ 0 ∷ 0 ∷ 3 ∷ 0 ∷ 0 ∷ 0 ∷ 9 ∷ []

-- an identifier is wanted where it stands in two lists at least
wanted_twice : backed four.numbers (vector_entries vector) ≡ id 0 0 ∷ []
unfolding mask_of entries_in ids_in len_in count_ones
wanted_twice = refl

-- one that the log has isn't appended again
appended_once : appended (by_vectors box) four.numbers vector (id 0 0 ∷ []) ≡ id 0 0 ∷ []
unfolding mask_of entries_in ids_in len_in count_ones
appended_once = refl

-- ---- rounds

-- a command is delivered
abbrev begun : List Word
begun = Hear (command_slot 0 0) (1 ∷ []) ∷ []

-- before that no round begins
not_begun : round_words (by_vectors box) four 0 [] ≡ []
not_begun = refl

-- the first round begins with its identifier
first_proposal : round_words (by_vectors box) four 0 begun ≡ Ask (ids_bytes (id 0 0 ∷ [])) ∷ []
first_proposal = refl

-- then the round's vector is decided
abbrev decided : List Word
decided = Hear (start 0) vector ∷ begun

-- the identifier that it wants is appended
first_log : log_below (by_vectors box) four 1 decided ≡ Some (id 0 0 ∷ [])
unfolding mask_of entries_in ids_in len_in count_ones
first_log = refl

-- and one round is complete
one_round : complete_of (by_vectors box) four 2 decided ≡ 1
unfolding mask_of entries_in ids_in len_in count_ones
one_round = refl

-- nothing is pending, so that the next round doesn't begin
no_more : round_words (by_vectors box) four 1 decided ≡ []
unfolding mask_of entries_in ids_in len_in count_ones
no_more = refl

-- it begins when another command is delivered
second_proposal : round_words (by_vectors box) four 1 (Hear (command_slot 2 4) (1 ∷ []) ∷ decided) ≡ Ask (ids_bytes (id 2 4 ∷ [])) ∷ []
unfolding mask_of entries_in ids_in len_in count_ones
second_proposal = refl

-- another command is delivered, and then a vector is decided that wants one that isn't
abbrev early : List Word
early = Hear (start 0) vector ∷ Hear (command_slot 1 0) (1 ∷ []) ∷ []

-- the round waits for it
waits : log_below (by_vectors box) four 1 early ≡ None
unfolding mask_of entries_in ids_in len_in count_ones
waits = refl

-- when it is delivered, the round is complete
then_completes : log_of (by_vectors box) four 2 (Hear (command_slot 0 0) (1 ∷ []) ∷ early) ≡ id 0 0 ∷ []
unfolding mask_of entries_in ids_in len_in count_ones
then_completes = refl

-- ---- the last vector, and what the instances inside decided

-- the first round's vector is that of the last complete round
first_vector : vector_of_round (by_vectors box) four 0 decided ≡ Some (record { round = 0; attempt = 0; value = vector })
first_vector = refl

last_of_one : last_complete (by_vectors box) four 1 decided ≡ Some (record { round = 0; attempt = 0; value = vector })
last_of_one = refl

last_of_none : last_complete (by_vectors box) four 0 decided ≡ None
last_of_none = refl

no_second_vector : vector_of_round (by_vectors box) four 1 decided ≡ None
unfolding mask_of entries_in ids_in len_in count_ones
no_second_vector = refl

-- each instance is looked up in its own round
inside_vector : inside_of (by_vectors box) four decided (OfVector 0) ≡ Some (Value vector)
inside_vector = refl

inside_value : inside_of (by_vectors box) four decided (OfValue 0 0) ≡ Some (Value vector)
inside_value = refl

inside_bit : inside_of (by_vectors box) four decided (OfBit 0 0) ≡ Some (Bit true)
inside_bit = refl

inside_not_yet : inside_of (by_vectors box) four begun (OfVector 0) ≡ None
inside_not_yet = refl

inside_of_another_round : inside_of (by_vectors box) four decided (OfVector 1) ≡ None
unfolding mask_of entries_in ids_in len_in count_ones
inside_of_another_round = refl

bit_of_another_round : inside_of (by_vectors box) four decided (OfBit 1 0) ≡ None
unfolding mask_of entries_in ids_in len_in count_ones
bit_of_another_round = refl
