-- Worked rows: four replicas, one of which may be faulty. Three votes are waited for.
use Rattle.std.specs.Prelude.{◌≡◌, ℕ, true, false, [], ◌∷◌, Some, None, refl}
use Rattle.ritas_base.specs.Numbers.{Numbers}
use Rattle.bracha_validation.specs.declared.tally.Tally.{Tally}
use Rattle.bracha_validation.specs.Votes.{rule, gives, may_give, step_before}
use Rattle.bracha_validation.specs.Tallies.{tally_votes}

abbrev four : Numbers
four = record { n = 4; f = 1 }

abbrev tally : ℕ → ℕ → ℕ → Tally
tally z o u = record { zeros = z; ones = o; nones = u }

-- ---- what the rules give

majority_of_three : rule four 1 (0 ∷ 1 ∷ 1 ∷ []) ≡ Some 1
majority_of_three = refl

a_tie_gives_zero : rule four 1 (0 ∷ 1 ∷ 1 ∷ 0 ∷ []) ≡ Some 0
a_tie_gives_zero = refl

three_are_marked : rule four 2 (1 ∷ 1 ∷ 1 ∷ []) ≡ Some 1
three_are_marked = refl

two_of_four_are_not : rule four 2 (1 ∷ 0 ∷ 1 ∷ []) ≡ Some 2
two_of_four_are_not = refl

zero_is_first : rule four 3 (1 ∷ 0 ∷ 1 ∷ 0 ∷ []) ≡ Some 0
zero_is_first = refl

two_ones : rule four 3 (1 ∷ 2 ∷ 1 ∷ []) ≡ Some 1
two_ones = refl

one_is_too_few : rule four 3 (1 ∷ 2 ∷ 2 ∷ []) ≡ None
one_is_too_few = refl

a_coin_gives_both : (gives four 3 (1 ∷ 2 ∷ 2 ∷ []) 0 ≡ true) × (gives four 3 (1 ∷ 2 ∷ 2 ∷ []) 1 ≡ true)
a_coin_gives_both = (refl, refl)

a_coin_gives_no_other : gives four 3 (1 ∷ 2 ∷ 2 ∷ []) 2 ≡ false
a_coin_gives_no_other = refl

-- ---- which values may follow

two_ones_of_three_mark_none : may_give four (step_before 3) 1 (tally_votes (tally 1 2 0)) ≡ false
two_ones_of_three_mark_none = refl

three_ones_mark_it : may_give four (step_before 3) 1 (tally_votes (tally 1 3 0)) ≡ true
three_ones_mark_it = refl

two_ones_of_three_are_most : may_give four (step_before 2) 0 (tally_votes (tally 1 2 0)) ≡ false
two_ones_of_three_are_most = refl

two_and_two_give_zero : may_give four (step_before 2) 0 (tally_votes (tally 2 2 0)) ≡ true
two_and_two_give_zero = refl

two_and_two_give_one : may_give four (step_before 2) 1 (tally_votes (tally 2 2 0)) ≡ true
two_and_two_give_one = refl

-- two votes are no set of three
two_votes_give_nothing : may_give four (step_before 1) 0 (tally_votes (tally 0 1 1)) ≡ false
two_votes_give_nothing = refl

-- a set of three has both ones, which give 1, or one of them, which gives a coin
ones_or_a_coin : (may_give four (step_before 1) 0 (tally_votes (tally 0 2 2)) ≡ true) × (may_give four (step_before 1) 1 (tally_votes (tally 0 2 2)) ≡ true)
ones_or_a_coin = (refl, refl)

-- the one set of three has both ones
two_ones_of_three_are_taken : may_give four (step_before 1) 0 (tally_votes (tally 0 2 1)) ≡ false
two_ones_of_three_are_taken = refl
