-- The steps of all rounds in one line, what is heard at them, and which of it is accepted. A vote is 0, 1 or 2, and 2 is
-- unmarked.
use Rattle.std.specs.Prelude.{ℕ, zero, suc, ◌+◌, ◌/◌, ◌%◌, Bool, if◌then◌else◌, List, [], ◌∷◌, Option, Some, None}
use Rattle.ritas_base.specs.declared.slot.Slot.{Slot}
use Rattle.ritas_base.specs.Numbers.{Numbers}
use Rattle.ritas_base.specs.History.{replicas}
use Rattle.layer_api.specs.Words.{Word, value_at}
use Rattle.layer_api.specs.Binary.{Bench}
use Rattle.bracha_validation.specs.Votes.{may_give}
use Rattle.ritas_base.specs.Places.{listed}

-- the round of a step of the line, from 1, and which step of that round it is, 1 to 3
abbrev pub round_of : ℕ → ℕ
round_of t = t / 3 + 1

abbrev pub step_of : ℕ → ℕ
step_of t = t % 3 + 1

-- the slot of a step of the line at an origin
abbrev pub line_slot : Bench → ℕ → ℕ → Slot
line_slot at t origin = record { class = 5; a = at.a; attempt = at.attempt; bround = round_of t; step = step_of t; origin = origin }

-- a vote is a value of one byte
abbrev pub vote_in : List ℕ → Option ℕ
vote_in (v ∷ []) = Some v
vote_in _ = None

abbrev pub vote_heard : Option (List ℕ) → Option ℕ
vote_heard None = None
vote_heard (Some value) = vote_in value

-- the vote that was heard first at a step from an origin
abbrev pub heard : Bench → List Word → ℕ → ℕ → Option ℕ
heard at w t origin = vote_heard (value_at w (line_slot at t origin))

-- a vote, where it passes
abbrev pub passed_vote : (ℕ → Bool) → Option ℕ → Option ℕ
passed_vote test None = None
passed_vote test (Some v) = if test v then Some v else None

-- The vote that is accepted at a step from an origin, by the votes heard at each step from each origin. At the first step
-- it is what was heard; later it is what was heard, where some set of exactly n - f of those accepted at the step before
-- gives it by the rule of that step.
abbrev pub accepts : Numbers → (ℕ → ℕ → Option ℕ) → ℕ → ℕ → Option ℕ
accepts p votes zero origin = votes zero origin
accepts p votes (suc t) origin =
    passed_vote (λ v. may_give p (step_of t) v (listed (accepts p votes t) (replicas p.n))) (votes (suc t) origin)

-- the votes that are accepted at a step
abbrev pub accepted : Numbers → (ℕ → ℕ → Option ℕ) → ℕ → List ℕ
accepted p votes t = listed (accepts p votes t) (replicas p.n)
