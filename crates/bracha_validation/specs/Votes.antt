-- The votes of a step, what its rule gives to them, and which values some set of them gives. A vote is 0, 1 or 2, and 2
-- is unmarked. The steps of a round are 1, 2 and 3.
use Rattle.std.specs.Prelude.{ℕ, zero, suc, ◌+◌, ◌-◌, ◌*◌, Bool, false, ◌==◌, ◌||◌, nat_le, nat_lt, if◌then◌else◌, List, [], ◌∷◌, length, count_by, Option, Some, None}
use Rattle.ritas_base.specs.Numbers.{Numbers, wait_of}

-- how many of the votes are v
abbrev pub votes : ℕ → List ℕ → ℕ
votes v vs = count_by (λ x. x == v) vs

-- step 1: the bit of more than half of the votes, at a tie 0
abbrev pub majority : List ℕ → ℕ
majority vs = if nat_lt (length vs) (2 * votes 1 vs) then 1 else 0

-- step 2: the bit whose count, doubled, is greater than n; else 2
abbrev pub marked : Numbers → List ℕ → ℕ
marked p vs = if nat_lt p.n (2 * votes 0 vs) then 0 else if nat_lt p.n (2 * votes 1 vs) then 1 else 2

-- step 3: 0 where 0 has at least f + 1 votes; else 1 where 1 has; else neither, and a coin is tossed
abbrev pub backed_vote : Numbers → List ℕ → Option ℕ
backed_vote p vs = if nat_le (p.f + 1) (votes 0 vs) then Some 0 else if nat_le (p.f + 1) (votes 1 vs) then Some 1 else None

-- what the rule of a step gives to votes of that step; `None` is a coin
abbrev pub rule : Numbers → ℕ → List ℕ → Option ℕ
rule p step vs = if step == 1 then Some (majority vs) else if step == 2 then Some (marked p vs) else backed_vote p vs

-- the value is the one that is given; a coin gives both bits
abbrev pub is_vote_given : Option ℕ → ℕ → Bool
is_vote_given (Some u) value = u == value
is_vote_given None value = nat_le value 1

-- the value is among those that the rule of the step gives to the votes
abbrev pub gives : Numbers → ℕ → List ℕ → ℕ → Bool
gives p step vs value = is_vote_given (rule p step vs) value

-- some set of exactly m of the votes passes the test: the first vote is in it, or it is not
abbrev pub some_set : (List ℕ → Bool) → ℕ → List ℕ → Bool
some_set test zero vs = test []
some_set test (suc m) [] = false
some_set test (suc m) (v ∷ vs) = some_set (λ ys. test (v ∷ ys)) m vs || some_set test (suc m) vs

-- some set of exactly n - f of the votes gives the value by the rule of the step
abbrev pub may_give : Numbers → ℕ → ℕ → List ℕ → Bool
may_give p step value vs = some_set (λ ys. gives p step ys value) (wait_of p) vs

-- the step before, which before step 1 is step 3 of the round before
abbrev pub step_before : ℕ → ℕ
step_before step = if step == 1 then 3 else step - 1
