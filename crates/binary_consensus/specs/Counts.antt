-- The votes of the steps as a box keeps them: a row of bytes for each, with a byte for each sender, and the counts of those
-- that are accepted.
use Rattle.std.specs.Prelude.{◌≡◌, ℕ, zero, suc, ◌<◌, ◌==◌, Bool, if◌then◌else◌, List, length, map, take, replicate, get_or, Option, Some, None, ◌⊎◌}
use Rattle.ritas_base.specs.Numbers.{Numbers}
use Rattle.layer_api.specs.Binary.{vote_limit}
use Rattle.bracha_validation.specs.declared.tally.Tally.{Tally}
use Rattle.bracha_validation.specs.Votes.{may_give}
use Rattle.bracha_validation.specs.Tallies.{tally_votes}
use Rattle.vote_lanes.specs.Plain.{equal_places}
use Rattle.binary_consensus.specs.Steps.{step_of}
use Rattle.binary_consensus.specs.declared.line.StepVotes.{StepVotes}

-- ---- what was heard

-- a byte of a row: a vote, or 255 where none was heard
abbrev pub byte_vote : ℕ → Option ℕ
byte_vote b = if b == 255 then None else Some b

-- the row of a step at which nothing was heard
abbrev pub silent_row : List ℕ
silent_row = replicate 31 255

-- the votes heard at each step from each origin, by the rows of the steps
abbrev pub row_votes : List (List ℕ) → ℕ → ℕ → Option ℕ
row_votes rows t origin = byte_vote (get_or (get_or rows t silent_row) origin 255)

-- the numbers of a session, and a row for each step
pub record HeardRows : Type 0 where
  pub numbers : Numbers
  pub rows : List (List ℕ)

-- one more vote at a step from an origin
pub record HearsOneVote (t origin v : ℕ) (old new : HeardRows) : Type 0 where
  pub numbers : new.numbers ≡ old.numbers
  pub here : row_votes new.rows t origin ≡ Some v
  pub others : (s k : ℕ) → ((s ≡ t) × (k ≡ origin) → ⊥) → row_votes new.rows s k ≡ row_votes old.rows s k

-- ---- what is accepted, by counts

abbrev pub none : Tally
none = record { zeros = 0; ones = 0; nones = 0 }

-- how many votes of each value a row has
abbrev pub row_tally : List ℕ → Tally
row_tally bytes = record { zeros = equal_places bytes 0; ones = equal_places bytes 1; nones = equal_places bytes 2 }

abbrev pub count_kept : Bool → ℕ → ℕ
count_kept follows count = if follows then count else 0

-- of the votes heard at a step those that are accepted, by those accepted at the step before: a value follows or it does
-- not, whoever says it
abbrev pub tally_taken : Numbers → ℕ → Tally → Tally → Tally
tally_taken p zero before heard = heard
tally_taken p (suc t) before heard = record {
  zeros = count_kept (may_give p (step_of t) 0 (tally_votes before)) heard.zeros;
  ones = count_kept (may_give p (step_of t) 1 (tally_votes before)) heard.ones;
  nones = count_kept (may_give p (step_of t) 2 (tally_votes before)) heard.nones;
}

-- ---- as the steps are kept

abbrev pub row : List StepVotes → ℕ → StepVotes
row steps t = get_or steps t (record { heard = silent_row; accepted = none })

-- the byte of a step at an origin
abbrev pub sender_byte : List StepVotes → ℕ → ℕ → ℕ
sender_byte steps t origin = get_or (row steps t).heard origin 255

abbrev pub heards : List StepVotes → List (List ℕ)
heards steps = map (λ r. r.heard) steps

-- how many votes of each value were heard at a step
abbrev pub heard_tally : Numbers → List StepVotes → ℕ → Tally
heard_tally p steps t = row_tally (take p.n (row steps t).heard)

-- the votes accepted before a step
abbrev pub before_row : List StepVotes → ℕ → Tally
before_row steps zero = none
before_row steps (suc t) = (row steps t).accepted

-- one more vote is heard at a step from an origin
pub record HearsByte (t origin v : ℕ) (old new : List StepVotes) : Type 0 where
  pub here : sender_byte new t origin ≡ v
  pub others : (s k : ℕ) → ((s ≡ t) × (k ≡ origin) → ⊥) → sender_byte new s k ≡ sender_byte old s k

-- a row has a byte for each replica that there may be, and votes of its step and nothing else
pub record IsVoteRow (t : ℕ) (bytes : List ℕ) : Type 0 where
  pub whole : length bytes ≡ 31
  pub votes : (k : ℕ) → (get_or bytes k 255 ≡ 255) ⊎ (get_or bytes k 255 < vote_limit (step_of t))

abbrev pub AreVoteRows : List StepVotes → Type 0
AreVoteRows steps = (t : ℕ) → IsVoteRow t (row steps t).heard

abbrev pub IsSettledAt : Numbers → List StepVotes → ℕ → Type 0
IsSettledAt p steps t = (row steps t).accepted ≡ tally_taken p t (before_row steps t) (heard_tally p steps t)

-- the accepted votes of all steps but one are up to date
abbrev pub AreSettledBut : Numbers → List StepVotes → ℕ → Type 0
AreSettledBut p steps s = (t : ℕ) → (t ≡ s → ⊥) → IsSettledAt p steps t

pub record IsLine (p : Numbers) (steps : List StepVotes) : Type 0 where
  pub votes : AreVoteRows steps
  pub settled : (t : ℕ) → IsSettledAt p steps t

-- ready to be settled from a step on
pub record IsLineBut (p : Numbers) (s : ℕ) (steps : List StepVotes) : Type 0 where
  pub votes : AreVoteRows steps
  pub settled : AreSettledBut p steps s
