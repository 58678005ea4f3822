-- What a box of binary consensus means: its rules on lists of words, the newest first, when a word may come, and its law.
-- A proposal is the word `Ask` of a bit's byte; what a slot delivered is the word `Hear` of one byte: 0, 1 or, in step 3,
-- 2 for unmarked.
use Rattle.std.specs.Prelude.{◌≡◌, ℕ, ◌+◌, ◌<◌, ◌≤◌, Bool, true, false, ◌==◌, List, [], ◌∷◌, Option, Some, None, ◌⊎◌, if◌then◌else◌}
use Rattle.ritas_base.specs.declared.slot.Slot.{Slot}
use Rattle.ritas_base.specs.declared.item.Say.{Say}
use Rattle.ritas_base.specs.Numbers.{Numbers}
use Rattle.layer_api.specs.Runs.{ReplicaStep, calls_of, Has, IsEnough}
use Rattle.layer_api.specs.Words.{Word, Ask, Hear, asked, is_heard, is_said, bit_byte, AllMet, all_said, AreFresh}
use Rattle.layer_api.specs.Fed.{Play, IsFedRun}
use Rattle.layer_api.specs.Service.{OfBit}
use Rattle.layer_api.specs.Proposals.{SaidProposal, SomeProposed}

-- the replica and the instance that a box is for, and its coin
pub record Bench : Type 0 where
  pub numbers : Numbers
  pub me : ℕ
  pub a : ℕ
  pub attempt : ℕ
  pub coin : Slot → Bool

-- the meaning of a box at one bench, by the words so far
pub record BinaryRules : Type 0 where
  -- the broadcasts that a word newly starts
  pub says : Bench → List Word → Word → List Say
  -- the greatest round whose first step was said, 0 before the proposal
  pub round : Bench → List Word → ℕ
  -- the bit that is decided
  pub decision : Bench → List Word → Option Bool
  -- the last round is over without a decision
  pub over : Bench → List Word → Bool

-- the values of a step are below this
abbrev pub vote_limit : ℕ → ℕ
vote_limit step = if step == 3 then 3 else 2

-- the bytes are one vote of a step
pub record IsVote (step : ℕ) (v : List ℕ) : Type 0 where
  pub vote : ℕ
  pub whole : v ≡ vote ∷ []
  pub small : vote < vote_limit step

-- a proposal comes once
abbrev pub MayPropose : List Word → Type 0
MayPropose w = asked w ≡ 0

-- the slot is one of a step of this instance
pub record IsStepSlot (at : Bench) (s : Slot) : Type 0 where
  pub class : s.class ≡ 5
  pub number : s.a ≡ at.a
  pub attempt : s.attempt ≡ at.attempt
  pub first_round : 1 ≤ s.bround
  pub last_round : s.bround ≤ 200
  pub first_step : 1 ≤ s.step
  pub last_step : s.step ≤ 3

-- a slot of this instance is heard once, after the proposal, at most one round ahead, and with one of its values
pub record MayVote (r : BinaryRules) (at : Bench) (w : List Word) (s : Slot) (vote : ℕ) : Type 0 where
  pub proposed : asked w ≡ 1
  pub slot : IsStepSlot at s
  pub origin : s.origin < at.numbers.n
  pub near : s.bround ≤ r.round at w + 1
  pub value : vote < vote_limit s.step
  pub first : is_heard w s ≡ false

-- when a word may come: a proposal is a bit
abbrev pub MayBit : BinaryRules → Bench → List Word → Word → Type 0
MayBit r at w (Ask v) = MayPropose w × ((bit : Bool) × (v ≡ bit_byte bit ∷ []))
MayBit r at w (Hear s v) = (vote : ℕ) × (v ≡ vote ∷ []) × MayVote r at w s vote

-- the conditions that each of these words met
abbrev pub AreVotes : BinaryRules → Bench → List Word → Type 0
AreVotes r at w = AllMet (MayBit r at) w

-- all that was said
abbrev pub bits_said : BinaryRules → Bench → List Word → List Say
bits_said r at w = all_said (r.says at) w

-- it is at a step of this replica and instance, with a value of that step
pub record IsVoteSaid (at : Bench) (y : Say) : Type 0 where
  pub slot : IsStepSlot at y.slot
  pub origin : y.slot.origin ≡ at.me
  pub vote : IsVote y.slot.step y.value

-- this replica's slot of a step
abbrev pub step_slot : Bench → ℕ → ℕ → Slot
step_slot at round step = record { class = 5; a = at.a; attempt = at.attempt; bround = round; step = step; origin = at.me }

-- laws of a single value, over all words that met their conditions
pub record BoxLaws (r : BinaryRules) : Type 0 where
  pub says_new : (at : Bench) (c : Word) (w : List Word) → AreVotes r at (c ∷ w) → AreFresh (IsVoteSaid at) (bits_said r at w) (r.says at w c)
  -- before any word nothing is decided
  pub decision_first : (at : Bench) → r.decision at [] ≡ None
  pub decision_stays : (at : Bench) (c : Word) (w : List Word) (b : Bool) → AreVotes r at (c ∷ w)
      → r.decision at w ≡ Some b → r.decision at (c ∷ w) ≡ Some b
  -- the round is the greatest whose first step was said, and 0 where none was
  pub round_said : (at : Bench) (w : List Word) → AreVotes r at w
      → (r.round at w ≡ 0) ⊎ (is_said (bits_said r at w) (step_slot at (r.round at w) 1) ≡ true)
  pub round_greatest : (at : Bench) (w : List Word) (round : ℕ) → AreVotes r at w
      → is_said (bits_said r at w) (step_slot at round 1) ≡ true → round ≤ r.round at w
  pub round_stays : (at : Bench) (c : Word) (w : List Word) → AreVotes r at (c ∷ w) → r.round at w ≤ r.round at (c ∷ w)

abbrev pub bench_at : Numbers → ℕ → ℕ → (ℕ → Slot → Bool) → ℕ → Bench
bench_at p a attempt coins i = record { numbers = p; me = i; a = a; attempt = attempt; coin = coins i }

-- the boxes of one instance
abbrev pub binary_play : BinaryRules → Numbers → ℕ → ℕ → (ℕ → Slot → Bool) → Play
binary_play r p a attempt coins = record {
  said = λ i w. bits_said r (bench_at p a attempt coins i) w;
  may = λ i w c. MayBit r (bench_at p a attempt coins i) w c;
}

-- the law of a box, of these rules: over every run all decisions of correct replicas are equal, and a bit that one of them
-- decides was proposed by a correct one, which said it at the first step
pub record OneBit (r : BinaryRules) : Type 0 where
  pub agree : (p : Numbers) (a attempt : ℕ) (is_correct : ℕ → Bool) (coins : ℕ → Slot → Bool) (steps : List (ReplicaStep Word))
      → IsEnough p is_correct → IsFedRun (binary_play r p a attempt coins) is_correct steps
      → (i j : ℕ) (b d : Bool) → is_correct i ≡ true → is_correct j ≡ true
      → r.decision (bench_at p a attempt coins i) (calls_of i steps) ≡ Some b
      → r.decision (bench_at p a attempt coins j) (calls_of j steps) ≡ Some d → b ≡ d
  pub valid : (p : Numbers) (a attempt : ℕ) (is_correct : ℕ → Bool) (coins : ℕ → Slot → Bool) (steps : List (ReplicaStep Word))
      → IsEnough p is_correct → IsFedRun (binary_play r p a attempt coins) is_correct steps
      → (i : ℕ) (b : Bool) → is_correct i ≡ true → r.decision (bench_at p a attempt coins i) (calls_of i steps) ≡ Some b
      → (k : ℕ) × (is_correct k ≡ true) × Has (calls_of k steps) (Ask (bit_byte b ∷ []))
  pub proposed : (p : Numbers) (a attempt : ℕ) (is_correct : ℕ → Bool) (coins : ℕ → Slot → Bool) (steps : List (ReplicaStep Word))
      → IsEnough p is_correct → IsFedRun (binary_play r p a attempt coins) is_correct steps
      → (i : ℕ) (b : Bool) → is_correct i ≡ true → r.decision (bench_at p a attempt coins i) (calls_of i steps) ≡ Some b
      → SomeProposed is_correct (SaidProposal (binary_play r p a attempt coins) steps) (OfBit a attempt) (bit_byte b ∷ [])
