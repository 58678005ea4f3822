-- What a round of atomic broadcast means: its rules on lists of words, the newest first, when a word may come, and its laws. A
-- proposal is the word `Ask` of an identifier list; what a slot delivered is the word `Hear` of that slot's value. What is decided
-- are bytes, which want identifiers. Vector consensus is one way to have a round, and another is multi-valued consensus over the
-- lists of n - f replicas.
use Rattle.std.specs.Prelude.{◌≡◌, ℕ, ◌<◌, Bool, true, false, List, [], ◌∷◌, Option, Some, None, if◌then◌else◌}
use Rattle.ritas_base.specs.declared.slot.Slot.{Slot}
use Rattle.ritas_base.specs.declared.item.Say.{Say}
use Rattle.ritas_base.specs.declared.id.Id.{Id}
use Rattle.ritas_base.specs.Numbers.{Numbers, IsSession}
use Rattle.ritas_base.specs.Slots.{has_tries}
use Rattle.frame_codec.specs.Format.{Is}
use Rattle.frame_codec.specs.Grammar.{class2, value}
use Rattle.frame_codec.specs.Values.{ids_of}
use Rattle.layer_api.specs.Runs.{ReplicaStep, calls_of, Has, IsEnough}
use Rattle.layer_api.specs.Words.{Word, Ask, Hear, asked, is_heard, AllMet, all_said, AreFresh}
use Rattle.layer_api.specs.Fed.{Play, IsFedRun}
use Rattle.layer_api.specs.Service.{Instance, OfBit, OfValue, OfVector, Decision, Value, Spent, Decided, Orders, purpose_of, LastVector, GoesByBit, IsAttemptOf, IsEndingOf, has_id}
use Rattle.layer_api.specs.Purpose.{Rounds}
use Rattle.layer_api.specs.Proposals.{SaidProposal, SaidList, IsProposed}
use Rattle.layer_api.specs.Multi.{Scope, Desk, desk_at}
use Rattle.layer_api.specs.Vectors.{is_slot_in}
use Rattle.ordered_rounds.specs.Identifiers.{IsSorted}

-- the meaning of a round at one desk, by the words so far; the attempt of the desk's scope is 0
pub record RoundRules : Type 0 where
  -- the root service whose rounds they are
  pub root : ℕ
  -- which instance decides a round, and what its decision wants
  pub rounds : Rounds
  -- the broadcasts that a word newly starts
  pub says : Desk → List Word → Word → List Say
  -- whether items of a slot of the round may be taken
  pub opens : Desk → List Word → Slot → Bool
  -- what is decided
  pub decision : Desk → List Word → Option (List ℕ)
  -- the identifiers that a decision wants in the log, ascending
  pub wanted : Numbers → List ℕ → List Id
  -- the last attempt decided that nothing is
  pub spent : Desk → List Word → Bool
  -- the vector that is decided, in rounds that decide vectors
  pub vector : Desk → List Word → Option LastVector
  -- what each instance inside decided
  pub inside : Desk → List Word → Instance → Option Decision

-- the round of an instance
abbrev pub instance_round : Instance → ℕ
instance_round (OfBit a k) = a
instance_round (OfValue a k) = a
instance_round (OfVector a) = a

-- the number of the last attempt of a round's instance
abbrev pub last_attempt : RoundRules → Numbers → ℕ
last_attempt r p = if has_tries r.root then p.f else 0

-- the slot is one of the round
abbrev pub is_round_slot : RoundRules → Scope → Slot → Bool
is_round_slot r at s = is_slot_in (last_attempt r at.numbers) at.a s

-- a slot of the round is heard once, while its items may be taken, and with a value of its grammar
pub record MayRoundHear (r : RoundRules) (at : Desk) (w : List Word) (s : Slot) (v : List ℕ) : Type 0 where
  pub slot : is_round_slot r at.scope s ≡ true
  pub origin : s.origin < at.scope.numbers.n
  pub is_open : r.opens at w s ≡ true
  pub first : is_heard w s ≡ false
  pub good : Is (value at.scope.numbers at.scope.root s) v
  pub root : at.scope.root ≡ r.root

-- a proposal comes once, and is a value of class 2
abbrev pub MayRound : RoundRules → Desk → List Word → Word → Type 0
MayRound r at w (Ask v) = (asked w ≡ 0) × Is (class2 at.scope.numbers at.scope.root) v × (at.scope.root ≡ r.root)
MayRound r at w (Hear s v) = MayRoundHear r at w s v

abbrev pub AreRound : RoundRules → Desk → List Word → Type 0
AreRound r at w = AllMet (MayRound r at) w

-- it is at a slot of this replica and round, with a value of that slot's grammar
pub record IsRoundSaid (r : RoundRules) (at : Desk) (y : Say) : Type 0 where
  pub slot : is_round_slot r at.scope y.slot ≡ true
  pub origin : y.slot.origin ≡ at.me
  pub good : Is (value at.scope.numbers at.scope.root y.slot) y.value

-- a vector of this round is decided, by the attempt that is named
pub record IsVectorHere (r : RoundRules) (at : Desk) (w : List Word) (x : LastVector) : Type 0 where
  pub round : x.round ≡ at.scope.a
  pub attempt : IsAttemptOf (r.inside at w) x.round x.attempt x.value

-- what is decided, the round's instance decided, by a decision that wants the same
pub record IsDecidedInside (r : RoundRules) (at : Desk) (w : List Word) (v : List ℕ) : Type 0 where
  pub decision : Decision
  pub decides : r.inside at w (r.rounds.instance at.scope.a) ≡ Some decision
  pub wants : (x : Id) → r.rounds.wants at.scope.numbers decision x ≡ has_id (r.wanted at.scope.numbers v) x

-- laws of a single value, over all words that met their conditions
pub record RoundLaws (r : RoundRules) : Type 0 where
  -- its root service puts commands in one order, by these rounds
  pub purpose : purpose_of r.root ≡ Some (Orders r.rounds)
  -- a round's instance is of its number
  pub instance_of : (a : ℕ) → instance_round (r.rounds.instance a) ≡ a
  -- what is wanted is in ascending order
  pub wanted_sorted : (p : Numbers) (v : List ℕ) → IsSorted (r.wanted p v)
  pub says_new : (at : Desk) (c : Word) (w : List Word) → IsSession at.scope.numbers → at.scope.root ≡ r.root → AreRound r at (c ∷ w)
      → AreFresh (IsRoundSaid r at) (all_said (r.says at) w) (r.says at w c)
  -- what is open stays open
  pub opens_stays : (at : Desk) (c : Word) (w : List Word) (s : Slot) → IsSession at.scope.numbers → at.scope.root ≡ r.root → AreRound r at (c ∷ w)
      → r.opens at w s ≡ true → r.opens at (c ∷ w) s ≡ true
  -- before any word nothing is open, and nothing is decided
  pub opens_first : (at : Desk) (s : Slot) → r.opens at [] s ≡ false
  pub decision_first : (at : Desk) → r.decision at [] ≡ None
  pub spent_first : (at : Desk) → r.spent at [] ≡ false
  -- nor is anything where only a proposal was made
  pub decision_asked : (at : Desk) (v : List ℕ) → IsSession at.scope.numbers → r.decision at (Ask v ∷ []) ≡ None
  pub spent_asked : (at : Desk) (v : List ℕ) → IsSession at.scope.numbers → r.spent at (Ask v ∷ []) ≡ false
  pub decision_stays : (at : Desk) (c : Word) (w : List Word) (v : List ℕ) → IsSession at.scope.numbers → at.scope.root ≡ r.root → AreRound r at (c ∷ w)
      → r.decision at w ≡ Some v → r.decision at (c ∷ w) ≡ Some v
  pub spent_stays : (at : Desk) (c : Word) (w : List Word) → IsSession at.scope.numbers → at.scope.root ≡ r.root → AreRound r at (c ∷ w)
      → r.spent at w ≡ true → r.spent at (c ∷ w) ≡ true
  -- where it is spent nothing is decided, and the round's instance is one that can be
  pub spent_alone : (at : Desk) (w : List Word) → AreRound r at w → r.spent at w ≡ true
      → (r.decision at w ≡ None) × IsEndingOf (r.rounds.instance at.scope.a) (Decided Spent)
  -- where rounds decide vectors, each decision has one, which stays; nothing else has
  pub vector_none : (at : Desk) (w : List Word) → r.decision at w ≡ None → r.vector at w ≡ None
  pub vector_untried : (at : Desk) (w : List Word) → has_tries r.root ≡ false → r.vector at w ≡ None
  pub vector_stays : (at : Desk) (c : Word) (w : List Word) (x : LastVector) → IsSession at.scope.numbers → at.scope.root ≡ r.root → AreRound r at (c ∷ w)
      → r.vector at w ≡ Some x → r.vector at (c ∷ w) ≡ Some x
  pub vector_there : (at : Desk) (w : List Word) (v : List ℕ) → has_tries r.root ≡ true → r.decision at w ≡ Some v → (x : LastVector) × (r.vector at w ≡ Some x)
  pub vector_is : (at : Desk) (w : List Word) (x : LastVector) → r.vector at w ≡ Some x → IsVectorHere r at w x
  pub vector_inside : (at : Desk) (w : List Word) (v : List ℕ) → r.inside at w (OfVector at.scope.a) ≡ Some (Value v)
      → (has_tries r.root ≡ true) × (u : List ℕ) × (r.decision at w ≡ Some u)
  pub inside_decided : (at : Desk) (w : List Word) (v : List ℕ) → r.decision at w ≡ Some v → IsDecidedInside r at w v
  pub inside_bit : (at : Desk) (w : List Word) (a attempt : ℕ) → IsSession at.scope.numbers → at.scope.root ≡ r.root → AreRound r at w
      → GoesByBit (r.inside at w) a attempt
  pub inside_stays : (at : Desk) (c : Word) (w : List Word) (x : Instance) (d : Decision) → IsSession at.scope.numbers → at.scope.root ≡ r.root
      → AreRound r at (c ∷ w) → r.inside at w x ≡ Some d → r.inside at (c ∷ w) x ≡ Some d
  -- before any word none of them decided anything, nor where only a proposal was made
  pub inside_first : (at : Desk) (x : Instance) → r.inside at [] x ≡ None
  pub inside_asked : (at : Desk) (v : List ℕ) (x : Instance) → IsSession at.scope.numbers → r.inside at (Ask v ∷ []) x ≡ None

-- the rounds of one number
abbrev pub round_play : RoundRules → Scope → (ℕ → Slot → Bool) → Play
round_play r at coins = record {
  said = λ i w. all_said (r.says (desk_at at coins i)) w;
  may = λ i w c. MayRound r (desk_at at coins i) w c;
}

-- a correct replica that proposed a list with the identifier, and said it at the slot of its list
pub record WasInList (r : RoundRules) (at : Scope) (is_correct : ℕ → Bool) (coins : ℕ → Slot → Bool)
    (steps : List (ReplicaStep Word)) (x : Id) : Type 0 where
  pub who : ℕ
  pub list : List ℕ
  pub correct : is_correct who ≡ true
  pub asked : Has (calls_of who steps) (Ask list)
  pub said : SaidList (round_play r at coins) steps who at.a list
  pub stands : has_id (ids_of list) x ≡ true

-- the law of a round, of these rules: over every run all decisions of correct replicas are equal, and so are
-- their vectors; none is spent; each identifier that a decision wants was in the list that some correct replica
-- proposed; and what they decided in each instance inside is equal, and was proposed to it by correct replicas
pub record OneRound (r : RoundRules) : Type 0 where
  pub agree : (at : Scope) (is_correct : ℕ → Bool) (coins : ℕ → Slot → Bool) (steps : List (ReplicaStep Word))
      → IsEnough at.numbers is_correct → at.root ≡ r.root → IsFedRun (round_play r at coins) is_correct steps
      → (i j : ℕ) (v u : List ℕ) → is_correct i ≡ true → is_correct j ≡ true
      → r.decision (desk_at at coins i) (calls_of i steps) ≡ Some v → r.decision (desk_at at coins j) (calls_of j steps) ≡ Some u → v ≡ u
  pub vectors : (at : Scope) (is_correct : ℕ → Bool) (coins : ℕ → Slot → Bool) (steps : List (ReplicaStep Word))
      → IsEnough at.numbers is_correct → at.root ≡ r.root → IsFedRun (round_play r at coins) is_correct steps
      → (i j : ℕ) (x y : LastVector) → is_correct i ≡ true → is_correct j ≡ true
      → r.vector (desk_at at coins i) (calls_of i steps) ≡ Some x → r.vector (desk_at at coins j) (calls_of j steps) ≡ Some y → x ≡ y
  pub unspent : (at : Scope) (is_correct : ℕ → Bool) (coins : ℕ → Slot → Bool) (steps : List (ReplicaStep Word))
      → IsEnough at.numbers is_correct → at.root ≡ r.root → IsFedRun (round_play r at coins) is_correct steps
      → (i : ℕ) → is_correct i ≡ true → r.spent (desk_at at coins i) (calls_of i steps) ≡ true → ⊥
  pub listed : (at : Scope) (is_correct : ℕ → Bool) (coins : ℕ → Slot → Bool) (steps : List (ReplicaStep Word))
      → IsEnough at.numbers is_correct → at.root ≡ r.root → IsFedRun (round_play r at coins) is_correct steps
      → (i : ℕ) (v : List ℕ) (x : Id) → is_correct i ≡ true → r.decision (desk_at at coins i) (calls_of i steps) ≡ Some v
      → has_id (r.wanted at.numbers v) x ≡ true → WasInList r at is_correct coins steps x
  pub insides : (at : Scope) (is_correct : ℕ → Bool) (coins : ℕ → Slot → Bool) (steps : List (ReplicaStep Word))
      → IsEnough at.numbers is_correct → at.root ≡ r.root → IsFedRun (round_play r at coins) is_correct steps
      → (i j : ℕ) (x : Instance) (d e : Decision) → is_correct i ≡ true → is_correct j ≡ true
      → r.inside (desk_at at coins i) (calls_of i steps) x ≡ Some d → r.inside (desk_at at coins j) (calls_of j steps) x ≡ Some e → d ≡ e
  pub proposed : (at : Scope) (is_correct : ℕ → Bool) (coins : ℕ → Slot → Bool) (steps : List (ReplicaStep Word))
      → IsEnough at.numbers is_correct → at.root ≡ r.root → IsFedRun (round_play r at coins) is_correct steps
      → (i : ℕ) → is_correct i ≡ true
      → IsProposed is_correct (SaidProposal (round_play r at coins) steps) (r.inside (desk_at at coins i) (calls_of i steps))
