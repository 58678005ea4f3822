-- What a box of vector consensus means: its rules on lists of words, the newest first, when a word may come, and its laws. A
-- proposal is the word `Ask` of a value of class 2; what a slot delivered is the word `Hear` of that slot's value. What is decided
-- is a value of class 3, which is a vector.
use Rattle.std.specs.Prelude.{◌≡◌, ℕ, ◌<◌, ◌≤◌, nat_le, Bool, true, false, ◌==◌, ◌&&◌, List, [], ◌∷◌, Option, Some, None, is_some, if◌then◌else◌}
use Rattle.ritas_base.specs.declared.slot.Slot.{Slot}
use Rattle.ritas_base.specs.declared.item.Say.{Say}
use Rattle.ritas_base.specs.Numbers.{IsSession}
use Rattle.ritas_base.specs.Slots.{within, has_tries, has_count}
use Rattle.frame_codec.specs.Format.{Is}
use Rattle.frame_codec.specs.Grammar.{class2, vector, value}
use Rattle.frame_codec.specs.Values.{entry_at_place}
use Rattle.layer_api.specs.Runs.{ReplicaStep, calls_of, Has, IsEnough}
use Rattle.layer_api.specs.Words.{Word, Ask, Hear, asked, is_heard, AllMet, all_said, AreFresh}
use Rattle.layer_api.specs.Fed.{Play, IsFedRun}
use Rattle.layer_api.specs.Service.{Instance, OfValue, OfVector, Decision, Nothing, vector_decision, GoesByBit, IsAttemptOf}
use Rattle.layer_api.specs.Proposals.{SaidProposal, IsProposed}
use Rattle.layer_api.specs.Multi.{Scope, Desk, desk_at}

-- the meaning of a box at one desk, by the words so far; the attempt of the desk's scope is 0
pub record VectorRules : Type 0 where
  -- the broadcasts that a word newly starts
  pub says : Desk → List Word → Word → List Say
  -- whether items of a slot of the instance may be taken
  pub opens : Desk → List Word → Slot → Bool
  -- the vector that is decided
  pub decision : Desk → List Word → Option (List ℕ)
  -- the attempt that decided it
  pub attempt : Desk → List Word → Option ℕ
  -- the last attempt decided that no vector is
  pub spent : Desk → List Word → Bool
  -- what each instance inside decided, and this one
  pub inside : Desk → List Word → Instance → Option Decision

-- the slot is one of the instance of a round: of a proposal, or of one of the attempts, of which there are f + 1
abbrev pub is_slot_in : ℕ → ℕ → Slot → Bool
is_slot_in f a s =
    within 2 5 s.class && (s.a == a && ((if s.class == 2 then s.attempt == 0 else nat_le s.attempt f)
    && (has_count 200 s.class s.bround && has_count 3 s.class s.step)))

abbrev pub is_vector_slot : Scope → Slot → Bool
is_vector_slot at s = is_slot_in at.numbers.f at.a s

-- the root service has vectors: the values of class 3 are vectors
abbrev pub HasVectors : Scope → Type 0
HasVectors at = has_tries at.root ≡ true

-- a slot of this instance is heard once, while its items may be taken, and with a value of its grammar
pub record MayVectorHear (r : VectorRules) (at : Desk) (w : List Word) (s : Slot) (v : List ℕ) : Type 0 where
  pub slot : is_vector_slot at.scope s ≡ true
  pub origin : s.origin < at.scope.numbers.n
  pub is_open : r.opens at w s ≡ true
  pub first : is_heard w s ≡ false
  pub good : Is (value at.scope.numbers at.scope.root s) v
  pub has : HasVectors at.scope

-- a proposal comes once, and is a value of class 2; the root service is one with vectors, which a box can't tell by itself
abbrev pub MayVector : VectorRules → Desk → List Word → Word → Type 0
MayVector r at w (Ask v) = (asked w ≡ 0) × Is (class2 at.scope.numbers at.scope.root) v × HasVectors at.scope
MayVector r at w (Hear s v) = MayVectorHear r at w s v

abbrev pub AreVector : VectorRules → Desk → List Word → Type 0
AreVector r at w = AllMet (MayVector r at) w

-- it is at a slot of this replica and instance, with a value of that slot's grammar
pub record IsVectorSaid (at : Desk) (y : Say) : Type 0 where
  pub slot : is_vector_slot at.scope y.slot ≡ true
  pub origin : y.slot.origin ≡ at.me
  pub good : Is (value at.scope.numbers at.scope.root y.slot) y.value

-- laws of a single value, over all words that met their conditions
pub record VectorLaws (r : VectorRules) : Type 0 where
  pub says_new : (at : Desk) (c : Word) (w : List Word) → IsSession at.scope.numbers → HasVectors at.scope → AreVector r at (c ∷ w)
      → AreFresh (IsVectorSaid at) (all_said (r.says at) w) (r.says at w c)
  -- what is open stays open
  pub opens_stays : (at : Desk) (c : Word) (w : List Word) (s : Slot) → IsSession at.scope.numbers → HasVectors at.scope → AreVector r at (c ∷ w)
      → r.opens at w s ≡ true → r.opens at (c ∷ w) s ≡ true
  -- before any word nothing is open, and nothing is decided
  pub opens_first : (at : Desk) (s : Slot) → r.opens at [] s ≡ false
  pub decision_first : (at : Desk) → r.decision at [] ≡ None
  pub spent_first : (at : Desk) → r.spent at [] ≡ false
  -- nor is anything decided where only a proposal was made
  pub decision_asked : (at : Desk) (v : List ℕ) → IsSession at.scope.numbers → r.decision at (Ask v ∷ []) ≡ None
  -- nor is it spent there
  pub spent_asked : (at : Desk) (v : List ℕ) → IsSession at.scope.numbers → r.spent at (Ask v ∷ []) ≡ false
  pub decision_stays : (at : Desk) (c : Word) (w : List Word) (v : List ℕ) → IsSession at.scope.numbers → HasVectors at.scope → AreVector r at (c ∷ w)
      → r.decision at w ≡ Some v → r.decision at (c ∷ w) ≡ Some v
  pub spent_stays : (at : Desk) (c : Word) (w : List Word) → IsSession at.scope.numbers → HasVectors at.scope → AreVector r at (c ∷ w)
      → r.spent at w ≡ true → r.spent at (c ∷ w) ≡ true
  -- an attempt decided exactly where something is decided, and it is one of the f + 1
  pub attempt_there : (at : Desk) (w : List Word) → is_some (r.attempt at w) ≡ is_some (r.decision at w)
  pub attempt_few : (at : Desk) (w : List Word) (k : ℕ) → r.attempt at w ≡ Some k → k ≤ at.scope.numbers.f
  pub attempt_stays : (at : Desk) (c : Word) (w : List Word) (k : ℕ) → IsSession at.scope.numbers → HasVectors at.scope → AreVector r at (c ∷ w)
      → r.attempt at w ≡ Some k → r.attempt at (c ∷ w) ≡ Some k
  -- nothing is decided where it is spent
  pub spent_alone : (at : Desk) (w : List Word) → AreVector r at w → r.spent at w ≡ true → r.decision at w ≡ None
  pub decision_good : (at : Desk) (w : List Word) (v : List ℕ) → IsSession at.scope.numbers → HasVectors at.scope → AreVector r at w
      → r.decision at w ≡ Some v → Is (vector at.scope.numbers at.scope.root) v
  -- what the instances inside decided, this one among them: the vector is the value of the attempt that decided it, and where it is
  -- spent each attempt decided that no value is
  pub inside_own : (at : Desk) (w : List Word) → r.inside at w (OfVector at.scope.a) ≡ vector_decision (r.decision at w) (r.spent at w)
  pub inside_attempt : (at : Desk) (w : List Word) (k : ℕ) (v : List ℕ) → r.attempt at w ≡ Some k → r.decision at w ≡ Some v
      → IsAttemptOf (r.inside at w) at.scope.a k v
  pub inside_spent : (at : Desk) (w : List Word) (k : ℕ) → r.spent at w ≡ true → k ≤ at.scope.numbers.f → r.inside at w (OfValue at.scope.a k) ≡ Some Nothing
  pub inside_bit : (at : Desk) (w : List Word) (a attempt : ℕ) → IsSession at.scope.numbers → HasVectors at.scope → AreVector r at w
      → GoesByBit (r.inside at w) a attempt
  pub inside_stays : (at : Desk) (c : Word) (w : List Word) (x : Instance) (d : Decision) → IsSession at.scope.numbers → HasVectors at.scope
      → AreVector r at (c ∷ w) → r.inside at w x ≡ Some d → r.inside at (c ∷ w) x ≡ Some d
  -- before any word none of them decided anything, nor where only a proposal was made
  pub inside_first : (at : Desk) (x : Instance) → r.inside at [] x ≡ None
  pub inside_asked : (at : Desk) (v : List ℕ) (x : Instance) → IsSession at.scope.numbers → r.inside at (Ask v ∷ []) x ≡ None

-- the boxes of one instance
abbrev pub vector_play : VectorRules → Scope → (ℕ → Slot → Bool) → Play
vector_play r at coins = record {
  said = λ i w. all_said (r.says (desk_at at coins i)) w;
  may = λ i w c. MayVector r (desk_at at coins i) w c;
}

-- the law of a box, of these rules: over every run all decisions of correct replicas are equal, and so are the attempts that decided
-- them; none is spent; in a vector that one of them decides the entry of a correct replica is that one's proposal; and what they decided
-- in each instance inside is equal, and was proposed to it by correct replicas
pub record OneVector (r : VectorRules) : Type 0 where
  pub agree : (at : Scope) (is_correct : ℕ → Bool) (coins : ℕ → Slot → Bool) (steps : List (ReplicaStep Word))
      → IsEnough at.numbers is_correct → HasVectors at → IsFedRun (vector_play r at coins) is_correct steps
      → (i j : ℕ) (v u : List ℕ) → is_correct i ≡ true → is_correct j ≡ true
      → r.decision (desk_at at coins i) (calls_of i steps) ≡ Some v → r.decision (desk_at at coins j) (calls_of j steps) ≡ Some u → v ≡ u
  pub attempts : (at : Scope) (is_correct : ℕ → Bool) (coins : ℕ → Slot → Bool) (steps : List (ReplicaStep Word))
      → IsEnough at.numbers is_correct → HasVectors at → IsFedRun (vector_play r at coins) is_correct steps
      → (i j : ℕ) (k l : ℕ) → is_correct i ≡ true → is_correct j ≡ true
      → r.attempt (desk_at at coins i) (calls_of i steps) ≡ Some k → r.attempt (desk_at at coins j) (calls_of j steps) ≡ Some l → k ≡ l
  pub unspent : (at : Scope) (is_correct : ℕ → Bool) (coins : ℕ → Slot → Bool) (steps : List (ReplicaStep Word))
      → IsEnough at.numbers is_correct → HasVectors at → IsFedRun (vector_play r at coins) is_correct steps
      → (i : ℕ) → is_correct i ≡ true → r.spent (desk_at at coins i) (calls_of i steps) ≡ true → ⊥
  pub entries : (at : Scope) (is_correct : ℕ → Bool) (coins : ℕ → Slot → Bool) (steps : List (ReplicaStep Word))
      → IsEnough at.numbers is_correct → HasVectors at → IsFedRun (vector_play r at coins) is_correct steps
      → (i k : ℕ) (v e : List ℕ) → is_correct i ≡ true → is_correct k ≡ true
      → r.decision (desk_at at coins i) (calls_of i steps) ≡ Some v → entry_at_place v k ≡ Some e → Has (calls_of k steps) (Ask e)
  pub insides : (at : Scope) (is_correct : ℕ → Bool) (coins : ℕ → Slot → Bool) (steps : List (ReplicaStep Word))
      → IsEnough at.numbers is_correct → HasVectors at → IsFedRun (vector_play r at coins) is_correct steps
      → (i j : ℕ) (x : Instance) (d e : Decision) → is_correct i ≡ true → is_correct j ≡ true
      → r.inside (desk_at at coins i) (calls_of i steps) x ≡ Some d → r.inside (desk_at at coins j) (calls_of j steps) x ≡ Some e → d ≡ e
  pub proposed : (at : Scope) (is_correct : ℕ → Bool) (coins : ℕ → Slot → Bool) (steps : List (ReplicaStep Word))
      → IsEnough at.numbers is_correct → HasVectors at → IsFedRun (vector_play r at coins) is_correct steps → (i : ℕ) → is_correct i ≡ true
      → IsProposed is_correct (SaidProposal (vector_play r at coins) steps) (r.inside (desk_at at coins i) (calls_of i steps))
