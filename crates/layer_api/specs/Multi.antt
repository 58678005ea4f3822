-- What a box of multi-valued consensus means: its rules on lists of words, the newest first, when a word may come, and its laws.
-- A proposal is the word `Ask` of a value of class 3; what a slot delivered is the word `Hear` of that slot's value.
use Rattle.std.specs.Prelude.{◌≡◌, ℕ, ◌<◌, Bool, true, false, ◌==◌, ◌&&◌, List, [], ◌∷◌, Option, Some, None, option_map}
use Rattle.ritas_base.specs.declared.slot.Slot.{Slot}
use Rattle.ritas_base.specs.declared.item.Say.{Say}
use Rattle.ritas_base.specs.Numbers.{Numbers, IsSession}
use Rattle.ritas_base.specs.Slots.{within, has_count}
use Rattle.frame_codec.specs.Format.{Is}
use Rattle.frame_codec.specs.Grammar.{class3, value}
use Rattle.layer_api.specs.Runs.{ReplicaStep, calls_of, Has, IsEnough}
use Rattle.layer_api.specs.Words.{Word, Ask, Hear, asked, is_heard, AllMet, all_said, AreFresh}
use Rattle.layer_api.specs.Fed.{Play, IsFedRun, ProposeOne}
use Rattle.layer_api.specs.Service.{Instance, OfValue, Decision, value_decision, GoesByBit}
use Rattle.layer_api.specs.Proposals.{SaidProposal, IsProposed}

-- an instance: the numbers and the root service of its session, its round, and its attempt, which is 0 where it has none
pub record Scope : Type 0 where
  pub numbers : Numbers
  pub root : ℕ
  pub a : ℕ
  pub attempt : ℕ

-- the replica and the instance that a box is for, and its coin
pub record Desk : Type 0 where
  pub scope : Scope
  pub me : ℕ
  pub coin : Slot → Bool

-- the meaning of a box at one desk, by the words so far
pub record MultiRules : Type 0 where
  -- the broadcasts that a word newly starts
  pub says : Desk → List Word → Word → List Say
  -- whether items of a slot of the instance may be taken
  pub opens : Desk → List Word → Slot → Bool
  -- what is decided: that no value is, or a value
  pub decision : Desk → List Word → Option (Option (List ℕ))
  -- what each instance inside decided, and this one
  pub inside : Desk → List Word → Instance → Option Decision

-- the slot is one of the instance of a round and an attempt: of a proposal, of a VECT, or of a step of its binary consensus
abbrev pub is_slot_of : ℕ → ℕ → Slot → Bool
is_slot_of a attempt s =
    within 3 5 s.class && (s.a == a && (s.attempt == attempt && (has_count 200 s.class s.bround && has_count 3 s.class s.step)))

abbrev pub is_multi_slot : Scope → Slot → Bool
is_multi_slot at s = is_slot_of at.a at.attempt s

-- a slot of this instance is heard once, while its items may be taken, and with a value of its grammar
pub record MayMultiHear (r : MultiRules) (at : Desk) (w : List Word) (s : Slot) (v : List ℕ) : Type 0 where
  pub slot : is_multi_slot at.scope s ≡ true
  pub origin : s.origin < at.scope.numbers.n
  pub is_open : r.opens at w s ≡ true
  pub first : is_heard w s ≡ false
  pub good : Is (value at.scope.numbers at.scope.root s) v

-- a proposal comes once, and is a value of class 3
abbrev pub MayMulti : MultiRules → Desk → List Word → Word → Type 0
MayMulti r at w (Ask v) = (asked w ≡ 0) × Is (class3 at.scope.numbers at.scope.root) v
MayMulti r at w (Hear s v) = MayMultiHear r at w s v

abbrev pub AreMulti : MultiRules → Desk → List Word → Type 0
AreMulti r at w = AllMet (MayMulti r at) w

-- it is at a slot of this replica and instance, with a value of that slot's grammar
pub record IsMultiSaid (at : Desk) (y : Say) : Type 0 where
  pub slot : is_multi_slot at.scope y.slot ≡ true
  pub origin : y.slot.origin ≡ at.me
  pub good : Is (value at.scope.numbers at.scope.root y.slot) y.value

-- laws of a single value, over all words that met their conditions
pub record MultiLaws (r : MultiRules) : Type 0 where
  pub says_new : (at : Desk) (c : Word) (w : List Word) → IsSession at.scope.numbers → AreMulti r at (c ∷ w)
      → AreFresh (IsMultiSaid at) (all_said (r.says at) w) (r.says at w c)
  -- what is open stays open
  pub opens_stays : (at : Desk) (c : Word) (w : List Word) (s : Slot) → AreMulti r at (c ∷ w)
      → r.opens at w s ≡ true → r.opens at (c ∷ w) s ≡ true
  -- before any word nothing is open, and nothing is decided
  pub opens_first : (at : Desk) (s : Slot) → r.opens at [] s ≡ false
  pub decision_first : (at : Desk) → r.decision at [] ≡ None
  pub decision_stays : (at : Desk) (c : Word) (w : List Word) (d : Option (List ℕ)) → AreMulti r at (c ∷ w)
      → r.decision at w ≡ Some d → r.decision at (c ∷ w) ≡ Some d
  pub decision_good : (at : Desk) (w : List Word) (v : List ℕ) → IsSession at.scope.numbers → AreMulti r at w → r.decision at w ≡ Some (Some v)
      → Is (class3 at.scope.numbers at.scope.root) v
  -- what the instances inside decided, this one among them
  pub inside_own : (at : Desk) (w : List Word) → r.inside at w (OfValue at.scope.a at.scope.attempt) ≡ option_map value_decision (r.decision at w)
  pub inside_bit : (at : Desk) (w : List Word) (a attempt : ℕ) → AreMulti r at w → GoesByBit (r.inside at w) a attempt
  pub inside_stays : (at : Desk) (c : Word) (w : List Word) (x : Instance) (d : Decision) → AreMulti r at (c ∷ w)
      → r.inside at w x ≡ Some d → r.inside at (c ∷ w) x ≡ Some d
  -- before any word none of them decided anything
  pub inside_first : (at : Desk) (x : Instance) → r.inside at [] x ≡ None

abbrev pub desk_at : Scope → (ℕ → Slot → Bool) → ℕ → Desk
desk_at at coins i = record { scope = at; me = i; coin = coins i }

-- the boxes of one instance
abbrev pub multi_play : MultiRules → Scope → (ℕ → Slot → Bool) → Play
multi_play r at coins = record {
  said = λ i w. all_said (r.says (desk_at at coins i)) w;
  may = λ i w c. MayMulti r (desk_at at coins i) w c;
}

-- the law of a box, of these rules: over every run all decisions of correct replicas are equal, those for no value too, and so is
-- what they decided in each instance inside; a value that one of them decides was proposed by a correct one; and where all that
-- correct replicas proposed is equal, none of them decides that no value is; and what they decided in each instance inside, this one
-- among them, was proposed to it by correct replicas
pub record OneDecision (r : MultiRules) : Type 0 where
  pub agree : (at : Scope) (is_correct : ℕ → Bool) (coins : ℕ → Slot → Bool) (steps : List (ReplicaStep Word))
      → IsEnough at.numbers is_correct → IsFedRun (multi_play r at coins) is_correct steps
      → (i j : ℕ) (d e : Option (List ℕ)) → is_correct i ≡ true → is_correct j ≡ true
      → r.decision (desk_at at coins i) (calls_of i steps) ≡ Some d → r.decision (desk_at at coins j) (calls_of j steps) ≡ Some e → d ≡ e
  pub valid : (at : Scope) (is_correct : ℕ → Bool) (coins : ℕ → Slot → Bool) (steps : List (ReplicaStep Word))
      → IsEnough at.numbers is_correct → IsFedRun (multi_play r at coins) is_correct steps
      → (i : ℕ) (v : List ℕ) → is_correct i ≡ true → r.decision (desk_at at coins i) (calls_of i steps) ≡ Some (Some v)
      → (k : ℕ) × (is_correct k ≡ true) × Has (calls_of k steps) (Ask v)
  pub decides : (at : Scope) (is_correct : ℕ → Bool) (coins : ℕ → Slot → Bool) (steps : List (ReplicaStep Word))
      → IsEnough at.numbers is_correct → IsFedRun (multi_play r at coins) is_correct steps → ProposeOne is_correct steps
      → (i : ℕ) → is_correct i ≡ true → r.decision (desk_at at coins i) (calls_of i steps) ≡ Some None → ⊥
  pub insides : (at : Scope) (is_correct : ℕ → Bool) (coins : ℕ → Slot → Bool) (steps : List (ReplicaStep Word))
      → IsEnough at.numbers is_correct → IsFedRun (multi_play r at coins) is_correct steps
      → (i j : ℕ) (x : Instance) (d e : Decision) → is_correct i ≡ true → is_correct j ≡ true
      → r.inside (desk_at at coins i) (calls_of i steps) x ≡ Some d → r.inside (desk_at at coins j) (calls_of j steps) x ≡ Some e → d ≡ e
  pub proposed : (at : Scope) (is_correct : ℕ → Bool) (coins : ℕ → Slot → Bool) (steps : List (ReplicaStep Word))
      → IsEnough at.numbers is_correct → IsFedRun (multi_play r at coins) is_correct steps → (i : ℕ) → is_correct i ≡ true
      → IsProposed is_correct (SaidProposal (multi_play r at coins) steps) (r.inside (desk_at at coins i) (calls_of i steps))
