-- What the parts of a box tell, and what a word does to them.
use Rattle.std.specs.Prelude.{◌≡◌, ℕ, ◌<◌, Bool, List, [], ◌∷◌, ◌++◌, None}
use Rattle.ritas_base.specs.declared.slot.Slot.{Slot}
use Rattle.ritas_base.specs.declared.item.Say.{Say}
use Rattle.layer_api.specs.Words.{Word, Ask, Hear, value_at}
use Rattle.layer_api.specs.Calls.{IsCoin}
use Rattle.layer_api.specs.Binary.{BinaryRules, Bench, MayVote}
use Rattle.layer_api.specs.Part.{proposed}
use Rattle.layer_api.specs.Multi.{Desk}
use Rattle.multivalued.specs.Consensus.{init_slot, vect_slot, bit_words, bench_of, multivalued}
use Rattle.multivalued.specs.Tables.{IsLong}
use Rattle.multivalued.specs.Known.{IsKnown}
use Rattle.multivalued.specs.Parts.{IsMultiPart}
use Rattle.multivalued.specs.Settling.{IsInstanceReached}
use Rattle.multivalued.specs.declared.settling.Progress.{Progress}
use Rattle.multivalued.specs.declared.mvc.Mvc.{Mvc}

module _ {B : Type 0} (stands : B → Bench → List Word → Type 0) (b : BinaryRules) where
  -- the box's parts tell what the words tell, and so far they lead
  pub record BoxHolds (x : Mvc B) (now : Progress) (at : Desk) (w : List Word) : Type 0 where
    pub part_is : IsMultiPart x.part at
    pub known : IsKnown at.scope w x.table
    pub reached : IsInstanceReached stands b at w now x.table x.inner

  -- they do after the word, and what it newly says is put out
  pub record BoxHeard (x : Mvc B) (now : Progress) (at : Desk) (w : List Word) (c : Word) (before after : List Say) : Type 0 where
    pub holds : BoxHolds x now at (c ∷ w)
    pub made : after ≡ before ++ (multivalued b).says at w c

  module _ (old new : Mvc B) (next : Progress) (before after : List Say) where
    -- what follows from a proposal of its own
    abbrev pub StartsProposal : List ℕ → Type 0
    StartsProposal v = (at : Desk) (w : List Word) → BoxHolds old old.place at w → proposed w ≡ None → BoxHeard new next at w (Ask v) before after

    -- from replica k's proposal
    abbrev pub FollowsInit : ℕ → List ℕ → Type 0
    FollowsInit k v =
        (at : Desk) (w : List Word) → BoxHolds old old.place at w → k < at.scope.numbers.n → value_at w (init_slot at.scope k) ≡ None
        → BoxHeard new next at w (Hear (init_slot at.scope k) v) before after

    -- from its VECT
    abbrev pub FollowsVect : ℕ → List ℕ → Type 0
    FollowsVect k v =
        (at : Desk) (w : List Word) → BoxHolds old old.place at w → IsLong v → k < at.scope.numbers.n → value_at w (vect_slot at.scope k) ≡ None
        → BoxHeard new next at w (Hear (vect_slot at.scope k) v) before after

    -- and from a vote of the binary instance
    abbrev pub FollowsVote : (Slot → Bool) → Slot → ℕ → Type 0
    FollowsVote bits s vote =
        (at : Desk) (w : List Word) → BoxHolds old old.place at w → IsCoin at.coin bits → MayVote b (bench_of at) (bit_words at.scope w) s vote
        → BoxHeard new next at w (Hear s (vote ∷ [])) before after
