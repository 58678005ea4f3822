-- How far an instance has come, and what follows where a proposal or a VECT is there.
use Rattle.std.specs.Prelude.{◌≡◌, ℕ, Bool, List, ◌∷◌, ◌++◌, Option, Some, None, is_some}
use Rattle.std.specs.Option.{option_or}
use Rattle.ritas_base.specs.declared.item.Say.{Say}
use Rattle.layer_api.specs.Words.{Word}
use Rattle.layer_api.specs.Binary.{BinaryRules, Bench}
use Rattle.layer_api.specs.Part.{proposed, newly, newly_asked, passed, says_in}
use Rattle.layer_api.specs.Multi.{Desk}
use Rattle.multivalued.specs.Consensus.{vect_slot, own_vect, proposed_bit, bit_asked, bit_words, bench_of, is_step, multi_verdict, multi_decision}
use Rattle.multivalued.specs.Entries.{HasAt}
use Rattle.multivalued.specs.Tables.{Asked, least_with, valid_value}
use Rattle.multivalued.specs.Known.{IsKnown}
use Rattle.multivalued.specs.Parts.{IsMultiPart}
use Rattle.multivalued.specs.declared.entry.Entry.{Entry}
use Rattle.multivalued.specs.declared.table.Table.{Table}
use Rattle.multivalued.specs.declared.part.Part.{Part}
use Rattle.multivalued.specs.declared.settling.Progress.{Progress}
use Rattle.multivalued.specs.declared.settling.Decision.{Decision}
use Rattle.multivalued.specs.declared.settling.Decision.TheVariants as decisions

-- what is decided, by where its entry stands
abbrev pub IsEntryDecided : List Entry → Decision → Option (Option (List ℕ)) → Type 0
IsEntryDecided es decisions.NotYet o = o ≡ None
IsEntryDecided es decisions.Nothing o = o ≡ Some None
IsEntryDecided es (decisions.At i) o = (v : List ℕ) × HasAt es i v × (o ≡ Some (Some v))

-- what is decided stays, and before there is something it follows from the bit and the value that enough valid VECTs have
abbrev pub Decides : Table → Decision → Option Bool → Decision → Type 0
Decides t old bit new = Asked t (λ n support init vect. (o : Option (Option (List ℕ))) → IsEntryDecided t.entries.items old o
    → IsEntryDecided t.entries.items new (option_or o (multi_verdict bit (least_with n support (λ k. valid_value n support init (vect k))))))

module _ {B : Type 0} (stands : B → Bench → List Word → Type 0) (b : BinaryRules) (at : Desk) where
  -- so far the instance has come after these words
  pub record IsInstanceReached (w : List Word) (now : Progress) (t : Table) (inner : B) : Type 0 where
    pub owns : now.own ≡ is_some (proposed w)
    pub told : now.told ≡ is_some (own_vect at.scope w)
    pub asked : now.asked ≡ is_some (proposed_bit at.scope w)
    pub decided : IsEntryDecided t.entries.items now.decided (multi_decision b at w)
    pub round : now.round ≡ b.round (bench_of at) (bit_words at.scope w)
    pub stood : stands inner (bench_of at) (bit_words at.scope w)

  module _ (w : List Word) (c : Word) where
    -- what is known as the word was heard, and nothing is said yet
    pub record Unsettled (part : Part) (old : Progress) (t : Table) (inner : B) : Type 0 where
      pub part_is : IsMultiPart part at
      pub known : IsKnown at.scope (c ∷ w) t
      pub owns : old.own ≡ is_some (proposed (c ∷ w))
      pub told : old.told ≡ is_some (own_vect at.scope w)
      pub asked : old.asked ≡ is_some (proposed_bit at.scope w)
      pub decided : IsEntryDecided t.entries.items old.decided (multi_decision b at w)
      pub heard : stands inner (bench_of at) (passed is_step c ++ bit_words at.scope w)

    -- all that is due is said
    pub record Settled (t : Table) (inner : B) (before after : List Say) (next : Progress) : Type 0 where
      pub reached : IsInstanceReached (c ∷ w) next t inner
      pub made : after ≡ before ++ (newly (vect_slot at.scope at.me) (own_vect at.scope w) (own_vect at.scope (c ∷ w))
          ++ says_in (b.says (bench_of at)) (newly_asked (bit_asked at.scope w) (bit_asked at.scope (c ∷ w))) (passed is_step c ++ bit_words at.scope w))

abbrev pub BoxSettles : {B : Type 0} → (B → Bench → List Word → Type 0) → BinaryRules → Part → Progress → Table → B → B → List Say → List Say → Progress → Type 0
BoxSettles stands b part old t inner new before after next =
    (at : Desk) (w : List Word) (c : Word) → Unsettled stands b at w c part old t inner → Settled stands b at w c t new before after next
