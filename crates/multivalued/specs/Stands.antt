-- What a box stands for, and what its getters answer.
use Rattle.std.specs.Prelude.{◌≡◌, ℕ, Bool, true, false, List, [], ◌∷◌, ◌++◌, Option, Some, None, is_some, option_map, Result, Ok, Err, refl}
use Rattle.std.proofs.Common.{sym, ◌∙◌, ap}
use Rattle.ritas_base.specs.declared.bytes.Mem.{Mem}
use Rattle.ritas_base.specs.declared.slot.Slot.{Slot}
use Rattle.ritas_base.specs.declared.item.Say.{Say}
use Rattle.layer_api.specs.Words.{Word, Hear, bit_byte}
use Rattle.layer_api.specs.Calls.{IsCoin}
use Rattle.layer_api.specs.Binary.{BinaryRules, Bench}
use Rattle.layer_api.specs.Multi.{Desk, MayMultiHear, AreMulti}
use Rattle.layer_api.specs.MultiCalls.{MultiShown, ShowsMulti}
use Rattle.multivalued.specs.Consensus.{proposed_bit, multi_decision, multivalued}
use Rattle.multivalued.specs.Entries.{KeepsValues, value_there}
use Rattle.multivalued.specs.Settling.{IsEntryDecided}
use Rattle.multivalued.specs.Holding.{BoxHolds, BoxHeard}
use Rattle.multivalued.specs.Opening.{part_opens}
use Rattle.multivalued.specs.declared.entry.Entry.{Entry}
use Rattle.multivalued.specs.declared.settling.Progress.{Progress}
use Rattle.multivalued.specs.declared.settling.Decision.{Decision}
use Rattle.multivalued.specs.declared.settling.Decision.TheVariants as decisions
use Rattle.multivalued.specs.declared.mvc.Mvc.{Mvc}

module _ {B : Type 0} (stands : B → Bench → List Word → Type 0) (b : BinaryRules) where
  -- each word met its conditions, and the parts tell what the words tell
  pub record MultiStands (x : Mvc B) (at : Desk) (w : List Word) : Type 0 where
    pub met : AreMulti (multivalued b) at w
    pub holds : BoxHolds stands b x x.place at w
    pub live : x.live ≡ true

  -- what follows from what a slot delivered
  abbrev pub FollowsSlot : Mvc B → Mvc B → Progress → List Say → List Say → (Slot → Bool) → Slot → List ℕ → Type 0
  FollowsSlot old new next before after bits s v =
      (at : Desk) (w : List Word) → MultiStands old at w → IsCoin at.coin bits → MayMultiHear (multivalued b) at w s v → BoxHeard stands b new next at w (Hear s v) before after

-- what it stood for it can still tell: the progress stays, and so does each entry's value
pub record KeepsBox {B : Type 0} (old new : Mvc B) : Type 0 where
  pub part : new.part ≡ old.part
  pub place : new.place ≡ old.place
  pub live : new.live ≡ old.live
  pub values : KeepsValues old.table.entries.items new.table.entries.items

-- what was said is put out and the progress is the new one, or nothing is put out and the box is live no more
abbrev pub MultiEnds : {B : Type 0} → Mvc B → Mvc B → Result Progress Mem → List Say → List Say → List Say → Result (Unit {0}) Mem → Type 0
MultiEnds old new next made before after (Ok u) = (place : Progress) × (next ≡ Ok place) × (new ≡ record old { place = place }) × (after ≡ before ++ made)
MultiEnds old new next made before after (Err e) = (new ≡ record old { live = false }) × (after ≡ before)

-- ---- the getters

-- the value of the entry there, where one is decided
abbrev pub shown_decision : List Entry → Decision → Option (Option (List ℕ))
shown_decision es decisions.NotYet = None
shown_decision es decisions.Nothing = Some None
shown_decision es (decisions.At i) = option_map Some (value_there es i)

abbrev pub multi_shown : {B : Type 0} → Mvc B → MultiShown
multi_shown x = record { opens = part_opens x.part x.place; decision = shown_decision x.table.entries.items x.place.decided }

some_byte : (o : Option Bool) → is_some o ≡ is_some (option_map (λ b. bit_byte b ∷ []) o)
some_byte None = refl
some_byte (Some b) = refl

pub decided_shown : (es : List Entry) (d : Decision) (o : Option (Option (List ℕ))) → IsEntryDecided es d o → shown_decision es d ≡ o
decided_shown es decisions.NotYet o h = sym h
decided_shown es decisions.Nothing o h = sym h
decided_shown es (decisions.At i) o h =
    ap (λ (o : Option Entry). option_map Some (option_map (λ e. e.value) o)) h.1.1 ∙ (ap (λ (v : List ℕ). Some (Some v)) h.1.2 ∙ sym h.2)

module _ {B : Type 0} (stands : B → Bench → List Word → Type 0) (b : BinaryRules) (x : Mvc B) (at : Desk) (w : List Word) where
  opens_is : BoxHolds stands b x x.place at w → (s : Slot) → part_opens x.part x.place s ≡ (multivalued b).opens at w s
  opens_is h s = rw (h.part_is.a, h.part_is.attempt, h.reached.owns, h.reached.asked, h.reached.round, some_byte (proposed_bit at.scope w)) refl

  -- they answer what the rules say
  pub shows_multi : MultiStands stands b x at w → (x.live ≡ true) × ShowsMulti (multivalued b) at w (multi_shown x)
  shows_multi h = (
    h.live,
    record {
      opens = opens_is h.holds;
      decision = decided_shown x.table.entries.items x.place.decided (multi_decision b at w) h.holds.reached.decided;
    },
  )
