-- What the code says of the VECT, and asks of the binary instance.
use Rattle.std.specs.Prelude.{◌≡◌, Bool, true, false, List, [], ◌∷◌, ◌++◌, if◌then◌else◌}
use Rattle.ritas_base.specs.declared.slot.Slot.{Slot}
use Rattle.ritas_base.specs.declared.item.Say.{Say}
use Rattle.layer_api.specs.Words.{Word, Ask, bit_byte}
use Rattle.layer_api.specs.Binary.{BinaryRules, Bench, MayPropose}
use Rattle.multivalued.specs.Tables.{Asked, table_told_by, least_with, valid_value, one_clear}
use Rattle.multivalued.specs.declared.table.Table.{Table}

-- where it is due the VECT is said, with what the table tells
abbrev pub TellsVect : Bool → Slot → Table → List Say → List Say → Type 0
TellsVect due s t before after =
    Asked t (λ n support init vect. after ≡ before ++ (if due then record { slot = s; value = table_told_by n init (least_with n support init) } ∷ [] else []))

-- where it is due the bit is proposed
pub record AsksBit {B : Type 0} (stands : B → Bench → List Word → Type 0) (b : BinaryRules) (due bit : Bool) (old new : B) (before after : List Say) : Type 0 where
  pub quiet : due ≡ false → (new ≡ old) × (after ≡ before)
  pub grows : due ≡ true → (at : Bench) (u : List Word) → stands old at u → MayPropose u → stands new at (Ask (bit_byte bit ∷ []) ∷ u)
  pub made : due ≡ true → (at : Bench) (u : List Word) → stands old at u → MayPropose u → after ≡ before ++ b.says at u (Ask (bit_byte bit ∷ []))

-- it is whether one value alone is in enough valid VECTs, by the table
abbrev pub ProposesBit : {B : Type 0} → (B → Bench → List Word → Type 0) → BinaryRules → Bool → Table → B → B → List Say → List Say → Type 0
ProposesBit stands b due t old new before after =
    Asked t (λ n support init vect. AsksBit stands b due (one_clear n support (λ k. valid_value n support init (vect k))) old new before after)
