-- What a call on a broadcast's value does, for every history that the value stands for.
use Rattle.std.specs.Prelude.{◌≡◌, ℕ, Bool, true, false, List, ◌∷◌, ◌++◌, Option, Result, Ok, Err, ◌⊎◌}
use Rattle.ritas_base.specs.declared.bytes.Mem.{Mem}
use Rattle.ritas_base.specs.declared.item.Item.{Item}
use Rattle.ritas_base.specs.declared.item.Msg.{Msg}
use Rattle.ritas_base.specs.Messages.{Place}
use Rattle.ritas_base.specs.History.{Call, Start, Take}
use Rattle.ritas_base.specs.Tags.{Tags}
use Rattle.layer_api.specs.declared.broadcast.Heard.{Heard}
use Rattle.layer_api.specs.declared.broadcast.Heard.TheVariants.{Took, Repeat}
use Rattle.layer_api.specs.Broadcast.{BroadcastRules, Tagging, IsTagger, MayStart, MayTake, news}

-- the relation between values and what they stand for
abbrev pub Stands : Type 0 → Type 1
Stands B = B → Place → Tags → List Call → Type 0

-- what the getters of a broadcast's value answer: what is delivered, and which items can be taken yet
pub record CastShown : Type 0 where
  pub out : Option (List ℕ)
  pub ready : Item → Bool

-- they answer what the rules say after these calls
pub record ShowsCast (r : BroadcastRules) (at : Place) (tags : Tags) (h : List Call) (shown : CastShown) : Type 0 where
  pub out : shown.out ≡ r.out at tags h
  pub ready : (i : Item) → shown.ready i ≡ r.ready at tags h i

-- after want of memory each answers as after the calls before that one, or as after them and it
pub record ShowsCastNear (r : BroadcastRules) (at : Place) (tags : Tags) (h : List Call) (c : Call) (shown : CastShown) : Type 0 where
  pub out : (shown.out ≡ r.out at tags h) ⊎ (shown.out ≡ r.out at tags (c ∷ h))
  pub ready : (i : Item) → (shown.ready i ≡ r.ready at tags h i) ⊎ (shown.ready i ≡ r.ready at tags (c ∷ h) i)

-- for want of memory nothing is put out, and the value is live no more
pub record Dies {B : Type 0} (stands : B → Place → Tags → List Call → Type 0) (r : BroadcastRules) (is_live : B → Bool) (shown : B → CastShown) (t : Tagging) (old new : B) (c : Call) (may : Place → Tags → List Call → Type 0) (before after : List Msg) : Type 0 where
  pub out : after ≡ before
  pub dead : is_live new ≡ false
  pub shows : (at : Place) (tags : Tags) (h : List Call) → stands old at tags h → IsTagger at tags t → may at tags h
      → ShowsCastNear r at tags h c (shown new)

-- the value was started, and what became due by it is put out
pub record Starts {B : Type 0} (stands : B → Place → Tags → List Call → Type 0) (r : BroadcastRules) (t : Tagging) (old new : B) (value : List ℕ) (before after : List Msg) : Type 0 where
  pub grows : (at : Place) (tags : Tags) (h : List Call) → stands old at tags h → IsTagger at tags t → MayStart at h
      → stands new at tags (Start value ∷ h)
  pub made : (at : Place) (tags : Tags) (h : List Call) → stands old at tags h → IsTagger at tags t → MayStart at h
      → after ≡ before ++ news r at tags h (Start value)

-- the item was taken, which doesn't repeat one, and what became due by it is put out
pub record TakesNew {B : Type 0} (stands : B → Place → Tags → List Call → Type 0) (r : BroadcastRules) (t : Tagging) (old new : B) (item : Item) (before after : List Msg) : Type 0 where
  pub grows : (at : Place) (tags : Tags) (h : List Call) → stands old at tags h → IsTagger at tags t → MayTake r at tags h item
      → stands new at tags (Take item ∷ h)
  pub made : (at : Place) (tags : Tags) (h : List Call) → stands old at tags h → IsTagger at tags t → MayTake r at tags h item
      → after ≡ before ++ news r at tags h (Take item)
  pub counts : (at : Place) (tags : Tags) (h : List Call) → stands old at tags h → IsTagger at tags t → MayTake r at tags h item
      → r.repeats at tags h item ≡ false

-- the item repeats one, and leaves all as it was
pub record TakesAgain {B : Type 0} (stands : B → Place → Tags → List Call → Type 0) (r : BroadcastRules) (t : Tagging) (old new : B) (item : Item) (before after : List Msg) : Type 0 where
  pub same : (at : Place) (tags : Tags) (h : List Call) → stands old at tags h → stands new at tags h
  pub out : after ≡ before
  pub counts : (at : Place) (tags : Tags) (h : List Call) → stands old at tags h → IsTagger at tags t → MayTake r at tags h item
      → r.repeats at tags h item ≡ true

-- want of memory, which comes only for an item that doesn't repeat one
pub record TakesNone {B : Type 0} (stands : B → Place → Tags → List Call → Type 0) (r : BroadcastRules) (is_live : B → Bool) (shown : B → CastShown) (t : Tagging) (old new : B) (item : Item) (before after : List Msg) : Type 0 where
  pub dies : Dies stands r is_live shown t old new (Take item) (λ at tags h. MayTake r at tags h item) before after
  pub counts : (at : Place) (tags : Tags) (h : List Call) → stands old at tags h → IsTagger at tags t → MayTake r at tags h item
      → r.repeats at tags h item ≡ false

-- each outcome of a start
abbrev pub Started : {B : Type 0} → (B → Place → Tags → List Call → Type 0) → BroadcastRules → (B → Bool) → (B → CastShown) → Tagging → B → B → List ℕ → List Msg → List Msg → Result (Unit {0}) Mem → Type 0
Started stands r is_live shown t old new value before after (Ok u) = Starts stands r t old new value before after
Started stands r is_live shown t old new value before after (Err e) = Dies stands r is_live shown t old new (Start value) (λ at tags h. MayStart at h) before after

-- each outcome of a take
abbrev pub Takes : {B : Type 0} → (B → Place → Tags → List Call → Type 0) → BroadcastRules → (B → Bool) → (B → CastShown) → Tagging → B → B → Item → List Msg → List Msg → Result Heard Mem → Type 0
Takes stands r is_live shown t old new item before after (Ok Took) = TakesNew stands r t old new item before after
Takes stands r is_live shown t old new item before after (Ok Repeat) = TakesAgain stands r t old new item before after
Takes stands r is_live shown t old new item before after (Err e) = TakesNone stands r is_live shown t old new item before after
