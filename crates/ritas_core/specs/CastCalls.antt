-- What calls on the broadcasts of a replica do, for all calls that they stand for. Each list of calls has the newest first.
use Rattle.std.specs.Prelude.{◌≡◌, ℕ, ◌<◌, Bool, true, false, not, ◌&&◌, ◌||◌, Option, Result, Ok, Err, List, ◌++◌, ◌⊎◌, ◌∷◌}
use Rattle.std.specs.FinMap.{get}
use Rattle.std.specs.Option.{is_some}
use Rattle.ritas_base.specs.declared.bytes.Mem.{Mem}
use Rattle.ritas_base.specs.declared.slot.Slot.{Slot}
use Rattle.ritas_base.specs.declared.item.Item.{Item}
use Rattle.ritas_base.specs.declared.item.Msg.{Msg}
use Rattle.ritas_base.specs.declared.item.Say.{Say}
use Rattle.ritas_base.specs.declared.item.Kind.TheVariants.{Column}
use Rattle.ritas_base.specs.Messages.{Place, kind_eq}
use Rattle.ritas_base.specs.History.{Call, Start, Take}
use Rattle.ritas_base.specs.Tags.{Tags}
use Rattle.layer_api.specs.Broadcast.{BroadcastRules, Tagging, IsTagger, MayStart, MayTake}
use Rattle.layer_api.specs.BroadcastCalls.{CastShown, TakesNew, TakesAgain}
use Rattle.instance_tree.specs.SlotMaps.{SlotMap}
use Rattle.ritas_core.specs.declared.taken.Taken.{Taken}
use Rattle.ritas_core.specs.declared.taken.Taken.TheVariants.{Took, Repeat}
use Rattle.ritas_core.specs.Rules.{CastRules, place_at}
use Rattle.ritas_core.specs.Casts.{CastsStand, CastsShowAt, CastsShow, MayStartAll, called, started_all, news_at, start_news, newly_there, delivered_by}

-- the tagger of this number is this replica's, which is one of the session's
pub record IsOwnTagger (c : CastRules) (number : ℕ) : Type 0 where
  pub own : number ≡ c.me
  pub below : c.me < c.numbers.n

-- each value of the map stands for the same calls as before
abbrev pub StaysSo : {B : Type 0} → (B → Place → Tags → List Call → Type 0) → CastRules → (Slot → Bool) → SlotMap B → SlotMap B → Type 0
StaysSo stands c dropped old new = (h : Slot → List Call) → CastsStand stands c dropped old h → CastsStand stands c dropped new h

-- a value may be started at its slot
pub record CanStart {B : Type 0} (stands : B → Place → Tags → List Call → Type 0) (c : CastRules) (dropped : Slot → Bool) (number : ℕ) (casts : SlotMap B) (say : Say) (h : Slot → List Call) : Type 0 where
  pub is_own : IsOwnTagger c number
  pub may : MayStart (place_at c say.slot) (h say.slot)
  pub stood : CastsStand stands c dropped casts h

-- it was started, and what became due by it is put out
pub record StartsCast {B : Type 0} (stands : B → Place → Tags → List Call → Type 0) (c : CastRules) (dropped : Slot → Bool) (number : ℕ) (old new : SlotMap B) (say : Say) (before after : List Msg) : Type 0 where
  pub grows : (h : Slot → List Call) → CanStart stands c dropped number old say h → CastsStand stands c dropped new (called h say.slot (Start say.value))
  pub made : (h : Slot → List Call) → CanStart stands c dropped number old say h → after ≡ before ++ news_at c say.slot (h say.slot) (Start say.value)

-- for want of memory it wasn't, and each slot shows what it delivered
abbrev pub StartsNone : {B : Type 0} → (B → Place → Tags → List Call → Type 0) → (B → CastShown) → CastRules → (Slot → Bool) → ℕ → SlotMap B → SlotMap B → Say → Type 0
StartsNone stands shown c dropped number old new say = (h : Slot → List Call) → CanStart stands c dropped number old say h → CastsShowAt shown c dropped new h

-- these values may be started, one after another
pub record CanStartAll {B : Type 0} (stands : B → Place → Tags → List Call → Type 0) (c : CastRules) (dropped : Slot → Bool) (number : ℕ) (casts : SlotMap B) (says : List Say) (h : Slot → List Call) : Type 0 where
  pub is_own : IsOwnTagger c number
  pub may : MayStartAll c says h
  pub stood : CastsStand stands c dropped casts h

-- they were started
pub record StartsCasts {B : Type 0} (stands : B → Place → Tags → List Call → Type 0) (c : CastRules) (dropped : Slot → Bool) (number : ℕ) (old new : SlotMap B) (says : List Say) (before after : List Msg) : Type 0 where
  pub grows : (h : Slot → List Call) → CanStartAll stands c dropped number old says h → CastsStand stands c dropped new (started_all says h)
  pub made : (h : Slot → List Call) → CanStartAll stands c dropped number old says h → after ≡ before ++ start_news c says h

-- for want of memory not all were, and each slot shows what it delivered
abbrev pub StartsFewer : {B : Type 0} → (B → Place → Tags → List Call → Type 0) → (B → CastShown) → CastRules → (Slot → Bool) → ℕ → SlotMap B → SlotMap B → List Say → Type 0
StartsFewer stands shown c dropped number old new says = (h : Slot → List Call) → CanStartAll stands c dropped number old says h → CastsShowAt shown c dropped new h

-- the broadcast took the item, and newly delivers d
pub record HearsDelivery {B : Type 0} (stands : B → Place → Tags → List Call → Type 0) (r : BroadcastRules) (shown : B → CastShown) (t : Tagging) (old new : B) (item : Item) (before after : List Msg) (d : Option (List ℕ)) : Type 0 where
  pub takes : TakesNew stands r t old new item before after
  pub delivered : d ≡ newly_there (shown old).out (shown new).out

-- for want of memory it shows what it delivered, or what it does with the item; and the item doesn't repeat one
pub record HearsNone {B : Type 0} (stands : B → Place → Tags → List Call → Type 0) (r : BroadcastRules) (shown : B → CastShown) (t : Tagging) (old new : B) (item : Item) : Type 0 where
  pub shows : (at : Place) (tags : Tags) (h : List Call) → stands old at tags h → IsTagger at tags t → MayTake r at tags h item
      → ((shown new).out ≡ r.out at tags h) ⊎ ((shown new).out ≡ r.out at tags (Take item ∷ h))
  pub counts : (at : Place) (tags : Tags) (h : List Call) → stands old at tags h → IsTagger at tags t → MayTake r at tags h item
      → r.repeats at tags h item ≡ false

abbrev pub HearsItem : {B : Type 0} → (B → Place → Tags → List Call → Type 0) → BroadcastRules → (B → CastShown) → Tagging → B → B → Item → List Msg → List Msg → Result Taken Mem → Type 0
HearsItem stands r shown t old new item before after (Ok (Took d)) = HearsDelivery stands r shown t old new item before after d
HearsItem stands r shown t old new item before after (Ok Repeat) = TakesAgain stands r t old new item before after
HearsItem stands r shown t old new item before after (Err e) = HearsNone stands r shown t old new item

-- the broadcast of an item's slot, which isn't dropped, may take it
pub record CanTake {B : Type 0} (stands : B → Place → Tags → List Call → Type 0) (c : CastRules) (dropped : Slot → Bool) (number : ℕ) (casts : SlotMap B) (item : Item) (h : Slot → List Call) : Type 0 where
  pub is_own : IsOwnTagger c number
  pub origin : item.slot.origin < c.numbers.n
  pub near : dropped item.slot ≡ false
  pub may : MayTake (c.at_slot item.slot) (place_at c item.slot) c.tags (h item.slot) item
  pub stood : CastsStand stands c dropped casts h

-- whether the item repeats one that its slot took
abbrev pub Repeats : {B : Type 0} → (B → Place → Tags → List Call → Type 0) → CastRules → (Slot → Bool) → ℕ → SlotMap B → Item → Bool → Type 0
Repeats stands c dropped number old item b = (h : Slot → List Call) → CanTake stands c dropped number old item h
    → (c.at_slot item.slot).repeats (place_at c item.slot) c.tags (h item.slot) item ≡ b

-- the item was taken, and its slot newly delivers d
pub record CastsTake {B : Type 0} (stands : B → Place → Tags → List Call → Type 0) (c : CastRules) (dropped : Slot → Bool) (number : ℕ) (old new : SlotMap B) (item : Item) (before after : List Msg) (d : Option (List ℕ)) : Type 0 where
  pub grows : (h : Slot → List Call) → CanTake stands c dropped number old item h → CastsStand stands c dropped new (called h item.slot (Take item))
  pub made : (h : Slot → List Call) → CanTake stands c dropped number old item h → after ≡ before ++ news_at c item.slot (h item.slot) (Take item)
  pub delivered : (h : Slot → List Call) → CanTake stands c dropped number old item h → delivered_by c item.slot (h item.slot) (Take item) ≡ d
  pub counts : Repeats stands c dropped number old item false

-- the item repeats one, and leaves all as it was
pub record CastsRepeat {B : Type 0} (stands : B → Place → Tags → List Call → Type 0) (c : CastRules) (dropped : Slot → Bool) (number : ℕ) (old new : SlotMap B) (item : Item) (before after : List Msg) : Type 0 where
  pub same : StaysSo stands c dropped old new
  pub made : after ≡ before
  pub counts : Repeats stands c dropped number old item true

-- for want of memory each slot shows what it delivered, or what it does with the item; and the item doesn't repeat one
pub record CastsFail {B : Type 0} (stands : B → Place → Tags → List Call → Type 0) (shown : B → CastShown) (c : CastRules) (dropped : Slot → Bool) (number : ℕ) (old new : SlotMap B) (item : Item) : Type 0 where
  pub shows : (h : Slot → List Call) → CanTake stands c dropped number old item h → CastsShow shown c dropped new h (called h item.slot (Take item))
  pub counts : Repeats stands c dropped number old item false

-- each outcome
abbrev pub CastsHear : {B : Type 0} → (B → Place → Tags → List Call → Type 0) → (B → CastShown) → CastRules → (Slot → Bool) → ℕ → SlotMap B → SlotMap B → Item → List Msg → List Msg → Result Taken Mem → Type 0
CastsHear stands shown c dropped number old new item before after (Ok (Took d)) = CastsTake stands c dropped number old new item before after d
CastsHear stands shown c dropped number old new item before after (Ok Repeat) = CastsRepeat stands c dropped number old new item before after
CastsHear stands shown c dropped number old new item before after (Err e) = CastsFail stands shown c dropped number old new item

-- whether the broadcast of its slot can take an item yet: one that isn't a column at any time, and a column where the
-- broadcast is made and can
abbrev pub is_ready_in : {B : Type 0} → CastRules → SlotMap B → (Slot → List Call) → Item → Bool
is_ready_in c casts h item =
    not (kind_eq item.kind Column)
    || (is_some (get casts item.slot) && (c.at_slot item.slot).ready (place_at c item.slot) c.tags (h item.slot) item)
