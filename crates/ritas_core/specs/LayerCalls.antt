-- What calls on the layers do, for all parts that they stand for. Each list has the newest first.
use Rattle.std.specs.Prelude.{◌≡◌, ℕ, ◌<◌, nat_lt, Bool, true, false, not, ◌&&◌, Option, Some, None, Result, Ok, Err, List, ◌++◌, if◌then◌else◌}
use Rattle.std.specs.BTreeMap.{get}
use Rattle.ritas_base.specs.declared.bytes.Mem.{Mem}
use Rattle.ritas_base.specs.declared.slot.Slot.{Slot}
use Rattle.ritas_base.specs.declared.item.Item.{Item}
use Rattle.ritas_base.specs.declared.item.Msg.{Msg}
use Rattle.ritas_base.specs.declared.item.Say.{Say}
use Rattle.ritas_base.specs.SlotOrder.{slot_cmp}
use Rattle.layer_api.specs.Broadcast.{MayTake}
use Rattle.layer_api.specs.Service.{MayAsk, MayHear, AreProper, is_past}
use Rattle.layer_api.specs.Words.{Word, Ask, Hear}
use Rattle.frame_codec.specs.Body.{is_of_form}
use Rattle.instance_tree.specs.SlotMaps.{SlotMap}
use Rattle.ritas_core.specs.declared.cast.Cast.{Cast}
use Rattle.ritas_core.specs.declared.change.Change.{Change}
use Rattle.ritas_core.specs.declared.change.Change.TheVariants as changes
use Rattle.ritas_core.specs.declared.layers.Layers.{Layers}
use Rattle.ritas_core.specs.Rules.{Rules, seat_of, place_at}
use Rattle.ritas_core.specs.SlotCast.{CastStandsAt, shown_by_cast}
use Rattle.ritas_core.specs.Drops.{is_dropped_shown, DropsPast}
use Rattle.ritas_core.specs.Casts.{MayStartAll, OutputsStand}
use Rattle.ritas_core.specs.CastCalls.{IsOwnTagger, StartsCasts, StartsFewer, is_ready_in}
use Rattle.ritas_core.specs.Parts.{Parts, Took, service_told, told_news, taken_at, item_delivers, parts_after, made_by}
use Rattle.ritas_core.specs.Checks.{is_item_past, is_item_ahead, is_taken_again}
use Rattle.ritas_core.specs.Stands.{Meaning, rules_of, LayersStand, LayersShow}

-- what the service newly says by a word may be started
abbrev pub MayStartSaid : Rules → Word → Parts → Type 0
MayStartSaid r word p = MayStartAll r.casts (r.service.says (seat_of r) p.words word) p.calls

-- the service may have a word, and what it newly says by it may be started
abbrev pub MayTell : Rules → Word → Parts → Type 0
MayTell r (Ask value) p = MayAsk r.service (seat_of r) p.words value × MayStartSaid r (Ask value) p
MayTell r (Hear s value) p = MayHear r.service (seat_of r) p.words s value × MayStartSaid r (Hear s value) p

-- the service may hear what a slot newly delivers, if it does
abbrev pub MayFollow : Rules → Slot → Option (List ℕ) → Parts → Type 0
MayFollow r s None p = Unit {0}
MayFollow r s (Some value) p = MayTell r (Hear s value) p

-- all but the service, the broadcasts and the outputs stays
pub record SameSeat {S E C T : Type 0} (old new : Layers S E C T) : Type 0 where
  pub params : new.params ≡ old.params
  pub mode : new.mode ≡ old.mode
  pub me : new.me ≡ old.me
  pub tagger : new.tagger ≡ old.tagger
  pub coin : new.coin ≡ old.coin

-- the words so far met their conditions
abbrev pub WereProper : {S E C T : Type 0} → Meaning S E C T → Layers S E C T → Parts → Type 0
WereProper m layers p = AreProper m.service (seat_of (rules_of m layers)) p.words

-- each slot has the output that it had
abbrev pub KeepsOutputs : {S E C T : Type 0} → Layers S E C T → Layers S E C T → Type 0
KeepsOutputs old new = (s : Slot) → get slot_cmp new.outputs s ≡ get slot_cmp old.outputs s

-- nothing but the broadcasts changed
abbrev pub ChangesCasts : {S E C T : Type 0} → Layers S E C T → Layers S E C T → Type 0
ChangesCasts old new = new ≡ record old { casts = new.casts }

-- the broadcasts that are past, by what the service shows, were dropped, and then these says were started beside those left
pub record StartsSaid {S E C T : Type 0} (m : Meaning S E C T) (old new : Layers S E C T) (says : List Say) (before after_it : List Msg) : Type 0 where
  pub left : SlotMap (Cast E)
  pub drops : DropsPast (is_dropped_shown old.mode.version (m.service_shown old.service) old.params.n) old.params.n old.casts left
  pub starts : StartsCasts (CastStandsAt old.mode m.cast_stands) (rules_of m old).casts
      (is_dropped_shown old.mode.version (m.service_shown old.service) old.params.n) (m.me old.tagger) left new.casts says before after_it

-- for want of memory not all were
pub record StartsFewerSaid {S E C T : Type 0} (m : Meaning S E C T) (old new : Layers S E C T) (says : List Say) : Type 0 where
  pub left : SlotMap (Cast E)
  pub drops : DropsPast (is_dropped_shown old.mode.version (m.service_shown old.service) old.params.n) old.params.n old.casts left
  pub starts : StartsFewer (CastStandsAt old.mode m.cast_stands) (shown_by_cast m.cast_shown) (rules_of m old).casts
      (is_dropped_shown old.mode.version (m.service_shown old.service) old.params.n) (m.me old.tagger) left new.casts says

-- the service may have a word
pub record CanTell {S E C T : Type 0} (m : Meaning S E C T) (layers : Layers S E C T) (word : Word) (p : Parts) : Type 0 where
  pub is_own : IsOwnTagger (rules_of m layers).casts (m.me layers.tagger)
  pub may : MayTell (rules_of m layers) word p
  pub stood : LayersStand m layers p

-- it had the word, and what became due by it is put out
pub record TellsLayers {S E C T : Type 0} (m : Meaning S E C T) (old new : Layers S E C T) (word : Word) (before after_it : List Msg) : Type 0 where
  pub grows : (p : Parts) → CanTell m old word p → WereProper m old p → LayersStand m new (service_told (rules_of m old) word p)
  pub made : (p : Parts) → CanTell m old word p → WereProper m old p → after_it ≡ before ++ told_news (rules_of m old) word p

-- for want of memory what the layers show lies between what they were called with and that with the word
abbrev pub TellsNoLayer : {S E C T : Type 0} → Meaning S E C T → Layers S E C T → Layers S E C T → Word → Type 0
TellsNoLayer m old new word = (p : Parts) → CanTell m old word p → WereProper m old p
    → LayersShow m new (rules_of m old) p (service_told (rules_of m old) word p)

-- an item of a slot that isn't past may be taken
pub record CanTakeItem {S E C T : Type 0} (m : Meaning S E C T) (layers : Layers S E C T) (item : Item) (p : Parts) : Type 0 where
  pub is_own : IsOwnTagger (rules_of m layers).casts (m.me layers.tagger)
  pub origin : item.slot.origin < layers.params.n
  pub near : is_item_past (rules_of m layers) p item ≡ false
  pub may : MayTake ((rules_of m layers).casts.at_slot item.slot) (place_at (rules_of m layers).casts item.slot) (rules_of m layers).casts.tags (p.calls item.slot) item
  pub stood : LayersStand m layers p

-- whether the item repeats one that was taken
abbrev pub RepeatsOne : {S E C T : Type 0} → Meaning S E C T → Layers S E C T → Item → Bool → Type 0
RepeatsOne m old item b = (p : Parts) → CanTakeItem m old item p → is_taken_again (rules_of m old) p item ≡ b

-- it was taken, and what became due by it is put out, where the service may hear what its slot newly delivers
pub record TakesItem {S E C T : Type 0} (m : Meaning S E C T) (old new : Layers S E C T) (item : Item) (before after_it : List Msg) : Type 0 where
  pub grows : (p : Parts) → CanTakeItem m old item p
      → MayFollow (rules_of m old) item.slot (item_delivers (rules_of m old) item p) (taken_at item p) → WereProper m old p
      → LayersStand m new (parts_after (rules_of m old) (Took item) p)
  pub made : (p : Parts) → CanTakeItem m old item p
      → MayFollow (rules_of m old) item.slot (item_delivers (rules_of m old) item p) (taken_at item p) → WereProper m old p
      → after_it ≡ before ++ made_by (rules_of m old) (Took item) p
  pub outputs : (p : Parts) → CanTakeItem m old item p → OutputsStand old.mode.root (rules_of m old).casts old.outputs p.calls
      → OutputsStand old.mode.root (rules_of m old).casts new.outputs (parts_after (rules_of m old) (Took item) p).calls
  pub counts : RepeatsOne m old item false

-- the item repeats one, and leaves all as it was
pub record RepeatsItem {S E C T : Type 0} (m : Meaning S E C T) (old new : Layers S E C T) (item : Item) (before after_it : List Msg) : Type 0 where
  pub same : (p : Parts) → LayersStand m old p → LayersStand m new p
  pub outputs : KeepsOutputs old new
  pub out : after_it ≡ before
  pub counts : RepeatsOne m old item true

-- its slot newly delivers nothing by it, so the service hears nothing
abbrev pub DeliversNone : {S E C T : Type 0} → Meaning S E C T → Layers S E C T → Item → Type 0
DeliversNone m old item = (p : Parts) → CanTakeItem m old item p → item_delivers (rules_of m old) item p ≡ None

-- what an item changes then: columns are of the form of echo broadcast, and so is all else at their slots
abbrev pub quiet_change : Item → Change
quiet_change item = if is_of_form 2 item.kind then changes.Columns item.slot else changes.Cast

-- only so much changed
abbrev pub ChangesOnly : {S E C T : Type 0} → Meaning S E C T → Layers S E C T → Item → Change → Type 0
ChangesOnly m old item changes.Service = Unit {0}
ChangesOnly m old item (changes.Columns slot) = DeliversNone m old item × (slot ≡ item.slot)
ChangesOnly m old item changes.Cast = DeliversNone m old item × (is_of_form 2 item.kind ≡ false)

-- it was taken, and this changed
pub record TakesSo {S E C T : Type 0} (m : Meaning S E C T) (old new : Layers S E C T) (item : Item) (before after_it : List Msg) (change : Change) : Type 0 where
  pub takes : TakesItem m old new item before after_it
  pub only : ChangesOnly m old item change

-- for want of memory what the layers show lies between what they were called with and that with the item
pub record LayersTakeNone {S E C T : Type 0} (m : Meaning S E C T) (old new : Layers S E C T) (item : Item) : Type 0 where
  pub shows : (p : Parts) → CanTakeItem m old item p
      → MayFollow (rules_of m old) item.slot (item_delivers (rules_of m old) item p) (taken_at item p) → WereProper m old p
      → LayersShow m new (rules_of m old) p (parts_after (rules_of m old) (Took item) p)
  pub outputs : KeepsOutputs old new
  pub counts : RepeatsOne m old item false

-- each outcome
abbrev pub GivesItem : {S E C T : Type 0} → Meaning S E C T → Layers S E C T → Layers S E C T → Item → List Msg → List Msg → Result (Option Change) Mem → Type 0
GivesItem m old new item before after_it (Ok (Some change)) = TakesSo m old new item before after_it change
GivesItem m old new item before after_it (Ok None) = RepeatsItem m old new item before after_it
GivesItem m old new item before after_it (Err e) = LayersTakeNone m old new item

-- whether a slot is past, and whether an item is open, as the layers tell it of a slot whose origin is a replica
abbrev pub is_past_in : {S E C T : Type 0} → Meaning S E C T → Layers S E C T → Parts → Slot → Bool
is_past_in m layers p s = nat_lt s.origin layers.params.n && is_past m.service (seat_of (rules_of m layers)) p.words s

abbrev pub is_let_in : {S E C T : Type 0} → Meaning S E C T → Layers S E C T → Parts → Item → Bool
is_let_in m layers p item = m.service.opens (seat_of (rules_of m layers)) p.words item.slot && is_ready_in (rules_of m layers).casts layers.casts p.calls item

abbrev pub is_open_in : {S E C T : Type 0} → Meaning S E C T → Layers S E C T → Parts → Item → Bool
is_open_in m layers p item =
    nat_lt item.slot.origin layers.params.n && (not (is_item_past (rules_of m layers) p item) && (not (is_item_ahead (rules_of m layers) p item) && is_let_in m layers p item))
