-- What a core rests on, and what is true of every history that it can have.
use Rattle.std.specs.Prelude.{◌≡◌, ℕ, ◌<◌, Bool, true, false, not, ◌&&◌, List, [], ◌∷◌, Some, None, is_some}
use Rattle.ritas_base.specs.declared.slot.Slot.{Slot}
use Rattle.ritas_base.specs.declared.item.Item.{Item}
use Rattle.ritas_base.specs.declared.item.Msg.{Msg}
use Rattle.ritas_base.specs.Numbers.{IsSession}
use Rattle.ritas_base.specs.Messages.{has, item_of}
use Rattle.ritas_base.specs.History.{started}
use Rattle.frame_codec.specs.Body.{IsInGrammar}
use Rattle.frame_codec.specs.Inputs.{IsInput}
use Rattle.layer_api.specs.Runs.{Has}
use Rattle.layer_api.specs.OneValue.{ValueLaws, AreTaken, RepeatNone, AreGoodCalls}
use Rattle.layer_api.specs.Service.{WordLaws, said, MayHear, AreProper}
use Rattle.layer_api.specs.Words.{Ask, Hear, is_said, said_value, is_heard}
use Rattle.ooc_buffers.specs.Lists.{HeldItem}
use Rattle.ritas_core.specs.declared.verdict.Verdict.TheVariants.{Take}
use Rattle.ritas_core.specs.Rules.{Rules, seat_of, place_at, out_at_slot, due_at_slot, FormsFit}
use Rattle.ritas_core.specs.Casts.{MayStartAll}
use Rattle.ritas_core.specs.Parts.{Parts, Entry, parts, taken_at, item_delivers}
use Rattle.ritas_core.specs.Order.{is_before, new_messages}
use Rattle.ritas_core.specs.Checks.{is_item_past, is_repeat, is_found, verdict_on, input_check, IsGood, IsTakable, IsGivable, IsHistory}

-- the laws of the layers
pub record LayerLaws (r : Rules) : Type 0 where
  pub casts : (s : Slot) → ValueLaws (r.casts.at_slot s)
  pub words : WordLaws r.service
  pub session : IsSession r.casts.numbers
  pub me : r.casts.me < r.casts.numbers.n
  pub serves : r.service.serves r.mode.root ≡ true
  pub kinds : FormsFit r.mode r.casts

-- the message is due, at its slot, after a history
abbrev pub is_due : Rules → Parts → Msg → Bool
is_due r p m = has (due_at_slot r.casts m.slot (p.calls m.slot)) m

-- none of these comes before m
abbrev pub NoneBefore : Msg → List Msg → Type 0
NoneBefore m [] = Unit {0}
NoneBefore m (x ∷ xs) = (is_before x m ≡ false) × NoneBefore m xs

-- the messages are in their order
abbrev pub AreMessagesInOrder : List Msg → Type 0
AreMessagesInOrder [] = Unit {0}
AreMessagesInOrder (m ∷ ms) = NoneBefore m ms × AreMessagesInOrder ms

-- ---- the words and the calls of a history

-- a broadcast was started exactly where the service said its slot
abbrev pub StartsWhereSaid : Type 0
StartsWhereSaid = (r : Rules) (h : List Entry) (s : Slot) →
    is_some (started ((parts r h).calls s)) ≡ is_said (said r.service (seat_of r) (parts r h).words) s

-- and with the value that was said there
abbrev pub StartsWhatWasSaid : Type 0
StartsWhatWasSaid = (r : Rules) → LayerLaws r → (h : List Entry) → IsHistory r h → (s : Slot) →
    started ((parts r h).calls s) ≡ said_value (said r.service (seat_of r) (parts r h).words) s

-- a slot was heard exactly where it has delivered
abbrev pub HearsWhereDelivered : Type 0
HearsWhereDelivered = (r : Rules) → LayerLaws r → (h : List Entry) (s : Slot) →
    is_heard (parts r h).words s ≡ is_some (out_at_slot r.casts s ((parts r h).calls s))

-- each word to the service met its conditions, and so is in the grammar
abbrev pub WordsAreProper : Type 0
WordsAreProper = (r : Rules) → LayerLaws r → (h : List Entry) → IsHistory r h → AreProper r.service (seat_of r) (parts r h).words

-- each call on a broadcast met its conditions
abbrev pub CallsAreTaken : Type 0
CallsAreTaken = (r : Rules) → LayerLaws r → (h : List Entry) → IsHistory r h → (s : Slot) →
    AreTaken (r.casts.at_slot s) (place_at r.casts s) r.casts.tags ((parts r h).calls s)

-- none repeats an earlier one
abbrev pub CallsAreFirst : Type 0
CallsAreFirst = (r : Rules) (h : List Entry) → IsHistory r h → (s : Slot) →
    RepeatNone (r.casts.at_slot s) (place_at r.casts s) r.casts.tags ((parts r h).calls s)

-- and each is in the grammar
abbrev pub CallsAreGood : Type 0
CallsAreGood = (r : Rules) → LayerLaws r → (h : List Entry) → IsHistory r h → (s : Slot) →
    AreGoodCalls r.casts.numbers r.mode s ((parts r h).calls s)

-- ---- what goes out

-- what goes out by an entry is what is due after it and was not due before
abbrev pub NewIsDue : Type 0
NewIsDue = (r : Rules) → LayerLaws r → (h : List Entry) (e : Entry) (m : Msg) →
    has (new_messages r h e) m ≡ (is_due r (parts r (e ∷ h)) m && not (is_due r (parts r h) m))

-- what is due stays due
abbrev pub DueStays : Type 0
DueStays = (r : Rules) → LayerLaws r → (h : List Entry) (e : Entry) (m : Msg) →
    is_due r (parts r h) m ≡ true → is_due r (parts r (e ∷ h)) m ≡ true

-- each message that goes out is in the grammar
abbrev pub NewIsGood : Type 0
NewIsGood = (r : Rules) → LayerLaws r → (h : List Entry) (e : Entry) → IsHistory r (e ∷ h) → (m : Msg) →
    Has (new_messages r h e) m → IsInGrammar r.casts.numbers r.mode (item_of r.casts.me m)

-- ---- an entry after a history

-- what the service newly says by an input may be started
abbrev pub MayStartGiven : Type 0
MayStartGiven = (r : Rules) → LayerLaws r → (h : List Entry) → IsHistory r h → (v : List ℕ) → IsGivable r (parts r h) v →
    MayStartAll r.casts (r.service.says (seat_of r) (parts r h).words (Ask v)) (parts r h).calls

-- the service may hear what an item's slot newly delivers
abbrev pub MayHearTaken : Type 0
MayHearTaken = (r : Rules) → LayerLaws r → (h : List Entry) → IsHistory r h → (item : Item) → IsTakable r (parts r h) item → (v : List ℕ) →
    item_delivers r item (parts r h) ≡ Some v → MayHear r.service (seat_of r) (parts r h).words item.slot v

-- and what it newly says by that may be started
abbrev pub MayStartHeard : Type 0
MayStartHeard = (r : Rules) → LayerLaws r → (h : List Entry) → IsHistory r h → (item : Item) → IsTakable r (parts r h) item → (v : List ℕ) →
    item_delivers r item (parts r h) ≡ Some v →
    MayStartAll r.casts (r.service.says (seat_of r) (parts r h).words (Hear item.slot v)) (taken_at item (parts r h)).calls

-- ---- the checks

-- an item that passes all checks meets the conditions of an entry
abbrev pub TakenIsTakable : Type 0
TakenIsTakable = (r : Rules) → LayerLaws r → (h : List Entry) → IsHistory r h → (held : List (List HeldItem)) (item : Item) → IsGood r item →
    verdict_on r (parts r h) held item ≡ Take → IsTakable r (parts r h) item

-- and so does an input
abbrev pub GivenIsGivable : Type 0
GivenIsGivable = (r : Rules) (p : Parts) (v : List ℕ) → IsSession r.casts.numbers → r.service.serves r.mode.root ≡ true →
    IsInput r.casts.numbers r.mode v → input_check r p v ≡ None → IsGivable r p v

-- what a core looks up is whether an item repeats another, as long as its window isn't past
abbrev pub FoundIsRepeat : Type 0
FoundIsRepeat = (r : Rules) → LayerLaws r → (h : List Entry) → IsHistory r h → (held : List (List HeldItem)) (item : Item) → IsGood r item →
    is_item_past r (parts r h) item ≡ false → is_repeat r (parts r h) held item ≡ is_found r (parts r h) held item
