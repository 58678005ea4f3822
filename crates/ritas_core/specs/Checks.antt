-- The checks that an item and an input pass, in their order.
use Rattle.std.specs.Prelude.{is_some, ◌≡◌, ℕ, ◌+◌, ◌<◌, Bool, true, false, not, ◌==◌, ◌&&◌, ◌||◌, nat_le, List, ◌∷◌, [], length, Option, Some, None, if◌then◌else◌}
use Rattle.ritas_base.specs.declared.slot.Slot.{Slot}
use Rattle.ritas_base.specs.declared.item.Item.{Item}
use Rattle.ritas_base.specs.declared.item.Kind.TheVariants.{Column}
use Rattle.ritas_base.specs.Limits.{number_limit}
use Rattle.ritas_base.specs.Messages.{kind_eq}
use Rattle.ritas_base.specs.History.{first}
use Rattle.layer_api.specs.Broadcast.{is_of_origin, is_for_origin, MayTake}
use Rattle.layer_api.specs.Service.{MayAsk, is_past, is_ahead}
use Rattle.layer_api.specs.Windows.{command_window}
use Rattle.frame_codec.specs.Body.{IsInGrammar, spelling}
use Rattle.frame_codec.specs.Inputs.{IsInput, input_fault}
use Rattle.ooc_buffers.specs.Lists.{HeldItem, is_held, held_bytes, most_held_bytes}
use Rattle.ritas_core.specs.declared.fault.CoreFault.{CoreFault}
use Rattle.ritas_core.specs.declared.fault.CoreFault.TheVariants as faults
use Rattle.ritas_core.specs.declared.verdict.Verdict.{Verdict}
use Rattle.ritas_core.specs.declared.verdict.Verdict.TheVariants as verdicts
use Rattle.ritas_core.specs.Rules.{Rules, seat_of, place_at}
use Rattle.ritas_core.specs.Parts.{Parts, Entry, Took, Given, parts}

-- what the window of a slot is counted from
abbrev pub mark_of : Rules → Parts → Slot → ℕ
mark_of r p s = if s.class == 1 then r.service.base (seat_of r) p.words s.origin else r.service.completed (seat_of r) p.words

abbrev pub is_item_past : Rules → Parts → Item → Bool
is_item_past r p item = is_past r.service (seat_of r) p.words item.slot

abbrev pub is_item_ahead : Rules → Parts → Item → Bool
is_item_ahead r p item = is_ahead r.service (seat_of r) p.words item.slot

-- an item is open inside its window, where the service says so of its slot, and the broadcast of the item
abbrev pub is_open : Rules → Parts → Item → Bool
is_open r p item =
    not (is_item_past r p item) && (not (is_item_ahead r p item)
    && (r.service.opens (seat_of r) p.words item.slot && (r.casts.at_slot item.slot).ready (place_at r.casts item.slot) r.casts.tags (p.calls item.slot) item))

-- the broadcast of an item's slot says that the item repeats one that it took
abbrev pub is_taken_again : Rules → Parts → Item → Bool
is_taken_again r p item = (r.casts.at_slot item.slot).repeats (place_at r.casts item.slot) r.casts.tags (p.calls item.slot) item

-- an item of this kind and sender was taken at the item's slot
abbrev pub was_taken : Parts → Item → Bool
was_taken p item = is_some (first (p.calls item.slot) item.from item.kind)

-- whether an item repeats another. A column does, where it is open, exactly where its broadcast says so: it brings no valid
-- entry of a new echoer; and where it isn't open, exactly where an equal one is held. Any other item does exactly where one
-- of its kind and sender was taken at its slot, or is held
abbrev pub is_repeat : Rules → Parts → List (List HeldItem) → Item → Bool
is_repeat r p held item =
    if kind_eq item.kind Column
    then (if is_open r p item then is_taken_again r p item else is_held held item)
    else (was_taken p item || is_held held item)

-- what a core looks up for that: the broadcast of an open item, and the held items where the item isn't open or isn't a
-- column
abbrev pub is_found : Rules → Parts → List (List HeldItem) → Item → Bool
is_found r p held item =
    if is_open r p item
    then is_taken_again r p item || (not (kind_eq item.kind Column) && is_held held item)
    else is_held held item

-- how long an item's body is
abbrev pub body_length : Item → ℕ
body_length item = length (spelling item)

abbrev pub has_room : List (List HeldItem) → Item → Bool
has_room held item = nat_le (held_bytes held item.from + body_length item) most_held_bytes

-- what is done with an item: the first check that it doesn't pass, or that it is held or taken
unfoldable pub verdict_on : Rules → Parts → List (List HeldItem) → Item → Verdict
verdict_on r p held item =
    if is_of_origin item.kind && not (item.from == item.slot.origin) then verdicts.Refuse faults.NotOrigin
    else if is_for_origin item.kind && not (r.casts.me == item.slot.origin) then verdicts.Refuse faults.NotForMe
    else if is_item_past r p item then verdicts.Refuse (faults.Past (mark_of r p item.slot))
    else if is_item_ahead r p item then verdicts.Refuse (faults.Ahead (mark_of r p item.slot))
    else if is_repeat r p held item then verdicts.Again
    else if is_open r p item then verdicts.Take
    else if has_room held item then verdicts.Hold
    else verdicts.Refuse (faults.HeldFull (held_bytes held item.from))

-- the first check that an input doesn't pass
abbrev pub window_fault : Rules → Parts → Option CoreFault
window_fault r p =
    if r.service.given (seat_of r) p.words then Some faults.InputTaken
    else if nat_le (r.service.base (seat_of r) p.words r.casts.me + command_window) (r.service.next_number (seat_of r) p.words)
    || nat_le number_limit (r.service.next_number (seat_of r) p.words)
    then Some (faults.WindowFull (r.service.next_number (seat_of r) p.words))
    else None

abbrev pub input_fault_or : Option ℕ → Option CoreFault → Option CoreFault
input_fault_or (Some place) fault = Some (faults.Input place)
input_fault_or None fault = fault

unfoldable pub input_check : Rules → Parts → List ℕ → Option CoreFault
input_check r p value = input_fault_or (input_fault r.casts.numbers r.mode value) (window_fault r p)

-- an item that may be given to the core: it is in the grammar, from a replica
pub record IsGood (r : Rules) (item : Item) : Type 0 where
  pub in_grammar : IsInGrammar r.casts.numbers r.mode item
  pub sender : item.from < r.casts.numbers.n

-- an entry met its conditions
pub record IsTakable (r : Rules) (p : Parts) (item : Item) : Type 0 where
  pub good : IsGood r item
  pub may : MayTake (r.casts.at_slot item.slot) (place_at r.casts item.slot) r.casts.tags (p.calls item.slot) item
  pub is_open : is_open r p item ≡ true
  pub first : is_taken_again r p item ≡ false

pub record IsGivable (r : Rules) (p : Parts) (value : List ℕ) : Type 0 where
  pub in_grammar : IsInput r.casts.numbers r.mode value
  pub may : MayAsk r.service (seat_of r) p.words value

abbrev pub MayEnter : Rules → Parts → Entry → Type 0
MayEnter r p (Took item) = IsTakable r p item
MayEnter r p (Given value) = IsGivable r p value

-- each entry of the history met its conditions
abbrev pub IsHistory : Rules → List Entry → Type 0
IsHistory r [] = Unit {0}
IsHistory r (e ∷ h) = MayEnter r (parts r h) e × IsHistory r h
