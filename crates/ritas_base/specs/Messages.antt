-- Items and messages, their order, and the messages that one list has beyond another.
use Rattle.std.specs.Prelude.{ℕ, suc, Bool, true, not, ◌==◌, List, [], ◌∷◌, Option, Some, None, filter}
use Rattle.std.specs.List.{list_any}
use Rattle.std.specs.declared.cmp.Ordering.{Ordering}
use Rattle.std.specs.Ordering.{nat_cmp, then_cmp, on, eq_by_cmp}
use Rattle.std.specs.Cmp.{IsEquivalence, IsTotalOrder, nat_cmp_total, then_total, on_total, eq_by_cmp_equiv}
use Rattle.std.specs.Cmp.Lexicographic.{slice_cmp, nat_list_cmp_total}
use Rattle.ritas_base.specs.declared.slot.Slot.{Slot}
use Rattle.ritas_base.specs.declared.item.Kind.{Kind}
use Rattle.ritas_base.specs.declared.item.Kind.TheVariants as kinds
use Rattle.ritas_base.specs.declared.item.To.{To}
use Rattle.ritas_base.specs.declared.item.To.TheVariants as receivers
use Rattle.ritas_base.specs.declared.item.Item.{Item}
use Rattle.ritas_base.specs.declared.item.Msg.{Msg}
use Rattle.ritas_base.specs.Numbers.{Numbers}
use Rattle.ritas_base.specs.SlotOrder.{slot_cmp, slots_total}

-- the replica and the slot that a broadcast's value is for
pub record Place : Type 0 where
  pub numbers : Numbers
  pub me : ℕ
  pub slot : Slot

-- a kind's place in the order
abbrev pub kind_rank : Kind → ℕ
kind_rank kinds.Init = 0
kind_rank kinds.Echo = 1
kind_rank kinds.Ready = 2
kind_rank kinds.Send = 3
kind_rank kinds.Hashes = 4
kind_rank kinds.Column = 5
kind_rank kinds.Want = 6
kind_rank kinds.Value = 7

abbrev pub kind_eq : Kind → Kind → Bool
kind_eq a b = kind_rank a == kind_rank b

-- a receiver's place in the order
abbrev pub to_rank : To → ℕ
to_rank receivers.All = 0
to_rank (receivers.One k) = suc k

-- whether a message for these receivers comes to replica j
abbrev pub reaches : To → ℕ → Bool
reaches receivers.All j = true
reaches (receivers.One k) j = k == j

-- the item that a message of replica k is at its receivers
abbrev pub item_of : ℕ → Msg → Item
item_of k m = record { from = k; kind = m.kind; slot = m.slot; value = m.value }

-- by slot, kind, receiver and value
unfoldable pub msg_cmp : Msg → Msg → Ordering
msg_cmp =
    then_cmp (on (λ m. m.slot) slot_cmp)
    (then_cmp (on (λ m. kind_rank m.kind) nat_cmp)
    (then_cmp (on (λ m. to_rank m.to) nat_cmp)
    (on (λ m. m.value) (slice_cmp nat_cmp))))

abbrev pub msg_eq : Msg → Msg → Bool
msg_eq = eq_by_cmp msg_cmp

-- the message is among these
abbrev pub has : List Msg → Msg → Bool
has ms m = list_any (msg_eq m) ms

-- those of the second list that the first does not have
unfoldable pub without : List Msg → List Msg → List Msg
without before after = filter (λ m. not (has before m)) after

-- a message to all of this kind, if there is a value
abbrev pub to_all : Slot → Kind → Option (List ℕ) → List Msg
to_all s kind None = []
to_all s kind (Some m) = record { to = receivers.All; kind = kind; slot = s; value = m } ∷ []

pub messages_total : IsTotalOrder msg_cmp
unfolding msg_cmp
messages_total =
    then_total (on_total (λ m. m.slot) slots_total)
    (then_total (on_total (λ m. kind_rank m.kind) nat_cmp_total)
    (then_total (on_total (λ m. to_rank m.to) nat_cmp_total)
    (on_total (λ m. m.value) nat_list_cmp_total)))

pub msg_eq_equiv : IsEquivalence msg_eq
msg_eq_equiv = eq_by_cmp_equiv messages_total
