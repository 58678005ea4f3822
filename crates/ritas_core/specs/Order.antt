-- The order in which a call's messages go out, and those that go to oneself.
use Rattle.std.specs.Prelude.{◌≡◌, ℕ, Bool, List, [], ◌∷◌, ◌++◌, map, filter, if◌then◌else◌}
use Rattle.std.specs.Ordering.{nat_cmp, ordering_then, is_lt}
use Rattle.ritas_base.specs.declared.item.Item.{Item}
use Rattle.ritas_base.specs.declared.item.Msg.{Msg}
use Rattle.ritas_base.specs.SlotOrder.{slot_cmp}
use Rattle.ritas_base.specs.Messages.{kind_rank, to_rank, reaches, item_of}
use Rattle.ritas_core.specs.Rules.{Rules}
use Rattle.ritas_core.specs.Parts.{Entry, parts, made_by}

-- by slot, then by kind, then by receiver
abbrev pub is_before : Msg → Msg → Bool
is_before x y =
    is_lt (ordering_then (slot_cmp x.slot y.slot) (ordering_then (nat_cmp (kind_rank x.kind) (kind_rank y.kind)) (nat_cmp (to_rank x.to) (to_rank y.to))))

-- a message put behind those that it is not before
abbrev pub inserted : List Msg → Msg → List Msg
inserted [] m = m ∷ []
inserted (x ∷ xs) m = if is_before m x then m ∷ x ∷ xs else x ∷ inserted xs m

abbrev pub ordered_onto : List Msg → List Msg → List Msg
ordered_onto sorted [] = sorted
ordered_onto sorted (m ∷ ms) = ordered_onto (inserted sorted m) ms

-- messages in their order
unfoldable pub ordered : List Msg → List Msg
ordered ms = ordered_onto [] ms

-- the messages that become due by an entry after a history, in the order in which they go out
abbrev pub new_messages : Rules → List Entry → Entry → List Msg
new_messages r h e = ordered (made_by r e (parts r h))

-- the messages that come to a replica
abbrev pub sent_to : ℕ → List Msg → List Msg
sent_to j ms = filter (λ m. reaches m.to j) ms

-- the items that come to oneself
abbrev pub own_items : ℕ → List Msg → List Item
own_items me ms = map (item_of me) (sent_to me ms)

-- the new list is the old one, with more behind it
abbrev pub Extends : {X : Type 0} → List X → List X → Type 0
Extends {X} old new = (more : List X) × (new ≡ old ++ more)
