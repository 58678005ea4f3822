-- Where an item stands that is held as one with another.
use Rattle.std.specs.Prelude.{◌≡◌, ℕ, ◌<◌, ◌≤◌, Bool, true, false, not, ◌==◌, ◌||◌, cond, List, [], ◌∷◌, filter, refl}
use Rattle.std.proofs.Common.{Ordering, sym, ◌∙◌, ap, arith}
use Rattle.std.specs.declared.cmp.Ordering.TheVariants.{Less, Equal, Greater}
use Rattle.std.specs.declared.ops.Bound.TheVariants.{Included, Excluded}
use Rattle.std.specs.List.{list_any}
use Rattle.std.specs.Ordering.{MatchOrdering, nat_cmp, ordering_then, is_le}
use Rattle.std.specs.Cmp.{nat_cmp_total}
use Rattle.std.specs.BTreeMap.Range.{range_contains}
use Rattle.std.proofs.lemmas.Bool.{and_parts, and_from, eqb-true, false_from_ne_true, both_ways}
use Rattle.std.proofs.lemmas.Cmp.{ranked, tied_itself}
use Rattle.ritas_base.specs.declared.slot.Slot.{Slot}
use Rattle.ritas_base.specs.declared.item.Item.{Item}
use Rattle.ritas_base.specs.declared.item.Kind.TheVariants.{Column}
use Rattle.ritas_base.specs.Messages.{kind_rank, kind_eq}
use Rattle.ritas_base.specs.SlotOrder.{is_slot, same_slot}
use Rattle.ooc_buffers.specs.Lists.{HeldItem, is_same_item}
use Rattle.ooc_buffers.specs.Groups.{group_of, plain_slot}
use Rattle.ooc_buffers.specs.Keys.{mark_of}
use Rattle.ooc_buffers.specs.Spots.{group_cmp, spot_cmp, Spotted, held_in, IsAt, AreAt}
use Rattle.ooc_buffers.specs.declared.group.Group.{Group}
use Rattle.ooc_buffers.specs.declared.group.Spot.{Spot}
use Rattle.ooc_buffers.specs.declared.key.Key.{Key}
use Rattle.ooc_buffers.proofs.Walks.{groups_total}
use Rattle.ooc_buffers.proofs.KeyItems.{key_if_same}

abbrev by_kind : Bool → Slot → Group
by_kind column s = record { is_column = column; slot = cond column s (plain_slot s) }

same_group : (x y : Item) → is_same_item x y ≡ true → group_of x ≡ group_of y
same_group x y h =
    let first = and_parts (kind_eq x.kind y.kind) _ h in
    let second = and_parts (is_slot x.slot y.slot) _ first.1 in
    let kinds : kind_rank x.kind ≡ kind_rank y.kind = eqb-true _ _ first.0 in
    ap (λ (n : ℕ). by_kind (n == 5) x.slot) kinds ∙ ap (by_kind (kind_eq y.kind Column)) (same_slot x.slot y.slot second.0)

-- spots of one group, round and mark are in the order of their stamps
by_stamp : (a b : Spot) → a.group ≡ b.group → a.bround ≡ b.bround → a.mark ≡ b.mark → spot_cmp a b ≡ nat_cmp a.stamp b.stamp
by_stamp a b groups rounds marks =
    ap (λ (g : Group). ordering_then (group_cmp g b.group) (ordering_then (nat_cmp a.bround b.bround) (ordering_then (nat_cmp a.mark b.mark) (nat_cmp a.stamp b.stamp)))) groups
    ∙ (ap (λ (r : Ordering). ordering_then r (ordering_then (nat_cmp a.bround b.bround) (ordering_then (nat_cmp a.mark b.mark) (nat_cmp a.stamp b.stamp)))) (tied_itself groups_total b.group)
    ∙ (ap (λ (n : ℕ). ordering_then (nat_cmp n b.bround) (ordering_then (nat_cmp a.mark b.mark) (nat_cmp a.stamp b.stamp))) rounds
    ∙ (ap (λ (r : Ordering). ordering_then r (ordering_then (nat_cmp a.mark b.mark) (nat_cmp a.stamp b.stamp))) (tied_itself nat_cmp_total b.bround)
    ∙ (ap (λ (n : ℕ). ordering_then (nat_cmp n b.mark) (nat_cmp a.stamp b.stamp)) marks
    ∙ ap (λ (r : Ordering). ordering_then r (nat_cmp a.stamp b.stamp)) (tied_itself nat_cmp_total b.mark)))))

low_le : (a b : ℕ) (r : Ordering) → MatchOrdering r (a < b) (a ≡ b) (b < a) → a ≤ b → is_le r ≡ true
low_le a b Less m low = refl
low_le a b Equal m low = refl
low_le a b Greater m low = absurd (omega (arith, m, low))

low_not : (a b : ℕ) (r : Ordering) → MatchOrdering r (a < b) (a ≡ b) (b < a) → b < a → is_le r ≡ false
low_not a b Less m high = absurd (omega (arith, m, high))
low_not a b Equal m high = absurd (omega (arith, m, high))
low_not a b Greater m high = refl

-- a spot with another stamp
abbrev pub at_stamp : Spot → ℕ → Spot
at_stamp s stamp = record s { stamp = stamp }

-- those of one group, round and mark whose stamps are below another
abbrev pub is_alike : Spot → ℕ → Spot → Bool
is_alike a next s = range_contains spot_cmp (Included (at_stamp a 0)) (Excluded (at_stamp a next)) s

within : (a s : Spot) (next : ℕ) → a.group ≡ s.group → a.bround ≡ s.bround → a.mark ≡ s.mark → s.stamp < next → is_alike a next s ≡ true
within a s next groups rounds marks early =
    let low : is_le (spot_cmp (at_stamp a 0) s) ≡ true =
    ap is_le (by_stamp (at_stamp a 0) s groups rounds marks) ∙ low_le 0 s.stamp (nat_cmp 0 s.stamp) (ranked 0 s.stamp (nat_cmp 0 s.stamp) refl) (omega arith) in
    let high : is_le (spot_cmp (at_stamp a next) s) ≡ false =
    ap is_le (by_stamp (at_stamp a next) s groups rounds marks) ∙ low_not next s.stamp (nat_cmp next s.stamp) (ranked next s.stamp (nat_cmp next s.stamp) refl) early in
    and_from _ _ low (ap not high)

-- an item that is held as one with this stands there
same_within : (next : ℕ) (item : Item) (a : Spot) (e : Spotted) → IsAt next e → a.group ≡ group_of item → a.bround ≡ item.slot.bround → a.mark ≡ mark_of item
    → is_same_item item e.1.item ≡ true → is_alike a next e.0 ≡ true
same_within next item a e at groups rounds marks same =
    let slots = same_slot item.slot e.1.item.slot (and_parts (is_slot item.slot e.1.item.slot) _ (and_parts (kind_eq item.kind e.1.item.kind) _ same).1).0 in
    within a e.0 next (groups ∙ (same_group item e.1.item same ∙ sym at.group)) (rounds ∙ (ap (λ (s : Slot). s.bround) slots ∙ sym at.bround))
    (marks ∙ (ap (λ (k : Key). k.mark) (key_if_same item e.1.item same) ∙ sym at.mark)) at.stamp

any_if : (p : HeldItem → Bool) (x : Spotted) (xs : List Spotted) (r : Bool) (b : Bool) → (p x.1 ≡ true → b ≡ true) → list_any p (held_in xs) ≡ r
    → list_any p (held_in (cond b (x ∷ xs) xs)) ≡ (p x.1 || r)
any_if p x xs r true given is = ap (λ (b : Bool). p x.1 || b) is
any_if p x xs r false given is = is ∙ sym (ap (λ (b : Bool). b || r) (false_from_ne_true (p x.1) (λ does. both_ways false refl (given does))))

-- so the others are not looked at
pub any_alike : (next : ℕ) (item : Item) (a : Spot) (xs : List Spotted) → AreAt next xs → a.group ≡ group_of item → a.bround ≡ item.slot.bround → a.mark ≡ mark_of item
    → list_any (λ k. is_same_item item k.item) (held_in (filter (λ e. is_alike a next e.0) xs)) ≡ list_any (λ k. is_same_item item k.item) (held_in xs)
any_alike next item a [] ats groups rounds marks = refl
any_alike next item a (x ∷ xs) ats groups rounds marks =
    any_if (λ k. is_same_item item k.item) x (filter (λ e. is_alike a next e.0) xs) (list_any (λ k. is_same_item item k.item) (held_in xs)) (is_alike a next x.0)
    (same_within next item a x ats.0 groups rounds marks) (any_alike next item a xs ats.1 groups rounds marks)
