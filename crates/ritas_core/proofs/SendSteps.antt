-- The order of messages, as the derived comparisons have it.
use Rattle.std.proofs.Common.{◌≡◌, ℕ, suc, Option, Some, refl, ap, rules, arith, List, [], ◌∷◌, ◌++◌}
use Rattle.std.specs.declared.cmp.Ordering.{Ordering}
use Rattle.std.specs.declared.cmp.Ordering.TheVariants.{Less, Equal, Greater}
use Rattle.std.specs.Ordering.{nat_cmp, ordering_then, partial_ordering_then}
use Rattle.std.specs.Cmp.{Some-then, nat_cmp_is}
use Prim.Native.Nat.compare
use Rattle.ritas_base.specs.declared.slot.Slot.{Slot}
use Rattle.ritas_base.specs.declared.item.Kind.{Kind}
use Rattle.ritas_base.specs.declared.item.To.{To}
use Rattle.ritas_base.specs.declared.item.To.TheVariants as receivers
use Rattle.ritas_base.specs.declared.item.Msg.{Msg}
use Rattle.ritas_base.specs.Messages.{kind_rank, to_rank}
use Rattle.ritas_core.specs.Order.{inserted, ordered_onto}
use Rattle.ritas_base.specs.SlotOrder.{slot_cmp}
use Rattle.ritas_base.specs.contracts.slot.SlotPartialOrd as slots
use Rattle.ritas_base.specs.contracts.item.KindPartialOrd as kinds
use Rattle.ritas_base.specs.contracts.item.ToPartialOrd as tos

slot_agrees : (x y : Slot) → slots.TheImpl.ghosts.partial_cmp x y ≡ Some (slot_cmp x y)
slot_agrees x y = search rules

kind_agrees : (x y : Kind) → kinds.TheImpl.ghosts.partial_cmp x y ≡ Some (nat_cmp (kind_rank x) (kind_rank y))
kind_agrees x y = search rules

nat_cmp_suc : (a b : ℕ) → nat_cmp a b ≡ nat_cmp (suc a) (suc b)
nat_cmp_suc a b = rw (compare.suc-suc (suc a) b, compare.suc-suc a b)

to_agrees : (x y : To) → tos.TheImpl.ghosts.partial_cmp x y ≡ Some (nat_cmp (to_rank x) (to_rank y))
to_agrees receivers.All receivers.All = refl
to_agrees receivers.All (receivers.One b) = ap Some (nat_cmp_is 0 (suc b) Less (omega arith))
to_agrees (receivers.One a) receivers.All = ap Some (nat_cmp_is (suc a) 0 Greater (omega arith))
to_agrees (receivers.One a) (receivers.One b) = ap Some (nat_cmp_suc a b)

three : (a b c : Ordering) → partial_ordering_then (partial_ordering_then (Some a) (Some b)) (Some c) ≡ Some (ordering_then a (ordering_then b c))
three Less b c = refl
three Equal b c = Some-then b c
three Greater b c = refl

all_agree : (p q r : Option Ordering) (a b c : Ordering) → p ≡ Some a → q ≡ Some b → r ≡ Some c →
    partial_ordering_then (partial_ordering_then p q) r ≡ Some (ordering_then a (ordering_then b c))
all_agree p q r a b c e f g = let h = three a b c in cc

-- the derived comparison of slot, kind and receiver is that of messages
pub keys_agree : (s t : Slot) (k l : Kind) (x y : To) →
    partial_ordering_then (partial_ordering_then (slots.TheImpl.ghosts.partial_cmp s t) (kinds.TheImpl.ghosts.partial_cmp k l)) (tos.TheImpl.ghosts.partial_cmp x y)
    ≡ Some (ordering_then (slot_cmp s t) (ordering_then (nat_cmp (kind_rank k) (kind_rank l)) (nat_cmp (to_rank x) (to_rank y))))
keys_agree s t k l x y = all_agree _ _ _ _ _ _ (slot_agrees s t) (kind_agrees k l) (to_agrees x y)

-- one message more is put in
pub ordered_more : (sorted ms : List Msg) (m : Msg) → ordered_onto sorted (ms ++ m ∷ []) ≡ inserted (ordered_onto sorted ms) m
ordered_more sorted [] m = refl
ordered_more sorted (x ∷ ms) m = ordered_more (inserted sorted x) ms m
