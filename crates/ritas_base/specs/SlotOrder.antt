-- The order of slots, which is that of their nine bytes. Slots that compare alike are one.
use Rattle.std.specs.Prelude.{◌≡◌, ℕ, Bool, true, refl}
use Rattle.std.proofs.Common.{ap}
use Rattle.std.specs.declared.cmp.Ordering.{Ordering}
use Rattle.std.specs.declared.cmp.Ordering.TheVariants.{Less, Equal, Greater}
use Rattle.std.specs.Ordering.{nat_cmp, then_cmp, on, ordering_then, is_eq}
use Rattle.std.specs.BTreeMap.{is_at}
use Rattle.std.specs.Cmp.{IsTotalOrder, nat_cmp_total, then_total, on_total}
use Rattle.std.proofs.lemmas.Map.Lookups.{CmpEqualImpliesEq, exact_pairs, exact_unsigned}
use Rattle.std.proofs.lemmas.Cmp.{tied_itself}
use Rattle.ritas_base.specs.declared.slot.Slot.{Slot}

abbrev pub slot_cmp : Slot → Slot → Ordering
slot_cmp =
    then_cmp (on (λ s. s.class) nat_cmp)
    (then_cmp (on (λ s. s.a) nat_cmp)
    (then_cmp (on (λ s. s.attempt) nat_cmp)
    (then_cmp (on (λ s. s.bround) nat_cmp)
    (then_cmp (on (λ s. s.step) nat_cmp)
    (on (λ s. s.origin) nat_cmp)))))

-- the slots are one
abbrev pub is_slot : Slot → Slot → Bool
is_slot s q = is_at (slot_cmp s) q

pub slots_total : IsTotalOrder slot_cmp
slots_total =
    then_total (on_total (λ s. s.class) nat_cmp_total)
    (then_total (on_total (λ s. s.a) nat_cmp_total)
    (then_total (on_total (λ s. s.attempt) nat_cmp_total)
    (then_total (on_total (λ s. s.bround) nat_cmp_total)
    (then_total (on_total (λ s. s.step) nat_cmp_total)
    (on_total (λ s. s.origin) nat_cmp_total)))))

abbrev Two : Type 0
Two = ℕ × ℕ

abbrev Three : Type 0
Three = ℕ × Two

abbrev Four : Type 0
Four = ℕ × Three

abbrev Five : Type 0
Five = ℕ × Four

abbrev Six : Type 0
Six = ℕ × Five

abbrev cmp2 : Two → Two → Ordering
cmp2 x y = ordering_then (nat_cmp x.0 y.0) (nat_cmp x.1 y.1)

abbrev cmp3 : Three → Three → Ordering
cmp3 x y = ordering_then (nat_cmp x.0 y.0) (cmp2 x.1 y.1)

abbrev cmp4 : Four → Four → Ordering
cmp4 x y = ordering_then (nat_cmp x.0 y.0) (cmp3 x.1 y.1)

abbrev cmp5 : Five → Five → Ordering
cmp5 x y = ordering_then (nat_cmp x.0 y.0) (cmp4 x.1 y.1)

abbrev as_six : Slot → Six
as_six s = (s.class, (s.a, (s.attempt, (s.bround, (s.step, s.origin)))))

abbrev as_slot : Six → Slot
as_slot x = record { class = x.0; a = x.1.0; attempt = x.1.1.0; bround = x.1.1.1.0; step = x.1.1.1.1.0; origin = x.1.1.1.1.1 }

pub exact_slots : CmpEqualImpliesEq slot_cmp
exact_slots a b h = ap as_slot
    (exact_pairs nat_cmp cmp5 exact_unsigned
    (exact_pairs nat_cmp cmp4 exact_unsigned
    (exact_pairs nat_cmp cmp3 exact_unsigned
    (exact_pairs nat_cmp cmp2 exact_unsigned
    (exact_pairs nat_cmp nat_cmp exact_unsigned exact_unsigned)))) (as_six a) (as_six b) h)

pub equal_from : (o : Ordering) → is_eq o ≡ true → o ≡ Equal
equal_from Less h = cc
equal_from Equal h = refl
equal_from Greater h = cc

-- one slot
pub same_slot : (s q : Slot) → is_slot s q ≡ true → s ≡ q
same_slot s q h = exact_slots s q (equal_from (slot_cmp s q) h)

pub slot_itself : (s : Slot) → is_slot s s ≡ true
slot_itself s = ap is_eq (tied_itself slots_total s)
