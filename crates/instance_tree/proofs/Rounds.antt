-- The slots of rounds, which stand in a map of their own once more.
use Rattle.std.specs.Prelude.{◌≡◌, ℕ, Bool, true, false, ◌==◌, ◌&&◌, cond, Option, Some, None, nat_lt, refl}
use Rattle.std.proofs.Common.{sym, ◌∙◌, ap, subst}
use Rattle.std.specs.Ordering.{eq_by_cmp}
use Rattle.std.specs.FinMap.{empty, get, insert, remove, same_map, get-empty, get-insert, get-remove}
use Rattle.std.proofs.lemmas.Bool.{eqb-true}
use Rattle.ritas_base.specs.declared.slot.Slot.{Slot}
use Rattle.ritas_base.specs.Slots.{within}
use Rattle.ritas_base.specs.SlotOrder.{slot_cmp, slots_total, exact_slots, same_slot}
use Rattle.instance_tree.specs.SlotMaps.{SlotMap, is_command_below}
use Rattle.instance_tree.specs.Keys.{AreOfRounds}
use Rattle.instance_tree.proofs.Owned.{and_both}

abbrev is_at : Slot → Slot → Bool
is_at q s = eq_by_cmp slot_cmp q s

abbrev of_round : Slot → Bool
of_round s = within 2 5 s.class

none_if : (b : Bool) (r o : Option ℕ) → r ≡ None → o ≡ None → r ≡ cond b o None
none_if true r o none nothing = none ∙ sym nothing
none_if false r o none nothing = none

pub rounds_empty : (slots rounds : SlotMap ℕ) → slots ≡ empty → rounds ≡ empty → AreOfRounds slots rounds
rounds_empty slots rounds none nothing s =
    none_if (of_round s) (get rounds s) (get slots s) (ap (λ (m : SlotMap ℕ). get m s) nothing ∙ get-empty slot_cmp s)
    (ap (λ (m : SlotMap ℕ). get m s) none ∙ get-empty slot_cmp s)

has_round : (b : Bool) (o : Option ℕ) (key : ℕ) → cond b o None ≡ Some key → (b ≡ true) × (o ≡ Some key)
has_round true o key had = (refl, had)
has_round false o key had = absurd cc

-- what stands in the second is a slot of a round, and stands in the first
pub had_round : (slots rounds : SlotMap ℕ) (s : Slot) (key : ℕ) → AreOfRounds slots rounds → get rounds s ≡ Some key → (of_round s ≡ true) × (get slots s ≡ Some key)
had_round slots rounds s key tied had = has_round (of_round s) (get slots s) key (sym (tied s) ∙ had)

-- ---- one slot changes

in_step : (same is : Bool) (v o r : Option ℕ) → r ≡ cond is o None → (same ≡ true → is ≡ true) → cond same v r ≡ cond is (cond same v o) None
in_step true true v o r tied h = refl
in_step true false v o r tied h = let never = h refl in absurd cc
in_step false is v o r tied h = tied

out_of_step : (same is : Bool) (v o r : Option ℕ) → r ≡ cond is o None → (same ≡ true → is ≡ false) → r ≡ cond is (cond same v o) None
out_of_step true true v o r tied h = let never = h refl in absurd cc
out_of_step true false v o r tied h = tied
out_of_step false is v o r tied h = tied

module _ (slots rounds : SlotMap ℕ) (s : Slot) (tied : AreOfRounds slots rounds) where
  as_of : (b : Bool) → of_round s ≡ b → (q : Slot) → is_at q s ≡ true → of_round q ≡ b
  as_of b is q same = ap of_round (same_slot q s same) ∙ is

  pub both_inserted : (slots2 rounds2 : SlotMap ℕ) (key : ℕ) → of_round s ≡ true → slots2 ≡ insert slots s key → rounds2 ≡ insert rounds s key
      → AreOfRounds slots2 rounds2
  both_inserted slots2 rounds2 key is first second q =
      ap (λ (m : SlotMap ℕ). get m q) second
      ∙ (get-insert slots_total rounds s key q
      ∙ (in_step (is_at q s) (of_round q) (Some key) (get slots q) (get rounds q) (tied q) (as_of true is q)
      ∙ ap (λ (o : Option ℕ). cond (of_round q) o None) (sym (ap (λ (m : SlotMap ℕ). get m q) first ∙ get-insert slots_total slots s key q))))

  pub first_inserted : (slots2 : SlotMap ℕ) (key : ℕ) → of_round s ≡ false → slots2 ≡ insert slots s key → AreOfRounds slots2 rounds
  first_inserted slots2 key is first q =
      out_of_step (is_at q s) (of_round q) (Some key) (get slots q) (get rounds q) (tied q) (as_of false is q)
      ∙ ap (λ (o : Option ℕ). cond (of_round q) o None) (sym (ap (λ (m : SlotMap ℕ). get m q) first ∙ get-insert slots_total slots s key q))

  pub both_removed : (slots2 rounds2 : SlotMap ℕ) → of_round s ≡ true → slots2 ≡ remove slots s → rounds2 ≡ remove rounds s → AreOfRounds slots2 rounds2
  both_removed slots2 rounds2 is first second q =
      ap (λ (m : SlotMap ℕ). get m q) second
      ∙ (get-remove slots_total rounds s q
      ∙ (in_step (is_at q s) (of_round q) None (get slots q) (get rounds q) (tied q) (as_of true is q)
      ∙ ap (λ (o : Option ℕ). cond (of_round q) o None) (sym (ap (λ (m : SlotMap ℕ). get m q) first ∙ get-remove slots_total slots s q))))

  pub first_removed : (slots2 : SlotMap ℕ) → of_round s ≡ false → slots2 ≡ remove slots s → AreOfRounds slots2 rounds
  first_removed slots2 is first q =
      out_of_step (is_at q s) (of_round q) None (get slots q) (get rounds q) (tied q) (as_of false is q)
      ∙ ap (λ (o : Option ℕ). cond (of_round q) o None) (sym (ap (λ (m : SlotMap ℕ). get m q) first ∙ get-remove slots_total slots s q))

undone : (same : Bool) (key : ℕ) (o : Option ℕ) → (same ≡ true → o ≡ None) → cond same None (cond same (Some key) o) ≡ o
undone true key o h = sym (h refl)
undone false key o h = refl

-- a slot that had no key is given one, and it is taken out again
pub inserted_removed : (slots slots2 slots3 : SlotMap ℕ) (s : Slot) (key : ℕ) → get slots s ≡ None → slots2 ≡ insert slots s key → slots3 ≡ remove slots2 s
    → slots3 ≡ slots
inserted_removed slots slots2 slots3 s key none first second = same_map slots_total exact_slots _ _ (λ q.
    ap (λ (m : SlotMap ℕ). get m q) second
    ∙ (get-remove slots_total slots2 s q
    ∙ (ap (λ (o : Option ℕ). cond (is_at q s) None o) (ap (λ (m : SlotMap ℕ). get m q) first ∙ get-insert slots_total slots s key q)
    ∙ undone (is_at q s) key (get slots q) (λ same. ap (λ (x : Slot). get slots x) (same_slot q s same) ∙ none))))

-- maps that are as they were
pub rounds_same : (slots rounds slots2 rounds2 : SlotMap ℕ) → AreOfRounds slots rounds → slots2 ≡ slots → rounds2 ≡ rounds → AreOfRounds slots2 rounds2
rounds_same slots rounds slots2 rounds2 tied first second =
    subst (λ (m : SlotMap ℕ). AreOfRounds m rounds2) (sym first) (subst (λ (m : SlotMap ℕ). AreOfRounds slots m) (sym second) tied)

-- a command is no slot of a round
pub no_round_of_command : (origin below : ℕ) (s : Slot) → is_command_below origin below s ≡ true → of_round s ≡ false
no_round_of_command origin below s passes =
    let parts = and_both (s.class == 1 && s.origin == origin) (nat_lt s.a below) passes in
    ap (within 2 5) (eqb-true _ _ (and_both (s.class == 1) (s.origin == origin) parts.0).0)
