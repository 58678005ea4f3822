-- A ring's slots, and the walk that looks for the least.
use Rattle.std.specs.Prelude.{◌≡◌, ◌≢◌, ℕ, ◌+◌, ◌-◌, ◌<◌, ◌≤◌, ◌%◌, true, List, [], Option, Some, None, nat_lt, nat_eq}
use Rattle.std.proofs.Common.{sym, ◌∙◌, ap, subst, inl, inr, arith}
use Rattle.std.specs.FinMap.{get, insert, get-empty}
use Rattle.std.proofs.lemmas.Bool.{cases_Bool, ltb-true, ltb-false, lt-ltb, eqb-true, eqb-false}
use Rattle.std.proofs.Math.Nat.{add-mod-mod, mod-le}
use Rattle.ritas_base.specs.declared.slot.Slot.{Slot}
use Rattle.ritas_base.specs.SlotOrder.{slot_cmp}
use Rattle.instance_tree.specs.SlotMaps.{SlotMap, is_numbered_below}
use Rattle.instance_tree.specs.Keys.{KeyedSlot, IsRing, TakesSpot, TakesSpotOut}
use Rattle.instance_tree.specs.Places.{map_at, joined_map, AreSame, AreOthersSame, ChangesAt, place_in_ring}
use Rattle.instance_tree.proofs.Joined.{get_at_place, placed_empty, placed_same, joined_same, placed_inserted, joined_inserted, placed_taken, joined_takes, joined_keeps, inserted_one, removed_one}

-- ---- what a call leaves

pub ring_same : (width low : ℕ) (old new : List (SlotMap ℕ)) → IsRing width low old → AreSame old new → IsRing width low new
ring_same width low old new ring same = record {
  wide = ring.wide;
  placed = placed_same (place_in_ring width) old new ring.placed same;
  least = λ s key had. ring.least s key (ap (λ (m : SlotMap ℕ). get m s) (sym (joined_same (place_in_ring width) old new ring.placed same)) ∙ had);
}

pub ring_inserted : (width low after : ℕ) (old new : List (SlotMap ℕ)) (i : ℕ) (s : Slot) (key : ℕ) → IsRing width low old → place_in_ring width s ≡ i
    → ChangesAt old new i (insert (map_at old i) s key) → after ≤ low → after ≤ s.a → IsRing width after new
ring_inserted width low after old new i s key ring at changes less least = record {
  wide = ring.wide;
  placed = placed_inserted (place_in_ring width) old new i s key ring.placed at changes;
  least = λ q k had.
      elim (inserted_one (joined_map old) q s key k (sym (ap (λ (m : SlotMap ℕ). get m q) (joined_inserted (place_in_ring width) old new i s key ring.placed at changes)) ∙ had)) [
        | inl same ↦ subst (λ (x : Slot). after ≤ x.a) (sym same) least
        | inr older ↦ let low_there = ring.least q k older in omega arith
      ];
}

pub ring_taken : (width low bound : ℕ) (old new : List (SlotMap ℕ)) (i : ℕ) (spot : KeyedSlot) → IsRing width low old
    → TakesSpot (is_numbered_below bound) (map_at old i) (map_at new i) spot → AreOthersSame old new i → IsRing width low new
ring_taken width low bound old new i spot ring takes others = record {
  wide = ring.wide;
  placed = placed_taken (place_in_ring width) (is_numbered_below bound) old new i (Some spot) ring.placed takes others;
  least = λ q k had.
      ring.least q k (removed_one (joined_map old) q spot.0 k
      (sym (ap (λ (m : SlotMap ℕ). get m q) (joined_takes (place_in_ring width) (is_numbered_below bound) (is_numbered_below bound) old new i spot ring.placed takes others takes.passes).taken) ∙ had));
}

-- ---- the walk

-- so many numbers were looked at from the start on, and no slot of their places is below the bound
pub record IsWalked (whole : SlotMap ℕ) (width start bound steps low : ℕ) (buckets : List (SlotMap ℕ)) : Type 0 where
  pub same : joined_map buckets ≡ whole
  pub ring : IsRing width low buckets
  pub at : low ≡ start + steps
  pub behind : (s : Slot) (key : ℕ) → get (joined_map buckets) s ≡ Some key → s.a < bound → steps ≤ (s.a - start) % width

-- a number that is so far from the start has the place of that step
place_of_step : (width start x n : ℕ) → start ≤ x → (x - start) % width ≡ n → x % width ≡ (start + n) % width
place_of_step width start x n from is =
    let far : x ≡ start + (x - start) = omega arith in
    ap (λ (y : ℕ). y % width) far ∙ (sym (add-mod-mod start (x - start) width) ∙ ap (λ (y : ℕ). (start + y) % width) is)

none_has : (o : Option ℕ) (key : ℕ) → o ≡ Some key → o ≡ None → ⊥
none_has o key some none = let both = sym some ∙ none in absurd cc

module _ (whole : SlotMap ℕ) (width start bound steps low : ℕ) (old : List (SlotMap ℕ)) (walked : IsWalked whole width start bound steps low old)
    (none : (s : Slot) → is_numbered_below bound s ≡ true → get (map_at old (low % width)) s ≡ None) where
  -- a slot below the bound has no place that was looked at
  further : (s : Slot) (key : ℕ) → get (joined_map old) s ≡ Some key → s.a < bound → steps + 1 ≤ (s.a - start) % width
  further s key had below =
      let so_far = walked.behind s key had below in
      let from : low ≤ s.a = walked.ring.least s key had in
      let start_is : low ≡ start + steps = walked.at in
      elim (cases_Bool (nat_eq ((s.a - start) % width) steps)) [
        | inl here ↦
            let place : place_in_ring width s ≡ low % width =
            place_of_step width start s.a steps (omega arith) (eqb-true _ _ here) ∙ ap (λ (y : ℕ). y % width) (sym start_is) in
            absurd (none_has (get (map_at old (low % width)) s) key
            (sym (get_at_place (place_in_ring width) old (low % width) walked.ring.placed s place) ∙ had) (none s (lt-ltb _ _ below)))
        | inr other ↦ let apart : (s.a - start) % width ≢ steps = eqb-false _ _ other in omega arith
      ]

  later : low < bound → (s : Slot) (key : ℕ) → get (joined_map old) s ≡ Some key → low + 1 ≤ s.a
  later less s key had =
      elim (cases_Bool (nat_lt s.a bound)) [
        | inl below ↦
            let far = further s key had (ltb-true _ _ below) in
            let start_is : low ≡ start + steps = walked.at in
            let most : (s.a - start) % width ≤ s.a - start = mod-le (s.a - start) width in
            omega arith
        | inr above ↦ let from : bound ≤ s.a = ltb-false _ _ above in omega arith
      ]

  pub walk_goes_on : (new : List (SlotMap ℕ)) → low < bound → map_at new (low % width) ≡ map_at old (low % width) → AreOthersSame old new (low % width)
      → IsWalked whole width start bound (steps + 1) (low + 1) new
  walk_goes_on new less here others =
      let keeps : joined_map new ≡ joined_map old = joined_keeps (place_in_ring width) old new (low % width) walked.ring.placed here others in
      let older : (s : Slot) (key : ℕ) → get (joined_map new) s ≡ Some key → get (joined_map old) s ≡ Some key =
      λ s key had. ap (λ (m : SlotMap ℕ). get m s) (sym keeps) ∙ had in
      let start_is : low ≡ start + steps = walked.at in
      record {
        same = keeps ∙ walked.same;
        ring = record {
          wide = walked.ring.wide;
          placed = placed_taken (place_in_ring width) (is_numbered_below bound) old new (low % width) None walked.ring.placed (here, none) others;
          least = λ s key had. later less s key (older s key had);
        };
        at = omega arith;
        behind = λ s key had below. further s key (older s key had) below;
      }

pub ring_empty : (width low : ℕ) (buckets : List (SlotMap ℕ)) → 0 < width → buckets ≡ [] → IsRing width low buckets
ring_empty width low buckets wide none = record {
  wide = wide;
  placed = placed_empty (place_in_ring width) buckets none;
  least = λ s key had. absurd (none_has (get (joined_map buckets) s) key had (ap (λ (ms : List (SlotMap ℕ)). get (joined_map ms) s) none ∙ get-empty slot_cmp s));
}

-- a step of the walk, from what the call says of the bucket at its place
pub walk_step : (whole : SlotMap ℕ) (width start bound steps low i : ℕ) (old new : List (SlotMap ℕ)) (r : Option KeyedSlot) → IsWalked whole width start bound steps low old
    → low < bound → i ≡ low % width → r ≡ None → TakesSpotOut (is_numbered_below bound) (map_at old i) (map_at new i) r → AreOthersSame old new i
    → IsWalked whole width start bound (steps + 1) (low + 1) new
walk_step whole width start bound steps low i old new r walked less at none takes others =
    let gone = is_numbered_below bound in
    let nothing = subst (λ (o : Option KeyedSlot). TakesSpotOut gone (map_at old i) (map_at new i) o) none takes in
    let there = subst (λ (j : ℕ). TakesSpotOut gone (map_at old j) (map_at new j) None) at nothing in
    walk_goes_on whole width start bound steps low old walked there.1 new less there.0 (subst (λ (j : ℕ). AreOthersSame old new j) at others)

-- the walk found a slot
pub walk_takes : (whole : SlotMap ℕ) (width start bound steps low i : ℕ) (old new : List (SlotMap ℕ)) (spot : KeyedSlot) → IsWalked whole width start bound steps low old
    → TakesSpot (is_numbered_below bound) (map_at old i) (map_at new i) spot → AreOthersSame old new i → TakesSpot (is_numbered_below bound) whole (joined_map new) spot
walk_takes whole width start bound steps low i old new spot walked takes others =
    let gone = is_numbered_below bound in
    subst (λ (m : SlotMap ℕ). TakesSpot gone m (joined_map new) spot) walked.same
    (joined_takes (place_in_ring width) gone gone old new i spot walked.ring.placed takes others takes.passes)
