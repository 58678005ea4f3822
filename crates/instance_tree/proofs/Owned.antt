-- The slots of one origin, and of all.
use Rattle.std.specs.Prelude.{◌≡◌, ◌≢◌, ℕ, ◌<◌, ◌≤◌, Bool, true, false, ◌==◌, ◌&&◌, cond, List, ◌∷◌, Option, Some, None, length, nat_lt, refl}
use Rattle.std.proofs.Common.{sym, ◌∙◌, ap, subst, arith, suc, set}
use Rattle.std.specs.FinMap.{get, insert, remove}
use Rattle.std.proofs.lemmas.Bool.{eqb-true, eq-eqb, ne_eqb}
use Rattle.ritas_base.specs.declared.slot.Slot.{Slot}
use Rattle.instance_tree.specs.SlotMaps.{SlotMap, is_numbered_below, is_numbered_command, is_command_below}
use Rattle.instance_tree.specs.Keys.{KeyedSlot, TakesSpot, TakesSpotOut}
use Rattle.instance_tree.specs.declared.span.Span.{Span}
use Rattle.instance_tree.specs.Places.{map_at, joined_map, ArePlaced, ChangesAt, cell_of, place_in_origin}
use Rattle.instance_tree.proofs.Joined.{changes_to, set_changes, set_others, first_changes, found_there, joined_takes, joined_keeps, placed_taken, nothing_past}

pub and_both : (a b : Bool) → (a && b) ≡ true → (a ≡ true) × (b ≡ true)
and_both true b h = (refl, h)
and_both false b h = absurd cc

pub both_and : (a b : Bool) → a ≡ true → b ≡ true → (a && b) ≡ true
both_and true b h k = k
both_and false b h k = absurd cc

-- ---- the places of one origin's slots

pub command_place : (span : Span) (s : Slot) → s.class ≡ 1 → place_in_origin span s ≡ 0
command_place span s is = ap (λ (b : Bool). cond b 0 (suc (cell_of span s))) (eq-eqb s.class 1 is)

pub other_place : (span : Span) (s : Slot) (i : ℕ) → s.class ≢ 1 → i ≡ cell_of span s → place_in_origin span s ≡ suc i
other_place span s i other is = ap (λ (b : Bool). cond b 0 (suc (cell_of span s))) (ne_eqb s.class 1 other) ∙ ap suc (sym is)

first_only : (b : Bool) (i : ℕ) → cond b 0 (suc i) ≡ 0 → b ≡ true
first_only true i h = refl
first_only false i h = absurd (omega (arith, h))

-- what stands in the first place is of a command
pub first_is_command : (span : Span) (s : Slot) → place_in_origin span s ≡ 0 → (s.class == 1) ≡ true
first_is_command span s at = first_only (s.class == 1) (cell_of span s) at

pub commands_take : (span : Span) (below : ℕ) (m after : SlotMap ℕ) (ms : List (SlotMap ℕ)) (whole : SlotMap ℕ) (r : Option KeyedSlot) → ArePlaced (place_in_origin span) (m ∷ ms)
    → joined_map (m ∷ ms) ≡ whole → TakesSpotOut (is_numbered_below below) m after r → TakesSpotOut (is_numbered_command below) whole (joined_map (after ∷ ms)) r
commands_take span below m after ms whole (Some spot) placed is takes =
    let command = first_is_command span spot.0 (placed 0 spot.0 spot.1 takes.had) in
    subst (λ (n : SlotMap ℕ). TakesSpot (is_numbered_command below) n (joined_map (after ∷ ms)) spot) is
    (joined_takes (place_in_origin span) (is_numbered_below below) (is_numbered_command below) (m ∷ ms) (after ∷ ms) 0 spot placed takes (first_changes m after ms).others
    (both_and (spot.0.class == 1) (nat_lt spot.0.a below) command takes.passes))
commands_take span below m after ms whole None placed is takes = (
  joined_keeps (place_in_origin span) (m ∷ ms) (after ∷ ms) 0 placed takes.0 (first_changes m after ms).others ∙ is,
  λ s passes.
      let parts = and_both (s.class == 1) (nat_lt s.a below) passes in
      sym (found_there (place_in_origin span) (m ∷ ms) whole 0 s placed is (command_place span s (eqb-true _ _ parts.0))) ∙ takes.1 s parts.1,
)

pub commands_placed : (span : Span) (below : ℕ) (m after : SlotMap ℕ) (ms : List (SlotMap ℕ)) (r : Option KeyedSlot) → ArePlaced (place_in_origin span) (m ∷ ms)
    → TakesSpotOut (is_numbered_below below) m after r → ArePlaced (place_in_origin span) (after ∷ ms)
commands_placed span below m after ms r placed takes =
    placed_taken (place_in_origin span) (is_numbered_below below) (m ∷ ms) (after ∷ ms) 0 r placed takes (first_changes m after ms).others

-- ---- all origins

abbrev pub origin_of : Slot → ℕ
origin_of s = s.origin

pub set_inserted : (ms : List (SlotMap ℕ)) (i : ℕ) (m after : SlotMap ℕ) (s : Slot) (key : ℕ) → i < length ms → m ≡ map_at ms i → after ≡ insert m s key
    → ChangesAt ms (set ms i after) i (insert (map_at ms i) s key)
set_inserted ms i m after s key within read is =
    changes_to ms (set ms i after) i after _ (set_changes ms i after within) (is ∙ ap (λ (n : SlotMap ℕ). insert n s key) read)

pub set_removed : (ms : List (SlotMap ℕ)) (i : ℕ) (m after : SlotMap ℕ) (s : Slot) → i < length ms → m ≡ map_at ms i → after ≡ remove m s
    → ChangesAt ms (set ms i after) i (remove (map_at ms i) s)
set_removed ms i m after s within read is =
    changes_to ms (set ms i after) i after _ (set_changes ms i after within) (is ∙ ap (λ (n : SlotMap ℕ). remove n s) read)

module _ (origin below : ℕ) (ms : List (SlotMap ℕ)) (m after whole : SlotMap ℕ) (placed : ArePlaced origin_of ms) (is : joined_map ms ≡ whole)
    (within : origin < length ms) (read : m ≡ map_at ms origin) where
  at_place : (r : Option KeyedSlot) → TakesSpotOut (is_numbered_command below) m after r
      → TakesSpotOut (is_numbered_command below) (map_at ms origin) (map_at (set ms origin after) origin) r
  at_place r takes =
      subst (λ (n : SlotMap ℕ). TakesSpotOut (is_numbered_command below) (map_at ms origin) n r) (sym (set_changes ms origin after within).changed)
      (subst (λ (n : SlotMap ℕ). TakesSpotOut (is_numbered_command below) n after r) read takes)

  pub origin_placed : (r : Option KeyedSlot) → TakesSpotOut (is_numbered_command below) m after r → ArePlaced origin_of (set ms origin after)
  origin_placed r takes =
      placed_taken origin_of (is_numbered_command below) ms (set ms origin after) origin r placed (at_place r takes) (set_others ms origin after)

  origin_takes_one : (spot : KeyedSlot) → TakesSpot (is_numbered_command below) (map_at ms origin) (map_at (set ms origin after) origin) spot
      → TakesSpot (is_command_below origin below) whole (joined_map (set ms origin after)) spot
  origin_takes_one spot takes =
      let parts = and_both (spot.0.class == 1) (nat_lt spot.0.a below) takes.passes in
      let own : (spot.0.origin == origin) ≡ true = eq-eqb _ _ (placed origin spot.0 spot.1 takes.had) in
      subst (λ (n : SlotMap ℕ). TakesSpot (is_command_below origin below) n (joined_map (set ms origin after)) spot) is
      (joined_takes origin_of (is_numbered_command below) (is_command_below origin below) ms (set ms origin after) origin spot placed takes
      (set_others ms origin after)
      (both_and (spot.0.class == 1 && spot.0.origin == origin) (nat_lt spot.0.a below)
      (both_and (spot.0.class == 1) (spot.0.origin == origin) parts.0 own) parts.1))

  pub origin_takes : (r : Option KeyedSlot) → TakesSpotOut (is_numbered_command below) m after r
      → TakesSpotOut (is_command_below origin below) whole (joined_map (set ms origin after)) r
  origin_takes (Some spot) takes = origin_takes_one spot (at_place (Some spot) takes)
  origin_takes None takes =
      let here = at_place None takes in (
        joined_keeps origin_of ms (set ms origin after) origin placed here.0 (set_others ms origin after) ∙ is,
        λ s passes.
            let parts = and_both (s.class == 1 && s.origin == origin) (nat_lt s.a below) passes in
            let own = and_both (s.class == 1) (s.origin == origin) parts.0 in
            sym (found_there origin_of ms whole origin s placed is (eqb-true _ _ own.1))
            ∙ here.1 s (both_and (s.class == 1) (nat_lt s.a below) own.0 parts.1),
      )

-- an origin past the end has no slots
pub origin_absent : (origin below : ℕ) (ms : List (SlotMap ℕ)) (whole : SlotMap ℕ) → ArePlaced origin_of ms → joined_map ms ≡ whole → length ms ≤ origin
    → (s : Slot) → is_command_below origin below s ≡ true → get whole s ≡ None
origin_absent origin below ms whole placed is past s passes =
    let parts = and_both (s.class == 1 && s.origin == origin) (nat_lt s.a below) passes in
    let own = and_both (s.class == 1) (s.origin == origin) parts.0 in
    sym (found_there origin_of ms whole origin s placed is (eqb-true _ _ own.1)) ∙ nothing_past ms origin s past
