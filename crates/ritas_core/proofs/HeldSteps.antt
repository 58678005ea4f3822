-- What is open and what is past among held items that may be given.
use Rattle.std.proofs.Common.{◌≡◌, Bool, true, false, not, cond, ◌&&◌, ◌||◌, Option, Some, None, List, [], ◌∷◌, ◌++◌, map, refl, sym, ◌∙◌, ap}
use Rattle.std.specs.FinMap.{get}
use Rattle.std.specs.Option.{is_some}
use Rattle.std.proofs.lemmas.Bool.{lt-ltb, not-true}
use Rattle.ritas_base.specs.declared.item.Item.{Item}
use Rattle.ritas_base.specs.declared.item.Kind.TheVariants.{Column}
use Rattle.ritas_base.specs.Messages.{kind_eq}
use Rattle.ritas_base.specs.History.{Call}
use Rattle.ooc_buffers.specs.Lists.{HeldItem, passing, failing, released, remaining}
use Rattle.ritas_core.specs.declared.layers.Layers.{Layers}
use Rattle.ritas_core.specs.Rules.{Rules, seat_of, place_at}
use Rattle.ritas_core.specs.CastCalls.{is_ready_in}
use Rattle.ritas_core.specs.Parts.{Parts}
use Rattle.ritas_core.specs.Checks.{is_item_past, is_item_ahead, is_open, IsGood}
use Rattle.ritas_core.specs.Stands.{Meaning, rules_of, LayersStand, AreGoodKept, AreGoodLists}
use Rattle.ritas_core.specs.LayerCalls.{is_past_in, is_let_in, is_open_in}
use Rattle.ritas_core.specs.Laws.{LayerLaws}
use Rattle.ritas_core.proofs.TestLaws.{left_true}
use Rattle.ritas_core.proofs.GoodSlots.{slot_origin, kind_fits}
use Rattle.ritas_core.proofs.Lookup.{ready_always}
use Rattle.ritas_core.proofs.DropSteps.{not_dropped}

-- ---- tests that agree on good items

module _ (r : Rules) (s t : Item → Bool) (agree : (x : Item) → IsGood r x → s x ≡ t x) where
  passing_same : (kept : List HeldItem) → AreGoodKept r kept → passing s kept ≡ passing t kept
  passing_same [] good = refl
  passing_same (x ∷ kept) good =
      ap (λ (b : Bool). cond b (x ∷ passing s kept) (passing s kept)) (agree x.item good.0)
      ∙ ap (λ (xs : List HeldItem). cond (t x.item) (x ∷ xs) xs) (passing_same kept good.1)

  failing_same : (kept : List HeldItem) → AreGoodKept r kept → failing s kept ≡ failing t kept
  failing_same [] good = refl
  failing_same (x ∷ kept) good =
      ap (λ (b : Bool). cond (not b) (x ∷ failing s kept) (failing s kept)) (agree x.item good.0)
      ∙ ap (λ (xs : List HeldItem). cond (not (t x.item)) (x ∷ xs) xs) (failing_same kept good.1)

  pub released_same : (held : List (List HeldItem)) → AreGoodLists r held → released s held ≡ released t held
  released_same [] good = refl
  released_same (kept ∷ held) good =
      ap (λ (xs : List HeldItem). map (λ k. k.item) xs ++ released s held) (passing_same kept good.0)
      ∙ ap (λ (xs : List Item). map (λ k. k.item) (passing t kept) ++ xs) (released_same held good.1)

  pub remaining_same : (held : List (List HeldItem)) → AreGoodLists r held → remaining s held ≡ remaining t held
  remaining_same [] good = refl
  remaining_same (kept ∷ held) good =
      ap (λ (xs : List HeldItem). xs ∷ remaining s held) (failing_same kept good.0)
      ∙ ap (λ (xs : List (List HeldItem)). failing t kept ∷ xs) (remaining_same held good.1)

-- ---- one test after another
failing_more : (a b : Bool) (x : HeldItem) (u v w : List HeldItem) → v ≡ w → u ≡ w →
    cond (not a) (cond (not b) (x ∷ v) v) v ≡ cond (not (a || b)) (x ∷ w) w
failing_more true b x u v w e f = e
failing_more false true x u v w e f = e
failing_more false false x u v w e f = ap (λ (l : List HeldItem). x ∷ l) e

failing_cond : (a : Bool) (s : Item → Bool) (x : HeldItem) (xs : List HeldItem) →
    failing s (cond a (x ∷ xs) xs) ≡ cond a (cond (not (s x.item)) (x ∷ failing s xs) (failing s xs)) (failing s xs)
failing_cond true s x xs = refl
failing_cond false s x xs = refl

failing_twice : (first second : Item → Bool) (kept : List HeldItem) →
    failing second (failing first kept) ≡ failing (λ x. first x || second x) kept
failing_twice first second [] = refl
failing_twice first second (x ∷ kept) =
    failing_cond (not (first x.item)) second x (failing first kept)
    ∙ failing_more (first x.item) (second x.item) x (failing second (failing first kept)) (failing second (failing first kept))
    (failing (λ y. first y || second y) kept) (failing_twice first second kept) (failing_twice first second kept)

pub remaining_twice : (first second : Item → Bool) (held : List (List HeldItem)) →
    remaining second (remaining first held) ≡ remaining (λ x. first x || second x) held
remaining_twice first second [] = refl
remaining_twice first second (kept ∷ held) =
    ap (λ (xs : List HeldItem). xs ∷ remaining second (remaining first held)) (failing_twice first second kept)
    ∙ ap (λ (xs : List (List HeldItem)). failing (λ x. first x || second x) kept ∷ xs) (remaining_twice first second held)

-- ---- the tests of the layers
and_true : (a b : Bool) → a ≡ true → (a && b) ≡ b
and_true true b e = refl
and_true false b e = absurd (cc)

-- only a column isn't taken at any time, and none is where no broadcast is made
ready_by : {B : Type 0} (o : Option B) (column ready : Bool) → (column ≡ false → ready ≡ true) → (o ≡ None → ready ≡ not column) →
    (not column || (is_some o && ready)) ≡ ready
ready_by o false ready other none = sym (other refl)
ready_by None true ready other none = sym (none refl)
ready_by (Some b) true ready other none = refl

-- an open item's slot isn't past
pub open_near : (r : Rules) (p : Parts) (x : Item) → is_open r p x ≡ true → is_item_past r p x ≡ false
open_near r p x opened = not-true (is_item_past r p x) (left_true (not (is_item_past r p x)) _ opened)

-- what is asked only where a slot isn't past
pub where_near : (past ahead opens a b : Bool) → (past ≡ false → a ≡ b) → (not past && (not ahead && (opens && a))) ≡ (not past && (not ahead && (opens && b)))
where_near true ahead opens a b same = refl
where_near false ahead opens a b same = ap (λ (x : Bool). not ahead && (opens && x)) (same refl)

module _ {S E C T : Type 0} (m : Meaning S E C T) (layers : Layers S E C T) (laws : LayerLaws (rules_of m layers))
    (p : Parts) (stood : LayersStand m layers p) where
  is_ready : (x : Item) → IsGood (rules_of m layers) x → is_item_past (rules_of m layers) p x ≡ false →
      is_ready_in (rules_of m layers).casts layers.casts p.calls x
      ≡ ((rules_of m layers).casts.at_slot x.slot).ready (place_at (rules_of m layers).casts x.slot) (rules_of m layers).casts.tags (p.calls x.slot) x
  is_ready x good near =
      let c = (rules_of m layers).casts in
      ready_by (get layers.casts x.slot) (kind_eq x.kind Column) ((c.at_slot x.slot).ready (place_at c x.slot) c.tags (p.calls x.slot) x)
      (ready_always (c.at_slot x.slot) (laws.casts x.slot) (place_at c x.slot) c.tags (p.calls x.slot) x (kind_fits (rules_of m layers) laws x good.in_grammar))
      (λ none. ap (λ (h : List Call). (c.at_slot x.slot).ready (place_at c x.slot) c.tags h x) (stood.casts.unmade x.slot (not_dropped (rules_of m layers) p.words x.slot near) none)
      ∙ (laws.casts x.slot).ready_nothing (place_at c x.slot) c.tags x (kind_fits (rules_of m layers) laws x good.in_grammar))

  pub past_same : (x : Item) → IsGood (rules_of m layers) x → is_past_in m layers p x.slot ≡ is_item_past (rules_of m layers) p x
  past_same x good = and_true _ _ (lt-ltb x.slot.origin layers.params.n (slot_origin layers.params layers.mode x.slot good.in_grammar.slot))

  pub open_same : (x : Item) → IsGood (rules_of m layers) x → is_open_in m layers p x ≡ is_open (rules_of m layers) p x
  open_same x good =
      and_true _ _ (lt-ltb x.slot.origin layers.params.n (slot_origin layers.params layers.mode x.slot good.in_grammar.slot))
      ∙ where_near (is_item_past (rules_of m layers) p x) (is_item_ahead (rules_of m layers) p x) (m.service.opens (seat_of (rules_of m layers)) p.words x.slot) _ _
      (is_ready x good)

  -- an item of a slot that isn't past is let in where its slot is open and its broadcast can take it
  pub let_same : (x : Item) → IsGood (rules_of m layers) x → is_item_past (rules_of m layers) p x ≡ false → is_let_in m layers p x
      ≡ (m.service.opens (seat_of (rules_of m layers)) p.words x.slot
      && ((rules_of m layers).casts.at_slot x.slot).ready (place_at (rules_of m layers).casts x.slot) (rules_of m layers).casts.tags (p.calls x.slot) x)
  let_same x good near = ap (λ (b : Bool). m.service.opens (seat_of (rules_of m layers)) p.words x.slot && b) (is_ready x good near)
