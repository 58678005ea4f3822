-- What the tests that the layers make of an item tell of its verdict.
use Rattle.std.proofs.Common.{◌≡◌, ℕ, Bool, true, false, not, cond, ◌&&◌, ◌||◌, Some, None, List, refl, sym, ◌∙◌, ap}
use Rattle.std.proofs.Math.Dec.{eqb}
use Rattle.std.proofs.lemmas.Bool.{eqb-true, not-true}
use Rattle.ritas_base.specs.declared.item.Item.{Item}
use Rattle.ritas_base.specs.declared.item.Kind.TheVariants.{Column}
use Rattle.ritas_base.specs.Messages.{kind_eq}
use Rattle.layer_api.specs.Broadcast.{is_of_origin, is_for_origin, MayTake}
use Rattle.ooc_buffers.specs.Lists.{HeldItem, is_held, held_bytes}
use Rattle.ritas_core.specs.declared.fault.CoreFault.TheVariants as faults
use Rattle.ritas_core.specs.declared.verdict.Verdict.{Verdict}
use Rattle.ritas_core.specs.declared.verdict.Verdict.TheVariants as verdicts
use Rattle.ritas_core.specs.declared.layers.Layers.{Layers}
use Rattle.ritas_core.specs.Rules.{Rules, seat_of, place_at}
use Rattle.ritas_core.specs.Parts.{Parts}
use Rattle.ritas_core.specs.Checks.{mark_of, is_item_past, is_item_ahead, is_open, is_taken_again, is_repeat, is_found, has_room, verdict_on, IsGood}
use Rattle.ritas_core.specs.Stands.{Meaning, rules_of, LayersStand}
use Rattle.ritas_core.specs.LayerCalls.{is_let_in}
use Rattle.ritas_core.specs.Judging.{inside_verdict, window_verdict, unless_fault, judged_in}
use Rattle.ritas_core.specs.CoreCalls.{IsToTake, Judged}
use Rattle.ritas_core.specs.Laws.{LayerLaws}
use Rattle.ritas_core.proofs.TestLaws.{left_true, right_true}
use Rattle.ritas_core.proofs.GoodSlots.{kind_fits, payload_fits}
use Rattle.ritas_core.proofs.Verdicts.{is_not_origin, is_not_for, by_tests, verdict_by, is_found_by}
use Rattle.ritas_core.proofs.HeldSteps.{let_same}

-- the verdict of the tests of the layers alone
abbrev told_by : Bool → Bool → Bool → Bool → Bool → Bool → Bool → ℕ → Verdict
told_by not_origin not_for past ahead let_in column kept mark =
    unless_fault (cond not_origin (Some faults.NotOrigin) (cond not_for (Some faults.NotForMe) None))
    (window_verdict past ahead mark (inside_verdict let_in column kept))

-- and what it comes to
abbrev settled : Verdict → Bool → Bool → ℕ → Verdict
settled (verdicts.Refuse fault) again room bytes = verdicts.Refuse fault
settled verdicts.Again again room bytes = verdicts.Again
settled verdicts.Hold again room bytes = cond room verdicts.Hold (verdicts.Refuse (faults.HeldFull bytes))
settled verdicts.Take again room bytes = cond again verdicts.Again verdicts.Take

abbrev opens_by : Bool → Bool → Bool → Bool
opens_by past ahead let_in = not past && (not ahead && let_in)

opens_near : (past ahead a b : Bool) → (past ≡ false → a ≡ b) → opens_by past ahead a ≡ opens_by past ahead b
opens_near true ahead a b same = refl
opens_near false ahead a b same = ap (λ (x : Bool). not ahead && x) (same refl)

abbrev repeats_by : Bool → Bool → Bool → Bool → Bool
repeats_by opened again column kept = cond opened (again || (not column && kept)) kept

-- where it isn't past, a repeat is what is looked up
looked_up : (a b c d again found opened room : Bool) (mark bytes : ℕ) → (c ≡ false → again ≡ found) →
    by_tests a b c d again opened room mark bytes ≡ by_tests a b c d found opened room mark bytes
looked_up a b true d again found opened room mark bytes same = refl
looked_up a b false d again found opened room mark bytes same = ap (λ (x : Bool). by_tests a b false d x opened room mark bytes) (same refl)

settles : (a b c d e column kept again room : Bool) (mark bytes : ℕ) →
    by_tests a b c d (repeats_by (opens_by c d e) again column kept) (opens_by c d e) room mark bytes
    ≡ settled (told_by a b c d e column kept mark) again room bytes
settles true b c d e column kept again room mark bytes = refl
settles false true c d e column kept again room mark bytes = refl
settles false false true d e column kept again room mark bytes = refl
settles false false false true e column kept again room mark bytes = refl
settles false false false false true true kept true room mark bytes = refl
settles false false false false true true kept false room mark bytes = refl
settles false false false false true false true true room mark bytes = refl
settles false false false false true false true false room mark bytes = refl
settles false false false false true false false true room mark bytes = refl
settles false false false false true false false false room mark bytes = refl
settles false false false false false column true again room mark bytes = refl
settles false false false false false column false again room mark bytes = refl

record Untold (a b o : Bool) : Type 0 where
  origin : a ≡ false
  receiver : b ≡ false
  opened : o ≡ true

-- it is to be taken where it passes all tests
takes_by : (a b c d e column kept : Bool) (mark : ℕ) → told_by a b c d e column kept mark ≡ verdicts.Take → Untold a b (opens_by c d e)
takes_by true b c d e column kept mark h = absurd (cc)
takes_by false true c d e column kept mark h = absurd (cc)
takes_by false false true d e column kept mark h = absurd (cc)
takes_by false false false true e column kept mark h = absurd (cc)
takes_by false false false false true column kept mark h = record { origin = refl; receiver = refl; opened = refl }
takes_by false false false false false column true mark h = absurd (cc)
takes_by false false false false false column false mark h = absurd (cc)

from_neither : (a b : Bool) → (a && not b) ≡ false → a ≡ true → b ≡ true
from_neither true true h e = refl
from_neither true false h e = cc
from_neither false b h e = absurd (cc)

-- no test refuses for want of memory
pub never_mem : (a b c d again opened room : Bool) (mark bytes : ℕ) → by_tests a b c d again opened room mark bytes ≡ verdicts.Refuse faults.Mem → ⊥
never_mem true b c d again opened room mark bytes h = cc
never_mem false true c d again opened room mark bytes h = cc
never_mem false false true d again opened room mark bytes h = cc
never_mem false false false true again opened room mark bytes h = cc
never_mem false false false false true opened room mark bytes h = cc
never_mem false false false false false true room mark bytes h = cc
never_mem false false false false false false true mark bytes h = cc
never_mem false false false false false false false mark bytes h = cc

pub verdict_not_mem : (r : Rules) (p : Parts) (held : List (List HeldItem)) (item : Item) → verdict_on r p held item ≡ verdicts.Refuse faults.Mem → ⊥
verdict_not_mem r p held item h =
    never_mem (is_not_origin item) (is_not_for r.casts.me item) (is_item_past r p item) (is_item_ahead r p item) _ _ _ _ _
    (sym (verdict_by r p held item _ _ _ _ _ _ _ refl refl refl refl refl refl refl) ∙ h)

module _ {S E C T : Type 0} (m : Meaning S E C T) (layers : Layers S E C T) (laws : LayerLaws (rules_of m layers))
    (p : Parts) (stood : LayersStand m layers p) (held : List (List HeldItem)) (item : Item) (good : IsGood (rules_of m layers) item)
    (found : is_item_past (rules_of m layers) p item ≡ false → is_repeat (rules_of m layers) p held item ≡ is_found (rules_of m layers) p held item) where
  open_is : is_open (rules_of m layers) p item
      ≡ opens_by (is_item_past (rules_of m layers) p item) (is_item_ahead (rules_of m layers) p item) (is_let_in m layers p item)
  open_is = opens_near (is_item_past (rules_of m layers) p item) (is_item_ahead (rules_of m layers) p item) _ _
      (λ near. sym (let_same m layers laws p stood item good near))

  verdict_is : verdict_on (rules_of m layers) p held item
      ≡ settled (judged_in m layers p (is_held held item) item) (is_taken_again (rules_of m layers) p item) (has_room held item) (held_bytes held item.from)
  verdict_is =
      let r = rules_of m layers in
      verdict_by r p held item (is_not_origin item) (is_not_for r.casts.me item) (is_item_past r p item) (is_item_ahead r p item) (is_repeat r p held item) _
      (has_room held item) refl refl refl refl refl open_is refl
      ∙ looked_up (is_not_origin item) (is_not_for r.casts.me item) (is_item_past r p item) (is_item_ahead r p item) (is_repeat r p held item) _ _ (has_room held item)
      (mark_of r p item.slot) (held_bytes held item.from)
      (λ near. found near ∙ is_found_by r p held item _ (is_taken_again r p item) (kind_eq item.kind Column) (is_held held item) open_is refl refl refl)
      ∙ settles (is_not_origin item) (is_not_for r.casts.me item) (is_item_past r p item) (is_item_ahead r p item) (is_let_in m layers p item)
      (kind_eq item.kind Column) (is_held held item) (is_taken_again r p item) (has_room held item) (mark_of r p item.slot) (held_bytes held item.from)

  may_take : judged_in m layers p (is_held held item) item ≡ verdicts.Take →
      MayTake ((rules_of m layers).casts.at_slot item.slot) (place_at (rules_of m layers).casts item.slot) (rules_of m layers).casts.tags (p.calls item.slot) item
  may_take takes =
      let r = rules_of m layers in
      let told = takes_by (is_not_origin item) (is_not_for r.casts.me item) (is_item_past r p item) (is_item_ahead r p item) (is_let_in m layers p item)
      (kind_eq item.kind Column) (is_held held item) (mark_of r p item.slot) takes in
      let near = not-true (is_item_past r p item) (left_true (not (is_item_past r p item)) _ told.opened) in
      let let_in = right_true (not (is_item_ahead r p item)) _ (right_true (not (is_item_past r p item)) _ told.opened) in
      record {
        here = refl;
        kind = kind_fits r laws item good.in_grammar;
        sender = good.sender;
        origin = λ only. eqb-true item.from item.slot.origin (from_neither (is_of_origin item.kind) (eqb item.from item.slot.origin) told.origin only);
        receiver = λ only. eqb-true r.casts.me item.slot.origin (from_neither (is_for_origin item.kind) (eqb r.casts.me item.slot.origin) told.receiver only);
        payload = payload_fits r laws item good.in_grammar;
        in_time = right_true (m.service.opens (seat_of r) p.words item.slot) _ (sym (let_same m layers laws p stood item good near) ∙ let_in);
      }

  to_take : judged_in m layers p (is_held held item) item ≡ verdicts.Take → IsToTake (rules_of m layers) p held item
  to_take takes =
      let r = rules_of m layers in
      record {
        may = may_take takes;
        opened = open_is
            ∙ (takes_by (is_not_origin item) (is_not_for r.casts.me item) (is_item_past r p item) (is_item_ahead r p item) (is_let_in m layers p item)
            (kind_eq item.kind Column) (is_held held item) (mark_of r p item.slot) takes).opened;
        verdict = verdict_is ∙ ap (λ (v : Verdict). settled v (is_taken_again r p item) (has_room held item) (held_bytes held item.from)) takes;
      }

  settled_by : (v : Verdict) → judged_in m layers p (is_held held item) item ≡ v → verdict_on (rules_of m layers) p held item
      ≡ settled v (is_taken_again (rules_of m layers) p item) (has_room held item) (held_bytes held item.from)
  settled_by v is = verdict_is ∙ ap (λ (u : Verdict). settled u (is_taken_again (rules_of m layers) p item) (has_room held item) (held_bytes held item.from)) is

  pub judged_from : (v : Verdict) → v ≡ judged_in m layers p (is_held held item) item → Judged (rules_of m layers) p held item v
  judged_from (verdicts.Refuse fault) is = settled_by (verdicts.Refuse fault) (sym is)
  judged_from verdicts.Again is = settled_by verdicts.Again (sym is)
  judged_from verdicts.Hold is = settled_by verdicts.Hold (sym is)
  judged_from verdicts.Take is = to_take (sym is)
