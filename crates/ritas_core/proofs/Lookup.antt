-- A slot at which an item was taken is still open, as long as its window isn't past. So what a core looks up tells every
-- repeat: of an item that isn't open none of its kind and sender was taken.
use Rattle.std.proofs.Common.{◌≡◌, ℕ, ◌+◌, ◌≤◌, Bool, true, false, not, cond, ◌&&◌, ◌||◌, Option, Some, None, List, [], ◌∷◌, refl, sym, ◌∙◌, ap, subst, arith}
use Rattle.std.specs.Option.{is_some}
use Rattle.std.proofs.Math.Bool.{or-false}
use Rattle.std.proofs.Math.Dec.{eqb, leb, ltb}
use Rattle.std.proofs.lemmas.Bool.{ltb-false, le-ltb, leb-false, lt-leb, not-true}
use Rattle.ritas_base.specs.declared.slot.Slot.{Slot}
use Rattle.ritas_base.specs.Versions.{has_past}
use Rattle.ritas_base.specs.declared.item.Item.{Item}
use Rattle.ritas_base.specs.declared.item.Say.{Say}
use Rattle.ritas_base.specs.declared.item.Kind.{Kind}
use Rattle.ritas_base.specs.declared.item.Kind.TheVariants.{Column}
use Rattle.ritas_base.specs.Messages.{Place, kind_eq}
use Rattle.ritas_base.specs.SlotOrder.{is_slot, same_slot}
use Rattle.ritas_base.specs.Shortest.{option_or_none}
use Rattle.ritas_base.specs.History.{Call, Start, Take, first}
use Rattle.ritas_base.specs.Tags.{Tags}
use Rattle.frame_codec.specs.Body.{is_of_form}
use Rattle.layer_api.specs.Broadcast.{BroadcastRules}
use Rattle.layer_api.specs.OneValue.{ValueLaws}
use Rattle.layer_api.specs.Service.{ServiceRules, Seat, is_past, is_ahead, AreProper, WordLaws}
use Rattle.layer_api.specs.Words.{Word, Ask, Hear}
use Rattle.ooc_buffers.specs.Lists.{HeldItem, is_held}
use Rattle.ritas_core.specs.Rules.{Rules, seat_of, place_at}
use Rattle.ritas_core.specs.Casts.{called, started_all}
use Rattle.ritas_core.specs.Parts.{Entry, Took, Given, Parts, parts, service_told, heard_at, taken_at, item_delivers}
use Rattle.ritas_core.specs.Checks.{is_item_past, is_item_ahead, is_open, is_taken_again, was_taken, is_repeat, is_found, IsGood, IsTakable, IsHistory}
use Rattle.ritas_core.specs.Laws.{LayerLaws}
use Rattle.ritas_core.proofs.TestLaws.{left_true, right_true}
use Rattle.ritas_core.proofs.GoodSlots.{kind_fits}
use Rattle.ritas_core.proofs.Conditions.{words_proper, may_hear}
use Rattle.ritas_core.proofs.Verdicts.{is_open_by}

-- ---- the windows never go back
not_behind : (a back mark now : ℕ) → mark ≤ now → ltb (a + back) now ≡ false → ltb (a + back) mark ≡ false
not_behind a back mark now more near = le-ltb (a + back) mark (omega (arith, ltb-false (a + back) now near))

not_past_by : (has one : Bool) (a base completed base_now completed_now : ℕ) → base ≤ base_now → completed ≤ completed_now →
    (has && cond one (ltb (a + 64) base_now) (ltb (a + 2) completed_now)) ≡ false → (has && cond one (ltb (a + 64) base) (ltb (a + 2) completed)) ≡ false
not_past_by false one a base completed base_now completed_now more rounds near = refl
not_past_by true true a base completed base_now completed_now more rounds near = not_behind a 64 base base_now more near
not_past_by true false a base completed base_now completed_now more rounds near = not_behind a 2 completed completed_now rounds near

not_ahead_by : (one : Bool) (a base completed base_now completed_now : ℕ) → base ≤ base_now → completed ≤ completed_now →
    cond one (leb (base + 64) a) (ltb (completed + 4) a) ≡ false → cond one (leb (base_now + 64) a) (ltb (completed_now + 4) a) ≡ false
not_ahead_by true a base completed base_now completed_now more rounds near =
    lt-leb (base_now + 64) a (omega (arith, leb-false (base + 64) a near, more))
not_ahead_by false a base completed base_now completed_now more rounds near =
    le-ltb (completed_now + 4) a (omega (arith, ltb-false (completed + 4) a near, rounds))

module _ (r : ServiceRules) (laws : WordLaws r) (seat : Seat) (c : Word) (w : List Word) (proper : AreProper r seat (c ∷ w)) (s : Slot) where
  -- what isn't past wasn't past before
  pub was_not_past : is_past r seat (c ∷ w) s ≡ false → is_past r seat w s ≡ false
  was_not_past near = not_past_by (has_past seat.mode.version) (eqb s.class 1) s.a (r.base seat w s.origin) (r.completed seat w) (r.base seat (c ∷ w) s.origin) (r.completed seat (c ∷ w))
      (laws.base_stays seat c w s.origin proper) (laws.completed_stays seat c w proper) near

  -- and what isn't ahead is never ahead again
  still_not_ahead : is_ahead r seat w s ≡ false → is_ahead r seat (c ∷ w) s ≡ false
  still_not_ahead near = not_ahead_by (eqb s.class 1) s.a (r.base seat w s.origin) (r.completed seat w) (r.base seat (c ∷ w) s.origin) (r.completed seat (c ∷ w))
      (laws.base_stays seat c w s.origin proper) (laws.completed_stays seat c w proper) near

-- ---- the first of a kind and a sender at a slot
first_start : (b : Bool) (v : List ℕ) (h : List Call) (k : ℕ) (kind : Kind) → first (cond b (Start v ∷ h) h) k kind ≡ first h k kind
first_start true v h k kind = option_or_none (first h k kind)
first_start false v h k kind = refl

first_starts : (says : List Say) (h : Slot → List Call) (s : Slot) (k : ℕ) (kind : Kind) → first (started_all says h s) k kind ≡ first (h s) k kind
first_starts [] h s k kind = refl
first_starts (say ∷ says) h s k kind =
    first_starts says (called h say.slot (Start say.value)) s k kind ∙ first_start (is_slot say.slot s) say.value (h s) k kind

-- ---- where an item was taken the slot is open, in its window
record IsStillOpen (r : ServiceRules) (seat : Seat) (w : List Word) (s : Slot) : Type 0 where
  opens : r.opens seat w s ≡ true
  not_ahead : is_ahead r seat w s ≡ false

abbrev IsOpenWhereTaken : Rules → Parts → Type 0
IsOpenWhereTaken r p = (s : Slot) (k : ℕ) (kind : Kind) → is_some (first (p.calls s) k kind) ≡ true → is_past r.service (seat_of r) p.words s ≡ false →
    IsStillOpen r.service (seat_of r) p.words s

open_told : (r : Rules) → LayerLaws r → (c : Word) (p : Parts) → AreProper r.service (seat_of r) (c ∷ p.words) → IsOpenWhereTaken r p →
    IsOpenWhereTaken r (service_told r c p)
open_told r laws c p proper all s k kind taken near =
    let says = r.service.says (seat_of r) p.words c in
    let still = all s k kind (sym (ap is_some (first_starts says p.calls s k kind)) ∙ taken)
    (was_not_past r.service laws.words (seat_of r) c p.words proper s near) in
    record {
      opens = laws.words.opens_stays (seat_of r) c p.words s proper still.opens near;
      not_ahead = still_not_ahead r.service laws.words (seat_of r) c p.words proper s still.not_ahead;
    }

open_heard : (r : Rules) → LayerLaws r → (s : Slot) (d : Option (List ℕ)) (p : Parts) →
    ((v : List ℕ) → d ≡ Some v → AreProper r.service (seat_of r) (Hear s v ∷ p.words)) → IsOpenWhereTaken r p → IsOpenWhereTaken r (heard_at r s d p)
open_heard r laws s None p proper all = all
open_heard r laws s (Some v) p proper all = open_told r laws (Hear s v) p (proper v refl) all

opens_now : (r : Rules) (p : Parts) (item : Item) → IsTakable r p item → IsStillOpen r.service (seat_of r) p.words item.slot
opens_now r p item may =
    let rest = right_true (not (is_item_past r p item)) _ may.is_open in
    record {
      opens = left_true (r.service.opens (seat_of r) p.words item.slot) _ (right_true (not (is_item_ahead r p item)) _ rest);
      not_ahead = not-true (is_item_ahead r p item) (left_true (not (is_item_ahead r p item)) _ rest);
    }

open_taken_at : (r : Rules) (p : Parts) (item : Item) → IsTakable r p item → IsOpenWhereTaken r p → (s : Slot) (k : ℕ) (kind : Kind) (b : Bool) →
    is_slot item.slot s ≡ b → is_some (first (cond b (Take item ∷ p.calls s) (p.calls s)) k kind) ≡ true →
    is_past r.service (seat_of r) p.words s ≡ false → IsStillOpen r.service (seat_of r) p.words s
open_taken_at r p item may all s k kind true here taken near =
    subst (λ (q : Slot). IsStillOpen r.service (seat_of r) p.words q) (same_slot item.slot s here) (opens_now r p item may)
open_taken_at r p item may all s k kind false here taken near = all s k kind taken near

open_where_taken : (r : Rules) → LayerLaws r → (h : List Entry) → IsHistory r h → IsOpenWhereTaken r (parts r h)
open_where_taken r laws [] met = λ s k kind taken near. absurd (cc)
open_where_taken r laws (Took item ∷ h) met =
    let p = parts r h in
    let before = open_where_taken r laws h met.1 in
    open_heard r laws item.slot (item_delivers r item p) (taken_at item p)
    (λ v delivers. (may_hear r laws h met.1 item met.0 v delivers, words_proper r laws h met.1))
    (λ s k kind. open_taken_at r p item met.0 before s k kind (is_slot item.slot s) refl)
open_where_taken r laws (Given v ∷ h) met =
    open_told r laws (Ask v) (parts r h) (met.0.may, words_proper r laws h met.1) (open_where_taken r laws h met.1)

-- ---- what isn't a column can be taken at any time
pub ready_always : (r : BroadcastRules) → ValueLaws r → (at : Place) (tags : Tags) (h : List Call) (i : Item) → is_of_form r.form i.kind ≡ true →
    kind_eq i.kind Column ≡ false → r.ready at tags h i ≡ true
ready_always r laws at tags [] i has other = laws.ready_nothing at tags i has ∙ ap not other
ready_always r laws at tags (c ∷ h) i has other = laws.ready_stays at tags h c i (ready_always r laws at tags h i has other)

-- an item is open where one of its kind and sender was taken, and its window isn't past
pub open_if_taken : (r : Rules) → LayerLaws r → (h : List Entry) → IsHistory r h → (item : Item) → IsGood r item → kind_eq item.kind Column ≡ false →
    was_taken (parts r h) item ≡ true → is_item_past r (parts r h) item ≡ false → is_open r (parts r h) item ≡ true
open_if_taken r laws h met item good other taken near =
    let p = parts r h in
    let still = open_where_taken r laws h met item.slot item.from item.kind taken near in
    is_open_by r p item false false true true near still.not_ahead still.opens
    (ready_always (r.casts.at_slot item.slot) (laws.casts item.slot) (place_at r.casts item.slot) r.casts.tags (p.calls item.slot) item
    (kind_fits r laws item good.in_grammar) other)

-- ---- what is looked up
found_by : (column opened again taken kept : Bool) → (column ≡ false → again ≡ taken) → (column ≡ false → taken ≡ true → opened ≡ true) →
    cond column (cond opened again kept) (taken || kept) ≡ cond opened (again || (not column && kept)) kept
found_by true true again taken kept same opens = sym (or-false again)
found_by true false again taken kept same opens = refl
found_by false true again taken kept same opens = ap (λ (x : Bool). x || kept) (sym (same refl))
found_by false false again true kept same opens = let wrong = opens refl refl in absurd (cc)
found_by false false again false kept same opens = refl

-- what a core looks up is whether an item repeats another, as long as its window isn't past
pub found_repeat : (r : Rules) → LayerLaws r → (h : List Entry) → IsHistory r h → (held : List (List HeldItem)) (item : Item) → IsGood r item →
    is_item_past r (parts r h) item ≡ false → is_repeat r (parts r h) held item ≡ is_found r (parts r h) held item
found_repeat r laws h met held item good near =
    let p = parts r h in
    found_by (kind_eq item.kind Column) (is_open r p item) (is_taken_again r p item) (was_taken p item) (is_held held item)
    ((laws.casts item.slot).repeats_is (place_at r.casts item.slot) r.casts.tags (p.calls item.slot) item)
    (λ other taken. open_if_taken r laws h met item good other taken near)
