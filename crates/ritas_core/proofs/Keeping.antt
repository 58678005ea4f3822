-- What slots delivered is kept by itself in root services 1 and 2, and which broadcasts are kept.
use Rattle.std.proofs.Common.{◌≡◌, ℕ, Bool, true, false, not, cond, ◌&&◌, Option, Some, None, List, [], ◌∷◌, refl, sym, ◌∙◌, ap, subst}
use Rattle.std.proofs.Math.Dec.{leb, ltb}
use Rattle.std.proofs.lemmas.Bool.{lt-ltb}
use Rattle.std.specs.Option.{is_some}
use Rattle.std.specs.BTreeMap as map
use Rattle.ritas_base.specs.declared.slot.Slot.{Slot}
use Rattle.ritas_base.specs.declared.item.Say.{Say}
use Rattle.ritas_base.specs.SlotOrder.{slot_cmp, is_slot, same_slot}
use Rattle.ritas_base.specs.Slots.{slot_fault, within}
use Rattle.ritas_base.specs.History.{Call, Start, Take}
use Rattle.layer_api.specs.OneValue.{ValueLaws}
use Rattle.layer_api.specs.Service.{AreProper, AreGoodSays, is_past}
use Rattle.layer_api.specs.Words.{Ask, Hear}
use Rattle.ritas_core.specs.Rules.{Rules, CastRules, place_at, out_at_slot, seat_of}
use Rattle.ritas_core.specs.Drops.{is_dropped}
use Rattle.ritas_core.specs.Casts.{OutputsStand, called, started_all, is_called, newly_there, delivered_by}
use Rattle.ritas_core.specs.Parts.{Parts, Entry, Took, Given, parts, taken_at, heard_at, item_delivers}
use Rattle.ritas_core.specs.PartsLaws.{newly_after}
use Rattle.ritas_core.specs.Checks.{IsHistory}
use Rattle.ritas_core.specs.Laws.{LayerLaws}
use Rattle.ritas_core.proofs.GoodSlots.{slot_class, slot_origin}
use Rattle.ritas_core.proofs.Conditions.{good_told, words_proper, may_hear}

-- ---- outputs
abbrev pub Outputs : Type 0
Outputs = map.BTreeMap Slot (List ℕ)

-- the same outputs, of calls by which each slot delivers the same
pub outputs_same : (root : ℕ) (c : CastRules) (old new : Outputs) (h k : Slot → List Call) →
    ((s : Slot) → map.get slot_cmp new s ≡ map.get slot_cmp old s) → ((s : Slot) → out_at_slot c s (k s) ≡ out_at_slot c s (h s)) →
    OutputsStand root c old h → OutputsStand root c new k
outputs_same root c old new h k same outs stood low s = same s ∙ stood low s ∙ sym (outs s)

-- a slot that newly delivers nothing delivers what it did
no_news : (x y : Option (List ℕ)) → ((v : List ℕ) → x ≡ Some v → y ≡ Some v) → newly_there x y ≡ None → y ≡ x
no_news None y stays none = none
no_news (Some v) y stays none = stays v refl

module _ (c : CastRules) (laws : (s : Slot) → ValueLaws (c.at_slot s)) (h : Slot → List Call) (slot : Slot) (call : Call) where
  out_at : (s : Slot) (b : Bool) → is_slot slot s ≡ b → (b ≡ true → out_at_slot c slot (call ∷ h slot) ≡ out_at_slot c slot (h slot)) →
      out_at_slot c s (cond b (call ∷ h s) (h s)) ≡ out_at_slot c s (h s)
  out_at s true here same = subst (λ (q : Slot). out_at_slot c q (call ∷ h q) ≡ out_at_slot c q (h q)) (same_slot slot s here) (same refl)
  out_at s false here same = refl

  -- the item brought nothing
  pub out_quiet : delivered_by c slot (h slot) call ≡ None → (s : Slot) → out_at_slot c s (called h slot call s) ≡ out_at_slot c s (h s)
  out_quiet none s =
      out_at s (is_slot slot s) refl
      (λ here. no_news (out_at_slot c slot (h slot)) (out_at_slot c slot (call ∷ h slot)) ((laws slot).out_stays (place_at c slot) c.tags (h slot) call) none)

  module _ (root : ℕ) (old new : Outputs) (v : List ℕ) (stood : OutputsStand root c old h)
      (put : leb 3 root ≡ false → (s : Slot) → map.get slot_cmp new s ≡ cond (is_slot slot s) (Some v) (map.get slot_cmp old s))
      (delivers : delivered_by c slot (h slot) call ≡ Some v) where
    put_at : leb 3 root ≡ false → (s : Slot) (b : Bool) → is_slot slot s ≡ b → cond b (Some v) (map.get slot_cmp old s) ≡ out_at_slot c s (cond b (call ∷ h s) (h s))
    put_at low s true here =
        subst (λ (q : Slot). Some v ≡ out_at_slot c q (call ∷ h q)) (same_slot slot s here)
        (sym (newly_after (out_at_slot c slot (h slot)) (out_at_slot c slot (call ∷ h slot)) v delivers))
    put_at low s false here = stood low s

    -- the item brought this
    pub outputs_put : OutputsStand root c new (called h slot call)
    outputs_put low s = put low s ∙ put_at low s (is_slot slot s) refl

-- ---- where there was a call the slot has no fault
abbrev AreRight : Rules → (Slot → List Call) → Type 0
AreRight r h = (s : Slot) → is_called (h s) ≡ true → slot_fault r.casts.numbers r.mode s ≡ None

right_at : (r : Rules) (h : Slot → List Call) (slot s : Slot) (call : Call) (b : Bool) → is_slot slot s ≡ b → slot_fault r.casts.numbers r.mode slot ≡ None →
    AreRight r h → is_called (cond b (call ∷ h s) (h s)) ≡ true → slot_fault r.casts.numbers r.mode s ≡ None
right_at r h slot s call true here right all there = subst (λ (q : Slot). slot_fault r.casts.numbers r.mode q ≡ None) (same_slot slot s here) right
right_at r h slot s call false here right all there = all s there

right_called : (r : Rules) (h : Slot → List Call) (slot : Slot) (call : Call) → slot_fault r.casts.numbers r.mode slot ≡ None → AreRight r h → AreRight r (called h slot call)
right_called r h slot call right all s = right_at r h slot s call (is_slot slot s) refl right all

right_starts : (r : Rules) (says : List Say) (h : Slot → List Call) → AreGoodSays r.casts.numbers r.mode says → AreRight r h → AreRight r (started_all says h)
right_starts r [] h good all = all
right_starts r (say ∷ says) h good all =
    right_starts r says (called h say.slot (Start say.value)) good.2 (right_called r h say.slot (Start say.value) good.0 all)

right_heard : (r : Rules) → LayerLaws r → (slot : Slot) (d : Option (List ℕ)) (p : Parts) →
    ((v : List ℕ) → d ≡ Some v → AreProper r.service (seat_of r) (Hear slot v ∷ p.words)) → AreRight r p.calls → AreRight r (heard_at r slot d p).calls
right_heard r laws slot None p proper all = all
right_heard r laws slot (Some v) p proper all =
    right_starts r (r.service.says (seat_of r) p.words (Hear slot v)) p.calls (good_told r laws (Hear slot v) p (proper v refl)) all

pub right_where_called : (r : Rules) → LayerLaws r → (h : List Entry) → IsHistory r h → AreRight r (parts r h).calls
right_where_called r laws [] met = λ s there. absurd (cc)
right_where_called r laws (Took item ∷ h) met =
    let p = parts r h in
    right_heard r laws item.slot (item_delivers r item p) (taken_at item p)
    (λ v delivers. (may_hear r laws h met.1 item met.0 v delivers, words_proper r laws h met.1))
    (right_called r p.calls item.slot (Take item) met.0.good.in_grammar.slot (right_where_called r laws h met.1))
right_where_called r laws (Given v ∷ h) met =
    let p = parts r h in
    right_starts r (r.service.says (seat_of r) p.words (Ask v)) p.calls (good_told r laws (Ask v) p (met.0.may, words_proper r laws h met.1))
    (right_where_called r laws h met.1)

-- ---- which broadcasts are kept
both_hold : (a b x : Bool) → a ≡ true → b ≡ true → (a && (b && x)) ≡ x
both_hold true true x e f = refl
both_hold true false x e f = absurd (cc)
both_hold false b x e f = absurd (cc)

-- where there was a call what is past is dropped
dropped_past : (r : Rules) → LayerLaws r → (h : List Entry) → IsHistory r h → (s : Slot) → is_called ((parts r h).calls s) ≡ true →
    is_dropped r (parts r h).words s ≡ is_past r.service (seat_of r) (parts r h).words s
dropped_past r laws h met s there =
    let right = right_where_called r laws h met s there in
    both_hold (within 1 5 s.class) (ltb s.origin r.casts.numbers.n) (is_past r.service (seat_of r) (parts r h).words s)
    (slot_class r.casts.numbers r.mode s right)
    (lt-ltb s.origin r.casts.numbers.n (slot_origin r.casts.numbers r.mode s right))

-- a value is there where there was a call, and the slot isn't past
kept_if : {B : Type 0} (o : Option B) (past there dropped : Bool) → (there ≡ true → dropped ≡ past) → (dropped ≡ true → o ≡ None) →
    (dropped ≡ false → o ≡ None → there ≡ false) → ((b : B) → o ≡ Some b → there ≡ true) → is_some o ≡ (not past && there)
kept_if (Some b) past false dropped same gone unmade used = let wrong = used b refl in absurd (cc)
kept_if (Some b) true true dropped same gone unmade used = let wrong = gone (same refl) in absurd (cc)
kept_if (Some b) false true dropped same gone unmade used = refl
kept_if None true there dropped same gone unmade used = refl
kept_if None false false dropped same gone unmade used = refl
kept_if None false true dropped same gone unmade used = let wrong = unmade (same refl) refl in absurd (cc)

pub kept_by_call : {B : Type 0} (r : Rules) → LayerLaws r → (h : List Entry) → IsHistory r h → (s : Slot) (o : Option B) →
    (is_dropped r (parts r h).words s ≡ true → o ≡ None) → (is_dropped r (parts r h).words s ≡ false → o ≡ None → (parts r h).calls s ≡ []) →
    ((b : B) → o ≡ Some b → is_called ((parts r h).calls s) ≡ true) →
    is_some o ≡ (not (is_past r.service (seat_of r) (parts r h).words s) && is_called ((parts r h).calls s))
kept_by_call r laws h met s o gone unmade used =
    kept_if o (is_past r.service (seat_of r) (parts r h).words s) (is_called ((parts r h).calls s)) (is_dropped r (parts r h).words s)
    (dropped_past r laws h met s) gone (λ near none. ap is_called (unmade near none)) used
