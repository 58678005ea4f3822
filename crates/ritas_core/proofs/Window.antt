-- Nothing is delivered at a command slot past the window, nor at a slot with a fault.
use Rattle.std.proofs.Common.{◌≡◌, ℕ, ◌+◌, ◌<◌, Bool, true, false, cond, None, List, [], ◌∷◌, sym, ◌∙◌, ap, subst, inl, inr, arith}
use Rattle.std.specs.Option.{is_some}
use Rattle.std.proofs.Math.Dec.{eqb, leb, ltb}
use Rattle.std.proofs.lemmas.Bool.{eq-eqb, leb-false, or_cases}
use Rattle.ritas_base.specs.declared.slot.Slot.{Slot}
use Rattle.ritas_base.specs.Slots.{slot_fault}
use Rattle.ritas_base.specs.SlotOrder.{is_slot, same_slot}
use Rattle.layer_api.specs.Service.{ServiceRules, Seat, MayHear, AreProper, WordLaws}
use Rattle.layer_api.specs.Words.{Word, Ask, Hear, is_heard}
use Rattle.ritas_core.specs.Rules.{Rules, seat_of, out_at_slot}
use Rattle.ritas_core.specs.Parts.{Entry, parts}
use Rattle.ritas_core.specs.Checks.{IsHistory}
use Rattle.ritas_core.specs.Laws.{LayerLaws}
use Rattle.ritas_core.proofs.Conditions.{heard_where_delivered, words_proper}

-- ---- a slot that was heard

-- what holds of a slot when it may be heard, and stays, holds of each that was heard
module _ (r : ServiceRules) (seat : Seat) (P : List Word → Slot → Type 0)
    (now : (w : List Word) (s : Slot) (v : List ℕ) → MayHear r seat w s v → P w s)
    (stays : (c : Word) (w : List Word) (s : Slot) → AreProper r seat (c ∷ w) → P w s → P (c ∷ w) s) where
  heard_holds : (w : List Word) (s : Slot) → AreProper r seat w → is_heard w s ≡ true → P w s
  heard_holds [] s proper h = absurd cc
  heard_holds (Ask v ∷ w) s proper h = stays (Ask v) w s proper (heard_holds w s proper.1 h)
  heard_holds (Hear q v ∷ w) s proper h =
      stays (Hear q v) w s proper
      (elim (or_cases (is_slot q s) (is_heard w s) h) [
        | inl here ↦ subst (λ (x : Slot). P w x) (same_slot q s here) (now w q v proper.0)
        | inr before ↦ heard_holds w s proper.1 before
      ])

not_far : (class mark a : ℕ) (other : Bool) → class ≡ 1 → cond (eqb class 1) (leb (mark + 64) a) other ≡ false → a < mark + 64
not_far class mark a other one h = leb-false (mark + 64) a (sym (ap (λ (b : Bool). cond b (leb (mark + 64) a) other) (eq-eqb class 1 one)) ∙ h)

-- a command slot lies below the end of its origin's window
heard_within : (r : ServiceRules) → WordLaws r → (seat : Seat) (w : List Word) (s : Slot) → AreProper r seat w → is_heard w s ≡ true → s.class ≡ 1 →
    s.a < r.base seat w s.origin + 64
heard_within r laws seat =
    heard_holds r seat (λ w s. s.class ≡ 1 → s.a < r.base seat w s.origin + 64)
    (λ w s v may one. not_far s.class (r.base seat w s.origin) s.a (ltb (r.completed seat w + 4) s.a) one may.not_ahead)
    (λ c w s proper before one. omega (arith, before one, laws.base_stays seat c w s.origin proper))

-- ---- a slot that has delivered
pub delivered_within : (r : Rules) → LayerLaws r → (h : List Entry) → IsHistory r h → (s : Slot) → s.class ≡ 1 →
    is_some (out_at_slot r.casts s ((parts r h).calls s)) ≡ true → s.a < r.service.base (seat_of r) (parts r h).words s.origin + 64
delivered_within r laws h met s one out =
    heard_within r.service laws.words (seat_of r) (parts r h).words s (words_proper r laws h met) (heard_where_delivered r laws h s ∙ out) one

pub delivered_right : (r : Rules) → LayerLaws r → (h : List Entry) → IsHistory r h → (s : Slot) →
    is_some (out_at_slot r.casts s ((parts r h).calls s)) ≡ true → slot_fault r.casts.numbers r.mode s ≡ None
delivered_right r laws h met s out =
    heard_holds r.service (seat_of r) (λ w q. slot_fault r.casts.numbers r.mode q ≡ None) (λ w q v may. may.right) (λ c w q proper right. right)
    (parts r h).words s (words_proper r laws h met) (heard_where_delivered r laws h s ∙ out)
