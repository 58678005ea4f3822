-- The laws of a core's broadcasts at each slot, from those of its other broadcast.
use Rattle.std.proofs.Common.{◌≡◌, ℕ, Bool, true, false, cond, ◌&&◌, None, List, ◌∷◌, [], refl, sym, ◌∙◌, ap, subst}
use Rattle.std.proofs.Math.Dec.{eqb, ltb}
use Rattle.std.proofs.lemmas.Bool.{false≢true, eqb-true}
use Rattle.ritas_base.specs.declared.slot.Slot.{Slot}
use Rattle.ritas_base.specs.declared.slot.SlotFault.{SlotFault}
use Rattle.ritas_base.specs.declared.slot.SlotFault.TheVariants as faults
use Rattle.ritas_base.specs.declared.mode.Mode.{Mode}
use Rattle.ritas_base.specs.declared.mode.Vect.{Vect}
use Rattle.ritas_base.specs.declared.mode.Vect.TheVariants.{Echo, Reliable}
use Rattle.ritas_base.specs.Numbers.{Numbers}
use Rattle.ritas_base.specs.Places.{first_failed}
use Rattle.ritas_base.specs.Slots.{slot_fault, within, has_class, has_number, has_attempt, has_count, by_echo, form_of}
use Rattle.ritas_base.specs.Versions.{reliable_form}
use Rattle.layer_api.specs.Broadcast.{BroadcastRules}
use Rattle.layer_api.specs.OneValue.{ValueLaws}
use Rattle.reliable_bcast.specs.Laws.Bracha.{value_laws_of_bracha}
use Rattle.reliable_bcast.specs.Laws.ByDigest.{value_laws_by_digest}
use Rattle.ritas_core.specs.Rules.{by_other, other_form, reliable_route, route_of, rules_by, at_slot_of, casts_by, FormsFit, HasForm}
use Rattle.ritas_core.specs.declared.route.Route.{Route}
use Rattle.ritas_core.specs.declared.route.Route.TheVariants as routes
use Rattle.ritas_base.specs.Tags.{Tags, HasDigests}
use Rattle.ritas_base.specs.declared.mode.FrameVersion.{FrameVersion}
use Rattle.ritas_base.specs.declared.mode.FrameVersion.TheVariants.{One, Two, Three}

-- ---- the laws of a single value

laws_by : (route : Route) (other : BroadcastRules) → ValueLaws other → ValueLaws (rules_by route other)
laws_by routes.Values other laws = value_laws_of_bracha
laws_by routes.Digests other laws = value_laws_by_digest
laws_by routes.Other other laws = laws

-- each slot's broadcast keeps them, where the other one does
pub laws_at : (mode : Mode) (other : BroadcastRules) → ValueLaws other → (s : Slot) → ValueLaws (at_slot_of mode other s)
laws_at mode other laws s = laws_by (route_of mode s) other laws

-- ---- the forms

-- a slot with no fault has a class of its root service
past_first : (t : Bool) (x : SlotFault) (rest : List (Bool × SlotFault)) → first_failed ((t, x) ∷ rest) ≡ None → (t ≡ true) × (first_failed rest ≡ None)
past_first true x rest e = (refl, e)
past_first false x rest e = absurd (cc)

class_is_there : (p : Numbers) (mode : Mode) (s : Slot) → slot_fault p mode s ≡ None → has_class mode.root s.class ≡ true
unfolding slot_fault
class_is_there p mode s e =
    let root = mode.root in
    let rest : List (Bool × SlotFault) =
    (has_number root s.a, faults.Number)
    ∷ (has_attempt root p.f s.class s.attempt, faults.Attempt)
    ∷ (has_count 200 s.class s.bround, faults.Round)
    ∷ (has_count 3 s.class s.step, faults.Step)
    ∷ (ltb s.origin p.n, faults.Origin) ∷ [] in
    (past_first (has_class root s.class) faults.Closed rest (past_first (within 1 5 s.class) faults.Class ((has_class root s.class, faults.Closed) ∷ rest) e).1).0

-- root service 2 has no VECTs
no_vect_in : (root class : ℕ) → eqb class 4 ≡ true → has_class root class ≡ true → eqb root 2 ≡ true → ⊥
unfolding has_class
no_vect_in root class four there two =
    let at_two = subst (λ (n : ℕ). has_class n class ≡ true) (eqb-true root 2 two) there in
    false≢true (subst (λ (n : ℕ). has_class 2 n ≡ true) (eqb-true class 4 four) at_two)

abbrev form_by : Bool → Vect → FrameVersion → ℕ
form_by two vect version = cond two 2 (elim vect [ Echo ↦ 2 | Reliable ↦ reliable_form version 4 ])

abbrev has_echo : Vect → Bool
has_echo vect = elim vect [ Echo ↦ true | Reliable ↦ false ]

reliable_by : (version : FrameVersion) (class : ℕ) (other : BroadcastRules) → (rules_by (reliable_route version class) other).form ≡ reliable_form version class
reliable_by One class other = refl
reliable_by Two class other = refl
reliable_by Three class other = of_step (eqb class 5)
  where
    of_step : (is : Bool) → (rules_by (cond is routes.Values routes.Digests) other).form ≡ cond is 1 3
    of_step true = refl
    of_step false = refl

forms_by : (one two four : Bool) (vect : Vect) (version : FrameVersion) (class : ℕ) (other : BroadcastRules) → (four ≡ true → class ≡ 4) →
    (four ≡ true → two ≡ true → ⊥) → other.form ≡ form_by two vect version →
    (rules_by (cond (cond one two four) routes.Other (reliable_route version class)) other).form
    ≡ cond (cond one two (four && has_echo vect)) 2 (reliable_form version class)
forms_by true true four vect version class other is apart form = form
forms_by true false four vect version class other is apart form = reliable_by version class other
forms_by false two false vect version class other is apart form = reliable_by version class other
forms_by false true true vect version class other is apart form = absurd (apart refl refl)
forms_by false false true Echo version class other is apart form = form
forms_by false false true Reliable version class other is apart form = form ∙ sym (ap (reliable_form version) (is refl))

-- each slot's broadcast has the form that the grammar gives to it, where the other one has the form of the mode
pub kinds_fit : (numbers : Numbers) (mode : Mode) (me : ℕ) (tags : Tags) (other : BroadcastRules) → HasForm mode other → HasDigests tags → FormsFit mode (casts_by mode numbers me tags other)
unfolding by_other other_form by_echo form_of
kinds_fit numbers mode me tags other form digests = record {
  forms = λ s right.
      forms_by (eqb s.class 1) (eqb mode.root 2) (eqb s.class 4) mode.vect mode.version s.class other (eqb-true s.class 4)
      (λ four two. no_vect_in mode.root s.class four (class_is_there numbers mode s right) two) form;
  digests = digests;
}
