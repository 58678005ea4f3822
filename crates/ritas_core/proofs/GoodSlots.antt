-- What a slot with no fault has, and what an item in the grammar gives its broadcast.
use Rattle.std.proofs.Common.{◌≡◌, ℕ, ◌<◌, Bool, true, false, None, List, [], ◌∷◌, refl, sym, ◌∙◌, ap, subst, cond}
use Rattle.std.proofs.Math.Dec.{ltb}
use Rattle.std.proofs.lemmas.Bool.{ltb-true}
use Rattle.ritas_base.specs.declared.slot.Slot.{Slot}
use Rattle.ritas_base.specs.declared.slot.SlotFault.{SlotFault}
use Rattle.ritas_base.specs.declared.slot.SlotFault.TheVariants as faults
use Rattle.ritas_base.specs.declared.mode.Mode.{Mode}
use Rattle.ritas_base.specs.declared.item.Item.{Item}
use Rattle.ritas_base.specs.Numbers.{Numbers}
use Rattle.ritas_base.specs.Places.{first_failed}
use Rattle.ritas_base.specs.Slots.{slot_fault, form_of, within, has_class, has_number, has_attempt, has_count}
use Rattle.ritas_base.specs.declared.item.Kind.{Kind}
use Rattle.ritas_base.specs.declared.item.Kind.TheVariants as kinds
use Rattle.frame_codec.specs.Format.{Format, Is}
use Rattle.frame_codec.specs.Grammar.{payload, value, digest, carries_digest}
use Rattle.frame_codec.specs.Body.{IsInGrammar, is_of_form}
use Rattle.layer_api.specs.Broadcast.{IsPayload, IsDigestIf}
use Rattle.layer_api.specs.OneValue.{IsOfSlot}
use Rattle.ritas_core.specs.Rules.{Rules}
use Rattle.ritas_core.specs.Laws.{LayerLaws}
use Rattle.ritas_core.proofs.TestLaws.{left_true}

failed_none : (t : Bool) (x : SlotFault) (rest : List (Bool × SlotFault)) → first_failed ((t, x) ∷ rest) ≡ None → (t ≡ true) × (first_failed rest ≡ None)
failed_none true x rest e = (refl, e)
failed_none false x rest e = absurd (cc)

record Fields (p : Numbers) (s : Slot) : Type 0 where
  class : within 1 5 s.class ≡ true
  number : s.a < 1000000
  round : has_count 200 s.class s.bround ≡ true
  step : has_count 3 s.class s.step ≡ true
  origin : s.origin < p.n

fields : (p : Numbers) (mode : Mode) (s : Slot) → slot_fault p mode s ≡ None → Fields p s
unfolding slot_fault
fields p mode s e =
    let root = mode.root in
    let rest6 : List (Bool × SlotFault) = (ltb s.origin p.n, faults.Origin) ∷ [] in
    let rest5 : List (Bool × SlotFault) = (has_count 3 s.class s.step, faults.Step) ∷ rest6 in
    let rest4 : List (Bool × SlotFault) = (has_count 200 s.class s.bround, faults.Round) ∷ rest5 in
    let rest3 : List (Bool × SlotFault) = (has_attempt root p.f s.class s.attempt, faults.Attempt) ∷ rest4 in
    let rest2 : List (Bool × SlotFault) = (has_number root s.a, faults.Number) ∷ rest3 in
    let a = failed_none (within 1 5 s.class) faults.Class ((has_class root s.class, faults.Closed) ∷ rest2) e in
    let b = failed_none (has_class root s.class) faults.Closed rest2 a.1 in
    let c = failed_none (has_number root s.a) faults.Number rest3 b.1 in
    let d = failed_none (has_attempt root p.f s.class s.attempt) faults.Attempt rest4 c.1 in
    let g = failed_none (has_count 200 s.class s.bround) faults.Round rest5 d.1 in
    let h = failed_none (has_count 3 s.class s.step) faults.Step rest6 g.1 in
    let k = failed_none (ltb s.origin p.n) faults.Origin [] h.1 in
    record { class = a.0; number = ltb-true s.a 1000000 (left_true _ _ c.0); round = g.0; step = h.0; origin = ltb-true s.origin p.n k.0 }

-- it has one of the classes, its number is below a million, and its origin is a replica
pub slot_class : (p : Numbers) (mode : Mode) (s : Slot) → slot_fault p mode s ≡ None → within 1 5 s.class ≡ true
slot_class p mode s e = (fields p mode s e).class

pub slot_number : (p : Numbers) (mode : Mode) (s : Slot) → slot_fault p mode s ≡ None → s.a < 1000000
slot_number p mode s e = (fields p mode s e).number

pub slot_origin : (p : Numbers) (mode : Mode) (s : Slot) → slot_fault p mode s ≡ None → s.origin < p.n
slot_origin p mode s e = (fields p mode s e).origin

-- it has rounds and steps where its class has them
pub slot_counts : (p : Numbers) (mode : Mode) (s : Slot) → slot_fault p mode s ≡ None → (has_count 200 s.class s.bround ≡ true) × (has_count 3 s.class s.step ≡ true)
slot_counts p mode s e = let it = fields p mode s e in (it.round, it.step)

-- the broadcast of a slot with no fault is the slot's
pub of_slot : (r : Rules) → LayerLaws r → (s : Slot) → slot_fault r.casts.numbers r.mode s ≡ None → IsOfSlot (r.casts.at_slot s) r.casts.numbers r.mode s
of_slot r laws s right = record { session = laws.session; slot = right; form = laws.kinds.forms s right }

-- an item in the grammar has a kind of its slot's broadcast
pub kind_fits : (r : Rules) → LayerLaws r → (item : Item) → IsInGrammar r.casts.numbers r.mode item → is_of_form (r.casts.at_slot item.slot).form item.kind ≡ true
kind_fits r laws item good = ap (λ (form : ℕ). is_of_form form item.kind) (laws.kinds.forms item.slot good.slot) ∙ good.kind

-- and a payload of its kind
digest_if : (b : Bool) (f : Format) (v : List ℕ) → Is (cond b digest f) v → IsDigestIf b v
digest_if true f v is = is
digest_if false f v is = tt

payload_by : (p : Numbers) (mode : Mode) (kind : Kind) (s : Slot) (v : List ℕ) → Is (payload p mode kind s) v → IsPayload (form_of mode s) p.n kind v
unfolding payload
payload_by p mode kinds.Hashes s v is = is
payload_by p mode kinds.Column s v is = is
payload_by p mode kinds.Init s v is = digest_if (carries_digest (form_of mode s) kinds.Init) (value p mode.root s) v is
payload_by p mode kinds.Echo s v is = digest_if (carries_digest (form_of mode s) kinds.Echo) (value p mode.root s) v is
payload_by p mode kinds.Ready s v is = digest_if (carries_digest (form_of mode s) kinds.Ready) (value p mode.root s) v is
payload_by p mode kinds.Send s v is = digest_if (carries_digest (form_of mode s) kinds.Send) (value p mode.root s) v is
payload_by p mode kinds.Want s v is = digest_if (carries_digest (form_of mode s) kinds.Want) (value p mode.root s) v is
payload_by p mode kinds.Value s v is = digest_if (carries_digest (form_of mode s) kinds.Value) (value p mode.root s) v is

pub payload_fits : (r : Rules) → LayerLaws r → (item : Item) → IsInGrammar r.casts.numbers r.mode item
    → IsPayload (r.casts.at_slot item.slot).form r.casts.numbers.n item.kind item.value
payload_fits r laws item good =
    subst (λ (form : ℕ). IsPayload form r.casts.numbers.n item.kind item.value) (sym (laws.kinds.forms item.slot good.slot))
    (payload_by r.casts.numbers r.mode item.kind item.slot item.value good.payload_is)
