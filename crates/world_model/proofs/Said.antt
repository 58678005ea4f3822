-- An item that its slot delivers by, what was started at a slot was said there, and what the service was asked are the inputs.
use Rattle.std.proofs.Common.{◌≡◌, ℕ, Bool, true, false, cond, Option, Some, None, List, [], ◌∷◌, ◌++◌, refl, sym, ◌∙◌, ap, inl, inr, append_assoc}
use Rattle.std.proofs.lemmas.Bool.{cond-true}
use Rattle.ritas_base.specs.declared.slot.Slot.{Slot}
use Rattle.ritas_base.specs.declared.item.Item.{Item}
use Rattle.ritas_base.specs.declared.item.Say.{Say}
use Rattle.ritas_base.specs.SlotOrder.{is_slot, slot_itself}
use Rattle.ritas_base.specs.History.{Call, Start, Take, started}
use Rattle.layer_api.specs.Runs.{Has}
use Rattle.layer_api.specs.Service.{said}
use Rattle.layer_api.specs.Words.{Word, Ask, Hear, HasSay}
use Rattle.layer_api.specs.FedLaws.{say_earlier, say_later}
use Rattle.ritas_core.specs.Rules.{Rules, seat_of, out_at_slot}
use Rattle.ritas_core.specs.Casts.{called, started_all}
use Rattle.ritas_core.specs.Parts.{Parts, Entry, Took, Given, parts, heard_at, taken_at, item_delivers}
use Rattle.ritas_core.specs.PartsLaws.{newly_after}
use Rattle.ritas_core.specs.HeardLaws.{starts_deliver}
use Rattle.world_model.specs.Agree.{HasInput}
use Rattle.world_model.proofs.Inputs.{say_of, started_from, take_started}
use Rattle.world_model.proofs.Below.{IsFounded}

-- ---- an item that its slot delivers by
called_there : (h : Slot → List Call) (s : Slot) (c : Call) → called h s c s ≡ c ∷ h s
called_there h s c = cond-true (is_slot s s) (c ∷ h s) (h s) (slot_itself s)

delivers_calls : (r : Rules) (h : List Entry) (item : Item) (v : List ℕ) → item_delivers r item (parts r h) ≡ Some v →
    (parts r (Took item ∷ h)).calls item.slot
    ≡ started_all (r.service.says (seat_of r) (parts r h).words (Hear item.slot v)) (taken_at item (parts r h)).calls item.slot
delivers_calls r h item v delivers = ap (λ (d : Option (List ℕ)). (heard_at r item.slot d (taken_at item (parts r h))).calls item.slot) delivers

-- the slot delivers it afterwards
pub delivers_now : (r : Rules) → IsFounded r → (h : List Entry) (item : Item) (v : List ℕ) → item_delivers r item (parts r h) ≡ Some v →
    out_at_slot r.casts item.slot ((parts r (Took item ∷ h)).calls item.slot) ≡ Some v
delivers_now r laws h item v delivers =
    let p = parts r h in
    ap (out_at_slot r.casts item.slot) (delivers_calls r h item v delivers)
    ∙ starts_deliver r laws.layers (r.service.says (seat_of r) p.words (Hear item.slot v)) (taken_at item p).calls item.slot
    ∙ ap (out_at_slot r.casts item.slot) (called_there p.calls item.slot (Take item))
    ∙ newly_after (out_at_slot r.casts item.slot (p.calls item.slot)) (out_at_slot r.casts item.slot (Take item ∷ p.calls item.slot)) v delivers

-- these calls, and later ones
abbrev pub GrowsTo : List Call → List Call → Type 0
GrowsTo before after = (later : List Call) × (after ≡ later ++ before)

grows_start : (h : List Call) (v : List ℕ) (b : Bool) (after : List Call) → GrowsTo (cond b (Start v ∷ h) h) after → GrowsTo h after
grows_start h v true after more = (more.0 ++ Start v ∷ [], more.1 ∙ sym (append_assoc more.0 (Start v ∷ []) h))
grows_start h v false after more = more

grows_starts : (says : List Say) (h : Slot → List Call) (s : Slot) → GrowsTo (h s) (started_all says h s)
grows_starts [] h s = ([], refl)
grows_starts (say ∷ says) h s =
    grows_start (h s) say.value (is_slot say.slot s) (started_all (say ∷ says) h s) (grows_starts says (called h say.slot (Start say.value)) s)

-- the calls at its slot are those before, then the item, then what is started by it
pub delivers_after : (r : Rules) (h : List Entry) (item : Item) (v : List ℕ) → item_delivers r item (parts r h) ≡ Some v →
    GrowsTo (Take item ∷ (parts r h).calls item.slot) ((parts r (Took item ∷ h)).calls item.slot)
delivers_after r h item v delivers =
    let p = parts r h in
    let more = grows_starts (r.service.says (seat_of r) p.words (Hear item.slot v)) (taken_at item p).calls item.slot in
    (more.0, delivers_calls r h item v delivers ∙ more.1 ∙ ap (λ (cs : List Call). more.0 ++ cs) (called_there p.calls item.slot (Take item)))

-- ---- what was started was said
said_told : (r : Rules) (c : Word) (p : Parts) (s : Slot) (v : List ℕ) →
    (started (p.calls s) ≡ Some v → HasSay (said r.service (seat_of r) p.words) (say_of s v)) →
    started (started_all (r.service.says (seat_of r) p.words c) p.calls s) ≡ Some v → HasSay (said r.service (seat_of r) (c ∷ p.words)) (say_of s v)
said_told r c p s v before e =
    let new = r.service.says (seat_of r) p.words c in
    let old = said r.service (seat_of r) p.words in
    elim (started_from new p.calls s v e) [
      | inl older ↦ say_later new old (say_of s v) (before older)
      | inr now ↦ say_earlier new old (say_of s v) now
    ]

said_heard : (r : Rules) (q : Slot) (d : Option (List ℕ)) (p : Parts) (s : Slot) (v : List ℕ) →
    (started (p.calls s) ≡ Some v → HasSay (said r.service (seat_of r) p.words) (say_of s v)) →
    started ((heard_at r q d p).calls s) ≡ Some v → HasSay (said r.service (seat_of r) (heard_at r q d p).words) (say_of s v)
said_heard r q None p s v before e = before e
said_heard r q (Some u) p s v before e = said_told r (Hear q u) p s v before e

pub started_said : (r : Rules) (h : List Entry) (s : Slot) (v : List ℕ) → started ((parts r h).calls s) ≡ Some v →
    HasSay (said r.service (seat_of r) (parts r h).words) (say_of s v)
started_said r [] s v e = absurd (cc)
started_said r (Took item ∷ h) s v e =
    let p = parts r h in
    said_heard r item.slot (item_delivers r item p) (taken_at item p) s v
    (λ now. started_said r h s v (take_started (is_slot item.slot s) item (p.calls s) v now)) e
started_said r (Given u ∷ h) s v e = said_told r (Ask u) (parts r h) s v (started_said r h s v) e

-- ---- what was asked was given
abbrev word_of : List ℕ → Word
word_of v = Ask v

same_ask : (u v : List ℕ) → word_of u ≡ word_of v → u ≡ v
same_ask u v e = cc

asked_heard : (r : Rules) (q : Slot) (d : Option (List ℕ)) (p : Parts) (v : List ℕ) → Has (heard_at r q d p).words (Ask v) → Has p.words (Ask v)
asked_heard r q None p v here = here
asked_heard r q (Some u) p v (inl e) = absurd (cc)
asked_heard r q (Some u) p v (inr there) = there

pub asked_given : (r : Rules) (h : List Entry) (v : List ℕ) → Has (parts r h).words (Ask v) → HasInput h v
asked_given r [] v here = elim here [ ]
asked_given r (Took item ∷ h) v here = let p = parts r h in asked_given r h v (asked_heard r item.slot (item_delivers r item p) (taken_at item p) v here)
asked_given r (Given u ∷ h) v (inl e) = inl (same_ask u v e)
asked_given r (Given u ∷ h) v (inr there) = inr (asked_given r h v there)
