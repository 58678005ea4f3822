-- What a replica's service heard at a slot is what the slot delivered, and that stays.
use Rattle.std.proofs.Common.{◌≡◌, ℕ, Bool, true, false, cond, Option, Some, None, List, [], ◌∷◌, refl, sym, ◌∙◌, ap, subst}
use Rattle.std.specs.Option.{option_or}
use Rattle.ritas_base.specs.declared.slot.Slot.{Slot}
use Rattle.ritas_base.specs.declared.item.Item.{Item}
use Rattle.ritas_base.specs.declared.item.Say.{Say}
use Rattle.ritas_base.specs.SlotOrder.{is_slot, same_slot}
use Rattle.ritas_base.specs.Shortest.{option_or_none}
use Rattle.ritas_base.specs.History.{Call, Start, Take}
use Rattle.layer_api.specs.Words.{Ask, Hear, value_at}
use Rattle.layer_api.specs.FedLaws.{value_stays}
use Rattle.ritas_core.specs.Rules.{Rules, seat_of, place_at, out_at_slot}
use Rattle.ritas_core.specs.Casts.{called, started_all, newly_there}
use Rattle.ritas_core.specs.Parts.{Parts, Entry, Took, Given, parts, heard_at, taken_at, item_delivers}
use Rattle.ritas_core.specs.Laws.{LayerLaws}

-- ---- to start delivers nothing
start_delivers : (r : Rules) → LayerLaws r → (s : Slot) (h : List Call) (v : List ℕ) (b : Bool) →
    out_at_slot r.casts s (cond b (Start v ∷ h) h) ≡ out_at_slot r.casts s h
start_delivers r laws s h v true = (laws.casts s).out_start (place_at r.casts s) r.casts.tags h v
start_delivers r laws s h v false = refl

pub starts_deliver : (r : Rules) → LayerLaws r → (says : List Say) (h : Slot → List Call) (s : Slot) →
    out_at_slot r.casts s (started_all says h s) ≡ out_at_slot r.casts s (h s)
starts_deliver r laws [] h s = refl
starts_deliver r laws (say ∷ says) h s =
    starts_deliver r laws says (called h say.slot (Start say.value)) s ∙ start_delivers r laws s (h s) say.value (is_slot say.slot s)

-- ---- the value that was heard at each slot is what it delivered
abbrev IsAllHeard : Rules → Parts → Type 0
IsAllHeard r p = (s : Slot) → value_at p.words s ≡ out_at_slot r.casts s (p.calls s)

-- what a slot delivers after an item, by what the item's slot delivers after it
take_delivers : (r : Rules) (item : Item) (h : Slot → List Call) (s : Slot) (y : Option (List ℕ)) (b : Bool) → is_slot item.slot s ≡ b →
    out_at_slot r.casts item.slot (Take item ∷ h item.slot) ≡ y →
    out_at_slot r.casts s (cond b (Take item ∷ h s) (h s)) ≡ cond b y (out_at_slot r.casts s (h s))
take_delivers r item h s y true here is_y = subst (λ (q : Slot). out_at_slot r.casts q (Take item ∷ h q) ≡ y) (same_slot item.slot s here) is_y
take_delivers r item h s y false here is_y = refl

-- where the item's slot delivers as before
same_at : (r : Rules) (item : Item) (p : Parts) (s : Slot) (y : Option (List ℕ)) (b : Bool) → is_slot item.slot s ≡ b → IsAllHeard r p →
    out_at_slot r.casts item.slot (p.calls item.slot) ≡ y → value_at p.words s ≡ cond b y (out_at_slot r.casts s (p.calls s))
same_at r item p s y true here all is = subst (λ (q : Slot). value_at p.words q ≡ y) (same_slot item.slot s here) (all item.slot ∙ is)
same_at r item p s y false here all is = all s

-- where it delivers anew
anew_at : (r : Rules) (item : Item) (p : Parts) (s : Slot) (v : List ℕ) (b : Bool) → is_slot item.slot s ≡ b → IsAllHeard r p →
    out_at_slot r.casts item.slot (p.calls item.slot) ≡ None →
    option_or (value_at p.words s) (cond b (Some v) None) ≡ cond b (Some v) (out_at_slot r.casts s (p.calls s))
anew_at r item p s v true here all none =
    ap (λ (o : Option (List ℕ)). option_or o (Some v))
    (subst (λ (q : Slot). value_at p.words q ≡ None) (same_slot item.slot s here) (all item.slot ∙ none))
anew_at r item p s v false here all none = option_or_none (value_at p.words s) ∙ all s

heard_by : (r : Rules) → LayerLaws r → (item : Item) (p : Parts) (x y : Option (List ℕ)) → IsAllHeard r p →
    out_at_slot r.casts item.slot (p.calls item.slot) ≡ x → out_at_slot r.casts item.slot (Take item ∷ p.calls item.slot) ≡ y →
    IsAllHeard r (heard_at r item.slot (newly_there x y) (taken_at item p))
heard_by r laws item p (Some w) y all is_x is_y s =
    let stays = (laws.casts item.slot).out_stays (place_at r.casts item.slot) r.casts.tags (p.calls item.slot) (Take item) w is_x in
    same_at r item p s (Some w) (is_slot item.slot s) refl all is_x
    ∙ sym (take_delivers r item p.calls s (Some w) (is_slot item.slot s) refl stays)
heard_by r laws item p None None all is_x is_y s =
    same_at r item p s None (is_slot item.slot s) refl all is_x ∙ sym (take_delivers r item p.calls s None (is_slot item.slot s) refl is_y)
heard_by r laws item p None (Some v) all is_x is_y s =
    anew_at r item p s v (is_slot item.slot s) refl all is_x
    ∙ sym (take_delivers r item p.calls s (Some v) (is_slot item.slot s) refl is_y)
    ∙ sym (starts_deliver r laws (r.service.says (seat_of r) p.words (Hear item.slot v)) (taken_at item p).calls s)

pub heard_delivered : (r : Rules) → LayerLaws r → (h : List Entry) (s : Slot) → value_at (parts r h).words s ≡ out_at_slot r.casts s ((parts r h).calls s)
heard_delivered r laws [] s = sym ((laws.casts s).out_nothing (place_at r.casts s) r.casts.tags)
heard_delivered r laws (Took item ∷ h) s =
    let p = parts r h in
    heard_by r laws item p (out_at_slot r.casts item.slot (p.calls item.slot)) (out_at_slot r.casts item.slot (Take item ∷ p.calls item.slot))
    (heard_delivered r laws h) refl refl s
heard_delivered r laws (Given v ∷ h) s =
    let p = parts r h in
    heard_delivered r laws h s ∙ sym (starts_deliver r laws (r.service.says (seat_of r) p.words (Ask v)) p.calls s)

-- ---- and stays
heard_stays : (r : Rules) (q : Slot) (d : Option (List ℕ)) (p : Parts) (s : Slot) (v : List ℕ) → value_at p.words s ≡ Some v →
    value_at (heard_at r q d p).words s ≡ Some v
heard_stays r q None p s v there = there
heard_stays r q (Some u) p s v there = value_stays (Hear q u) p.words s v there

entry_stays : (r : Rules) (e : Entry) (h : List Entry) (s : Slot) (v : List ℕ) → value_at (parts r h).words s ≡ Some v →
    value_at (parts r (e ∷ h)).words s ≡ Some v
entry_stays r (Took item) h s v there = heard_stays r item.slot (item_delivers r item (parts r h)) (taken_at item (parts r h)) s v there
entry_stays r (Given u) h s v there = value_stays (Ask u) (parts r h).words s v there

-- what a slot delivered it still does after an entry
pub delivered_stays : (r : Rules) → LayerLaws r → (e : Entry) (h : List Entry) (s : Slot) (v : List ℕ) → out_at_slot r.casts s ((parts r h).calls s) ≡ Some v →
    out_at_slot r.casts s ((parts r (e ∷ h)).calls s) ≡ Some v
delivered_stays r laws e h s v there =
    sym (heard_delivered r laws (e ∷ h) s) ∙ entry_stays r e h s v (heard_delivered r laws h s ∙ there)
