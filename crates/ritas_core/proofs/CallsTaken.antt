-- Each call that the broadcast of a slot had met its conditions, and no item that it took repeats an earlier one.
use Rattle.std.proofs.Common.{◌≡◌, ℕ, Bool, true, false, cond, Option, Some, None, List, [], ◌∷◌, refl, subst}
use Rattle.ritas_base.specs.declared.slot.Slot.{Slot}
use Rattle.ritas_base.specs.declared.item.Item.{Item}
use Rattle.ritas_base.specs.declared.item.Say.{Say}
use Rattle.ritas_base.specs.SlotOrder.{is_slot, same_slot}
use Rattle.ritas_base.specs.History.{Call, Start, Take}
use Rattle.layer_api.specs.Broadcast.{MayStart, MayTake}
use Rattle.layer_api.specs.OneValue.{AreTaken, RepeatNone}
use Rattle.layer_api.specs.Words.{Ask, Hear}
use Rattle.ritas_core.specs.Rules.{Rules, CastRules, seat_of, place_at}
use Rattle.ritas_core.specs.Casts.{called, started_all, MayStartAll}
use Rattle.ritas_core.specs.Parts.{Entry, Took, Given, Parts, parts, heard_at, taken_at, item_delivers}
use Rattle.ritas_core.specs.Checks.{IsTakable, IsHistory}
use Rattle.ritas_core.specs.Laws.{LayerLaws}
use Rattle.ritas_core.proofs.Conditions.{may_start_given, may_start_heard}

abbrev pub AreTakenAt : CastRules → (Slot → List Call) → Slot → Type 0
AreTakenAt c h s = AreTaken (c.at_slot s) (place_at c s) c.tags (h s)

pub start_taken_at : (c : CastRules) (h : Slot → List Call) (x s : Slot) (v : List ℕ) (b : Bool) → is_slot x s ≡ b → MayStart (place_at c x) (h x) →
    AreTakenAt c h s → AreTaken (c.at_slot s) (place_at c s) c.tags (cond b (Start v ∷ h s) (h s))
start_taken_at c h x s v true here may all = (subst (λ (q : Slot). MayStart (place_at c q) (h q)) (same_slot x s here) may, all)
start_taken_at c h x s v false here may all = all

starts_taken : (c : CastRules) (says : List Say) (h : Slot → List Call) → MayStartAll c says h → ((s : Slot) → AreTakenAt c h s) →
    (s : Slot) → AreTakenAt c (started_all says h) s
starts_taken c [] h may all = all
starts_taken c (say ∷ says) h may all =
    starts_taken c says (called h say.slot (Start say.value)) may.1
    (λ s. start_taken_at c h say.slot s say.value (is_slot say.slot s) refl may.0 (all s))

pub item_taken_at : (c : CastRules) (h : Slot → List Call) (item : Item) (s : Slot) (b : Bool) → is_slot item.slot s ≡ b →
    MayTake (c.at_slot item.slot) (place_at c item.slot) c.tags (h item.slot) item → AreTakenAt c h s →
    AreTaken (c.at_slot s) (place_at c s) c.tags (cond b (Take item ∷ h s) (h s))
item_taken_at c h item s true here may all =
    (subst (λ (q : Slot). MayTake (c.at_slot q) (place_at c q) c.tags (h q) item) (same_slot item.slot s here) may, all)
item_taken_at c h item s false here may all = all

heard_taken : (r : Rules) (x : Slot) (d : Option (List ℕ)) (p : Parts) →
    ((v : List ℕ) → d ≡ Some v → MayStartAll r.casts (r.service.says (seat_of r) p.words (Hear x v)) p.calls) →
    ((s : Slot) → AreTakenAt r.casts p.calls s) → (s : Slot) → AreTakenAt r.casts (heard_at r x d p).calls s
heard_taken r x None p may all = all
heard_taken r x (Some v) p may all = starts_taken r.casts (r.service.says (seat_of r) p.words (Hear x v)) p.calls (may v refl) all

pub calls_taken : (r : Rules) → LayerLaws r → (h : List Entry) → IsHistory r h → (s : Slot) →
    AreTaken (r.casts.at_slot s) (place_at r.casts s) r.casts.tags ((parts r h).calls s)
calls_taken r laws [] met = λ s. tt
calls_taken r laws (Took item ∷ h) met =
    let p = parts r h in
    let before : (s : Slot) → AreTakenAt r.casts p.calls s = calls_taken r laws h met.1 in
    heard_taken r item.slot (item_delivers r item p) (taken_at item p) (may_start_heard r laws h met.1 item met.0)
    (λ s. item_taken_at r.casts p.calls item s (is_slot item.slot s) refl met.0.may (before s))
calls_taken r laws (Given v ∷ h) met =
    let p = parts r h in
    starts_taken r.casts (r.service.says (seat_of r) p.words (Ask v)) p.calls (may_start_given r laws h met.1 v met.0) (calls_taken r laws h met.1)

-- ---- none repeats an earlier one
abbrev pub AreFirstAt : CastRules → (Slot → List Call) → Slot → Type 0
AreFirstAt c h s = RepeatNone (c.at_slot s) (place_at c s) c.tags (h s)

pub start_first_at : (c : CastRules) (h : Slot → List Call) (s : Slot) (v : List ℕ) (b : Bool) → AreFirstAt c h s →
    RepeatNone (c.at_slot s) (place_at c s) c.tags (cond b (Start v ∷ h s) (h s))
start_first_at c h s v true all = all
start_first_at c h s v false all = all

starts_first : (c : CastRules) (says : List Say) (h : Slot → List Call) → ((s : Slot) → AreFirstAt c h s) → (s : Slot) → AreFirstAt c (started_all says h) s
starts_first c [] h all = all
starts_first c (say ∷ says) h all =
    starts_first c says (called h say.slot (Start say.value)) (λ s. start_first_at c h s say.value (is_slot say.slot s) (all s))

item_first_at : (r : Rules) (p : Parts) (item : Item) (s : Slot) (b : Bool) → is_slot item.slot s ≡ b → IsTakable r p item → AreFirstAt r.casts p.calls s →
    RepeatNone (r.casts.at_slot s) (place_at r.casts s) r.casts.tags (cond b (Take item ∷ p.calls s) (p.calls s))
item_first_at r p item s true here may all =
    (subst (λ (q : Slot). (r.casts.at_slot q).repeats (place_at r.casts q) r.casts.tags (p.calls q) item ≡ false) (same_slot item.slot s here) may.first, all)
item_first_at r p item s false here may all = all

pub taken_first : (r : Rules) (p : Parts) (item : Item) → IsTakable r p item → ((s : Slot) → AreFirstAt r.casts p.calls s) →
    (s : Slot) → AreFirstAt r.casts (taken_at item p).calls s
taken_first r p item may all s = item_first_at r p item s (is_slot item.slot s) refl may (all s)

heard_first : (r : Rules) (x : Slot) (d : Option (List ℕ)) (p : Parts) → ((s : Slot) → AreFirstAt r.casts p.calls s) →
    (s : Slot) → AreFirstAt r.casts (heard_at r x d p).calls s
heard_first r x None p all = all
heard_first r x (Some v) p all = starts_first r.casts (r.service.says (seat_of r) p.words (Hear x v)) p.calls all

pub calls_first : (r : Rules) (h : List Entry) → IsHistory r h → (s : Slot) → AreFirstAt r.casts (parts r h).calls s
calls_first r [] met = λ s. tt
calls_first r (Took item ∷ h) met =
    let p = parts r h in
    heard_first r item.slot (item_delivers r item p) (taken_at item p) (taken_first r p item met.0 (calls_first r h met.1))
calls_first r (Given v ∷ h) met =
    let p = parts r h in
    starts_first r.casts (r.service.says (seat_of r) p.words (Ask v)) p.calls (calls_first r h met.1)
