-- What a replica took, and what it hashed of that.
use Rattle.std.proofs.Common.{◌≡◌, ℕ, Bool, true, false, cond, List, [], ◌∷◌, Option, Some, None, sym, ◌∙◌, ap, subst, inl, inr, ◌⊎◌, if◌then◌else◌}
use Rattle.ritas_base.specs.declared.item.Item.{Item}
use Rattle.ritas_base.specs.declared.item.Say.{Say}
use Rattle.ritas_base.specs.declared.mode.Mode.{Mode}
use Rattle.ritas_base.specs.declared.slot.Slot.{Slot}
use Rattle.ritas_base.specs.Numbers.{Numbers}
use Rattle.ritas_base.specs.Slots.{slot_fault, form_of}
use Rattle.ritas_base.specs.History.{Call, Start, Take}
use Rattle.ritas_base.specs.SlotOrder.{is_slot}
use Rattle.frame_codec.specs.Body.{IsInGrammar}
use Rattle.layer_api.specs.Entries.{Print, is_hashed, prints_at_kind}
use Rattle.layer_api.specs.EntryLaws.{EntryLaws}
use Rattle.layer_api.specs.HasLaws.{has_left, has_right}
use Rattle.layer_api.specs.OneValue.{AreGoodCalls}
use Rattle.layer_api.specs.Runs.{Has}
use Rattle.layer_api.specs.Words.{Ask, Hear}
use Rattle.ritas_core.specs.Rules.{Rules, seat_of, place_at}
use Rattle.ritas_core.specs.Casts.{called, started_all}
use Rattle.ritas_core.specs.Parts.{Parts, Entry, Took, Given, parts, heard_at, taken_at, item_delivers}
use Rattle.ritas_core.specs.Checks.{IsHistory}
use Rattle.world_model.specs.Audit.{prints_in}
use Rattle.world_model.proofs.Below.{IsFounded}

abbrev pub AllTook : (Item → Type 0) → List Entry → Type 0
AllTook P [] = Unit {0}
AllTook P (Given v ∷ h) = AllTook P h
AllTook P (Took x ∷ h) = P x × AllTook P h

pub took_map : (P Q : Item → Type 0) → ((x : Item) → P x → Q x) → (h : List Entry) → AllTook P h → AllTook Q h
took_map P Q f [] all = tt
took_map P Q f (Given v ∷ h) all = took_map P Q f h all
took_map P Q f (Took x ∷ h) all = (f x all.0, took_map P Q f h all.1)

same_take : (x y : Item) → Take x ≡ Take y → x ≡ y
same_take x y e = cc

take_if : (b : Bool) (c : Call) (h : List Call) (x : Item) → Has (cond b (c ∷ h) h) (Take x) → (c ≡ Take x) ⊎ Has h (Take x)
take_if true c h x there = there
take_if false c h x there = inr there

take_starts : (says : List Say) (h : Slot → List Call) (s : Slot) (x : Item) → Has (started_all says h s) (Take x) → Has (h s) (Take x)
take_starts [] h s x there = there
take_starts (say ∷ says) h s x there =
    elim (take_if (is_slot say.slot s) (Start say.value) (h s) x (take_starts says (called h say.slot (Start say.value)) s x there)) [ inl e ↦ absurd cc | inr was ↦ was ]

take_heard : (r : Rules) (q : Slot) (o : Option (List ℕ)) (p : Parts) (s : Slot) (x : Item) → Has ((heard_at r q o p).calls s) (Take x) → Has (p.calls s) (Take x)
take_heard r q None p s x there = there
take_heard r q (Some u) p s x there = take_starts (r.service.says (seat_of r) p.words (Hear q u)) p.calls s x there

-- what a broadcast took, the replica took
pub took_called : (P : Item → Type 0) (r : Rules) (h : List Entry) → AllTook P h → (s : Slot) (x : Item) → Has ((parts r h).calls s) (Take x) → P x
took_called P r [] all s x there = absurd there
took_called P r (Given v ∷ h) all s x there =
    took_called P r h all s x (take_starts (r.service.says (seat_of r) (parts r h).words (Ask v)) (parts r h).calls s x there)
took_called P r (Took y ∷ h) all s x there =
    elim (take_if (is_slot y.slot s) (Take y) ((parts r h).calls s) x (take_heard r y.slot (item_delivers r y (parts r h)) (taken_at y (parts r h)) s x there)) [
      | inl e ↦ subst P (same_take y x e) all.0
      | inr was ↦ took_called P r h all.1 s x was
    ]

-- an item that a broadcast took is of its slot, and in the grammar
pub good_taken : (p : Numbers) (mode : Mode) (s : Slot) (h : List Call) (x : Item) → AreGoodCalls p mode s h → Has h (Take x) → (x.slot ≡ s) × IsInGrammar p mode x
good_taken p mode s [] x good there = absurd there
good_taken p mode s (Start v ∷ h) x good (inl e) = absurd cc
good_taken p mode s (Start v ∷ h) x good (inr there) = good_taken p mode s h x good.1 there
good_taken p mode s (Take y ∷ h) x good (inl e) = subst (λ (z : Item). (z.slot ≡ s) × IsInGrammar p mode z) (same_take y x e) (good.0, good.1)
good_taken p mode s (Take y ∷ h) x good (inr there) = good_taken p mode s h x good.2 there

-- ---- what was hashed

-- what is hashed of an item is among what was hashed
abbrev IsPrinted : Rules → List Entry → Item → Type 0
IsPrinted r h x = (a : Print) → is_hashed (form_of r.mode x.slot) x.kind ≡ true
    → Has (prints_at_kind (place_at r.casts x.slot) r.casts.tags x.kind x.value) a → Has (prints_in r h) a

abbrev prints_if : Rules → Item → Bool → List Print
prints_if r x b = if b then prints_at_kind (place_at r.casts x.slot) r.casts.tags x.kind x.value else []

printed_now : (r : Rules) (h : List Entry) (x : Item) → IsPrinted r (Took x ∷ h) x
printed_now r h x a hashes inside =
    has_left (prints_if r x (is_hashed (form_of r.mode x.slot) x.kind)) (prints_in r h) a (subst (λ b. Has (prints_if r x b) a) (sym hashes) inside)

printed_later : (r : Rules) (h : List Entry) (x y : Item) → IsPrinted r h y → IsPrinted r (Took x ∷ h) y
printed_later r h x y printed a hashes inside =
    has_right (prints_if r x (is_hashed (form_of r.mode x.slot) x.kind)) (prints_in r h) a (printed a hashes inside)

all_printed : (r : Rules) (h : List Entry) → AllTook (IsPrinted r h) h
all_printed r [] = tt
all_printed r (Given v ∷ h) = took_map (IsPrinted r h) (IsPrinted r (Given v ∷ h)) (λ x printed. printed) h (all_printed r h)
all_printed r (Took x ∷ h) =
    (printed_now r h x, took_map (IsPrinted r h) (IsPrinted r (Took x ∷ h)) (λ y printed. printed_later r h x y printed) h (all_printed r h))

-- what the broadcast of a slot hashed is among what the replica hashed
pub met_printed : (r : Rules) → IsFounded r → (h : List Entry) → IsHistory r h → (s : Slot) → EntryLaws (r.casts.at_slot s) → (a : Print)
    → Has ((r.casts.at_slot s).met (place_at r.casts s) r.casts.tags ((parts r h).calls s)) a → Has (prints_in r h) a
met_printed r laws h met s entries a here =
    let from = entries.met_taken (place_at r.casts s) r.casts.tags ((parts r h).calls s) a here in
    let x = from.item in
    let is = good_taken r.casts.numbers r.mode s ((parts r h).calls s) x (laws.core.calls r laws.layers h met s) from.taken in
    let right : slot_fault r.casts.numbers r.mode s ≡ None = subst (λ (q : Slot). slot_fault r.casts.numbers r.mode q ≡ None) is.0 is.1.slot in
    let form : form_of r.mode x.slot ≡ (r.casts.at_slot s).form = ap (form_of r.mode) is.0 ∙ sym (laws.layers.kinds.forms s right) in
    took_called (IsPrinted r h) r h (all_printed r h) s x from.taken a
    (ap (λ (form : ℕ). is_hashed form x.kind) form ∙ from.kind)
    (subst (λ (q : Slot). Has (prints_at_kind (place_at r.casts q) r.casts.tags x.kind x.value) a) (sym is.0) from.print)
