-- What was sent to a replica, what correct replicas hashed, and when two such things don't collide.
use Rattle.std.proofs.Common.{◌≡◌, ℕ, ◌<◌, Bool, true, false, not, ◌==◌, ◌&&◌, cond, Option, Some, None, List, [], ◌∷◌, refl, sym, ◌∙◌, ap₂, subst, arith, if◌then◌else◌}
use Rattle.std.specs.List.{list_any}
use Rattle.std.specs.Str.{bytes_eq}
use Rattle.std.proofs.lemmas.Bool.{and_parts, eqb-true}
use Rattle.std.proofs.lemmas.Slice.Eq.{bytes_eq-Decides}
use Rattle.ritas_base.specs.declared.slot.Slot.{Slot}
use Rattle.ritas_base.specs.declared.item.Item.{Item}
use Rattle.ritas_base.specs.declared.item.Say.{Say}
use Rattle.ritas_base.specs.SlotOrder.{is_slot, same_slot}
use Rattle.ritas_base.specs.Shortest.{option_or_none}
use Rattle.ritas_base.specs.Messages.{Place}
use Rattle.ritas_base.specs.History.{Call, Start, Take, replicas}
use Rattle.layer_api.specs.Runs.{Has}
use Rattle.layer_api.specs.Entries.{sent, EntryInput, Print, OfMessage, OfEntry, IsApart}
use Rattle.layer_api.specs.Words.{Ask, Hear}
use Rattle.ritas_core.specs.Rules.{Rules, seat_of}
use Rattle.ritas_core.specs.Casts.{called, started_all}
use Rattle.ritas_core.specs.Parts.{Entry, Took, Given, Parts, parts, heard_at, taken_at, item_delivers}
use Rattle.ritas_core.specs.Machine.{CoreState}
use Rattle.world_model.specs.World.{Setting, rules_at}
use Rattle.world_model.specs.Audit.{prints_in, prints_by, prints_at, is_same_input, clashes, collide}
use Rattle.world_model.proofs.Anywhere.{none_of, all_fail, has_among, among_from, has_number}

-- ---- what was sent, call by call
-- starts bring nothing
sent_called : (at : Place) (h : Slot → List Call) (q : Slot) (v : List ℕ) (s : Slot) (b : Bool) → sent at (cond b (Start v ∷ h s) (h s)) ≡ sent at (h s)
sent_called at h q v s true = option_or_none (sent at (h s))
sent_called at h q v s false = refl

pub sent_started : (at : Place) (says : List Say) (h : Slot → List Call) (s : Slot) → sent at (started_all says h s) ≡ sent at (h s)
sent_started at [] h s = refl
sent_started at (say ∷ says) h s =
    sent_started at says (called h say.slot (Start say.value)) s ∙ sent_called at h say.slot say.value s (is_slot say.slot s)

sent_heard : (r : Rules) (at : Place) (q : Slot) (d : Option (List ℕ)) (p : Parts) (s : Slot) → sent at ((heard_at r q d p).calls s) ≡ sent at (p.calls s)
sent_heard r at q None p s = refl
sent_heard r at q (Some v) p s = sent_started at (r.service.says (seat_of r) p.words (Hear q v)) p.calls s

-- an item brings what it says, at its slot
pub sent_taken : (r : Rules) (at : Place) (h : List Entry) (item : Item) (s : Slot) →
    sent at ((parts r (Took item ∷ h)).calls s) ≡ sent at (cond (is_slot item.slot s) (Take item ∷ (parts r h).calls s) ((parts r h).calls s))
sent_taken r at h item s = let p = parts r h in sent_heard r at item.slot (item_delivers r item p) (taken_at item p) s

pub sent_given : (r : Rules) (at : Place) (h : List Entry) (v : List ℕ) (s : Slot) → sent at ((parts r (Given v ∷ h)).calls s) ≡ sent at ((parts r h).calls s)
sent_given r at h v s = sent_started at (r.service.says (seat_of r) (parts r h).words (Ask v)) (parts r h).calls s

-- ---- what was hashed
pub print_there : (w : Setting) (states : ℕ → CoreState) (i : ℕ) (a : Print) → w.is_correct i ≡ true → i < w.numbers.n →
    Has (prints_in (rules_at w i) (states i).history) a → Has (prints_at w states) a
print_there w states i a correct below here =
    has_among (prints_by w states) (replicas w.numbers.n) i a (has_number 0 w.numbers.n i (omega arith) (omega arith))
    (subst (λ b. Has (if b then prints_in (rules_at w i) (states i).history else []) a) (sym correct) here)

-- ---- before any event
nothing_by : (r : Rules) (h : List Entry) (b : Bool) (a : Print) → h ≡ [] → Has (if b then prints_in r h else []) a → ⊥
nothing_by r h true a none here = elim (subst (λ (es : List Entry). Has (prints_in r es) a) none here) [ ]
nothing_by r h false a none here = elim here [ ]

pub nothing_there : (w : Setting) (states : ℕ → CoreState) → ((i : ℕ) → (states i).history ≡ []) → (a : Print) → Has (prints_at w states) a → ⊥
nothing_there w states none a here =
    let from = among_from (prints_by w states) (replicas w.numbers.n) a here in
    nothing_by (rules_at w from.element) (states from.element).history (w.is_correct from.element) a (none from.element) from.inside

pub none_yet : (w : Setting) (states : ℕ → CoreState) → ((i : ℕ) → (states i).history ≡ []) → collide (prints_at w states) ≡ false
none_yet w states none =
    all_fail (λ a. list_any (clashes a) (prints_at w states)) (prints_at w states) (λ a here. absurd (nothing_there w states none a here))

-- ---- what doesn't clash is apart
pub same_input : (x y : EntryInput) → is_same_input x y ≡ true → x ≡ y
same_input x y h =
    let whole = and_parts (is_slot x.slot y.slot && (x.echoer == y.echoer && x.verifier == y.verifier)) (bytes_eq x.digest y.digest) h in
    let front = and_parts (is_slot x.slot y.slot) (x.echoer == y.echoer && x.verifier == y.verifier) whole.0 in
    let numbers = and_parts (x.echoer == y.echoer) (x.verifier == y.verifier) front.1 in
    let slot = same_slot x.slot y.slot front.0 in
    let echoer = eqb-true x.echoer y.echoer numbers.0 in
    let verifier = eqb-true x.verifier y.verifier numbers.1 in
    let digest = (bytes_eq-Decides x.digest y.digest).0 whole.1 in
    ap₂ (λ (s : Slot) (k : ℕ). record { slot = s; echoer = k; verifier = x.verifier; digest = x.digest }) slot echoer
    ∙ ap₂ (λ (k : ℕ) (d : List ℕ). record { slot = y.slot; echoer = y.echoer; verifier = k; digest = d }) verifier digest

must_pass : (a b : Bool) → (a && not b) ≡ false → a ≡ true → b ≡ true
must_pass true true h e = refl
must_pass true false h e = absurd (cc)
must_pass false b h e = absurd (cc)

apart : (a c : Print) → clashes a c ≡ false → IsApart a c
apart (OfMessage m d) (OfMessage v e) h = λ same. (bytes_eq-Decides m v).0 (must_pass (bytes_eq d e) (bytes_eq m v) h ((bytes_eq-Decides d e).1 same))
apart (OfEntry x d) (OfEntry y e) h = λ same. same_input x y (must_pass (bytes_eq d e) (is_same_input x y) h ((bytes_eq-Decides d e).1 same))
apart (OfMessage m d) (OfEntry y e) h = tt
apart (OfEntry x d) (OfMessage v e) h = tt

pub none_apart : (prints : List Print) → collide prints ≡ false → (a c : Print) → Has prints a → Has prints c → IsApart a c
none_apart prints none a c here there =
    apart a c (none_of (clashes a) prints (none_of (λ x. list_any (clashes x) prints) prints none a here) c there)
