-- What goes out by an entry is what is due after it and was not before, in the order of slot, kind and receiver.
use Rattle.std.proofs.Common.{◌≡◌, ℕ, Bool, true, false, not, cond, ◌&&◌, ◌||◌, Option, Some, None, List, [], ◌∷◌, filter, refl, sym, ◌∙◌, ap, subst}
use Rattle.std.proofs.Math.Bool.{or_assoc}
use Rattle.std.specs.declared.cmp.Ordering.{Ordering}
use Rattle.std.specs.Ordering.{nat_cmp, then_cmp, on}
use Rattle.std.specs.Cmp.{IsStrictWeakOrder, IsTotalOrder}
use Rattle.std.proofs.lemmas.Cmp.{nat_cmp_total, then_total, on_total}
use Rattle.std.proofs.lemmas.List.MinMax.{ranks_by}
use Rattle.std.proofs.lemmas.List.Folds.{list_any-append}
use Rattle.std.proofs.lemmas.Map.Steps.{list_any_congr}
use Rattle.ritas_base.specs.declared.slot.Slot.{Slot}
use Rattle.ritas_base.specs.declared.item.Msg.{Msg}
use Rattle.ritas_base.specs.declared.item.Say.{Say}
use Rattle.ritas_base.specs.SlotOrder.{slot_cmp, slots_total, is_slot, same_slot, slot_itself}
use Rattle.ritas_base.specs.Messages.{kind_rank, to_rank, msg_eq, msg_eq_equiv, has, without}
use Rattle.ritas_base.specs.History.{Call, Start, Take}
use Rattle.layer_api.specs.Words.{Ask, Hear}
use Rattle.ritas_core.specs.Rules.{Rules, seat_of, place_at, due_at_slot}
use Rattle.ritas_core.specs.Casts.{called, started_all, start_news, news_at}
use Rattle.ritas_core.specs.Parts.{Parts, Entry, Took, Given, parts, heard_at, heard_news, taken_at, item_delivers, parts_after, made_by}
use Rattle.ritas_core.specs.Order.{is_before, inserted, ordered_onto, ordered, new_messages}
use Rattle.ritas_core.specs.Laws.{LayerLaws, is_due, NoneBefore, AreMessagesInOrder}
use Rattle.ritas_core.proofs.TestLaws.{or_flip}

-- what is there now and was not
abbrev pub is_new : Bool → Bool → Bool
is_new was now = now && not was

-- ---- tests
kept_or_not : (hy e rest y hm : Bool) → (e ≡ true → hm ≡ hy) → rest ≡ (y && not hm) → cond (not hy) (e || rest) rest ≡ ((e || y) && not hm)
kept_or_not true true rest true true same r = r
kept_or_not true true rest true false same r = let wrong = same refl in cc
kept_or_not true true rest false true same r = r
kept_or_not true true rest false false same r = let wrong = same refl in cc
kept_or_not false true rest y true same r = let wrong = same refl in cc
kept_or_not false true rest y false same r = refl
kept_or_not true false rest y hm same r = r
kept_or_not false false rest y hm same r = r

not_true : (b : Bool) → (b ≡ true → ⊥) → b ≡ false
not_true true f = absurd (f refl)
not_true false f = refl

and_not : (d : Bool) → (d && not d) ≡ false
and_not true = refl
and_not false = refl

new_twice : (a b c : Bool) → (a ≡ true → b ≡ true) → (b ≡ true → c ≡ true) → (is_new a b || is_new b c) ≡ is_new a c
new_twice true true c f g = refl
new_twice true false c f g = let wrong = f refl in cc
new_twice false true true f g = refl
new_twice false true false f g = let wrong = g refl in cc
new_twice false false c f g = refl

or_turn : (a b c : Bool) → (a || (b || c)) ≡ (b || (c || a))
or_turn true true c = refl
or_turn true false true = refl
or_turn true false false = refl
or_turn false true c = refl
or_turn false false true = refl
or_turn false false false = refl

-- ---- lists without others
has-cond : (b : Bool) (y : Msg) (ys : List Msg) (m : Msg) → has (cond b (y ∷ ys) ys) m ≡ cond b (msg_eq m y || has ys m) (has ys m)
has-cond true y ys m = refl
has-cond false y ys m = refl

pub has-without : (xs ys : List Msg) (m : Msg) → has (without xs ys) m ≡ (has ys m && not (has xs m))
unfolding without
has-without xs [] m = refl
has-without xs (y ∷ ys) m =
    has-cond (not (has xs y)) y (filter (λ z. not (has xs z)) ys) m
    ∙ kept_or_not (has xs y) (msg_eq m y) (has (filter (λ z. not (has xs z)) ys) m) (has ys m) (has xs m)
    (λ e. list_any_congr msg_eq_equiv m y xs e) (has-without xs ys m)

-- ---- one call
-- whether the message is due, at its slot, after these calls
abbrev pub is_due_at : Rules → (Slot → List Call) → Msg → Bool
is_due_at r h m = has (due_at_slot r.casts m.slot (h m.slot)) m

call_news_at : (r : Rules) → LayerLaws r → (h : Slot → List Call) (s : Slot) (c : Call) (m : Msg) (b : Bool) → is_slot s m.slot ≡ b →
    (has (due_at_slot r.casts s (c ∷ h s)) m && not (has (due_at_slot r.casts s (h s)) m))
    ≡ is_new (is_due_at r h m) (has (due_at_slot r.casts m.slot (cond b (c ∷ h m.slot) (h m.slot))) m)
call_news_at r laws h s c m true here =
    let P : Slot → Type 0 = λ q. (has (due_at_slot r.casts s (c ∷ h s)) m && not (has (due_at_slot r.casts s (h s)) m))
    ≡ is_new (has (due_at_slot r.casts q (h q)) m) (has (due_at_slot r.casts q (c ∷ h q)) m) in
    subst P (same_slot s m.slot here) refl
call_news_at r laws h s c m false here =
    let gone : has (due_at_slot r.casts s (c ∷ h s)) m ≡ false = not_true _ (λ t.
    let slot = (laws.casts s).due_slot (place_at r.casts s) r.casts.tags (c ∷ h s) m t in
    let itself : is_slot s m.slot ≡ true = ap (λ (q : Slot). is_slot s q) slot ∙ slot_itself s in
    let clash : true ≡ false = sym itself ∙ here in cc) in
    ap (λ (x : Bool). x && not (has (due_at_slot r.casts s (h s)) m)) gone ∙ sym (and_not (is_due_at r h m))

pub call_news : (r : Rules) → LayerLaws r → (h : Slot → List Call) (s : Slot) (c : Call) (m : Msg) →
    has (news_at r.casts s (h s) c) m ≡ is_new (is_due_at r h m) (is_due_at r (called h s c) m)
call_news r laws h s c m =
    has-without (due_at_slot r.casts s (h s)) (due_at_slot r.casts s (c ∷ h s)) m ∙ call_news_at r laws h s c m (is_slot s m.slot) refl

call_stays_at : (r : Rules) → LayerLaws r → (h : Slot → List Call) (c : Call) (m : Msg) (b : Bool) → is_due_at r h m ≡ true →
    has (due_at_slot r.casts m.slot (cond b (c ∷ h m.slot) (h m.slot))) m ≡ true
call_stays_at r laws h c m true due = (laws.casts m.slot).due_stays (place_at r.casts m.slot) r.casts.tags (h m.slot) c m due
call_stays_at r laws h c m false due = due

call_stays : (r : Rules) → LayerLaws r → (h : Slot → List Call) (s : Slot) (c : Call) (m : Msg) → is_due_at r h m ≡ true →
    is_due_at r (called h s c) m ≡ true
call_stays r laws h s c m due = call_stays_at r laws h c m (is_slot s m.slot) due

-- ---- what is said is started
starts_stay : (r : Rules) → LayerLaws r → (says : List Say) (h : Slot → List Call) (m : Msg) → is_due_at r h m ≡ true →
    is_due_at r (started_all says h) m ≡ true
starts_stay r laws [] h m due = due
starts_stay r laws (say ∷ says) h m due =
    starts_stay r laws says (called h say.slot (Start say.value)) m (call_stays r laws h say.slot (Start say.value) m due)

pub starts_new : (r : Rules) → LayerLaws r → (says : List Say) (h : Slot → List Call) (m : Msg) →
    has (start_news r.casts says h) m ≡ is_new (is_due_at r h m) (is_due_at r (started_all says h) m)
starts_new r laws [] h m = sym (and_not (is_due_at r h m))
starts_new r laws (say ∷ says) h m =
    let k : Slot → List Call = called h say.slot (Start say.value) in
    list_any-append (msg_eq m) (news_at r.casts say.slot (h say.slot) (Start say.value)) (start_news r.casts says k)
    ∙ ap (λ (x : Bool). x || has (start_news r.casts says k) m) (call_news r laws h say.slot (Start say.value) m)
    ∙ ap (λ (x : Bool). is_new (is_due_at r h m) (is_due_at r k m) || x) (starts_new r laws says k m)
    ∙ new_twice (is_due_at r h m) (is_due_at r k m) (is_due_at r (started_all says k) m) (call_stays r laws h say.slot (Start say.value) m)
    (starts_stay r laws says k m)

-- ---- what is heard
heard_stays : (r : Rules) → LayerLaws r → (s : Slot) (d : Option (List ℕ)) (p : Parts) (m : Msg) → is_due r p m ≡ true →
    is_due r (heard_at r s d p) m ≡ true
heard_stays r laws s None p m due = due
heard_stays r laws s (Some v) p m due = starts_stay r laws (r.service.says (seat_of r) p.words (Hear s v)) p.calls m due

pub heard_new : (r : Rules) → LayerLaws r → (s : Slot) (d : Option (List ℕ)) (p : Parts) (m : Msg) →
    has (heard_news r s d p) m ≡ is_new (is_due r p m) (is_due r (heard_at r s d p) m)
heard_new r laws s None p m = sym (and_not (is_due r p m))
heard_new r laws s (Some v) p m = starts_new r laws (r.service.says (seat_of r) p.words (Hear s v)) p.calls m

-- ---- an entry
entry_new : (r : Rules) → LayerLaws r → (e : Entry) (p : Parts) (m : Msg) → has (made_by r e p) m ≡ is_new (is_due r p m) (is_due r (parts_after r e p) m)
entry_new r laws (Took item) p m =
    let q : Parts = taken_at item p in
    let d = item_delivers r item p in
    list_any-append (msg_eq m) (news_at r.casts item.slot (p.calls item.slot) (Take item)) (heard_news r item.slot d q)
    ∙ ap (λ (x : Bool). x || has (heard_news r item.slot d q) m) (call_news r laws p.calls item.slot (Take item) m)
    ∙ ap (λ (x : Bool). is_new (is_due r p m) (is_due r q m) || x) (heard_new r laws item.slot d q m)
    ∙ new_twice (is_due r p m) (is_due r q m) (is_due r (heard_at r item.slot d q) m) (call_stays r laws p.calls item.slot (Take item) m)
    (heard_stays r laws item.slot d q m)
entry_new r laws (Given v) p m = starts_new r laws (r.service.says (seat_of r) p.words (Ask v)) p.calls m

-- what is due stays due
pub due_stays_after : (r : Rules) → LayerLaws r → (h : List Entry) (e : Entry) (m : Msg) → is_due r (parts r h) m ≡ true →
    is_due r (parts r (e ∷ h)) m ≡ true
due_stays_after r laws h (Took item) m due =
    let p = parts r h in
    heard_stays r laws item.slot (item_delivers r item p) (taken_at item p) m (call_stays r laws p.calls item.slot (Take item) m due)
due_stays_after r laws h (Given v) m due = starts_stay r laws (r.service.says (seat_of r) (parts r h).words (Ask v)) (parts r h).calls m due

-- ---- the order changes nothing
has-inserted_at : (x y m : Msg) (xs : List Msg) (b : Bool) → has (inserted xs y) m ≡ (has xs m || msg_eq m y) →
    has (cond b (y ∷ x ∷ xs) (x ∷ inserted xs y)) m ≡ ((msg_eq m x || has xs m) || msg_eq m y)
has-inserted_at x y m xs true rest = or_turn (msg_eq m y) (msg_eq m x) (has xs m) ∙ sym (or_assoc (msg_eq m x) (has xs m) (msg_eq m y))
has-inserted_at x y m xs false rest = ap (λ (z : Bool). msg_eq m x || z) rest ∙ sym (or_assoc (msg_eq m x) (has xs m) (msg_eq m y))

pub has-inserted : (xs : List Msg) (y m : Msg) → has (inserted xs y) m ≡ (has xs m || msg_eq m y)
has-inserted [] y m = or_flip (msg_eq m y) false
has-inserted (x ∷ xs) y m = has-inserted_at x y m xs (is_before y x) (has-inserted xs y m)

has-onto : (sorted ms : List Msg) (m : Msg) → has (ordered_onto sorted ms) m ≡ (has sorted m || has ms m)
has-onto sorted [] m = or_flip false (has sorted m)
has-onto sorted (x ∷ ms) m =
    has-onto (inserted sorted x) ms m
    ∙ ap (λ (z : Bool). z || has ms m) (has-inserted sorted x m)
    ∙ or_assoc (has sorted m) (msg_eq m x) (has ms m)

pub has-ordered : (ms : List Msg) (m : Msg) → has (ordered ms) m ≡ has ms m
unfolding ordered
has-ordered ms m = has-onto [] ms m

-- ---- a history
pub new_is_due : (r : Rules) → LayerLaws r → (h : List Entry) (e : Entry) (m : Msg) →
    has (new_messages r h e) m ≡ (is_due r (parts r (e ∷ h)) m && not (is_due r (parts r h) m))
new_is_due r laws h e m = has-ordered (made_by r e (parts r h)) m ∙ entry_new r laws e (parts r h) m

-- ---- the order
abbrev place_cmp : Msg → Msg → Ordering
place_cmp =
    then_cmp (on (λ m. m.slot) slot_cmp)
    (then_cmp (on (λ m. kind_rank m.kind) nat_cmp) (on (λ m. to_rank m.to) nat_cmp))

places_total : IsTotalOrder place_cmp
places_total =
    then_total (on_total (λ m. m.slot) slots_total)
    (then_total (on_total (λ m. kind_rank m.kind) nat_cmp_total) (on_total (λ m. to_rank m.to) nat_cmp_total))

weak : IsStrictWeakOrder is_before
weak = ranks_by places_total (λ m. m)

-- what is not before x is not before what x is not before
none_before_more : (m x : Msg) (xs : List Msg) → is_before x m ≡ false → NoneBefore x xs → NoneBefore m xs
none_before_more m x [] apart none = tt
none_before_more m x (y ∷ xs) apart none = (weak.chain y x m none.0 apart, none_before_more m x xs apart none.1)

none_before_inserted_at : (b : Bool) (x y m : Msg) (xs ys : List Msg) → is_before m x ≡ false → is_before y x ≡ false → NoneBefore x xs →
    NoneBefore x ys → NoneBefore x (cond b (m ∷ y ∷ xs) (y ∷ ys))
none_before_inserted_at true x y m xs ys apart first rest more = (apart, (first, rest))
none_before_inserted_at false x y m xs ys apart first rest more = (first, more)

none_before_inserted : (x m : Msg) (xs : List Msg) → is_before m x ≡ false → NoneBefore x xs → NoneBefore x (inserted xs m)
none_before_inserted x m [] apart none = (apart, tt)
none_before_inserted x m (y ∷ xs) apart none =
    none_before_inserted_at (is_before m y) x y m xs (inserted xs m) apart none.0 none.1 (none_before_inserted x m xs apart none.1)

inserted_in_order_at : (b : Bool) (x m : Msg) (xs : List Msg) → is_before m x ≡ b → AreMessagesInOrder (x ∷ xs) → AreMessagesInOrder (inserted xs m) →
    AreMessagesInOrder (cond b (m ∷ x ∷ xs) (x ∷ inserted xs m))
inserted_in_order_at true x m xs less sorted rest =
    let apart = weak.one_way m x less in
    ((apart, none_before_more m x xs apart sorted.0), sorted)
inserted_in_order_at false x m xs less sorted rest = (none_before_inserted x m xs less sorted.0, rest)

inserted_in_order : (xs : List Msg) (m : Msg) → AreMessagesInOrder xs → AreMessagesInOrder (inserted xs m)
inserted_in_order [] m sorted = (tt, tt)
inserted_in_order (x ∷ xs) m sorted = inserted_in_order_at (is_before m x) x m xs refl sorted (inserted_in_order xs m sorted.1)

onto_in_order : (sorted ms : List Msg) → AreMessagesInOrder sorted → AreMessagesInOrder (ordered_onto sorted ms)
onto_in_order sorted [] all = all
onto_in_order sorted (m ∷ ms) all = onto_in_order (inserted sorted m) ms (inserted_in_order sorted m all)

pub ordered_in_order : (ms : List Msg) → AreMessagesInOrder (ordered ms)
unfolding ordered
ordered_in_order ms = onto_in_order [] ms tt

pub new_in_order : (r : Rules) (h : List Entry) (e : Entry) → AreMessagesInOrder (new_messages r h e)
new_in_order r h e = ordered_in_order (made_by r e (parts r h))
