-- What goes out by an entry, and what waits and is held afterwards, may be given.
use Rattle.std.proofs.Common.{◌≡◌, ℕ, zero, suc, Bool, true, false, not, cond, ◌||◌, Option, Some, None, List, [], ◌∷◌, ◌++◌, filter, map, replicate, get_or, set, refl, inl, inr, ◌⊎◌}
use Rattle.ritas_base.specs.declared.slot.Slot.{Slot}
use Rattle.ritas_base.specs.declared.item.Item.{Item}
use Rattle.ritas_base.specs.declared.item.Msg.{Msg}
use Rattle.ritas_base.specs.declared.item.Say.{Say}
use Rattle.ritas_base.specs.Slots.{slot_fault}
use Rattle.ritas_base.specs.Messages.{has, without, reaches, item_of}
use Rattle.ritas_base.specs.History.{Call, Start, Take}
use Rattle.frame_codec.specs.Body.{IsInGrammar}
use Rattle.layer_api.specs.Runs.{Has}
use Rattle.layer_api.specs.HasLaws.{has_either}
use Rattle.layer_api.specs.OneValue.{AreGoodCalls}
use Rattle.layer_api.specs.Service.{AreProper, AreGoodSays}
use Rattle.layer_api.specs.Words.{Word, Ask, Hear}
use Rattle.ooc_buffers.specs.Lists.{HeldItem, held_of_peer, with_item_held, passing, released, remaining}
use Rattle.ritas_core.specs.Rules.{Rules, seat_of, place_at, due_at_slot}
use Rattle.ritas_core.specs.Casts.{called, start_news, news_at}
use Rattle.ritas_core.specs.Parts.{Entry, Took, Given, Parts, parts, told_news, heard_news, taken_at, item_delivers, made_by}
use Rattle.ritas_core.specs.Order.{is_before, inserted, ordered_onto, ordered, new_messages, sent_to, own_items}
use Rattle.ritas_core.specs.Checks.{is_open, is_item_past, IsGood, IsHistory}
use Rattle.ritas_core.specs.Machine.{CoreState, state_after_entry, AreGood}
use Rattle.ritas_core.specs.Stands.{AreGoodKept, AreGoodLists}
use Rattle.ritas_core.specs.Laws.{LayerLaws}
use Rattle.ritas_core.proofs.GoodSlots.{of_slot}
use Rattle.ritas_core.proofs.Conditions.{words_proper, all_good, good_told, good_called, good_taken, may_hear}

has_kept : {X : Type 0} (b : Bool) (y : X) (xs ys : List X) (x : X) → (Has ys x → Has xs x) → Has (cond b (y ∷ ys) ys) x → Has (y ∷ xs) x
has_kept true y xs ys x rest (inl e) = inl e
has_kept true y xs ys x rest (inr here) = inr (rest here)
has_kept false y xs ys x rest here = inr (rest here)

pub has_filter : {X : Type 0} (test : X → Bool) (xs : List X) (x : X) → Has (filter test xs) x → Has xs x
has_filter test [] x here = here
has_filter test (y ∷ xs) x here = has_kept (test y) y xs (filter test xs) x (has_filter test xs x) here

pub has_without_from : (before after : List Msg) (m : Msg) → Has (without before after) m → Has after m
unfolding without
has_without_from before after m here = has_filter (λ x. not (has before x)) after m here

has_inserted_at : (b : Bool) (x y m : Msg) (xs ys : List Msg) → (Has ys m → (y ≡ m) ⊎ Has xs m) → Has (cond b (y ∷ x ∷ xs) (x ∷ ys)) m →
    (y ≡ m) ⊎ Has (x ∷ xs) m
has_inserted_at true x y m xs ys rest here = here
has_inserted_at false x y m xs ys rest (inl e) = inr (inl e)
has_inserted_at false x y m xs ys rest (inr here) = elim (rest here) [ inl e ↦ inl e | inr a ↦ inr (inr a) ]

has_inserted : (xs : List Msg) (y m : Msg) → Has (inserted xs y) m → (y ≡ m) ⊎ Has xs m
has_inserted [] y m here = here
has_inserted (x ∷ xs) y m here = has_inserted_at (is_before y x) x y m xs (inserted xs y) (has_inserted xs y m) here

has_onto : (sorted ms : List Msg) (m : Msg) → Has (ordered_onto sorted ms) m → Has sorted m ⊎ Has ms m
has_onto sorted [] m here = inl here
has_onto sorted (y ∷ ms) m here = elim (has_onto (inserted sorted y) ms m here) [
  | inl a ↦ elim (has_inserted sorted y m a) [ inl e ↦ inr (inl e) | inr b ↦ inl b ]
  | inr b ↦ inr (inr b)
]

pub has_ordered_from : (ms : List Msg) (m : Msg) → Has (ordered ms) m → Has ms m
unfolding ordered
has_ordered_from ms m here = elim (has_onto [] ms m here) [ inl a ↦ elim a [ ] | inr b ↦ b ]

-- ---- what becomes due is in the grammar
abbrev pub AreInGrammar : Rules → List Msg → Type 0
AreInGrammar r ms = (m : Msg) → Has ms m → IsInGrammar r.casts.numbers r.mode (item_of r.casts.me m)

news_good : (r : Rules) → LayerLaws r → (s : Slot) (calls : List Call) (c : Call) → slot_fault r.casts.numbers r.mode s ≡ None →
    AreGoodCalls r.casts.numbers r.mode s (c ∷ calls) → AreInGrammar r (news_at r.casts s calls c)
news_good r laws s calls c right good m here =
    (laws.casts s).due_good (place_at r.casts s) r.casts.tags r.mode (c ∷ calls) m laws.kinds.digests (of_slot r laws s right) good
    (has_without_from (due_at_slot r.casts s calls) (due_at_slot r.casts s (c ∷ calls)) m here)

append_in_grammar : (r : Rules) (xs ys : List Msg) → AreInGrammar r xs → AreInGrammar r ys → AreInGrammar r (xs ++ ys)
append_in_grammar r xs ys left right m here = elim (has_either xs ys m here) [ inl a ↦ left m a | inr b ↦ right m b ]

starts_good : (r : Rules) → LayerLaws r → (says : List Say) (h : Slot → List Call) → AreGoodSays r.casts.numbers r.mode says →
    ((s : Slot) → AreGoodCalls r.casts.numbers r.mode s (h s)) → AreInGrammar r (start_news r.casts says h)
starts_good r laws [] h good all = λ m here. elim here [ ]
starts_good r laws (say ∷ says) h good all =
    append_in_grammar r (news_at r.casts say.slot (h say.slot) (Start say.value)) (start_news r.casts says (called h say.slot (Start say.value)))
    (news_good r laws say.slot (h say.slot) (Start say.value) good.0 (good.1, all say.slot))
    (starts_good r laws says (called h say.slot (Start say.value)) good.2 (good_called r.casts.numbers r.mode h say good.1 all))

told_good : (r : Rules) → LayerLaws r → (c : Word) (p : Parts) → AreProper r.service (seat_of r) (c ∷ p.words) → ((s : Slot) → AreGoodCalls r.casts.numbers r.mode s (p.calls s)) →
    AreInGrammar r (told_news r c p)
told_good r laws c p proper all =
    starts_good r laws (r.service.says (seat_of r) p.words c) p.calls (good_told r laws c p proper) all

heard_good : (r : Rules) → LayerLaws r → (s : Slot) (d : Option (List ℕ)) (p : Parts) →
    ((v : List ℕ) → d ≡ Some v → AreInGrammar r (told_news r (Hear s v) p)) → AreInGrammar r (heard_news r s d p)
heard_good r laws s None p good = λ m here. elim here [ ]
heard_good r laws s (Some v) p good = good v refl

made_good : (r : Rules) → LayerLaws r → (h : List Entry) (e : Entry) → IsHistory r (e ∷ h) → AreInGrammar r (made_by r e (parts r h))
made_good r laws h (Took item) met =
    let p = parts r h in
    let all = all_good r laws h met.1 in
    append_in_grammar r (news_at r.casts item.slot (p.calls item.slot) (Take item)) (heard_news r item.slot (item_delivers r item p) (taken_at item p))
    (news_good r laws item.slot (p.calls item.slot) (Take item) met.0.good.in_grammar.slot (refl, met.0.good.in_grammar, all.calls item.slot))
    (heard_good r laws item.slot (item_delivers r item p) (taken_at item p) (λ v delivers.
    told_good r laws (Hear item.slot v) (taken_at item p)
    (may_hear r laws h met.1 item met.0 v delivers, words_proper r laws h met.1)
    (good_taken r p item met.0 all.calls)))
made_good r laws h (Given v) met =
    let all = all_good r laws h met.1 in
    told_good r laws (Ask v) (parts r h) (met.0.may, words_proper r laws h met.1) all.calls

-- each message that goes out by an entry is in the grammar
pub good_messages : (r : Rules) → LayerLaws r → (h : List Entry) (e : Entry) → IsHistory r (e ∷ h) → (m : Msg) → Has (new_messages r h e) m →
    IsInGrammar r.casts.numbers r.mode (item_of r.casts.me m)
good_messages r laws h e met m here = made_good r laws h e met m (has_ordered_from (made_by r e (parts r h)) m here)

-- ---- what comes to oneself
own_kept : (r : Rules) → LayerLaws r → (b : Bool) (m : Msg) (ms : List Msg) → IsInGrammar r.casts.numbers r.mode (item_of r.casts.me m) →
    AreGood r (map (item_of r.casts.me) ms) → AreGood r (map (item_of r.casts.me) (cond b (m ∷ ms) ms))
own_kept r laws true m ms good rest = (record { in_grammar = good; sender = laws.me }, rest)
own_kept r laws false m ms good rest = rest

pub good_own_of : (r : Rules) → LayerLaws r → (ms : List Msg) → AreInGrammar r ms → AreGood r (own_items r.casts.me ms)
good_own_of r laws [] good = tt
good_own_of r laws (m ∷ ms) good =
    own_kept r laws (reaches m.to r.casts.me) m (sent_to r.casts.me ms) (good m (inl refl)) (good_own_of r laws ms (λ x here. good x (inr here)))

pub good_own : (r : Rules) → LayerLaws r → (h : List Entry) (e : Entry) → IsHistory r (e ∷ h) → AreGood r (own_items r.casts.me (new_messages r h e))
good_own r laws h e met = good_own_of r laws (new_messages r h e) (good_messages r laws h e met)

-- ---- what waits
pub good_append : (r : Rules) (xs ys : List Item) → AreGood r xs → AreGood r ys → AreGood r (xs ++ ys)
good_append r [] ys left right = right
good_append r (x ∷ xs) ys left right = (left.0, good_append r xs ys left.1 right)

-- ---- what is held
kept_if : (r : Rules) (b : Bool) (k : HeldItem) (ks : List HeldItem) → IsGood r k.item → AreGoodKept r ks → AreGoodKept r (cond b (k ∷ ks) ks)
kept_if r true k ks good rest = (good, rest)
kept_if r false k ks good rest = rest

good_kept_filter : (r : Rules) (test : HeldItem → Bool) (ks : List HeldItem) → AreGoodKept r ks → AreGoodKept r (filter test ks)
good_kept_filter r test [] good = tt
good_kept_filter r test (k ∷ ks) good = kept_if r (test k) k (filter test ks) good.0 (good_kept_filter r test ks good.1)

good_items : (r : Rules) (ks : List HeldItem) → AreGoodKept r ks → AreGood r (map (λ k. k.item) ks)
good_items r [] good = tt
good_items r (k ∷ ks) good = (good.0, good_items r ks good.1)

pub good_released : (r : Rules) (test : Item → Bool) (held : List (List HeldItem)) → AreGoodLists r held → AreGood r (released test held)
good_released r test [] good = tt
good_released r test (kept ∷ held) good =
    good_append r (map (λ k. k.item) (passing test kept)) (released test held)
    (good_items r (passing test kept) (good_kept_filter r (λ k. test k.item) kept good.0)) (good_released r test held good.1)

pub good_remaining : (r : Rules) (test : Item → Bool) (held : List (List HeldItem)) → AreGoodLists r held → AreGoodLists r (remaining test held)
good_remaining r test [] good = tt
good_remaining r test (kept ∷ held) good =
    (good_kept_filter r (λ k. not (test k.item)) kept good.0, good_remaining r test held good.1)

good_kept_of : (r : Rules) (held : List (List HeldItem)) (peer : ℕ) → AreGoodLists r held → AreGoodKept r (get_or held peer [])
good_kept_of r [] peer good = tt
good_kept_of r (kept ∷ held) zero good = good.0
good_kept_of r (kept ∷ held) (suc peer) good = good_kept_of r held peer good.1

good_set : (r : Rules) (held : List (List HeldItem)) (peer : ℕ) (kept : List HeldItem) → AreGoodLists r held → AreGoodKept r kept →
    AreGoodLists r (set held peer kept)
good_set r [] peer kept good new = tt
good_set r (old ∷ held) zero kept good new = (new, good.1)
good_set r (old ∷ held) (suc peer) kept good new = (good.0, good_set r held peer kept good.1 new)

good_behind : (r : Rules) (ks : List HeldItem) (k : HeldItem) → AreGoodKept r ks → IsGood r k.item → AreGoodKept r (ks ++ k ∷ [])
good_behind r [] k all good = (good, tt)
good_behind r (x ∷ ks) k all good = (all.0, good_behind r ks k all.1 good)

pub good_with_kept : (r : Rules) (held : List (List HeldItem)) (item : Item) (len : ℕ) → AreGoodLists r held → IsGood r item →
    AreGoodLists r (with_item_held held item len)
good_with_kept r held item len all good =
    good_set r held item.from (held_of_peer held item.from ++ record { item = item; len = len } ∷ []) all
    (good_behind r (held_of_peer held item.from) (record { item = item; len = len }) (good_kept_of r held item.from all) good)

pub good_none_held : (r : Rules) (n : ℕ) → AreGoodLists r (replicate n [])
good_none_held r zero = tt
good_none_held r (suc n) = (tt, good_none_held r n)

-- ---- what an entry leaves
pub entered_inbox_good : (r : Rules) → LayerLaws r → (st : CoreState) (e : Entry) (waiting : List Item) → IsHistory r (e ∷ st.history) →
    AreGood r waiting → AreGoodLists r st.held → AreGood r (state_after_entry r st e waiting).inbox
entered_inbox_good r laws st e waiting met good held =
    good_append r (waiting ++ own_items r.casts.me (new_messages r st.history e)) (released (is_open r (parts r (e ∷ st.history))) st.held)
    (good_append r waiting (own_items r.casts.me (new_messages r st.history e)) good (good_own r laws st.history e met))
    (good_released r (is_open r (parts r (e ∷ st.history))) st.held held)

pub entered_held_good : (r : Rules) (st : CoreState) (e : Entry) (waiting : List Item) → AreGoodLists r st.held →
    AreGoodLists r (state_after_entry r st e waiting).held
entered_held_good r st e waiting held =
    good_remaining r (λ x. is_open r (parts r (e ∷ st.history)) x || is_item_past r (parts r (e ∷ st.history)) x) st.held held
