-- Each message that goes out by an entry goes out once, to all or to a replica.
use Rattle.std.proofs.Common.{◌≡◌, ℕ, ◌<◌, Bool, true, false, not, cond, ◌&&◌, Option, Some, None, List, [], ◌∷◌, ◌++◌, refl, sym, ◌∙◌, ap, subst, inl, inr}
use Rattle.std.proofs.lemmas.Bool.{or_cases, or_left, or_from, both_ways, false_from_ne_true}
use Rattle.ritas_base.specs.declared.slot.Slot.{Slot}
use Rattle.ritas_base.specs.declared.item.Msg.{Msg}
use Rattle.ritas_base.specs.declared.item.Say.{Say}
use Rattle.ritas_base.specs.Messages.{msg_eq, msg_eq_equiv, has, without}
use Rattle.ritas_base.specs.MessagesLaws.{same_message, message_itself}
use Rattle.ritas_base.specs.SlotOrder.{is_slot}
use Rattle.ritas_base.specs.History.{Call, Start, Take}
use Rattle.layer_api.specs.Runs.{Has}
use Rattle.layer_api.specs.HasLaws.{has_either}
use Rattle.layer_api.specs.OneValue.{AreTaken, RepeatNone, IsReceiver, IsOnce}
use Rattle.layer_api.specs.OnceLaws.{once_append}
use Rattle.layer_api.specs.Words.{Ask, Hear}
use Rattle.ritas_core.specs.Rules.{Rules, CastRules, seat_of, place_at, due_at_slot}
use Rattle.ritas_core.specs.Casts.{called, start_news, news_at, MayStartAll}
use Rattle.ritas_core.specs.Parts.{Entry, Took, Given, Parts, parts, heard_news, taken_at, item_delivers, made_by}
use Rattle.ritas_core.specs.Order.{is_before, inserted, ordered_onto, ordered, new_messages}
use Rattle.ritas_core.specs.Checks.{IsHistory}
use Rattle.ritas_core.specs.Laws.{LayerLaws, is_due}
use Rattle.ritas_core.proofs.TestLaws.{left_false, right_false}
use Rattle.ritas_core.proofs.GoodSlots.{slot_origin}
use Rattle.ritas_core.proofs.Conditions.{may_start_given, may_start_heard}
use Rattle.ritas_core.proofs.CallsTaken.{AreTakenAt, AreFirstAt, start_taken_at, start_first_at, item_taken_at, taken_first, calls_taken, calls_first}
use Rattle.ritas_core.proofs.Due.{is_new, is_due_at, has-without, has-inserted, call_news, starts_new, heard_new}
use Rattle.ritas_core.proofs.Goodness.{has_without_from, has_ordered_from}

-- ---- a part of a list, and a list in order
once_if : (b : Bool) (y : Msg) (ys : List Msg) → has ys y ≡ false → IsOnce ys → IsOnce (cond b (y ∷ ys) ys)
once_if true y ys apart once = (apart, once)
once_if false y ys apart once = once

none_left : (before ys : List Msg) (m : Msg) → has ys m ≡ false → has (without before ys) m ≡ false
none_left before ys m apart = has-without before ys m ∙ ap (λ (b : Bool). b && not (has before m)) apart

once_without : (before ys : List Msg) → IsOnce ys → IsOnce (without before ys)
unfolding without
once_without before [] once = tt
once_without before (y ∷ ys) once =
    once_if (not (has before y)) y (without before ys) (none_left before ys y once.0) (once_without before ys once.1)

turned_apart : (x y : Msg) → msg_eq y x ≡ false → msg_eq x y ≡ false
turned_apart x y apart = msg_eq_equiv.symm x y ∙ apart

once_inserted_at : (b : Bool) (x y : Msg) (xs : List Msg) → has (x ∷ xs) y ≡ false → IsOnce (x ∷ xs) → IsOnce (inserted xs y) →
    IsOnce (cond b (y ∷ x ∷ xs) (x ∷ inserted xs y))
once_inserted_at true x y xs apart once rest = (apart, once)
once_inserted_at false x y xs apart once rest =
    (has-inserted xs y x ∙ or_from (has xs x) (msg_eq x y) once.0 (turned_apart x y (left_false (msg_eq y x) (has xs y) apart)), rest)

once_inserted : (xs : List Msg) (y : Msg) → has xs y ≡ false → IsOnce xs → IsOnce (inserted xs y)
once_inserted [] y apart once = (refl, tt)
once_inserted (x ∷ xs) y apart once =
    once_inserted_at (is_before y x) x y xs apart once (once_inserted xs y (right_false (msg_eq y x) (has xs y) apart) once.1)

-- two lists share no message
abbrev AreApart : List Msg → List Msg → Type 0
AreApart xs ys = (m : Msg) → has xs m ≡ true → has ys m ≡ false

not_there : (sorted ms : List Msg) (y : Msg) → AreApart sorted (y ∷ ms) → has sorted y ≡ false
not_there sorted ms y apart =
    false_from_ne_true (has sorted y) (λ there. both_ways (has (y ∷ ms) y) (apart y there) (or_left (msg_eq y y) (has ms y) (message_itself y)))

apart_inserted : (sorted ms : List Msg) (y : Msg) → has ms y ≡ false → AreApart sorted (y ∷ ms) → AreApart (inserted sorted y) ms
apart_inserted sorted ms y once apart m there =
    elim (or_cases (has sorted m) (msg_eq m y) (sym (has-inserted sorted y m) ∙ there)) [
      | inl a ↦ right_false (msg_eq m y) (has ms m) (apart m a)
      | inr same ↦ subst (λ (x : Msg). has ms x ≡ false) (sym (same_message m y same)) once
    ]

once_onto : (sorted ms : List Msg) → IsOnce sorted → IsOnce ms → AreApart sorted ms → IsOnce (ordered_onto sorted ms)
once_onto sorted [] first once apart = first
once_onto sorted (y ∷ ms) first once apart =
    once_onto (inserted sorted y) ms (once_inserted sorted y (not_there sorted ms y apart) first) once.1 (apart_inserted sorted ms y once.0 apart)

once_ordered : (ms : List Msg) → IsOnce ms → IsOnce (ordered ms)
unfolding ordered
once_ordered ms once = once_onto [] ms tt once (λ m there. absurd (cc))

-- ---- what becomes due by a call
new_apart : (was between now a b : Bool) → a ≡ is_new was between → b ≡ is_new between now → a ≡ true → b ≡ false
new_apart was true now a b is_a is_b there = is_b ∙ never now
  where
    never : (x : Bool) → (x && false) ≡ false
    never true = refl
    never false = refl
new_apart was false now a b is_a is_b there = absurd (cc)

news_once : (r : Rules) → LayerLaws r → (s : Slot) (calls : List Call) (c : Call) → AreTaken (r.casts.at_slot s) (place_at r.casts s) r.casts.tags (c ∷ calls) →
    RepeatNone (r.casts.at_slot s) (place_at r.casts s) r.casts.tags (c ∷ calls) → IsOnce (news_at r.casts s calls c)
news_once r laws s calls c taken first_ones =
    once_without (due_at_slot r.casts s calls) (due_at_slot r.casts s (c ∷ calls))
    ((laws.casts s).due_once (place_at r.casts s) r.casts.tags (c ∷ calls) taken first_ones)

-- the calls at each slot met their conditions, and none repeats an earlier one
record AreCounted (c : CastRules) (h : Slot → List Call) : Type 0 where
  taken : (s : Slot) → AreTakenAt c h s
  first_ones : (s : Slot) → AreFirstAt c h s

starts_once : (r : Rules) → LayerLaws r → (says : List Say) (h : Slot → List Call) → MayStartAll r.casts says h → AreCounted r.casts h →
    IsOnce (start_news r.casts says h)
starts_once r laws [] h may counted = tt
starts_once r laws (say ∷ says) h may counted =
    let c = r.casts in
    let k : Slot → List Call = called h say.slot (Start say.value) in
    let after_it : AreCounted c k = record {
      taken = λ s. start_taken_at c h say.slot s say.value (is_slot say.slot s) refl may.0 (counted.taken s);
      first_ones = λ s. start_first_at c h s say.value (is_slot say.slot s) (counted.first_ones s);
    } in
    once_append (news_at c say.slot (h say.slot) (Start say.value)) (start_news c says k)
    (news_once r laws say.slot (h say.slot) (Start say.value) (may.0, counted.taken say.slot) (counted.first_ones say.slot))
    (starts_once r laws says k may.1 after_it)
    (λ m. new_apart (is_due_at r h m) (is_due_at r k m) _ _ _ (call_news r laws h say.slot (Start say.value) m) (starts_new r laws says k m))

heard_once : (r : Rules) → LayerLaws r → (s : Slot) (d : Option (List ℕ)) (p : Parts) →
    ((v : List ℕ) → d ≡ Some v → MayStartAll r.casts (r.service.says (seat_of r) p.words (Hear s v)) p.calls) → AreCounted r.casts p.calls →
    IsOnce (heard_news r s d p)
heard_once r laws s None p may counted = tt
heard_once r laws s (Some v) p may counted = starts_once r laws (r.service.says (seat_of r) p.words (Hear s v)) p.calls (may v refl) counted

made_once : (r : Rules) → LayerLaws r → (h : List Entry) (e : Entry) → IsHistory r (e ∷ h) → IsOnce (made_by r e (parts r h))
made_once r laws h (Took item) met =
    let p = parts r h in
    let q = taken_at item p in
    let counted : AreCounted r.casts q.calls = record {
      taken = λ s. item_taken_at r.casts p.calls item s (is_slot item.slot s) refl met.0.may (calls_taken r laws h met.1 s);
      first_ones = taken_first r p item met.0 (calls_first r h met.1);
    } in
    once_append (news_at r.casts item.slot (p.calls item.slot) (Take item)) (heard_news r item.slot (item_delivers r item p) q)
    (news_once r laws item.slot (p.calls item.slot) (Take item) (met.0.may, calls_taken r laws h met.1 item.slot) (met.0.first, calls_first r h met.1 item.slot))
    (heard_once r laws item.slot (item_delivers r item p) q (may_start_heard r laws h met.1 item met.0) counted)
    (λ m. new_apart (is_due r p m) (is_due r q m) _ _ _ (call_news r laws p.calls item.slot (Take item) m)
    (heard_new r laws item.slot (item_delivers r item p) q m))
made_once r laws h (Given v) met =
    let p = parts r h in
    starts_once r laws (r.service.says (seat_of r) p.words (Ask v)) p.calls (may_start_given r laws h met.1 v met.0)
    (record { taken = calls_taken r laws h met.1; first_ones = calls_first r h met.1 })

-- no message goes out twice
pub new_once : (r : Rules) → LayerLaws r → (h : List Entry) (e : Entry) → IsHistory r (e ∷ h) → IsOnce (new_messages r h e)
new_once r laws h e met = once_ordered (made_by r e (parts r h)) (made_once r laws h e met)

-- ---- whom it is for
abbrev AreFor : Rules → List Msg → Type 0
AreFor r ms = (m : Msg) → Has ms m → IsReceiver r.casts.numbers.n m.to

news_for : (r : Rules) → LayerLaws r → (s : Slot) (calls : List Call) (c : Call) → s.origin < r.casts.numbers.n → AreFor r (news_at r.casts s calls c)
news_for r laws s calls c below m there =
    (laws.casts s).due_to (place_at r.casts s) r.casts.tags (c ∷ calls) m below
    (has_without_from (due_at_slot r.casts s calls) (due_at_slot r.casts s (c ∷ calls)) m there)

append_for : (r : Rules) (xs ys : List Msg) → AreFor r xs → AreFor r ys → AreFor r (xs ++ ys)
append_for r xs ys left right m there = elim (has_either xs ys m there) [ inl a ↦ left m a | inr b ↦ right m b ]

starts_for : (r : Rules) → LayerLaws r → (says : List Say) (h : Slot → List Call) → MayStartAll r.casts says h → AreFor r (start_news r.casts says h)
starts_for r laws [] h may = λ m there. elim there [ ]
starts_for r laws (say ∷ says) h may =
    append_for r (news_at r.casts say.slot (h say.slot) (Start say.value)) (start_news r.casts says (called h say.slot (Start say.value)))
    (news_for r laws say.slot (h say.slot) (Start say.value) (subst (λ (k : ℕ). k < r.casts.numbers.n) may.0.own laws.me))
    (starts_for r laws says (called h say.slot (Start say.value)) may.1)

heard_for : (r : Rules) → LayerLaws r → (s : Slot) (d : Option (List ℕ)) (p : Parts) →
    ((v : List ℕ) → d ≡ Some v → MayStartAll r.casts (r.service.says (seat_of r) p.words (Hear s v)) p.calls) → AreFor r (heard_news r s d p)
heard_for r laws s None p may = λ m there. elim there [ ]
heard_for r laws s (Some v) p may = starts_for r laws (r.service.says (seat_of r) p.words (Hear s v)) p.calls (may v refl)

made_for : (r : Rules) → LayerLaws r → (h : List Entry) (e : Entry) → IsHistory r (e ∷ h) → AreFor r (made_by r e (parts r h))
made_for r laws h (Took item) met =
    let p = parts r h in
    append_for r (news_at r.casts item.slot (p.calls item.slot) (Take item)) (heard_news r item.slot (item_delivers r item p) (taken_at item p))
    (news_for r laws item.slot (p.calls item.slot) (Take item) (slot_origin r.casts.numbers r.mode item.slot met.0.good.in_grammar.slot))
    (heard_for r laws item.slot (item_delivers r item p) (taken_at item p) (may_start_heard r laws h met.1 item met.0))
made_for r laws h (Given v) met =
    starts_for r laws (r.service.says (seat_of r) (parts r h).words (Ask v)) (parts r h).calls (may_start_given r laws h met.1 v met.0)

-- each message that goes out is for all or for a replica
pub new_for : (r : Rules) → LayerLaws r → (h : List Entry) (e : Entry) → IsHistory r (e ∷ h) → (m : Msg) → Has (new_messages r h e) m →
    IsReceiver r.casts.numbers.n m.to
new_for r laws h e met m there = made_for r laws h e met m (has_ordered_from (made_by r e (parts r h)) m there)
