-- Each entry of a history meets the conditions of the layers. A broadcast was started exactly where its slot was said, a
-- slot was heard exactly where it has delivered, and all calls are in the grammar.
use Rattle.std.proofs.Common.{◌≡◌, ℕ, Bool, true, false, not, cond, ◌||◌, Option, Some, None, List, [], ◌∷◌, ◌++◌, refl, sym, ◌∙◌, ap, subst}
use Rattle.std.specs.Option.{is_some, option_or}
use Rattle.std.proofs.Math.Bool.{or_assoc, or-false}
use Rattle.std.proofs.lemmas.Bool.{not-true}
use Rattle.std.proofs.lemmas.List.Folds.{list_any-append}
use Rattle.std.proofs.lemmas.Cmp.{eq_by_cmp_equiv}
use Rattle.ritas_base.specs.declared.slot.Slot.{Slot}
use Rattle.ritas_base.specs.declared.mode.Mode.{Mode}
use Rattle.ritas_base.specs.declared.item.Item.{Item}
use Rattle.ritas_base.specs.declared.item.Say.{Say}
use Rattle.ritas_base.specs.Numbers.{Numbers}
use Rattle.ritas_base.specs.SlotOrder.{is_slot, same_slot, slots_total}
use Rattle.ritas_base.specs.Shortest.{option_or_none, option_or_assoc}
use Rattle.ritas_base.specs.History.{Call, Start, Take, started}
use Rattle.frame_codec.specs.Format.{Is}
use Rattle.frame_codec.specs.Grammar.{value}
use Rattle.layer_api.specs.OneValue.{AreGoodCalls}
use Rattle.layer_api.specs.Service.{said, MayHear, AreProper, AreNew, AreGoodSays}
use Rattle.layer_api.specs.Words.{Word, Ask, Hear, is_said, said_value, is_heard}
use Rattle.ritas_core.specs.Rules.{Rules, seat_of, place_at, out_at_slot}
use Rattle.ritas_core.specs.Casts.{called, started_all, MayStartAll}
use Rattle.ritas_core.specs.Parts.{Entry, Took, Given, Parts, parts, service_told, heard_at, taken_at, item_delivers}
use Rattle.ritas_core.specs.PartsLaws.{newly_before, newly_after}
use Rattle.ritas_core.specs.Checks.{is_item_past, is_item_ahead, IsTakable, IsGivable, IsHistory}
use Rattle.ritas_core.specs.Laws.{LayerLaws}
use Rattle.ritas_core.specs.HeardLaws.{heard_delivered}
use Rattle.layer_api.specs.PartLaws.{heard_is}
use Rattle.ritas_core.proofs.TestLaws.{left_false, right_false, left_true, right_true, or_flip}
use Rattle.ritas_core.proofs.GoodSlots.{slot_number, slot_origin, of_slot}

-- ---- tests
turned : (s q : Slot) → is_slot s q ≡ is_slot q s
turned s q = (eq_by_cmp_equiv slots_total).symm s q

none_from : {A : Type 0} (o : Option A) → is_some o ≡ false → o ≡ None
none_from None h = refl
none_from (Some x) h = absurd (cc)

either_some : {A : Type 0} (a b : Option A) → is_some (option_or a b) ≡ (is_some a || is_some b)
either_some None b = refl
either_some (Some x) b = refl

-- ---- a broadcast was started exactly where its slot was said
abbrev pub IsStartedWhereSaid : Rules → Parts → Type 0
IsStartedWhereSaid r p = (s : Slot) → is_some (started (p.calls s)) ≡ is_said (said r.service (seat_of r) p.words) s

start_test : (b : Bool) (v : List ℕ) (h : List Call) → is_some (started (cond b (Start v ∷ h) h)) ≡ (is_some (started h) || b)
start_test true v h = either_some (started h) (Some v)
start_test false v h = sym (or-false (is_some (started h)))

take_test : (b : Bool) (item : Item) (h : List Call) → is_some (started (cond b (Take item ∷ h) h)) ≡ is_some (started h)
take_test true item h = ap is_some (option_or_none (started h))
take_test false item h = refl

started_test : (says : List Say) (h : Slot → List Call) (s : Slot) →
    is_some (started (started_all says h s)) ≡ (is_some (started (h s)) || is_said says s)
started_test [] h s = sym (or-false (is_some (started (h s))))
started_test (say ∷ says) h s =
    started_test says (called h say.slot (Start say.value)) s
    ∙ ap (λ (x : Bool). x || is_said says s) (start_test (is_slot say.slot s) say.value (h s))
    ∙ or_assoc (is_some (started (h s))) (is_slot say.slot s) (is_said says s)

started_taken : (r : Rules) (item : Item) (p : Parts) → IsStartedWhereSaid r p → IsStartedWhereSaid r (taken_at item p)
started_taken r item p all s = take_test (is_slot item.slot s) item (p.calls s) ∙ all s

started_told : (r : Rules) (c : Word) (p : Parts) → IsStartedWhereSaid r p → IsStartedWhereSaid r (service_told r c p)
started_told r c p all s =
    let new = r.service.says (seat_of r) p.words c in
    let old = said r.service (seat_of r) p.words in
    started_test new p.calls s
    ∙ ap (λ (x : Bool). x || is_said new s) (all s)
    ∙ or_flip (is_said old s) (is_said new s)
    ∙ sym (list_any-append (λ (y : Say). is_slot y.slot s) new old)

started_heard : (r : Rules) (s : Slot) (d : Option (List ℕ)) (p : Parts) → IsStartedWhereSaid r p → IsStartedWhereSaid r (heard_at r s d p)
started_heard r s None p all = all
started_heard r s (Some v) p all = started_told r (Hear s v) p all

pub started_where_said : (r : Rules) (h : List Entry) → IsStartedWhereSaid r (parts r h)
started_where_said r [] s = refl
started_where_said r (Took item ∷ h) s =
    let p = parts r h in
    started_heard r item.slot (item_delivers r item p) (taken_at item p) (started_taken r item p (started_where_said r h)) s
started_where_said r (Given v ∷ h) s = started_told r (Ask v) (parts r h) (started_where_said r h) s

-- ---- and with the value that was said there
value_at_head : (b : Bool) (v : List ℕ) (rest : Option (List ℕ)) → option_or (cond b (Some v) None) rest ≡ cond b (Some v) rest
value_at_head true v rest = refl
value_at_head false v rest = refl

start_value : (b : Bool) (v : List ℕ) (h : List Call) → started (cond b (Start v ∷ h) h) ≡ option_or (started h) (cond b (Some v) None)
start_value true v h = refl
start_value false v h = sym (option_or_none (started h))

-- what was started before stands, and else what is said first
starts_value : (says : List Say) (h : Slot → List Call) (s : Slot) → started (started_all says h s) ≡ option_or (started (h s)) (said_value says s)
starts_value [] h s = sym (option_or_none (started (h s)))
starts_value (say ∷ says) h s =
    starts_value says (called h say.slot (Start say.value)) s
    ∙ ap (λ (o : Option (List ℕ)). option_or o (said_value says s)) (start_value (is_slot say.slot s) say.value (h s))
    ∙ sym (option_or_assoc (started (h s)) (cond (is_slot say.slot s) (Some say.value) None) (said_value says s))
    ∙ ap (option_or (started (h s))) (value_at_head (is_slot say.slot s) say.value (said_value says s))

either_value : (b : Bool) (v : List ℕ) (o u : Option (List ℕ)) → cond b (Some v) (option_or o u) ≡ option_or (cond b (Some v) o) u
either_value true v o u = refl
either_value false v o u = refl

said_value-append : (xs ys : List Say) (s : Slot) → said_value (xs ++ ys) s ≡ option_or (said_value xs s) (said_value ys s)
said_value-append [] ys s = refl
said_value-append (x ∷ xs) ys s =
    ap (λ (o : Option (List ℕ)). cond (is_slot x.slot s) (Some x.value) o) (said_value-append xs ys s)
    ∙ either_value (is_slot x.slot s) x.value (said_value xs s) (said_value ys s)

unsaid_value_by : (b : Bool) (v : List ℕ) (o : Option (List ℕ)) (rest : Bool) → (b || rest) ≡ false → (rest ≡ false → o ≡ None) → cond b (Some v) o ≡ None
unsaid_value_by true v o rest h none = absurd (cc)
unsaid_value_by false v o rest h none = none h

unsaid_value : (says : List Say) (s : Slot) → is_said says s ≡ false → said_value says s ≡ None
unsaid_value [] s h = refl
unsaid_value (x ∷ xs) s h = unsaid_value_by (is_slot x.slot s) x.value (said_value xs s) (is_said xs s) h (unsaid_value xs s)

-- what is newly said is at slots where nothing was said before
new_value_by : (r : Rules) (w : List Word) (y : Say) (s : Slot) (v : List ℕ) (o : Option (List ℕ)) (b : Bool) → is_slot y.slot s ≡ b →
    is_said (said r.service (seat_of r) w) y.slot ≡ false → (o ≡ Some v → is_said (said r.service (seat_of r) w) s ≡ false) →
    cond b (Some y.value) o ≡ Some v → is_said (said r.service (seat_of r) w) s ≡ false
new_value_by r w y s v o true here new rest h = subst (λ (q : Slot). is_said (said r.service (seat_of r) w) q ≡ false) (same_slot y.slot s here) new
new_value_by r w y s v o false here new rest h = rest h

new_value : (r : Rules) (w : List Word) (new : List Say) → AreNew r.service (seat_of r) w new → (s : Slot) (v : List ℕ) → said_value new s ≡ Some v →
    is_said (said r.service (seat_of r) w) s ≡ false
new_value r w [] fresh s v h = absurd (cc)
new_value r w (y ∷ ys) fresh s v h =
    new_value_by r w y s v (said_value ys s) (is_slot y.slot s) refl fresh.1 (new_value r w ys fresh.3 s v) h

either_way : (old new : Option (List ℕ)) → ((v : List ℕ) → new ≡ Some v → old ≡ None) → option_or old new ≡ option_or new old
either_way old None apart = option_or_none old
either_way old (Some v) apart = ap (λ (o : Option (List ℕ)). option_or o (Some v)) (apart v refl)

abbrev pub StartedIsSaid : Rules → Parts → Type 0
StartedIsSaid r p = (s : Slot) → started (p.calls s) ≡ said_value (said r.service (seat_of r) p.words) s

value_taken : (r : Rules) (item : Item) (p : Parts) → StartedIsSaid r p → StartedIsSaid r (taken_at item p)
value_taken r item p all s = take_value (is_slot item.slot s) (p.calls s) ∙ all s
  where
    take_value : (b : Bool) (h : List Call) → started (cond b (Take item ∷ h) h) ≡ started h
    take_value true h = option_or_none (started h)
    take_value false h = refl

value_told : (r : Rules) → LayerLaws r → (c : Word) (p : Parts) → AreProper r.service (seat_of r) (c ∷ p.words) → StartedIsSaid r p →
    StartedIsSaid r (service_told r c p)
value_told r laws c p proper all s =
    let new = r.service.says (seat_of r) p.words c in
    let old = said r.service (seat_of r) p.words in
    starts_value new p.calls s
    ∙ ap (λ (o : Option (List ℕ)). option_or o (said_value new s)) (all s)
    ∙ either_way (said_value old s) (said_value new s)
    (λ v there. unsaid_value old s (new_value r p.words new (laws.words.says_new (seat_of r) c p.words proper) s v there))
    ∙ sym (said_value-append new old s)

value_heard : (r : Rules) → LayerLaws r → (s : Slot) (d : Option (List ℕ)) (p : Parts) →
    ((v : List ℕ) → d ≡ Some v → AreProper r.service (seat_of r) (Hear s v ∷ p.words)) → StartedIsSaid r p → StartedIsSaid r (heard_at r s d p)
value_heard r laws s None p proper all = all
value_heard r laws s (Some v) p proper all = value_told r laws (Hear s v) p (proper v refl) all

-- ---- a slot was heard exactly where it has delivered
abbrev pub IsHeardWhereDelivered : Rules → Parts → Type 0
IsHeardWhereDelivered r p = (s : Slot) → is_heard p.words s ≡ is_some (out_at_slot r.casts s (p.calls s))

pub heard_where_delivered : (r : Rules) → LayerLaws r → (h : List Entry) → IsHeardWhereDelivered r (parts r h)
heard_where_delivered r laws h s = heard_is (parts r h).words s ∙ ap is_some (heard_delivered r laws h s)

-- ---- the words met their conditions
pub may_hear_at : (r : Rules) → LayerLaws r → (p : Parts) → IsHeardWhereDelivered r p → (item : Item) → IsTakable r p item → (v : List ℕ) →
    item_delivers r item p ≡ Some v → Is (value r.casts.numbers r.mode.root item.slot) v → MayHear r.service (seat_of r) p.words item.slot v
may_hear_at r laws p all item may v delivers good =
    let rest = right_true (not (is_item_past r p item)) _ may.is_open in
    let opens = right_true (not (is_item_ahead r p item)) _ rest in
    record {
      session = laws.session;
      served = laws.serves;
      right = may.good.in_grammar.slot;
      good = good;
      origin = slot_origin r.casts.numbers r.mode item.slot may.good.in_grammar.slot;
      number = slot_number r.casts.numbers r.mode item.slot may.good.in_grammar.slot;
      not_past = not-true (is_item_past r p item) (left_true (not (is_item_past r p item)) _ may.is_open);
      not_ahead = not-true (is_item_ahead r p item) (left_true (not (is_item_ahead r p item)) _ rest);
      is_open = left_true (r.service.opens (seat_of r) p.words item.slot) _ opens;
      first =
          all item.slot
          ∙ ap is_some (newly_before (out_at_slot r.casts item.slot (p.calls item.slot)) (out_at_slot r.casts item.slot (Take item ∷ p.calls item.slot)) v delivers);
    }

-- ---- the calls are in the grammar
good_called_at : (p : Numbers) (mode : Mode) (h : Slot → List Call) (say : Say) (s : Slot) (b : Bool) → is_slot say.slot s ≡ b →
    Is (value p mode.root say.slot) say.value → AreGoodCalls p mode s (h s) → AreGoodCalls p mode s (cond b (Start say.value ∷ h s) (h s))
good_called_at p mode h say s true here good all =
    (subst (λ (q : Slot). Is (value p mode.root q) say.value) (same_slot say.slot s here) good, all)
good_called_at p mode h say s false here good all = all

-- one start more
pub good_called : (p : Numbers) (mode : Mode) (h : Slot → List Call) (say : Say) → Is (value p mode.root say.slot) say.value →
    ((s : Slot) → AreGoodCalls p mode s (h s)) → (s : Slot) → AreGoodCalls p mode s (called h say.slot (Start say.value) s)
good_called p mode h say good all s = good_called_at p mode h say s (is_slot say.slot s) refl good (all s)

pub good_starts : (p : Numbers) (mode : Mode) (says : List Say) (h : Slot → List Call) → AreGoodSays p mode says →
    ((s : Slot) → AreGoodCalls p mode s (h s)) → (s : Slot) → AreGoodCalls p mode s (started_all says h s)
good_starts p mode [] h good all s = all s
good_starts p mode (say ∷ says) h good all s =
    good_starts p mode says (called h say.slot (Start say.value)) good.2 (good_called p mode h say good.1 all) s

good_taken_at : (r : Rules) (p : Parts) (item : Item) (s : Slot) (b : Bool) → is_slot item.slot s ≡ b → IsTakable r p item →
    AreGoodCalls r.casts.numbers r.mode s (p.calls s) → AreGoodCalls r.casts.numbers r.mode s (cond b (Take item ∷ p.calls s) (p.calls s))
good_taken_at r p item s true here may all = (same_slot item.slot s here, may.good.in_grammar, all)
good_taken_at r p item s false here may all = all

pub good_taken : (r : Rules) (p : Parts) (item : Item) → IsTakable r p item → ((s : Slot) → AreGoodCalls r.casts.numbers r.mode s (p.calls s)) →
    (s : Slot) → AreGoodCalls r.casts.numbers r.mode s ((taken_at item p).calls s)
good_taken r p item may all s = good_taken_at r p item s (is_slot item.slot s) refl may (all s)

-- the words of these parts met their conditions, and the calls are in the grammar
pub record AreAllGood (r : Rules) (p : Parts) : Type 0 where
  pub proper : AreProper r.service (seat_of r) p.words
  pub calls : (s : Slot) → AreGoodCalls r.casts.numbers r.mode s (p.calls s)

pub good_told : (r : Rules) → LayerLaws r → (c : Word) (p : Parts) → AreProper r.service (seat_of r) (c ∷ p.words) →
    AreGoodSays r.casts.numbers r.mode (r.service.says (seat_of r) p.words c)
good_told r laws c p proper = laws.words.says_good (seat_of r) c p.words laws.me proper

-- what an item delivers is in the grammar
pub good_delivered : (r : Rules) → LayerLaws r → (p : Parts) (item : Item) → IsTakable r p item →
    ((s : Slot) → AreGoodCalls r.casts.numbers r.mode s (p.calls s)) → (v : List ℕ) → item_delivers r item p ≡ Some v →
    Is (value r.casts.numbers r.mode.root item.slot) v
good_delivered r laws p item may all v delivers =
    (laws.casts item.slot).out_good (place_at r.casts item.slot) r.casts.tags r.mode (Take item ∷ p.calls item.slot) v
    (of_slot r laws item.slot may.good.in_grammar.slot) (refl, may.good.in_grammar, all item.slot)
    (newly_after (out_at_slot r.casts item.slot (p.calls item.slot)) (out_at_slot r.casts item.slot (Take item ∷ p.calls item.slot)) v delivers)

good_heard : (r : Rules) → LayerLaws r → (p : Parts) (item : Item) (d : Option (List ℕ)) → IsTakable r p item →
    ((v : List ℕ) → d ≡ Some v → MayHear r.service (seat_of r) p.words item.slot v) →
    AreAllGood r p → AreAllGood r (heard_at r item.slot d (taken_at item p))
good_heard r laws p item None may hears all = record { proper = all.proper; calls = good_taken r p item may all.calls }
good_heard r laws p item (Some v) may hears all = record {
  proper = (hears v refl, all.proper);
  calls = good_starts r.casts.numbers r.mode (r.service.says (seat_of r) p.words (Hear item.slot v)) (taken_at item p).calls
      (good_told r laws (Hear item.slot v) p (hears v refl, all.proper)) (good_taken r p item may all.calls);
}

pub all_good : (r : Rules) → LayerLaws r → (h : List Entry) → IsHistory r h → AreAllGood r (parts r h)
all_good r laws [] met = record { proper = tt; calls = λ s. tt }
all_good r laws (Took item ∷ h) met =
    let all = all_good r laws h met.1 in
    good_heard r laws (parts r h) item (item_delivers r item (parts r h)) met.0
    (λ v delivers.
    may_hear_at r laws (parts r h) (heard_where_delivered r laws h) item met.0 v delivers
    (good_delivered r laws (parts r h) item met.0 all.calls v delivers)) all
all_good r laws (Given v ∷ h) met =
    let all = all_good r laws h met.1 in
    record {
      proper = (met.0.may, all.proper);
      calls = good_starts r.casts.numbers r.mode (r.service.says (seat_of r) (parts r h).words (Ask v)) (parts r h).calls
          (good_told r laws (Ask v) (parts r h) (met.0.may, all.proper)) all.calls;
    }

pub words_proper : (r : Rules) → LayerLaws r → (h : List Entry) → IsHistory r h → AreProper r.service (seat_of r) (parts r h).words
words_proper r laws h met = (all_good r laws h met).proper

pub calls_good : (r : Rules) → LayerLaws r → (h : List Entry) → IsHistory r h → (s : Slot) →
    AreGoodCalls r.casts.numbers r.mode s ((parts r h).calls s)
calls_good r laws h met = (all_good r laws h met).calls

-- ---- what was started is what was said
pub started_is_said : (r : Rules) → LayerLaws r → (h : List Entry) → IsHistory r h → StartedIsSaid r (parts r h)
started_is_said r laws [] met = λ s. refl
started_is_said r laws (Took item ∷ h) met =
    let p = parts r h in
    value_heard r laws item.slot (item_delivers r item p) (taken_at item p)
    (λ v delivers. (
      may_hear_at r laws p (heard_where_delivered r laws h) item met.0 v delivers
          (good_delivered r laws p item met.0 (calls_good r laws h met.1) v delivers),
      words_proper r laws h met.1,
    ))
    (value_taken r item p (started_is_said r laws h met.1))
started_is_said r laws (Given v ∷ h) met =
    value_told r laws (Ask v) (parts r h) (met.0.may, words_proper r laws h met.1) (started_is_said r laws h met.1)

-- ---- what is newly said may be started
abbrev AreFree : List Say → (Slot → List Call) → Type 0
AreFree [] h = Unit {0}
AreFree (say ∷ says) h = (is_some (started (h say.slot)) ≡ false) × AreFree says h

free_called_at : (h : Slot → List Call) (s : Slot) (v : List ℕ) (b : Bool) → b ≡ false → is_some (started (h s)) ≡ false →
    is_some (started (cond b (Start v ∷ h s) (h s))) ≡ false
free_called_at h s v true apart free = cc
free_called_at h s v false apart free = free

free_called : (says : List Say) (h : Slot → List Call) (x : Slot) (v : List ℕ) → is_said says x ≡ false → AreFree says h →
    AreFree says (called h x (Start v))
free_called [] h x v apart free = tt
free_called (say ∷ says) h x v apart free = (
  free_called_at h say.slot v (is_slot x say.slot) (turned x say.slot ∙ left_false (is_slot say.slot x) _ apart) free.0,
  free_called says h x v (right_false (is_slot say.slot x) _ apart) free.1,
)

free_new : (r : Rules) (w : List Word) (new : List Say) (h : Slot → List Call) →
    ((s : Slot) → is_some (started (h s)) ≡ is_said (said r.service (seat_of r) w) s) → AreNew r.service (seat_of r) w new → AreFree new h
free_new r w [] h all fresh = tt
free_new r w (say ∷ new) h all fresh = (all say.slot ∙ fresh.1, free_new r w new h all fresh.3)

may_start_new : (r : Rules) (w : List Word) (new : List Say) (h : Slot → List Call) → AreNew r.service (seat_of r) w new → AreFree new h →
    MayStartAll r.casts new h
may_start_new r w [] h fresh free = tt
may_start_new r w (say ∷ new) h fresh free = (
  record { own = sym fresh.0; once = none_from (started (h say.slot)) free.0 },
  may_start_new r w new (called h say.slot (Start say.value)) fresh.3 (free_called new h say.slot say.value fresh.2 free.1),
)

may_start_told : (r : Rules) → LayerLaws r → (c : Word) (p : Parts) → IsStartedWhereSaid r p → AreProper r.service (seat_of r) (c ∷ p.words) →
    MayStartAll r.casts (r.service.says (seat_of r) p.words c) p.calls
may_start_told r laws c p all proper =
    let new = r.service.says (seat_of r) p.words c in
    let fresh = laws.words.says_new (seat_of r) c p.words proper in
    may_start_new r p.words new p.calls fresh (free_new r p.words new p.calls all fresh)

-- ---- an entry after a history
pub may_start_given : (r : Rules) → LayerLaws r → (h : List Entry) → IsHistory r h → (v : List ℕ) → IsGivable r (parts r h) v →
    MayStartAll r.casts (r.service.says (seat_of r) (parts r h).words (Ask v)) (parts r h).calls
may_start_given r laws h met v may =
    may_start_told r laws (Ask v) (parts r h) (started_where_said r h) (may.may, words_proper r laws h met)

pub may_hear : (r : Rules) → LayerLaws r → (h : List Entry) → IsHistory r h → (item : Item) → IsTakable r (parts r h) item → (v : List ℕ) →
    item_delivers r item (parts r h) ≡ Some v → MayHear r.service (seat_of r) (parts r h).words item.slot v
may_hear r laws h met item may v delivers =
    may_hear_at r laws (parts r h) (heard_where_delivered r laws h) item may v delivers (good_delivered r laws (parts r h) item may (all_good r laws h met).calls v delivers)

pub may_start_heard : (r : Rules) → LayerLaws r → (h : List Entry) → IsHistory r h → (item : Item) → IsTakable r (parts r h) item → (v : List ℕ) →
    item_delivers r item (parts r h) ≡ Some v →
    MayStartAll r.casts (r.service.says (seat_of r) (parts r h).words (Hear item.slot v)) (taken_at item (parts r h)).calls
may_start_heard r laws h met item may v delivers =
    may_start_told r laws (Hear item.slot v) (taken_at item (parts r h)) (started_taken r item (parts r h) (started_where_said r h))
    (may_hear r laws h met item may v delivers, words_proper r laws h met)
