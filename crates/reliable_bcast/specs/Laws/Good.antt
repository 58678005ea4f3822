-- What is due, and what is delivered, is in the grammar, where what was started and taken is.
use Rattle.std.specs.Prelude.{◌≡◌, ℕ, Bool, true, false, List, [], ◌∷◌, ◌++◌, Some, None, refl, cond}
use Rattle.std.proofs.Common.{sym, ◌∙◌, ap, subst, inl, inr}
use Rattle.std.specs.List.{find}
use Rattle.std.proofs.lemmas.Bool.{cases_Bool, cond-true, cond-false}
use Rattle.ritas_base.specs.declared.item.Kind.{Kind}
use Rattle.ritas_base.specs.declared.item.Kind.TheVariants as kinds
use Rattle.ritas_base.specs.declared.item.Kind.TheVariants.{Init}
use Rattle.ritas_base.specs.declared.item.Item.{Item}
use Rattle.ritas_base.specs.declared.item.Msg.{Msg}
use Rattle.ritas_base.specs.declared.slot.Slot.{Slot}
use Rattle.ritas_base.specs.declared.mode.Mode.{Mode}
use Rattle.ritas_base.specs.Numbers.{Numbers}
use Rattle.ritas_base.specs.Slots.{form_of, slot_fault}
use Rattle.ritas_base.specs.Messages.{Place, item_of}
use Rattle.ritas_base.specs.History.{Call, Start, Take, started, first, told, values}
use Rattle.ritas_base.specs.Shortest.{at_shortest, at_shortest_is, option_or_some}
use Rattle.frame_codec.specs.Format.{Format, Is}
use Rattle.frame_codec.specs.Grammar.{payload, value}
use Rattle.frame_codec.specs.Body.{IsInGrammar, is_of_form}
use Rattle.layer_api.specs.OneValue.{AreGoodCalls, IsOfSlot}
use Rattle.reliable_bcast.specs.Bracha.{bracha, is_reliable, is_backed, is_carried, out_by_value}
use Rattle.reliable_bcast.specs.Laws.Due.{value_due, IsValueDue}

-- in form 1 the payload of a reliable kind is the slot's value
plain_at : (p : Numbers) (mode : Mode) (form : ℕ) (kind : Kind) (s : Slot) → form ≡ 1 → form_of mode s ≡ form → is_reliable kind ≡ true → payload p mode kind s ≡ value p mode.root s
unfolding payload
plain_at p mode form kinds.Init s one same e = rw (same, one) refl
plain_at p mode form kinds.Echo s one same e = rw (same, one) refl
plain_at p mode form kinds.Ready s one same e = rw (same, one) refl
plain_at p mode form kinds.Send s one same e = absurd (cc)
plain_at p mode form kinds.Hashes s one same e = absurd (cc)
plain_at p mode form kinds.Column s one same e = absurd (cc)
plain_at p mode form kinds.Want s one same e = absurd (cc)
plain_at p mode form kinds.Value s one same e = absurd (cc)

plain : (p : Numbers) (mode : Mode) (kind : Kind) (s : Slot) → IsOfSlot bracha p mode s → is_reliable kind ≡ true → payload p mode kind s ≡ value p mode.root s
plain p mode kind s of_slot e = plain_at p mode 1 kind s refl (sym of_slot.form) e

-- an item of the slot carries a value of the slot
item_good : (p : Numbers) (mode : Mode) (s : Slot) (x : Item) → IsOfSlot bracha p mode s → x.slot ≡ s → IsInGrammar p mode x → Is (value p mode.root s) x.value
item_good p mode s x of_slot here good =
    let reliable : is_reliable x.kind ≡ true = ap (λ (form : ℕ). is_of_form form x.kind) (of_slot.form ∙ ap (form_of mode) (sym here)) ∙ good.kind in
    subst (λ (f : Format). Is f x.value) (plain p mode x.kind s of_slot reliable) (subst (λ (q : Slot). Is (payload p mode x.kind q) x.value) here good.payload_is)

-- each of these values is of the slot
abbrev AreOf : Numbers → Mode → Slot → List (List ℕ) → Type 0
AreOf p mode s [] = Unit {0}
AreOf p mode s (v ∷ vs) = Is (value p mode.root s) v × AreOf p mode s vs

values_good : (p : Numbers) (mode : Mode) (s : Slot) (h : List Call) → IsOfSlot bracha p mode s → AreGoodCalls p mode s h → AreOf p mode s (values h)
values_good p mode s [] of_slot good = tt
values_good p mode s (Start v ∷ h) of_slot good = values_good p mode s h of_slot good.1
values_good p mode s (Take x ∷ h) of_slot good = (item_good p mode s x of_slot good.0 good.1, values_good p mode s h of_slot good.2)

found_good : (p : Numbers) (mode : Mode) (s : Slot) (test : List ℕ → Bool) (vs : List (List ℕ)) (v : List ℕ) → AreOf p mode s vs → find test vs ≡ Some v → Is (value p mode.root s) v
found_good p mode s test [] v good e = absurd (cc)
found_good p mode s test (w ∷ vs) v good e =
    elim (cases_Bool (test w)) [
      | inl passes ↦
          let now : Some w ≡ Some v = sym (cond-true (test w) (Some w) (find test vs) passes) ∙ e in
          let same : w ≡ v = cc in
          subst (λ (x : List ℕ). Is (value p mode.root s) x) same good.0
      | inr fails ↦ found_good p mode s test vs v good.1 (sym (cond-false (test w) (Some w) (find test vs) fails) ∙ e)
    ]

pub good_prefix : (p : Numbers) (mode : Mode) (s : Slot) (later h : List Call) → AreGoodCalls p mode s (later ++ h) → AreGoodCalls p mode s h
good_prefix p mode s [] h good = good
good_prefix p mode s (Start v ∷ later) h good = good_prefix p mode s later h good.1
good_prefix p mode s (Take x ∷ later) h good = good_prefix p mode s later h good.2

-- the value at the shortest prefix with one that passes a test
shortest_good : (p : Numbers) (mode : Mode) (s : Slot) (test : List Call → List ℕ → Bool) (h : List Call) (v : List ℕ)
    → IsOfSlot bracha p mode s → AreGoodCalls p mode s h → at_shortest (λ b. find (test b) (values b)) h ≡ Some v → Is (value p mode.root s) v
shortest_good p mode s test h v of_slot good e =
    let at = at_shortest_is (λ b. find (test b) (values b)) h v e in
    let before : AreGoodCalls p mode s at.prefix = good_prefix p mode s at.later at.prefix (subst (λ (l : List Call). AreGoodCalls p mode s l) (sym at.whole) good) in
    found_good p mode s (test at.prefix) (values at.prefix) v (values_good p mode s at.prefix of_slot before) at.gives

pub started_good : (p : Numbers) (mode : Mode) (s : Slot) (h : List Call) (v : List ℕ) → AreGoodCalls p mode s h → started h ≡ Some v → Is (value p mode.root s) v
started_good p mode s [] v good e = absurd (cc)
started_good p mode s (Start u ∷ h) v good e =
    elim (option_or_some (started h) (Some u) v e) [
      | inl was ↦ started_good p mode s h v good.1 was
      | inr now ↦ let same : u ≡ v = let here = now.1 in cc in subst (λ (x : List ℕ). Is (value p mode.root s) x) same good.0
    ]
started_good p mode s (Take x ∷ h) v good e =
    elim (option_or_some (started h) None v e) [
      | inl was ↦ started_good p mode s h v good.2 was
      | inr now ↦ let here = now.1 in absurd (cc)
    ]

told_good : (p : Numbers) (mode : Mode) (s : Slot) (x : Item) (b : Bool) (v : List ℕ) → Is (value p mode.root s) x.value → cond b (Some x.value) None ≡ Some v → Is (value p mode.root s) v
told_good p mode s x true v good e = let same : x.value ≡ v = cc in subst (λ (y : List ℕ). Is (value p mode.root s) y) same good
told_good p mode s x false v good e = absurd (cc)

first_good : (p : Numbers) (mode : Mode) (s : Slot) (h : List Call) (k : ℕ) (kind : Kind) (v : List ℕ)
    → IsOfSlot bracha p mode s → AreGoodCalls p mode s h → first h k kind ≡ Some v → Is (value p mode.root s) v
first_good p mode s [] k kind v of_slot good e = absurd (cc)
first_good p mode s (Start u ∷ h) k kind v of_slot good e =
    elim (option_or_some (first h k kind) None v e) [
      | inl was ↦ first_good p mode s h k kind v of_slot good.1 was
      | inr now ↦ let here = now.1 in absurd (cc)
    ]
first_good p mode s (Take x ∷ h) k kind v of_slot good e =
    elim (option_or_some (first h k kind) (told k kind (Take x)) v e) [
      | inl was ↦ first_good p mode s h k kind v of_slot good.2 was
      | inr now ↦ told_good p mode s x _ v (item_good p mode s x of_slot good.0 good.1) now.1
    ]

value_good : (at : Place) (mode : Mode) (h : List Call) (kind : Kind) (v : List ℕ)
    → IsOfSlot bracha at.numbers mode at.slot → AreGoodCalls at.numbers mode at.slot h → value_due at h kind ≡ Some v → Is (value at.numbers mode.root at.slot) v
value_good at mode h kinds.Init v of_slot good e = started_good at.numbers mode at.slot h v good e
value_good at mode h kinds.Echo v of_slot good e = first_good at.numbers mode at.slot h at.slot.origin Init v of_slot good e
value_good at mode h kinds.Ready v of_slot good e = shortest_good at.numbers mode at.slot (is_backed at.numbers) h v of_slot good e
value_good at mode h kinds.Send v of_slot good e = absurd (cc)
value_good at mode h kinds.Hashes v of_slot good e = absurd (cc)
value_good at mode h kinds.Column v of_slot good e = absurd (cc)
value_good at mode h kinds.Want v of_slot good e = absurd (cc)
value_good at mode h kinds.Value v of_slot good e = absurd (cc)

pub due_good : (at : Place) (mode : Mode) (h : List Call) (m : Msg)
    → IsOfSlot bracha at.numbers mode at.slot → AreGoodCalls at.numbers mode at.slot h → IsValueDue at h m → IsInGrammar at.numbers mode (item_of at.me m)
due_good at mode h m of_slot good due =
    let here : at.slot ≡ m.slot = ap (λ (x : Msg). x.slot) (sym due.whole) in
    let plain_kind : is_of_form (form_of mode m.slot) m.kind ≡ true =
    ap (λ (form : ℕ). is_of_form form m.kind) (ap (form_of mode) (sym here) ∙ sym of_slot.form) ∙ due.reliable in
    let right : Is (payload at.numbers mode m.kind at.slot) m.value =
    subst (λ (f : Format). Is f m.value) (sym (plain at.numbers mode m.kind at.slot of_slot due.reliable)) (value_good at mode h m.kind m.value of_slot good due.value) in
    record {
      session = of_slot.session;
      slot = subst (λ (q : Slot). slot_fault at.numbers mode q ≡ None) here of_slot.slot;
      kind = plain_kind;
      payload_is = subst (λ (q : Slot). Is (payload at.numbers mode m.kind q) m.value) here right;
    }

pub out_good : (at : Place) (mode : Mode) (h : List Call) (v : List ℕ)
    → IsOfSlot bracha at.numbers mode at.slot → AreGoodCalls at.numbers mode at.slot h → out_by_value at h ≡ Some v → Is (value at.numbers mode.root at.slot) v
out_good at mode h v of_slot good e = shortest_good at.numbers mode at.slot (is_carried at.numbers) h v of_slot good e
