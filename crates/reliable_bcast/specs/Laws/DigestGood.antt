-- What is due and delivered by digests is in the grammar, where what was started and taken is, and digests have 32 bytes.
use Rattle.std.specs.Prelude.{◌≡◌, ℕ, ◌<◌, Bool, true, false, ◌==◌, ◌&&◌, List, [], ◌∷◌, Option, Some, None, is_none, nat_le, length, if◌then◌else◌, refl}
use Rattle.std.proofs.Common.{sym, ◌∙◌, ap, subst, inl, inr, arith, append-nil}
use Rattle.std.proofs.lemmas.Bool.{or_cases, and_parts, leb-true}
use Rattle.std.proofs.lemmas.Option.{same_Some}
use Rattle.ritas_base.specs.declared.item.Kind.{Kind}
use Rattle.ritas_base.specs.declared.item.Kind.TheVariants as kinds
use Rattle.ritas_base.specs.declared.item.Kind.TheVariants.{Init, Echo, Ready, Want, Value}
use Rattle.ritas_base.specs.declared.item.Item.{Item}
use Rattle.ritas_base.specs.declared.item.Msg.{Msg}
use Rattle.ritas_base.specs.declared.slot.Slot.{Slot}
use Rattle.ritas_base.specs.declared.mode.Mode.{Mode}
use Rattle.ritas_base.specs.Numbers.{Numbers, quorum_of, ready_of, deliver_of}
use Rattle.ritas_base.specs.Slots.{form_of, slot_fault}
use Rattle.ritas_base.specs.Messages.{Place, kind_eq, item_of}
use Rattle.ritas_base.specs.History.{Call, Start, Take, told, first, replicas, is_value, voters, values}
use Rattle.ritas_base.specs.HistoryLaws.{told_item, voters_are, is_value_is, find_passes, kind_eq_is}
use Rattle.ritas_base.specs.Quorums.{some_member}
use Rattle.ritas_base.specs.Shortest.{at_shortest_is, option_or_some}
use Rattle.ritas_base.specs.Tags.{Tags, HasDigests}
use Rattle.frame_codec.specs.Format.{Format, Is}
use Rattle.frame_codec.specs.Grammar.{payload, value, digest, is_of_digest}
use Rattle.frame_codec.specs.Body.{IsInGrammar, is_of_form}
use Rattle.layer_api.specs.Runs.{Has}
use Rattle.layer_api.specs.OneValue.{AreGoodCalls, IsOfSlot}
use Rattle.reliable_bcast.specs.Bracha.{is_backed, is_carried, some_backed, some_carried, ready_value, out_by_value as carried_of}
use Rattle.reliable_bcast.specs.Laws.Good.{good_prefix, started_good}
use Rattle.reliable_bcast.specs.Digests.{brings, cons_if, brought_values, Full, full_of, digest_in, asked_for, known_of, value_for, out_by_digest, by_digest, echo_of}
use Rattle.reliable_bcast.specs.Laws.DigestOneValue.{known_is, full_is, out_is}
use Rattle.reliable_bcast.specs.Laws.DigestDue.{due_value, IsDigestDue, ToAll, ToOne}

-- the format of a kind's payload in form 3
abbrev format_of : Numbers → Mode → Kind → Slot → Format
format_of p mode kind s = if is_of_digest kind then digest else value p mode.root s

payload_by : (p : Numbers) (mode : Mode) (form : ℕ) (kind : Kind) (s : Slot) → form ≡ 3 → form_of mode s ≡ form → is_of_form 3 kind ≡ true → payload p mode kind s ≡ format_of p mode kind s
unfolding payload
payload_by p mode form kinds.Init s three same e = rw (same, three) refl
payload_by p mode form kinds.Echo s three same e = rw (same, three) refl
payload_by p mode form kinds.Ready s three same e = rw (same, three) refl
payload_by p mode form kinds.Send s three same e = absurd (cc)
payload_by p mode form kinds.Hashes s three same e = absurd (cc)
payload_by p mode form kinds.Column s three same e = absurd (cc)
payload_by p mode form kinds.Want s three same e = rw (same, three) refl
payload_by p mode form kinds.Value s three same e = rw (same, three) refl

pub payload_is : (p : Numbers) (mode : Mode) (kind : Kind) (s : Slot) → IsOfSlot by_digest p mode s → is_of_form 3 kind ≡ true → payload p mode kind s ≡ format_of p mode kind s
payload_is p mode kind s of_slot e = payload_by p mode 3 kind s refl (sym of_slot.form) e

-- an item of the slot has the payload of its kind
item_good : (p : Numbers) (mode : Mode) (s : Slot) (x : Item) (kind : Kind) → IsOfSlot by_digest p mode s → x.slot ≡ s → IsInGrammar p mode x → x.kind ≡ kind → is_of_form 3 kind ≡ true
    → Is (format_of p mode kind s) x.value
item_good p mode s x kind of_slot here good same e =
    subst (λ (f : Format). Is f x.value) (payload_is p mode kind s of_slot e)
    (subst (λ (k : Kind). Is (payload p mode k s) x.value) same (subst (λ (q : Slot). Is (payload p mode x.kind q) x.value) here good.payload_is))

pub first_good : (p : Numbers) (mode : Mode) (s : Slot) (h : List Call) (k : ℕ) (kind : Kind) (v : List ℕ) → IsOfSlot by_digest p mode s → AreGoodCalls p mode s h
    → is_of_form 3 kind ≡ true → first h k kind ≡ Some v → Is (format_of p mode kind s) v
first_good p mode s [] k kind v of_slot good is e = absurd (cc)
first_good p mode s (Start u ∷ h) k kind v of_slot good is e =
    elim (option_or_some (first h k kind) None v e) [
      | inl was ↦ first_good p mode s h k kind v of_slot good.1 is was
      | inr now ↦ let here = now.1 in absurd (cc)
    ]
first_good p mode s (Take x ∷ h) k kind v of_slot good is e =
    elim (option_or_some (first h k kind) (told k kind (Take x)) v e) [
      | inl was ↦ first_good p mode s h k kind v of_slot good.2 is was
      | inr now ↦
          let t = told_item k kind x v now.1 in
          subst (λ (w : List ℕ). Is (format_of p mode kind s) w) t.2 (item_good p mode s x kind of_slot good.0 good.1 t.1 is)
    ]

-- somebody voted
voter_of : (n : ℕ) (h : List Call) (kind : Kind) (v : List ℕ) → 0 < voters n h kind v → (k : ℕ) × (first h k kind ≡ Some v)
voter_of n h kind v many =
    let count = voters_are n h kind v in
    let m = some_member (λ k. is_value v (first h k kind)) (replicas n) (omega (arith, many, count)) in
    (m.0, is_value_is v (first h m.0 kind) m.1)

-- what is backed came with ECHO or READY
backed_good : (p : Numbers) (mode : Mode) (s : Slot) (h : List Call) (v : List ℕ) → IsOfSlot by_digest p mode s → AreGoodCalls p mode s h → ready_value p h ≡ Some v → Is digest v
backed_good p mode s h v of_slot good e =
    let at = at_shortest_is (some_backed p) h v e in
    let before : AreGoodCalls p mode s at.prefix = good_prefix p mode s at.later at.prefix (subst (λ (l : List Call). AreGoodCalls p mode s l) (sym at.whole) good) in
    elim (or_cases (nat_le (quorum_of p) (voters p.n at.prefix Echo v)) (nat_le (ready_of p) (voters p.n at.prefix Ready v)) (find_passes (is_backed p at.prefix) (values at.prefix) v at.gives)) [
      | inl echoes ↦
          let many = leb-true (quorum_of p) (voters p.n at.prefix Echo v) echoes in
          let one = voter_of p.n at.prefix Echo v (omega (arith, many)) in
          first_good p mode s at.prefix one.0 Echo v of_slot before refl one.1
      | inr readies ↦
          let many = leb-true (ready_of p) (voters p.n at.prefix Ready v) readies in
          let one = voter_of p.n at.prefix Ready v (omega (arith, many)) in
          first_good p mode s at.prefix one.0 Ready v of_slot before refl one.1
    ]

carried_good : (at : Place) (mode : Mode) (h : List Call) (v : List ℕ) → IsOfSlot by_digest at.numbers mode at.slot → AreGoodCalls at.numbers mode at.slot h → carried_of at h ≡ Some v → Is digest v
carried_good at mode h v of_slot good e =
    let p = at.numbers in
    let a = at_shortest_is (some_carried p) h v e in
    let before : AreGoodCalls p mode at.slot a.prefix = good_prefix p mode at.slot a.later a.prefix (subst (λ (l : List Call). AreGoodCalls p mode at.slot l) (sym a.whole) good) in
    let many = leb-true (deliver_of p) (voters p.n a.prefix Ready v) (find_passes (is_carried p a.prefix) (values a.prefix) v a.gives) in
    let one = voter_of p.n a.prefix Ready v (omega (arith, many)) in
    first_good p mode at.slot a.prefix one.0 Ready v of_slot before refl one.1

asked_is : (o : Option Full) (v : List ℕ) → asked_for o ≡ Some v → digest_in o ≡ Some v
asked_is None v e = absurd (cc)
asked_is (Some full) v e = go full.was_known e
  where
    go : (b : Bool) → (if b then None else Some full.digest) ≡ Some v → Some full.digest ≡ Some v
    go true e = absurd (cc)
    go false e = e

-- what was brought is a value
pub brought_good : (at : Place) (mode : Mode) (h : List Call) (v : List ℕ) → IsOfSlot by_digest at.numbers mode at.slot → AreGoodCalls at.numbers mode at.slot h → Has (brought_values at h) v
    → Is (value at.numbers mode.root at.slot) v
brought_good at mode [] v of_slot good there = absurd there
brought_good at mode (Start u ∷ h) v of_slot good there = brought_good at mode h v of_slot good.1 there
brought_good at mode (Take x ∷ h) v of_slot good there = go (brings at h x) refl there (λ later. brought_good at mode h v of_slot good.2 later)
  where
    by_kind : (brings at h x ≡ true) → Is (value at.numbers mode.root at.slot) x.value
    by_kind e =
        elim (or_cases (kind_eq x.kind Init && (x.from == at.slot.origin && is_none (first h x.from Init))) (kind_eq x.kind Value && is_none (first h x.from Value)) e) [
          | inl a ↦ item_good at.numbers mode at.slot x Init of_slot good.0 good.1 (kind_eq_is x.kind Init (and_parts (kind_eq x.kind Init) _ a).0) refl
          | inr b ↦ item_good at.numbers mode at.slot x Value of_slot good.0 good.1 (kind_eq_is x.kind Value (and_parts (kind_eq x.kind Value) _ b).0) refl
        ]

    go : (b : Bool) → brings at h x ≡ b → Has (cons_if (if b then Some x.value else None) (brought_values at h)) v → (Has (brought_values at h) v → Is (value at.numbers mode.root at.slot) v)
        → Is (value at.numbers mode.root at.slot) v
    go true e (inl same) older = subst (λ (w : List ℕ). Is (value at.numbers mode.root at.slot) w) same (by_kind e)
    go true e (inr later) older = older later
    go false e later older = older later

is_digest : (v : List ℕ) → length v ≡ 32 → Is digest v
unfolding digest
is_digest v e = (v, [], sym (append-nil v), e, refl, refl)

echo_made : (tags : Tags) (o : Option (List ℕ)) (v : List ℕ) → echo_of tags.digest o ≡ Some v → (m : List ℕ) × (tags.digest m ≡ v)
echo_made tags None v e = absurd (cc)
echo_made tags (Some m) v e = (m, same_Some (tags.digest m) v e)

value_good : (at : Place) (tags : Tags) (mode : Mode) (h : List Call) (kind : Kind) (v : List ℕ) → HasDigests tags → IsOfSlot by_digest at.numbers mode at.slot → AreGoodCalls at.numbers mode at.slot h
    → due_value at tags h kind ≡ Some v → Is (format_of at.numbers mode kind at.slot) v
value_good at tags mode h kinds.Init v digests of_slot good e = started_good at.numbers mode at.slot h v good e
value_good at tags mode h kinds.Echo v digests of_slot good e = let m = echo_made tags (first h at.slot.origin Init) v e in is_digest v (ap length (sym m.1) ∙ digests m.0)
value_good at tags mode h kinds.Ready v digests of_slot good e = backed_good at.numbers mode at.slot h v of_slot good e
value_good at tags mode h kinds.Want v digests of_slot good e = carried_good at mode h v of_slot good (sym (full_is at tags h) ∙ asked_is (full_of at tags h) v e)
value_good at tags mode h kinds.Send v digests of_slot good e = absurd (cc)
value_good at tags mode h kinds.Hashes v digests of_slot good e = absurd (cc)
value_good at tags mode h kinds.Column v digests of_slot good e = absurd (cc)
value_good at tags mode h kinds.Value v digests of_slot good e = absurd (cc)

-- a message of this slot with the payload of its kind
made_good : (at : Place) (mode : Mode) (m : Msg) → IsOfSlot by_digest at.numbers mode at.slot → is_of_form 3 m.kind ≡ true → at.slot ≡ m.slot
    → Is (format_of at.numbers mode m.kind at.slot) m.value → IsInGrammar at.numbers mode (item_of at.me m)
made_good at mode m of_slot is here good =
    record {
      session = of_slot.session;
      slot = subst (λ (q : Slot). slot_fault at.numbers mode q ≡ None) here of_slot.slot;
      kind = ap (λ (form : ℕ). is_of_form form m.kind) (ap (form_of mode) (sym here) ∙ sym of_slot.form) ∙ is;
      payload_is = subst (λ (q : Slot). Is (payload at.numbers mode m.kind q) m.value) here
          (subst (λ (f : Format). Is f m.value) (sym (payload_is at.numbers mode m.kind at.slot of_slot is)) good);
    }

value_for_is : (at : Place) (tags : Tags) (h : List Call) (k : ℕ) (v : List ℕ) → value_for at tags h k ≡ Some v → Has (brought_values at h) v
value_for_is at tags h k v e = go (k == at.me) e
  where
    of : (o : Option (List ℕ)) → known_of at tags h o ≡ Some v → Has (brought_values at h) v
    of None e = absurd (cc)
    of (Some d) e = (known_is at tags h d v e).0

    go : (b : Bool) → (if b then None else known_of at tags h (first h k Want)) ≡ Some v → Has (brought_values at h) v
    go true e = absurd (cc)
    go false e = of (first h k Want) e

pub due_good : (at : Place) (tags : Tags) (mode : Mode) (h : List Call) (m : Msg) → HasDigests tags → IsOfSlot by_digest at.numbers mode at.slot → AreGoodCalls at.numbers mode at.slot h
    → IsDigestDue at tags h m → IsInGrammar at.numbers mode (item_of at.me m)
due_good at tags mode h m digests of_slot good (ToAll kind v whole value_is of_form) =
    let k : m.kind ≡ kind = ap (λ (x : Msg). x.kind) whole in
    let w : m.value ≡ v = ap (λ (x : Msg). x.value) whole in
    made_good at mode m of_slot (ap (is_of_form 3) k ∙ of_form) (ap (λ (x : Msg). x.slot) (sym whole))
    (subst (λ (l : Kind). Is (format_of at.numbers mode l at.slot) m.value) (sym k)
    (subst (λ (y : List ℕ). Is (format_of at.numbers mode kind at.slot) y) (sym w) (value_good at tags mode h kind v digests of_slot good value_is)))
due_good at tags mode h m digests of_slot good (ToOne j v there whole value_is) =
    let k : m.kind ≡ Value = ap (λ (x : Msg). x.kind) whole in
    let w : m.value ≡ v = ap (λ (x : Msg). x.value) whole in
    made_good at mode m of_slot (ap (is_of_form 3) k) (ap (λ (x : Msg). x.slot) (sym whole))
    (subst (λ (l : Kind). Is (format_of at.numbers mode l at.slot) m.value) (sym k)
    (subst (λ (y : List ℕ). Is (value at.numbers mode.root at.slot) y) (sym w) (brought_good at mode h v of_slot good (value_for_is at tags h j v value_is))))

pub out_good : (at : Place) (tags : Tags) (mode : Mode) (h : List Call) (v : List ℕ) → IsOfSlot by_digest at.numbers mode at.slot → AreGoodCalls at.numbers mode at.slot h
    → out_by_digest at tags h ≡ Some v → Is (value at.numbers mode.root at.slot) v
out_good at tags mode h v of_slot good e =
    let a = out_is at tags h v e in
    brought_good at mode h v of_slot good (known_is at tags h a.digest v a.known_so).0
