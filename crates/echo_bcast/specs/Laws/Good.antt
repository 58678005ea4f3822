-- What is due, and what is delivered, is in the grammar, where what was started and taken is.
use Rattle.std.specs.Prelude.{◌≡◌, ℕ, ◌≤◌, ◌==◌, ◌&&◌, Bool, true, false, if◌then◌else◌, List, [], ◌∷◌, ◌++◌, length, Some, None, is_some, count_by, refl}
use Rattle.std.proofs.Common.{sym, ◌∙◌, ap, subst, inl, inr, arith}
use Rattle.std.proofs.lemmas.Bool.{leb-true}
use Rattle.std.proofs.lemmas.List.{length-map}
use Rattle.std.proofs.lemmas.List.FromFn.{length-range_with_len}
use Rattle.ritas_base.specs.declared.item.Kind.{Kind}
use Rattle.ritas_base.specs.declared.item.Kind.TheVariants.{Send, Hashes, Column}
use Rattle.ritas_base.specs.declared.item.To.TheVariants.{One}
use Rattle.ritas_base.specs.declared.item.Item.{Item}
use Rattle.ritas_base.specs.declared.item.Msg.{Msg}
use Rattle.ritas_base.specs.declared.slot.Slot.{Slot}
use Rattle.ritas_base.specs.declared.mode.Mode.{Mode}
use Rattle.ritas_base.specs.Numbers.{Numbers, wait_of}
use Rattle.ritas_base.specs.Slots.{form_of}
use Rattle.ritas_base.specs.Messages.{Place, item_of}
use Rattle.ritas_base.specs.MessagesLaws.{message}
use Rattle.ritas_base.specs.History.{Call, Start, Take, started, first, told, replicas}
use Rattle.ritas_base.specs.HistoryLaws.{told_item, length-firsts}
use Rattle.ritas_base.specs.Shortest.{option_or_some}
use Rattle.ritas_base.specs.Tags.{Tags}
use Rattle.frame_codec.specs.Format.{Format, Is}
use Rattle.frame_codec.specs.Grammar.{payload, value, digest, hashes, column}
use Rattle.frame_codec.specs.Body.{IsInGrammar, is_of_form}
use Rattle.layer_api.specs.Entries.{sent, entries_of, entry_of}
use Rattle.layer_api.specs.OneValue.{AreGoodCalls, IsOfSlot}
use Rattle.echo_bcast.specs.Matrix.{echo, hashes_in, hashes_bytes, column_for}
use Rattle.echo_bcast.specs.Due.{IsMatrixDue, OfSend, OfHashes, OfColumn, IsColumnOf}
use Rattle.layer_api.specs.ReplicaLaws.{replica_below}
use Rattle.echo_bcast.specs.Laws.Columns.{hashes_good, hashes_long, AreLong, are_long, column_good}

-- the value of an item of the slot is the payload of its kind
payload_good : (p : Numbers) (mode : Mode) (s : Slot) (x : Item) (kind : Kind) (v : List ℕ) → x.slot ≡ s → IsInGrammar p mode x → x.kind ≡ kind → x.value ≡ v
    → Is (payload p mode kind s) v
payload_good p mode s x kind v here good of_kind same =
    subst (λ (w : List ℕ). Is (payload p mode kind s) w) same
    (subst (λ (k : Kind). Is (payload p mode k s) x.value) of_kind (subst (λ (q : Slot). Is (payload p mode x.kind q) x.value) here good.payload_is))

first_good : (p : Numbers) (mode : Mode) (s : Slot) (h : List Call) (k : ℕ) (kind : Kind) (v : List ℕ) → AreGoodCalls p mode s h → first h k kind ≡ Some v
    → Is (payload p mode kind s) v
first_good p mode s [] k kind v good e = absurd (cc)
first_good p mode s (Start u ∷ h) k kind v good e =
    elim (option_or_some (first h k kind) None v e) [ inl was ↦ first_good p mode s h k kind v good.1 was | inr now ↦ absurd (let here = now.1 in cc) ]
first_good p mode s (Take x ∷ h) k kind v good e =
    elim (option_or_some (first h k kind) (told k kind (Take x)) v e) [
      | inl was ↦ first_good p mode s h k kind v good.2 was
      | inr now ↦ let told_now = told_item k kind x v now.1 in payload_good p mode s x kind v good.0 good.1 told_now.1 told_now.2
    ]

started_good : (p : Numbers) (mode : Mode) (s : Slot) (h : List Call) (v : List ℕ) → AreGoodCalls p mode s h → started h ≡ Some v → Is (value p mode.root s) v
started_good p mode s [] v good e = absurd (cc)
started_good p mode s (Start u ∷ h) v good e =
    elim (option_or_some (started h) (Some u) v e) [
      | inl was ↦ started_good p mode s h v good.1 was
      | inr now ↦ let same : u ≡ v = let here = now.1 in cc in subst (λ (x : List ℕ). Is (value p mode.root s) x) same good.0
    ]
started_good p mode s (Take x ∷ h) v good e =
    elim (option_or_some (started h) None v e) [ inl was ↦ started_good p mode s h v good.2 was | inr now ↦ absurd (let here = now.1 in cc) ]

good_prefix : (p : Numbers) (mode : Mode) (s : Slot) (later h : List Call) → AreGoodCalls p mode s (later ++ h) → AreGoodCalls p mode s h
good_prefix p mode s [] h good = good
good_prefix p mode s (Start v ∷ later) h good = good_prefix p mode s later h good.1
good_prefix p mode s (Take x ∷ later) h good = good_prefix p mode s later h good.2

-- what is sent is the slot's value
send_payload : (p : Numbers) (mode : Mode) (s : Slot) → payload p mode Send s ≡ value p mode.root s
unfolding payload
send_payload p mode s = no_digest (form_of mode s == 3) digest (value p mode.root s)
  where
    no_digest : (b : Bool) (x y : Format) → (if b && false then x else y) ≡ y
    no_digest true x y = refl
    no_digest false x y = refl

sent_good : (p : Numbers) (mode : Mode) (s : Slot) (v : List ℕ) → Is (payload p mode Send s) v → Is (value p mode.root s) v
sent_good p mode s v g = subst (λ (f : Format). Is f v) (send_payload p mode s) g

send_good : (p : Numbers) (mode : Mode) (s : Slot) (v : List ℕ) → Is (value p mode.root s) v → Is (payload p mode Send s) v
send_good p mode s v g = subst (λ (f : Format). Is f v) (sym (send_payload p mode s)) g

of_hashes : (p : Numbers) (mode : Mode) (s : Slot) (v : List ℕ) → Is (payload p mode Hashes s) v → Is (hashes p.n) v
unfolding payload
of_hashes p mode s v g = g

as_hashes : (p : Numbers) (mode : Mode) (s : Slot) (v : List ℕ) → Is (hashes p.n) v → Is (payload p mode Hashes s) v
unfolding payload
as_hashes p mode s v g = g

as_column : (p : Numbers) (mode : Mode) (s : Slot) (v : List ℕ) → Is (column p.n) v → Is (payload p mode Column s) v
unfolding payload
as_column p mode s v g = g

-- a message of this slot with the payload of its kind
made_good : (at : Place) (mode : Mode) (m : Msg) → IsOfSlot echo at.numbers mode at.slot → is_of_form 2 m.kind ≡ true → m.slot ≡ at.slot
    → Is (payload at.numbers mode m.kind at.slot) m.value → IsInGrammar at.numbers mode (item_of at.me m)
made_good at mode m of_slot kind here good =
    let whole : IsInGrammar at.numbers mode (record { from = at.me; kind = m.kind; slot = at.slot; value = m.value }) =
    record { session = of_slot.session; slot = of_slot.slot; kind = ap (λ (form : ℕ). is_of_form form m.kind) (sym of_slot.form) ∙ kind; payload_is = good } in
    subst (λ (q : Slot). IsInGrammar at.numbers mode (record { from = at.me; kind = m.kind; slot = q; value = m.value })) (sym here) whole

-- each HASHES before a column is an entry for each replica
pub columns_long : (at : Place) (mode : Mode) (h : List Call) (m : Msg) → AreGoodCalls at.numbers mode at.slot h → (s : IsColumnOf at h m) → AreLong at.numbers.n (hashes_in at s.prefix)
columns_long at mode h m good s =
    let n = at.numbers.n in
    let p = at.numbers in
    let before : AreGoodCalls p mode at.slot s.prefix = good_prefix p mode at.slot s.later s.prefix (subst (λ (l : List Call). AreGoodCalls p mode at.slot l) (sym s.prefix_is) good) in
    are_long n (λ k. first s.prefix k Hashes)
    (λ k v e. hashes_long n v (of_hashes p mode at.slot v (first_good p mode at.slot s.prefix k Hashes v before e))) (replicas n)

pub due_good : (at : Place) (tags : Tags) (mode : Mode) (h : List Call) (m : Msg) → IsOfSlot echo at.numbers mode at.slot → AreGoodCalls at.numbers mode at.slot h
    → IsMatrixDue at tags h m → IsInGrammar at.numbers mode (item_of at.me m)
due_good at tags mode h m of_slot good (OfSend s) =
    let made = message at.slot Send m.value in
    subst (λ (x : Msg). IsInGrammar at.numbers mode (item_of at.me x)) (sym s.whole)
    (made_good at mode made of_slot refl refl (send_good at.numbers mode at.slot m.value (started_good at.numbers mode at.slot h m.value good s.value)))
due_good at tags mode h m of_slot good (OfHashes s) =
    let n = at.numbers.n in
    let es = entries_of at tags s.sent_here in
    let len : length es ≡ n = length-map (replicas n) (λ k. entry_of at tags at.me k s.sent_here) ∙ length-range_with_len 0 n in
    subst (λ (x : Msg). IsInGrammar at.numbers mode (item_of at.me x)) (sym s.whole)
    (made_good at mode (record { to = One at.slot.origin; kind = Hashes; slot = at.slot; value = hashes_bytes es }) of_slot refl refl (as_hashes at.numbers mode at.slot (hashes_bytes es) (hashes_good n es len)))
due_good at tags mode h m of_slot good (OfColumn s) =
    let n = at.numbers.n in
    let p = at.numbers in
    let hs = hashes_in at s.prefix in
    let long = columns_long at mode h m good s in
    let session = of_slot.session in
    let many = leb-true (wait_of p) (count_by is_some hs) s.enough in
    let some : 1 ≤ count_by is_some hs = omega (arith, many, session.some, session.enough) in
    let is = column_good n s.receiver hs session.most (length-firsts n s.prefix Hashes) some (replica_below n s.receiver s.within) long in
    subst (λ (x : Msg). IsInGrammar at.numbers mode (item_of at.me x)) (sym s.whole)
    (made_good at mode (column_for at.slot hs s.receiver) of_slot refl refl (as_column p mode at.slot (column_for at.slot hs s.receiver).value is))

pub out_good : (at : Place) (mode : Mode) (h : List Call) (v : List ℕ) → AreGoodCalls at.numbers mode at.slot h → sent at h ≡ Some v
    → Is (value at.numbers mode.root at.slot) v
out_good at mode h v good e = sent_good at.numbers mode at.slot v (first_good at.numbers mode at.slot h at.slot.origin Send v good e)
