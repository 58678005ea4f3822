-- One replica more that met something, and one message or entry more, in a table.
use Rattle.std.proofs.Common.{◌≡◌, ℕ, ◌==◌, Bool, true, false, not, ◌&&◌, List, ◌∷◌, Option, Some, None, refl, sym, ◌∙◌, ap, ap₂, subst, ◌⊎◌, inl, inr, cond, if◌then◌else◌}
use Rattle.std.specs.BTreeMap.{BTreeMap, get, is_at}
use Rattle.std.specs.Str.{bytes_eq}
use Rattle.std.specs.List.{list_any}
use Rattle.std.specs.Option.{option_or}
use Rattle.std.proofs.lemmas.Bool.{eq-eqb, false≢true}
use Rattle.std.proofs.lemmas.Option.{same_Some}
use Rattle.sha2.specs.Sha256.{sha256}
use Rattle.std.proofs.lemmas.Slice.Eq.{bytes_eq-Decides}
use Rattle.std.proofs.lemmas.Map.Text.{is_eq-slice_cmp}
use Rattle.ritas_base.specs.declared.slot.Slot.{Slot}
use Rattle.ritas_base.specs.SlotOrder.{slot_cmp, is_slot, slot_itself, same_slot}
use Rattle.keyed_channel.specs.KeyRow.{KeyRow}
use Rattle.keyed_channel.specs.Keyed.{tags_of}
use Rattle.layer_api.specs.Runs.{Has}
use Rattle.layer_api.specs.Entries.{EntryInput, Print, OfMessage, OfEntry}
use Rattle.world_model.specs.declared.met.MetAtSlot.{MetAtSlot}
use Rattle.world_model.specs.declared.hashed.HashedEntry.{HashedEntry}
use Rattle.world_model.specs.declared.hashed.Hashed.{Hashed}
use Rattle.world_model.specs.Met.{MetEntries}
use Rattle.world_model.specs.Hashed.{met_in, entries_met_at, is_same_at, image_cmp, input_of, input_in, digest_at, has_digest, entry_input_at, HashedStand, IsDigestOf, Clash, Adds}
use Rattle.world_model.specs.Audit.{is_same_input, clashes, collide}
use Rattle.world_model.proofs.Prints.{same_input}
use Rattle.world_model.proofs.Anywhere.{all_fail, any_of}

-- ---- one image

pub is_image : (d e : List ℕ) → is_at (image_cmp d) e ≡ bytes_eq d e
is_image d e = is_eq-slice_cmp d e

same_bytes : (a b : List ℕ) → bytes_eq a b ≡ true → a ≡ b
same_bytes a b e = (bytes_eq-Decides a b).0 e

pub bytes_itself : (a : List ℕ) → bytes_eq a a ≡ true
bytes_itself a = (bytes_eq-Decides a a).1 refl

-- ---- a replica more that met

-- a slot that has one more
pub slot_put : (m n : BTreeMap Slot MetAtSlot) (s : Slot) (i : ℕ) (d : MetEntries) (old : Option MetAtSlot) (new : MetAtSlot) → old ≡ get slot_cmp m s →
    ((j : ℕ) → met_in (Some new) j ≡ (if i == j then option_or (met_in old j) (Some d) else met_in old j)) →
    ((q : Slot) → get slot_cmp n q ≡ cond (is_slot s q) (Some new) (get slot_cmp m q)) → (q : Slot) (j : ℕ) →
    entries_met_at n q j ≡ (if is_same_at s i q j then option_or (entries_met_at m q j) (Some d) else entries_met_at m q j)
slot_put m n s i d old new was added put q j = ap (λ o. met_in o j) (put q) ∙ go (is_slot s q) refl
  where
    and_true : (b : Bool) → (b && true) ≡ b
    and_true true = refl
    and_true false = refl

    and_false : (b : Bool) → (b && false) ≡ false
    and_false true = refl
    and_false false = refl

    go : (b : Bool) → is_slot s q ≡ b → met_in (cond b (Some new) (get slot_cmp m q)) j
        ≡ (if i == j && b then option_or (entries_met_at m q j) (Some d) else entries_met_at m q j)
    go true same =
        added j
        ∙ ap₂ (λ b o. if b then option_or (met_in o j) (Some d) else met_in o j) (sym (and_true (i == j))) (was ∙ ap (get slot_cmp m) (same_slot s q same))
    go false apart = ap (λ b. if b then option_or (entries_met_at m q j) (Some d) else entries_met_at m q j) (sym (and_false (i == j)))

-- ---- a print more

not_same : (a b : List ℕ) → bytes_eq b a ≡ false → bytes_eq a b ≡ false
not_same a b apart = differ (bytes_eq a b) refl
  where
    differ : (c : Bool) → bytes_eq a b ≡ c → bytes_eq a b ≡ false
    differ true same = absurd (false≢true (sym apart ∙ (ap (bytes_eq b) (same_bytes a b same) ∙ bytes_itself b)))
    differ false other = other

-- what clashes
pub clash_messages : (m v d : List ℕ) → bytes_eq m v ≡ false → clashes (OfMessage m d) (OfMessage v d) ≡ true
clash_messages m v d apart = ap₂ (λ a b. a && not b) (bytes_itself d) apart

pub clash_entries : (x y : EntryInput) (e : List ℕ) → is_same_input x y ≡ false → clashes (OfEntry x e) (OfEntry y e) ≡ true
clash_entries x y e apart = ap₂ (λ a b. a && not b) (bytes_itself e) apart

input_itself : (x : EntryInput) → is_same_input x x ≡ true
input_itself x =
    ap₂ (λ a b. a && b) (ap₂ (λ a b. a && b) (slot_itself x.slot) (ap₂ (λ a b. a && b) (eq-eqb x.echoer x.echoer refl) (eq-eqb x.verifier x.verifier refl)))
    (bytes_itself x.digest)

-- prints that are all in a table don't clash
apart_messages : (h : Hashed) (prints : List Print) → HashedStand h prints → (m v d e : List ℕ) → Has prints (OfMessage m d) → Has prints (OfMessage v e) → (b : Bool) → bytes_eq d e ≡ b →
    (b && not (bytes_eq m v)) ≡ false
apart_messages h prints stand m v d e one other true same =
    let image = same_bytes d e same in
    let alike = stand.one_message m v e (stand.messages m d one ∙ ap (λ (x : List ℕ). Some x) image) (stand.messages v e other) in
    ap not (ap (bytes_eq m) (sym alike) ∙ bytes_itself m)
apart_messages h prints stand m v d e one other false same = refl

one_input : (x y : EntryInput) (o : Option EntryInput) → o ≡ Some x → o ≡ Some y → x ≡ y
one_input x y o a b = cc

apart_entries : (h : Hashed) (prints : List Print) → HashedStand h prints → (x y : EntryInput) (d e : List ℕ) → Has prints (OfEntry x d) → Has prints (OfEntry y e) → (b : Bool) → bytes_eq d e ≡ b →
    (b && not (is_same_input x y)) ≡ false
apart_entries h prints stand x y d e one other true same =
    let image = same_bytes d e same in
    let alike = one_input x y (entry_input_at h e) (ap (entry_input_at h) (sym image) ∙ stand.entries x d one) (stand.entries y e other) in
    ap not (ap (is_same_input x) (sym alike) ∙ input_itself x)
apart_entries h prints stand x y d e one other false same = refl

apart_prints : (h : Hashed) (prints : List Print) → HashedStand h prints → (a c : Print) → Has prints a → Has prints c → clashes a c ≡ false
apart_prints h prints stand (OfMessage m d) (OfMessage v e) one other = apart_messages h prints stand m v d e one other (bytes_eq d e) refl
apart_prints h prints stand (OfEntry x d) (OfEntry y e) one other = apart_entries h prints stand x y d e one other (bytes_eq d e) refl
apart_prints h prints stand (OfMessage m d) (OfEntry y e) one other = refl
apart_prints h prints stand (OfEntry x d) (OfMessage v e) one other = refl

pub none_collide : (h : Hashed) (prints : List Print) → HashedStand h prints → collide prints ≡ false
none_collide h prints stand =
    all_fail (λ a. list_any (clashes a) prints) prints
    (λ a one. all_fail (clashes a) prints (λ c other. apart_prints h prints stand a c one other))

-- one that clashes with another collides
pub clash_collides : (p : Print) (prints all : List Print) → Has all p → ((x : Print) → Has prints x → Has all x) → Clash p prints → collide all ≡ true
clash_collides p prints all here within clash =
    any_of (λ a. list_any (clashes a) all) all p here (any_of (clashes p) all clash.other (within clash.other clash.listed) clash.differ)

-- ---- as the code has it

image_itself : (d : List ℕ) → is_at (image_cmp d) d ≡ true
image_itself d = is_image d d ∙ bytes_itself d

one_image : (d e : List ℕ) → is_at (image_cmp d) e ≡ true → d ≡ e
one_image d e h = same_bytes d e (sym (is_image d e) ∙ h)

-- a message that is there
pub message_again : (h : Hashed) (prints : List Print) → HashedStand h prints → (m d : List ℕ) → digest_at h m ≡ Some d → HashedStand h (OfMessage m d ∷ prints)
message_again h prints stand m d found = record {
  messages = λ v e here. elim here [
    | inl same ↦
        let value : m ≡ v = cc in
        let image : d ≡ e = cc in
        ap (digest_at h) (sym value) ∙ found ∙ ap (λ (x : List ℕ). Some x) image
    | inr there ↦ stand.messages v e there
  ];
  no_other_message = λ v e is. inr (stand.no_other_message v e is);
  right = stand.right;
  digests = stand.digests;
  no_other_digest = stand.no_other_digest;
  one_message = stand.one_message;
  entries = λ x e here. elim here [
    | inl same ↦ absurd (cc)
    | inr there ↦ stand.entries x e there
  ];
  no_other_entry = λ x e is. inr (stand.no_other_entry x e is);
}

-- it has its digest
pub message_found : (h : Hashed) (k : KeyRow) (m d : List ℕ) → digest_at h m ≡ Some d → (prints : List Print) → HashedStand h prints → IsDigestOf h k m prints (Some d)
message_found h k m d found prints stand = (stand.right m d found, message_again h prints stand m d found)

-- a new message whose digest is there clashes
pub digest_taken : (h : Hashed) (k : KeyRow) (m d : List ℕ) (added : Bool) → added ≡ not (has_digest h d) → added ≡ false → d ≡ (tags_of k).digest m → digest_at h m ≡ None
    → (prints : List Print) → HashedStand h prints → Clash (OfMessage m ((tags_of k).digest m)) prints
digest_taken h k m d added is old digest none prints stand =
    let there : has_digest h d ≡ true = not_false (has_digest h d) (sym is ∙ old) in
    let other = stand.no_other_digest d there in
    let apart : bytes_eq m other.0 ≡ false = differ other.0 other.1 (bytes_eq m other.0) refl in
    record {
      other = OfMessage other.0 d;
      listed = stand.no_other_message other.0 d other.1;
      differ = ap (λ (x : List ℕ). clashes (OfMessage m x) (OfMessage other.0 d)) (sym digest) ∙ clash_messages m other.0 d apart;
    }
  where
    not_false : (b : Bool) → not b ≡ false → b ≡ true
    not_false true e = refl
    not_false false e = absurd (cc)

    differ : (v : List ℕ) → digest_at h v ≡ Some d → (b : Bool) → bytes_eq m v ≡ b → bytes_eq m v ≡ false
    differ v here true same =
        let missing : None ≡ Some d = sym none ∙ (ap (digest_at h) (same_bytes m v same) ∙ here) in
        absurd (cc)
    differ v here false other = other

pub was_new : (there added : Bool) → added ≡ not there → added ≡ true → there ≡ false
was_new true added is new = absurd (false≢true (sym is ∙ new))
was_new false added is new = refl

-- a message more
module _ (h n : Hashed) (k : KeyRow) (m d : List ℕ) (none : digest_at h m ≡ None) (new : has_digest h d ≡ false) (digest : d ≡ (tags_of k).digest m) (same : n.entries ≡ h.entries)
    (put : (v : List ℕ) → digest_at n v ≡ cond (bytes_eq m v) (Some d) (digest_at h v))
    (added : (e : List ℕ) → has_digest n e ≡ cond (is_at (image_cmp d) e) true (has_digest h e)) where
  -- a message that is there is the new one, or was there
  message_is : (v e : List ℕ) (b : Bool) → bytes_eq m v ≡ b → digest_at n v ≡ cond b (Some d) (digest_at h v) → digest_at n v ≡ Some e →
      ((m ≡ v) × (d ≡ e)) ⊎ (digest_at h v ≡ Some e)
  message_is v e true here now is = inl (same_bytes m v here, same_Some d e (sym now ∙ is))
  message_is v e false here now is = inr (sym now ∙ is)

  is_there : (v e : List ℕ) → digest_at n v ≡ Some e → ((m ≡ v) × (d ≡ e)) ⊎ (digest_at h v ≡ Some e)
  is_there v e is = message_is v e (bytes_eq m v) refl (put v) is

  message_here : digest_at n m ≡ Some d
  message_here = put m ∙ ap (λ b. cond b (Some d) (digest_at h m)) (bytes_itself m)

  kept_at_bytes : (v e : List ℕ) (b : Bool) → bytes_eq m v ≡ b → digest_at n v ≡ cond b (Some d) (digest_at h v) → digest_at h v ≡ Some e → digest_at n v ≡ Some e
  kept_at_bytes v e true here now there =
      let missing : None ≡ Some e = sym none ∙ (ap (digest_at h) (same_bytes m v here) ∙ there) in
      absurd (cc)
  kept_at_bytes v e false here now there = now ∙ there

  message_kept : (v e : List ℕ) → digest_at h v ≡ Some e → digest_at n v ≡ Some e
  message_kept v e there = kept_at_bytes v e (bytes_eq m v) refl (put v) there

  -- so it is of digests
  digest_here : has_digest n d ≡ true
  digest_here = added d ∙ ap (λ b. cond b true (has_digest h d)) (image_itself d)

  digest_stays : (e : List ℕ) (b : Bool) → has_digest n e ≡ cond b true (has_digest h e) → has_digest h e ≡ true → has_digest n e ≡ true
  digest_stays e true now there = now
  digest_stays e false now there = now ∙ there

  digest_is : (e : List ℕ) (b : Bool) → is_at (image_cmp d) e ≡ b → has_digest n e ≡ cond b true (has_digest h e) → has_digest n e ≡ true → (d ≡ e) ⊎ (has_digest h e ≡ true)
  digest_is e true here now is = inl (one_image d e here)
  digest_is e false here now is = inr (sym now ∙ is)

  module _ (prints : List Print) (stand : HashedStand h prints) where
    -- no message that was there has the new digest
    not_new : (v : List ℕ) → digest_at h v ≡ Some d → ⊥
    not_new v there = false≢true (sym new ∙ stand.digests v d there)

    listed : (v e : List ℕ) → ((m ≡ v) × (d ≡ e)) ⊎ (digest_at h v ≡ Some e) → Has (OfMessage m d ∷ prints) (OfMessage v e)
    listed v e (inl both) = inl (ap₂ (λ (x y : List ℕ). OfMessage x y) both.0 both.1)
    listed v e (inr there) = inr (stand.no_other_message v e there)

    hashes_right : (v e : List ℕ) → ((m ≡ v) × (d ≡ e)) ⊎ (digest_at h v ≡ Some e) → e ≡ sha256 v
    hashes_right v e (inl both) = sym both.1 ∙ digest ∙ ap sha256 both.0
    hashes_right v e (inr there) = stand.right v e there

    has_it : (v e : List ℕ) → ((m ≡ v) × (d ≡ e)) ⊎ (digest_at h v ≡ Some e) → has_digest n e ≡ true
    has_it v e (inl both) = subst (λ (x : List ℕ). has_digest n x ≡ true) both.1 digest_here
    has_it v e (inr there) = digest_stays e (is_at (image_cmp d) e) (added e) (stand.digests v e there)

    of_message : (e : List ℕ) → (d ≡ e) ⊎ (has_digest h e ≡ true) → (v : List ℕ) × (digest_at n v ≡ Some e)
    of_message e (inl same) = (m, message_here ∙ ap (λ (x : List ℕ). Some x) same)
    of_message e (inr there) = let old = stand.no_other_digest e there in (old.0, message_kept old.0 e old.1)

    one_of_both : (v u e : List ℕ) → ((m ≡ v) × (d ≡ e)) ⊎ (digest_at h v ≡ Some e) → ((m ≡ u) × (d ≡ e)) ⊎ (digest_at h u ≡ Some e) → v ≡ u
    one_of_both v u e (inl one) (inl other) = sym one.0 ∙ other.0
    one_of_both v u e (inl one) (inr other) = absurd (not_new u (other ∙ ap (λ (x : List ℕ). Some x) (sym one.1)))
    one_of_both v u e (inr one) (inl other) = absurd (not_new v (one ∙ ap (λ (x : List ℕ). Some x) (sym other.1)))
    one_of_both v u e (inr one) (inr other) = stand.one_message v u e one other

    message_stands : HashedStand n (OfMessage m d ∷ prints)
    message_stands = record {
      messages = λ v e here. elim here [
        | inl one ↦
            let value : m ≡ v = cc in
            let image : d ≡ e = cc in
            ap (digest_at n) (sym value) ∙ message_here ∙ ap (λ (x : List ℕ). Some x) image
        | inr there ↦ message_kept v e (stand.messages v e there)
      ];
      no_other_message = λ v e is. listed v e (is_there v e is);
      right = λ v e is. hashes_right v e (is_there v e is);
      digests = λ v e is. has_it v e (is_there v e is);
      no_other_digest = λ e is. of_message e (digest_is e (is_at (image_cmp d) e) refl (added e) is);
      one_message = λ v u e one other. one_of_both v u e (is_there v e one) (is_there u e other);
      entries = λ x e here. elim here [
        | inl one ↦ absurd (cc)
        | inr there ↦ ap (λ (es : BTreeMap (List ℕ) HashedEntry). input_in (get image_cmp es e)) same ∙ stand.entries x e there
      ];
      no_other_entry = λ x e is. inr (stand.no_other_entry x e (sym (ap (λ (es : BTreeMap (List ℕ) HashedEntry). input_in (get image_cmp es e)) same) ∙ is));
    }

    pub message_put : IsDigestOf n k m prints (Some d)
    message_put = (digest, message_stands)

-- an entry that is there
entry_again : (h : Hashed) (prints : List Print) → HashedStand h prints → (x : EntryInput) (d : List ℕ) → entry_input_at h d ≡ Some x → HashedStand h (OfEntry x d ∷ prints)
entry_again h prints stand x d found = record {
  messages = λ v e here. elim here [
    | inl same ↦ absurd (cc)
    | inr there ↦ stand.messages v e there
  ];
  no_other_message = λ v e is. inr (stand.no_other_message v e is);
  right = stand.right;
  digests = stand.digests;
  no_other_digest = stand.no_other_digest;
  one_message = stand.one_message;
  entries = λ y e here. elim here [
    | inl same ↦
        let value : x ≡ y = cc in
        let image : d ≡ e = cc in
        ap (entry_input_at h) (sym image) ∙ found ∙ ap (λ (z : EntryInput). Some z) value
    | inr there ↦ stand.entries y e there
  ];
  no_other_entry = λ y e is. inr (stand.no_other_entry y e is);
}

apart_inputs : (x y : EntryInput) (b : Bool) → is_same_input x y ≡ b → (x ≡ y → ⊥) → is_same_input x y ≡ false
apart_inputs x y true same apart = absurd (apart (same_input x y same))
apart_inputs x y false same apart = same

entry_either : (h : Hashed) (prints : List Print) (x : EntryInput) (d : List ℕ) (other : EntryInput) (clash : Bool) → entry_input_at h d ≡ Some other →
    (clash ≡ false → other ≡ x) → (clash ≡ true → other ≡ x → ⊥) → HashedStand h prints → Adds h (OfEntry x d) prints clash
entry_either h prints x d other false found same apart stand = entry_again h prints stand x d (found ∙ ap (λ (z : EntryInput). Some z) (same refl))
entry_either h prints x d other true found same apart stand = record {
  other = OfEntry other d;
  listed = stand.no_other_entry other d found;
  differ = clash_entries x other d (apart_inputs x other (is_same_input x other) refl (λ e. apart refl (sym e)));
}

pub input_as : HashedEntry → EntryInput
input_as x = input_of x

one_entry : (x y : HashedEntry) → input_of x ≡ input_of y → x ≡ y
one_entry x y e = ap (λ (z : EntryInput). record { slot = z.slot; echoer = z.echoer; verifier = z.verifier; digest = z.digest }) e

pub entry_found : (h : Hashed) (input : HashedEntry) (d : List ℕ) (other : HashedEntry) (clash : Bool) → get image_cmp h.entries d ≡ Some other →
    (clash ≡ false → other ≡ input) → (clash ≡ true → other ≡ input → ⊥) → (prints : List Print) → HashedStand h prints → Adds h (OfEntry (input_of input) d) prints clash
entry_found h input d other clash found same apart prints stand =
    entry_either h prints (input_of input) d (input_of other) clash (ap input_in found) (λ no. ap input_of (same no)) (λ yes e. apart yes (one_entry other input e)) stand

-- an entry more
input_cond : (b : Bool) (x : HashedEntry) (o : Option HashedEntry) → input_in (cond b (Some x) o) ≡ cond b (Some (input_of x)) (input_in o)
input_cond true x o = refl
input_cond false x o = refl

module _ (h n : Hashed) (x : EntryInput) (d : List ℕ) (none_else : (y : EntryInput) → entry_input_at h d ≡ Some y → y ≡ x) (same : (v : List ℕ) → digest_at n v ≡ digest_at h v)
    (same_digests : (e : List ℕ) → has_digest n e ≡ has_digest h e)
    (put : (e : List ℕ) → entry_input_at n e ≡ cond (is_at (image_cmp d) e) (Some x) (entry_input_at h e)) where
  entry_kept : (y : EntryInput) (e : List ℕ) (b : Bool) → is_at (image_cmp d) e ≡ b → entry_input_at n e ≡ cond b (Some x) (entry_input_at h e) → entry_input_at h e ≡ Some y → entry_input_at n e ≡ Some y
  entry_kept y e true here now there =
      now ∙ ap (λ (z : EntryInput). Some z) (sym (none_else y (ap (entry_input_at h) (one_image d e here) ∙ there)))
  entry_kept y e false here now there = now ∙ there

  entry_new : (prints : List Print) → HashedStand h prints → (y : EntryInput) (e : List ℕ) (b : Bool) → is_at (image_cmp d) e ≡ b → entry_input_at n e ≡ cond b (Some x) (entry_input_at h e) → entry_input_at n e ≡ Some y →
      Has (OfEntry x d ∷ prints) (OfEntry y e)
  entry_new prints stand y e true here now is = inl (ap₂ (λ (z : EntryInput) (i : List ℕ). OfEntry z i) (one_input x y (entry_input_at n e) now is) (one_image d e here))
  entry_new prints stand y e false here now is = inr (stand.no_other_entry y e (sym now ∙ is))

  pub entry_put : (prints : List Print) → HashedStand h prints → HashedStand n (OfEntry x d ∷ prints)
  entry_put prints stand = record {
    messages = λ v e here. elim here [
      | inl one ↦ absurd (cc)
      | inr there ↦ same v ∙ stand.messages v e there
    ];
    no_other_message = λ v e is. inr (stand.no_other_message v e (sym (same v) ∙ is));
    right = λ v e is. stand.right v e (sym (same v) ∙ is);
    digests = λ v e is. same_digests e ∙ stand.digests v e (sym (same v) ∙ is);
    no_other_digest = λ e is. let old = stand.no_other_digest e (sym (same_digests e) ∙ is) in (old.0, same old.0 ∙ old.1);
    one_message = λ v u e one other. stand.one_message v u e (sym (same v) ∙ one) (sym (same u) ∙ other);
    entries = λ y e here. elim here [
      | inl one ↦
          let value : x ≡ y = cc in
          let image : d ≡ e = cc in
          ap (entry_input_at n) (sym image) ∙ put d ∙ ap (λ b. cond b (Some x) (entry_input_at h d)) (image_itself d) ∙ ap (λ (z : EntryInput). Some z) value
      | inr there ↦ entry_kept y e (is_at (image_cmp d) e) refl (put e) (stand.entries y e there)
    ];
    no_other_entry = λ y e is. entry_new prints stand y e (is_at (image_cmp d) e) refl (put e) is;
  }

-- what the entry is of already, if it is of anything
of_this : (input : HashedEntry) (o : Option HashedEntry) → ((z : HashedEntry) → o ≡ Some z → z ≡ input) → (y : EntryInput) → input_in o ≡ Some y → y ≡ input_of input
of_this input None only y is = absurd (cc)
of_this input (Some z) only y is = sym (same_Some _ _ is) ∙ ap input_of (only z refl)

pub input_put : (h n : Hashed) (input : HashedEntry) (d : List ℕ) → ((z : HashedEntry) → get image_cmp h.entries d ≡ Some z → z ≡ input) → ((v : List ℕ) → digest_at n v ≡ digest_at h v) → ((e : List ℕ) → has_digest n e ≡ has_digest h e) →
    ((e : List ℕ) → get image_cmp n.entries e ≡ cond (is_at (image_cmp d) e) (Some input) (get image_cmp h.entries e)) →
    (prints : List Print) → HashedStand h prints → HashedStand n (OfEntry (input_of input) d ∷ prints)
input_put h n input d only same same_digests put =
    entry_put h n (input_of input) d (of_this input (get image_cmp h.entries d) only) same same_digests (λ e. ap input_in (put e) ∙ input_cond (is_at (image_cmp d) e) input (get image_cmp h.entries e))

pub never_there : (o : Option HashedEntry) (input : HashedEntry) → None ≡ o → (z : HashedEntry) → o ≡ Some z → z ≡ input
never_there o input none z is = let clash : None ≡ Some z = none ∙ is in absurd (cc)

-- an entry that was there is of this from now on
pub input_again : (h n : Hashed) (input : HashedEntry) (d : List ℕ) (other : HashedEntry) (clash : Bool) → Some other ≡ get image_cmp h.entries d →
    (clash ≡ false → other ≡ input) → (clash ≡ true → other ≡ input → ⊥) → ((v : List ℕ) → digest_at n v ≡ digest_at h v) → ((e : List ℕ) → has_digest n e ≡ has_digest h e) →
    ((e : List ℕ) → get image_cmp n.entries e ≡ cond (is_at (image_cmp d) e) (Some input) (get image_cmp h.entries e)) →
    (prints : List Print) → HashedStand h prints → Adds n (OfEntry (input_of input) d) prints clash
input_again h n input d other false found match apart same same_digests put prints stand =
    input_put h n input d (λ z e. sym (same_Some _ _ (found ∙ e)) ∙ match refl) same same_digests put prints stand
input_again h n input d other true found match apart same same_digests put prints stand = entry_found h input d other true (sym found) match apart prints stand
