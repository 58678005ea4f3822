-- The laws of a single value, over the rules of reliable broadcast by digests.
use Rattle.std.specs.Prelude.{◌≡◌, ℕ, zero, suc, ◌<◌, ◌+◌, ◌==◌, ◌&&◌, Bool, true, false, not, is_none, List, [], ◌∷◌, ◌++◌, Option, Some, None, if◌then◌else◌, refl, ◌⊎◌}
use Rattle.std.proofs.Common.{sym, ◌∙◌, ap, subst, inl, inr, arith}
use Rattle.std.specs.List.{flat_map, range_with_len}
use Rattle.std.proofs.lemmas.Bool.{or_cases, and_parts, false_from_ne_true}
use Rattle.ritas_base.specs.declared.item.Kind.{Kind}
use Rattle.ritas_base.specs.declared.item.Kind.TheVariants as kinds
use Rattle.ritas_base.specs.declared.item.Kind.TheVariants.{Init, Echo, Ready, Hashes, Column, Want, Value}
use Rattle.ritas_base.specs.declared.item.To.{To}
use Rattle.ritas_base.specs.declared.item.To.TheVariants.{All, One}
use Rattle.ritas_base.specs.declared.item.Item.{Item}
use Rattle.ritas_base.specs.declared.item.Msg.{Msg}
use Rattle.ritas_base.specs.declared.slot.Slot.{Slot}
use Rattle.ritas_base.specs.Shortest.{option_or_none, at_shortest_stays}
use Rattle.ritas_base.specs.History.{Call, Start, Take, first, started, replicas}
use Rattle.ritas_base.specs.HistoryLaws.{kind_eq_is}
use Rattle.ritas_base.specs.Messages.{Place, kind_eq, has, to_all}
use Rattle.ritas_base.specs.MessagesLaws.{to_all_has, has_append}
use Rattle.ritas_base.specs.Tags.{Tags}
use Rattle.frame_codec.specs.Body.{is_of_form}
use Rattle.layer_api.specs.Entries.{Print, OfMessage, is_hashed, prints_at_kind}
use Rattle.layer_api.specs.ReplicaLaws.{range_has, replica_below}
use Rattle.layer_api.specs.Runs.{Has}
use Rattle.layer_api.specs.HasLaws.{has_listed, listed_has, has_map, map_has}
use Rattle.layer_api.specs.OneValue.{ValueLaws, IsOnce, IsReceiver}
use Rattle.layer_api.specs.OnceLaws.{once_append, once_to_all, kinds_apart}
use Rattle.layer_api.specs.EntryLaws.{EntryLaws, IsMetOf}
use Rattle.reliable_bcast.specs.Bracha.{some_carried, ready_value, out_by_value as carried_of}
use Rattle.reliable_bcast.specs.Laws.Steps.{out_quiet}
use Rattle.reliable_bcast.specs.Digests.{brings, brought_by, cons_if, brought_values, known, full_of, asked_for, known_of, to_one, value_for, values_due, due_by_digest, out_by_digest, by_digest, echo_of}
use Rattle.reliable_bcast.specs.Laws.DigestOneValue.{full_is, out_is}
use Rattle.reliable_bcast.specs.Laws.DigestDue.{one_message, same_one, IsDigestDue, ToAll, ToOne, ones_is, due_is, due_all, due_one, value_stays, value_for_stays, known_stays}
use Rattle.reliable_bcast.specs.Laws.DigestGood.{due_good, out_good}
use Rattle.reliable_bcast.specs.Laws.DigestNews.{no_ones}
use Rattle.reliable_bcast.specs.Laws.DigestQuiet.{start_news}

-- ---- what is delivered

-- the known value of the digest that is carried
pub out_by : (at : Place) (tags : Tags) (h : List Call) → out_by_digest at tags h ≡ known_of at tags h (carried_of at h)
out_by at tags h = ap (known_of at tags h) (full_is at tags h)

known_start : (at : Place) (tags : Tags) (h : List Call) (m : List ℕ) (o : Option (List ℕ)) → known_of at tags (Start m ∷ h) o ≡ known_of at tags h o
known_start at tags h m None = refl
known_start at tags h m (Some d) = option_or_none (known at tags h d)

out_start : (at : Place) (tags : Tags) (h : List Call) (m : List ℕ) → out_by_digest at tags (Start m ∷ h) ≡ out_by_digest at tags h
out_start at tags h m =
    out_by at tags (Start m ∷ h)
    ∙ (ap (known_of at tags (Start m ∷ h)) (out_quiet at h (Start m) (λ k. refl)) ∙ (known_start at tags h m (carried_of at h) ∙ sym (out_by at tags h)))

out_stays : (at : Place) (tags : Tags) (h : List Call) (c : Call) (v : List ℕ) → out_by_digest at tags h ≡ Some v → out_by_digest at tags (c ∷ h) ≡ Some v
out_stays at tags h c v e =
    let a = out_is at tags h v e in
    out_by at tags (c ∷ h)
    ∙ (ap (known_of at tags (c ∷ h)) (at_shortest_stays (some_carried at.numbers) (c ∷ []) h a.digest a.carried) ∙ known_stays at tags c h a.digest v a.known_so)

-- ---- what is due

nobody : (at : Place) (tags : Tags) (k : ℕ) → value_for at tags [] k ≡ None
nobody at tags k = go (k == at.me)
  where
    go : (b : Bool) → (let o : Option (List ℕ) = if b then None else None in o) ≡ None
    go true = refl
    go false = refl

stays : (at : Place) (tags : Tags) (h : List Call) (c : Call) (m : Msg) → IsDigestDue at tags h m → Has (due_by_digest at tags (c ∷ h)) m
stays at tags h c m (ToAll kind v whole value_is of_form) =
    subst (λ (x : Msg). Has (due_by_digest at tags (c ∷ h)) x) (sym whole) (due_all at tags (c ∷ h) kind v (value_stays at tags c h kind v value_is))
stays at tags h c m (ToOne k v there whole value_is) =
    subst (λ (x : Msg). Has (due_by_digest at tags (c ∷ h)) x) (sym whole) (due_one at tags (c ∷ h) k v there (value_for_stays at tags c h k v value_is))

slot_is : (at : Place) (tags : Tags) (h : List Call) (m : Msg) → IsDigestDue at tags h m → m.slot ≡ at.slot
slot_is at tags h m (ToAll kind v whole value_is of_form) = ap (λ (x : Msg). x.slot) whole
slot_is at tags h m (ToOne k v there whole value_is) = ap (λ (x : Msg). x.slot) whole

kind_is : (at : Place) (tags : Tags) (h : List Call) (m : Msg) → IsDigestDue at tags h m → is_of_form 3 m.kind ≡ true
kind_is at tags h m (ToAll kind v whole value_is of_form) = ap (λ (x : Msg). is_of_form 3 x.kind) whole ∙ of_form
kind_is at tags h m (ToOne k v there whole value_is) = ap (λ (x : Msg). is_of_form 3 x.kind) whole

receiver_is : (at : Place) (tags : Tags) (h : List Call) (m : Msg) → IsDigestDue at tags h m → IsReceiver at.numbers.n m.to
receiver_is at tags h m (ToAll kind v whole value_is of_form) = subst (λ (to : To). IsReceiver at.numbers.n to) (ap (λ (x : Msg). x.to) (sym whole)) tt
receiver_is at tags h m (ToOne k v there whole value_is) =
    subst (λ (to : To). IsReceiver at.numbers.n to) (ap (λ (x : Msg). x.to) (sym whole)) (replica_below at.numbers.n k there)

-- ---- each is due once

missing : (s : Slot) (o : ℕ → Option (List ℕ)) (from n k : ℕ) (v : List ℕ) → k < from → has (flat_map (λ j. to_one s j (o j)) (range_with_len from n)) (one_message s k v) ≡ false
missing s o from n k v lt =
    false_from_ne_true (has (flat_map (λ j. to_one s j (o j)) (range_with_len from n)) (one_message s k v))
    (λ t.
    let x = ones_is s o (range_with_len from n) (one_message s k v) (has_listed (flat_map (λ j. to_one s j (o j)) (range_with_len from n)) (one_message s k v) t) in
    let low = (range_has from n x.0 x.1).0 in
    let same = same_one k x.0 (ap (λ (y : Msg). y.to) x.3) in
    omega (arith, lt, low, same))

ones_once : (s : Slot) (o : ℕ → Option (List ℕ)) (from n : ℕ) → IsOnce (flat_map (λ j. to_one s j (o j)) (range_with_len from n))
ones_once s o from zero = tt
ones_once s o from (suc n) = go (o from) (ones_once s o (from + 1) n)
  where
    go : (x : Option (List ℕ)) → IsOnce (flat_map (λ j. to_one s j (o j)) (range_with_len (from + 1) n)) → IsOnce (to_one s from x ++ flat_map (λ j. to_one s j (o j)) (range_with_len (from + 1) n))
    go None once = once
    go (Some v) once = (missing s o (from + 1) n from v (omega arith), once)

-- a message to all isn't one to some
to_all_apart : (s : Slot) (o : ℕ → Option (List ℕ)) (ks : List ℕ) (m : Msg) → m.to ≡ All → has (flat_map (λ j. to_one s j (o j)) ks) m ≡ false
to_all_apart s o ks m all =
    false_from_ne_true (has (flat_map (λ j. to_one s j (o j)) ks) m)
    (λ t.
    let x = ones_is s o ks m (has_listed (flat_map (λ j. to_one s j (o j)) ks) m t) in
    let other : All ≡ One x.0 = sym all ∙ ap (λ (y : Msg). y.to) x.3 in
    absurd (cc))

due_once : (at : Place) (tags : Tags) (h : List Call) → IsOnce (due_by_digest at tags h)
due_once at tags h =
    let s = at.slot in
    let a = started h in
    let b = echo_of tags.digest (first h s.origin Init) in
    let c = ready_value at.numbers h in
    let d = asked_for (full_of at tags h) in
    let inits = to_all s Init a in
    let echoes = to_all s Echo b in
    let readies = to_all s Ready c in
    let wants = to_all s Want d in
    let all : (kind : Kind) (o : Option (List ℕ)) (m : Msg) → has (to_all s kind o) m ≡ true → m.to ≡ All = λ kind o m e. ap (λ (x : Msg). x.to) (to_all_has s kind o m e).0 in
    let two : (m : Msg) → has (inits ++ echoes) m ≡ true → (has inits m ≡ true) ⊎ (has echoes m ≡ true) = λ m e. or_cases (has inits m) (has echoes m) (sym (has_append inits echoes m) ∙ e) in
    let three : (m : Msg) → has (inits ++ echoes ++ readies) m ≡ true → (has (inits ++ echoes) m ≡ true) ⊎ (has readies m ≡ true) =
    λ m e. or_cases (has (inits ++ echoes) m) (has readies m) (sym (has_append (inits ++ echoes) readies m) ∙ e) in
    let four : (m : Msg) → has (inits ++ echoes ++ readies ++ wants) m ≡ true → (has (inits ++ echoes ++ readies) m ≡ true) ⊎ (has wants m ≡ true) =
    λ m e. or_cases (has (inits ++ echoes ++ readies) m) (has wants m) (sym (has_append (inits ++ echoes ++ readies) wants m) ∙ e) in
    once_append (inits ++ echoes ++ readies ++ wants) (values_due at tags h)
    (once_append (inits ++ echoes ++ readies) wants
    (once_append (inits ++ echoes) readies
    (once_append inits echoes (once_to_all s Init a) (once_to_all s Echo b) (λ m e. kinds_apart s Init Echo a b m refl e))
    (once_to_all s Ready c)
    (λ m e. elim (two m e) [ inl x ↦ kinds_apart s Init Ready a c m refl x | inr x ↦ kinds_apart s Echo Ready b c m refl x ]))
    (once_to_all s Want d)
    (λ m e. elim (three m e) [
      | inl x ↦ elim (two m x) [ inl y ↦ kinds_apart s Init Want a d m refl y | inr y ↦ kinds_apart s Echo Want b d m refl y ]
      | inr x ↦ kinds_apart s Ready Want c d m refl x
    ]))
    (ones_once s (value_for at tags h) 0 at.numbers.n)
    (λ m e.
    to_all_apart s (value_for at tags h) (replicas at.numbers.n) m
    (elim (four m e) [
      | inl x ↦ elim (three m x) [
        | inl y ↦ elim (two m y) [ inl z ↦ all Init a m z | inr z ↦ all Echo b m z ]
        | inr y ↦ all Ready c m y
      ]
      | inr x ↦ all Want d m x
    ]))

at_first : (kind : Kind) → is_of_form 3 kind ≡ true → true ≡ not (kind_eq kind Column)
at_first kinds.Init e = refl
at_first kinds.Echo e = refl
at_first kinds.Ready e = refl
at_first kinds.Send e = absurd (cc)
at_first kinds.Hashes e = absurd (cc)
at_first kinds.Column e = absurd (cc)
at_first kinds.Want e = refl
at_first kinds.Value e = refl

pub value_laws_by_digest : ValueLaws by_digest
value_laws_by_digest =
    record {
      out_nothing = λ at tags. refl;
      out_start = λ at tags h v. out_start at tags h v;
      out_stays = λ at tags h c v e. out_stays at tags h c v e;
      due_nothing = λ at tags. no_ones at.slot (value_for at tags []) (replicas at.numbers.n) (nobody at tags);
      due_stays = λ at tags h c m e. listed_has (due_by_digest at tags (c ∷ h)) m (stays at tags h c m (due_is at tags h m (has_listed (due_by_digest at tags h) m e)));
      due_slot = λ at tags h m e. slot_is at tags h m (due_is at tags h m (has_listed (due_by_digest at tags h) m e));
      due_kind = λ at tags h m there. kind_is at tags h m (due_is at tags h m there);
      due_to = λ at tags h m origin there. receiver_is at tags h m (due_is at tags h m there);
      due_once = λ at tags h taken first_ones. due_once at tags h;
      due_good = λ at tags mode h m digests of_slot good there. due_good at tags mode h m digests of_slot good (due_is at tags h m there);
      start_alone = λ at tags h v new. start_news at tags h v new ∙ sym (start_news at tags [] v refl);
      out_good = λ at tags mode h v of_slot good e. out_good at tags mode h v of_slot good e;
      repeats_nothing = λ at tags i. refl;
      repeats_is = λ at tags h i other. refl;
      ready_stays = λ at tags h c i e. refl;
      ready_nothing = λ at tags i has_it. at_first i.kind has_it;
    }

-- ---- what was hashed

no_other : (kind : Kind) → is_of_form 3 kind ≡ true → (kind ≡ Hashes → ⊥) × (kind ≡ Column → ⊥)
no_other kinds.Init e = (λ (s : kinds.Init ≡ Hashes). absurd (cc), λ (s : kinds.Init ≡ Column). absurd (cc))
no_other kinds.Echo e = (λ (s : kinds.Echo ≡ Hashes). absurd (cc), λ (s : kinds.Echo ≡ Column). absurd (cc))
no_other kinds.Ready e = (λ (s : kinds.Ready ≡ Hashes). absurd (cc), λ (s : kinds.Ready ≡ Column). absurd (cc))
no_other kinds.Send e = absurd (cc)
no_other kinds.Hashes e = absurd (cc)
no_other kinds.Column e = absurd (cc)
no_other kinds.Want e = (λ (s : kinds.Want ≡ Hashes). absurd (cc), λ (s : kinds.Want ≡ Column). absurd (cc))
no_other kinds.Value e = (λ (s : kinds.Value ≡ Hashes). absurd (cc), λ (s : kinds.Value ≡ Column). absurd (cc))

-- a value that was brought came with an INIT or a VALUE
pub record IsBrought (h : List Call) (v : List ℕ) : Type 0 where
  pub item : Item
  pub taken : Has h (Take item)
  pub kind : (item.kind ≡ Init) ⊎ (item.kind ≡ Value)
  pub value : item.value ≡ v

pub brought_is : (at : Place) (h : List Call) (v : List ℕ) → Has (brought_values at h) v → IsBrought h v
brought_is at [] v there = absurd there
brought_is at (Start m ∷ h) v there = let g = brought_is at h v there in record { item = g.item; taken = inr g.taken; kind = g.kind; value = g.value }
brought_is at (Take x ∷ h) v there =
    go (brings at h x) refl there (λ later. let g = brought_is at h v later in record { item = g.item; taken = inr g.taken; kind = g.kind; value = g.value })
  where
    of_kind : brings at h x ≡ true → (x.kind ≡ Init) ⊎ (x.kind ≡ Value)
    of_kind e =
        elim (or_cases (kind_eq x.kind Init && (x.from == at.slot.origin && is_none (first h x.from Init))) (kind_eq x.kind Value && is_none (first h x.from Value)) e) [
          | inl a ↦ inl (kind_eq_is x.kind Init (and_parts (kind_eq x.kind Init) _ a).0)
          | inr b ↦ inr (kind_eq_is x.kind Value (and_parts (kind_eq x.kind Value) _ b).0)
        ]

    go : (b : Bool) → brings at h x ≡ b → Has (cons_if (if b then Some x.value else None) (brought_values at h)) v → (Has (brought_values at h) v → IsBrought (Take x ∷ h) v) → IsBrought (Take x ∷ h) v
    go true e (inl same) older = record { item = x; taken = inl refl; kind = of_kind e; value = same }
    go true e (inr later) older = older later
    go false e later older = older later

hashed_print : (at : Place) (tags : Tags) (kind : Kind) (m : List ℕ) (a : Print) → (kind ≡ Init) ⊎ (kind ≡ Value) → OfMessage m (tags.digest m) ≡ a
    → (is_hashed 3 kind ≡ true) × Has (prints_at_kind at tags kind m) a
hashed_print at tags kind m a (inl is) same =
    (ap (is_hashed 3) is, subst (λ (k : Kind). Has (prints_at_kind at tags k m) a) (sym is) (inl same))
hashed_print at tags kind m a (inr is) same =
    (ap (is_hashed 3) is, subst (λ (k : Kind). Has (prints_at_kind at tags k m) a) (sym is) (inl same))

met_taken : (at : Place) (tags : Tags) (h : List Call) (a : Print) → Has (by_digest.met at tags h) a → IsMetOf by_digest at tags h a
met_taken at tags h a there =
    let x = has_map (λ m. OfMessage m (tags.digest m)) (brought_values at h) a there in
    let g = brought_is at h x.0 x.1 in
    let p = hashed_print at tags g.item.kind g.item.value a g.kind (ap (λ (m : List ℕ). OfMessage m (tags.digest m)) g.value ∙ x.2) in
    record { item = g.item; taken = g.taken; kind = p.0; print = p.1 }

brought_stays : (o : Option (List ℕ)) (vs : List (List ℕ)) (v : List ℕ) → Has vs v → Has (cons_if o vs) v
brought_stays None vs v there = there
brought_stays (Some m) vs v there = inr there

met_stays : (at : Place) (tags : Tags) (h : List Call) (c : Call) (a : Print) → Has (by_digest.met at tags h) a → Has (by_digest.met at tags (c ∷ h)) a
met_stays at tags h c a there =
    let x = has_map (λ m. OfMessage m (tags.digest m)) (brought_values at h) a there in
    subst (λ (y : Print). Has (by_digest.met at tags (c ∷ h)) y) x.2
    (map_has (λ m. OfMessage m (tags.digest m)) (brought_values at (c ∷ h)) x.0 (brought_stays (brought_by at h c) (brought_values at h) x.0 x.1))

pub entry_laws_by_digest : EntryLaws by_digest
entry_laws_by_digest =
    record {
      hashes = λ at tags h m whole there kind k below. absurd ((no_other m.kind (kind_is at tags h m (due_is at tags h m there))).0 kind);
      columns = λ at tags mode h m of_slot good there kind echoer entry row. absurd ((no_other m.kind (kind_is at tags h m (due_is at tags h m there))).1 kind);
      met_taken = met_taken;
      met_stays = met_stays;
    }
