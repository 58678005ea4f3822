-- The law of one value: correct replicas deliver one message, and a correct origin's is what it started.
use Rattle.std.specs.Prelude.{◌≡◌, ℕ, ◌<◌, ◌≤◌, ◌+◌, ◌*◌, ◌==◌, Bool, true, false, List, [], ◌∷◌, map, Option, Some, None, nat_le, count_by, length, if◌then◌else◌, refl}
use Rattle.std.proofs.Common.{sym, ◌∙◌, ap, subst, inl, inr, arith, eqb-true}
use Rattle.std.proofs.lemmas.Bool.{or_cases, and_parts, leb-true, cond_both}
use Rattle.std.proofs.lemmas.List.FromFn.{length-range_with_len}
use Rattle.std.proofs.lemmas.Option.{same_Some}
use Rattle.ritas_base.specs.declared.item.Kind.TheVariants.{Send, Column}
use Rattle.ritas_base.specs.declared.item.Item.{Item}
use Rattle.ritas_base.specs.declared.slot.Slot.{Slot}
use Rattle.ritas_base.specs.Numbers.{Numbers, quorum_of}
use Rattle.ritas_base.specs.Shortest.{option_or_some}
use Rattle.ritas_base.specs.History.{Call, Start, Take, told, started, replicas, start_of}
use Rattle.ritas_base.specs.HistoryLaws.{first_stays, told_item, is_value_is}
use Rattle.ritas_base.specs.Messages.{Place, kind_eq}
use Rattle.ritas_base.specs.Quorums.{meet_three}
use Rattle.ritas_base.specs.Tags.{Tags}
use Rattle.layer_api.specs.Entries.{sent, given, entries_for, entry_of, is_valid_for, is_claim, prints_for, entry_print, EntryInput, Print, OfMessage}
use Rattle.frame_codec.specs.Values.{column_row}
use Rattle.layer_api.specs.Runs.{ReplicaStep, Has, calls_of, IsEnough}
use Rattle.layer_api.specs.HasLaws.{has_left, has_map, has_right, map_has}
use Rattle.layer_api.specs.OneValue.{Group, place_of, met_at, IsFed, IsRun, IsClear, OneValue}
use Rattle.echo_bcast.specs.Matrix.{echo, is_good, matrix_out}
use Rattle.layer_api.specs.ReplicaLaws.{has_replica}
use Rattle.echo_bcast.specs.Due.{send_due}

-- what is delivered was sent here, and an echo quorum is good
pub out_is : (at : Place) (tags : Tags) (h : List Call) (v : List ℕ) → matrix_out at tags h ≡ Some v
    → (quorum_of at.numbers ≤ count_by (is_good at tags h) (replicas at.numbers.n)) × (sent at h ≡ Some v)
out_is at tags h v e = go (nat_le (quorum_of at.numbers) (count_by (is_good at tags h) (replicas at.numbers.n))) refl e
  where
    go : (b : Bool) → nat_le (quorum_of at.numbers) (count_by (is_good at tags h) (replicas at.numbers.n)) ≡ b → (if b then sent at h else None) ≡ Some v
        → (quorum_of at.numbers ≤ count_by (is_good at tags h) (replicas at.numbers.n)) × (sent at h ≡ Some v)
    go true t q = (leb-true _ _ t, q)
    go false t q = absurd (cc)

-- an item that claims an echoer has the valid entry of the message that was sent here
record IsClaimed (at : Place) (tags : Tags) (h : List Call) (x : Item) (echoer : ℕ) : Type 0 where
  message : List ℕ
  was_sent : sent at h ≡ Some message
  row : column_row x.value echoer ≡ Some (entry_of at tags echoer at.me message)

claimed : (at : Place) (tags : Tags) (h : List Call) (x : Item) (echoer : ℕ) → is_claim at tags h x echoer ≡ true → IsClaimed at tags h x echoer
claimed at tags h x echoer e = go (sent at h) refl (and_parts (kind_eq x.kind Column) (is_valid_for at tags (sent at h) x.value echoer) e).1
  where
    go : (o : Option (List ℕ)) → sent at h ≡ o → is_valid_for at tags o x.value echoer ≡ true → IsClaimed at tags h x echoer
    go None s q = absurd (cc)
    go (Some m) s q = record { message = m; was_sent = s; row = is_value_is (entry_of at tags echoer at.me m) (column_row x.value echoer) q }

-- an entry that was given is that of the message that was sent, for some verifier
record WasGiven (at : Place) (tags : Tags) (h : List Call) (entry : List ℕ) : Type 0 where
  message : List ℕ
  was_sent : sent at h ≡ Some message
  verifier : ℕ
  within : Has (replicas at.numbers.n) verifier
  same : entry_of at tags at.me verifier message ≡ entry

was_given : (at : Place) (tags : Tags) (h : List Call) (entry : List ℕ) → Has (given at tags h) entry → WasGiven at tags h entry
was_given at tags h entry there = go (sent at h) refl there
  where
    go : (o : Option (List ℕ)) → sent at h ≡ o → Has (entries_for at tags o) entry → WasGiven at tags h entry
    go None s q = absurd q
    go (Some m) s q =
        let found = has_map (λ k. entry_of at tags at.me k m) (replicas at.numbers.n) entry q in
        record { message = m; was_sent = s; verifier = found.0; within = found.1; same = found.2 }

module _ (p : Numbers) (s : Slot) (is_correct : ℕ → Bool) (tags : ℕ → Tags) (enough : IsEnough p is_correct) where
  abbrev group : Group
  group = record { rules = echo; numbers = p; slot = s; is_correct = is_correct; tags = tags }

  abbrev Run : List (ReplicaStep Call) → Type 0
  Run xs = IsRun group xs

  -- the message that was sent to a replica
  abbrev sent_to : ℕ → List (ReplicaStep Call) → Option (List ℕ)
  sent_to k xs = sent (place_of group k) (calls_of k xs)

  sent_step : (k : ℕ) (x : ReplicaStep Call) (xs : List (ReplicaStep Call)) (v : List ℕ) → sent_to k xs ≡ Some v → sent_to k (x ∷ xs) ≡ Some v
  sent_step k x xs v q =
      cond_both (x.who == k) (x.call ∷ calls_of k xs) (calls_of k xs) (λ h. sent (place_of group k) h ≡ Some v)
      (λ t. first_stays (told s.origin Send) x.call (calls_of k xs) v q) (λ t. q)

  -- an echoer that is good at i gave, for some verifier, the entry that i waits for
  record IsEchoer (i e : ℕ) (xs : List (ReplicaStep Call)) : Type 0 where
    here : List ℕ
    sent_here : sent_to i xs ≡ Some here
    there : List ℕ
    sent_there : sent_to e xs ≡ Some there
    verifier : ℕ
    within : Has (replicas p.n) verifier
    alike : entry_of (place_of group e) (tags e) e verifier there ≡ entry_of (place_of group i) (tags i) e i here

  echoer_step : (i e : ℕ) (x : ReplicaStep Call) (xs : List (ReplicaStep Call)) → IsEchoer i e xs → IsEchoer i e (x ∷ xs)
  echoer_step i e x xs t =
      record {
        here = t.here;
        sent_here = sent_step i x xs t.here t.sent_here;
        there = t.there;
        sent_there = sent_step e x xs t.there t.sent_there;
        verifier = t.verifier;
        within = t.within;
        alike = t.alike;
      }

  -- by a column that i takes now
  echoer_now : (i e : ℕ) (y : Item) (xs : List (ReplicaStep Call)) → is_correct e ≡ true → IsFed group xs i (Take y)
      → is_claim (place_of group i) (tags i) (calls_of i xs) y e ≡ true → IsEchoer i e xs
  echoer_now i e y xs correct fed claim =
      let c = claimed (place_of group i) (tags i) (calls_of i xs) y e claim in
      let entry = entry_of (place_of group i) (tags i) e i c.message in
      let g = was_given (place_of group e) (tags e) (calls_of e xs) entry (fed.2 e entry correct claim c.row) in
      record { here = c.message; sent_here = c.was_sent; there = g.message; sent_there = g.was_sent; verifier = g.verifier; within = g.within; alike = g.same }

  good_echoer : (i e : ℕ) → is_correct e ≡ true → (xs : List (ReplicaStep Call)) → Run xs → is_good (place_of group i) (tags i) (calls_of i xs) e ≡ true → IsEchoer i e xs
  good_echoer i e correct [] run q = absurd (cc)
  good_echoer i e correct (x ∷ xs) run q = go (x.who == i) refl q (λ t. echoer_step i e x xs (good_echoer i e correct xs run.2 t))
    where
      call : (c : Call) → IsFed group xs i c → is_good (place_of group i) (tags i) (c ∷ calls_of i xs) e ≡ true
          → (is_good (place_of group i) (tags i) (calls_of i xs) e ≡ true → IsEchoer i e (x ∷ xs)) → IsEchoer i e (x ∷ xs)
      call (Start u) fed t older = older t
      call (Take y) fed t older =
          elim (or_cases (is_claim (place_of group i) (tags i) (calls_of i xs) y e) (is_good (place_of group i) (tags i) (calls_of i xs) e) t) [
            | inl now ↦ echoer_step i e x xs (echoer_now i e y xs correct fed now)
            | inr was ↦ older was
          ]

      go : (b : Bool) → (x.who == i) ≡ b → is_good (place_of group i) (tags i) (if b then x.call ∷ calls_of i xs else calls_of i xs) e ≡ true
          → (is_good (place_of group i) (tags i) (calls_of i xs) e ≡ true → IsEchoer i e (x ∷ xs)) → IsEchoer i e (x ∷ xs)
      go true t q older = call x.call (subst (λ (k : ℕ). IsFed group xs k x.call) (eqb-true x.who i t) run.1) q older
      go false t q older = older q

  prints_at : (k : ℕ) (xs : List (ReplicaStep Call)) (m : List ℕ) (a : Print) → sent_to k xs ≡ Some m → Has (prints_for (place_of group k) (tags k) (Some m)) a → Has (met_at group k xs) a
  prints_at k xs m a e there = subst (λ (o : Option (List ℕ)). Has (prints_for (place_of group k) (tags k) o) a) (sym e) there

  -- where nothing collides, that echoer's message is i's
  same_message : (xs : List (ReplicaStep Call)) → IsClear group xs → (i e : ℕ) → is_correct i ≡ true → is_correct e ≡ true → (t : IsEchoer i e xs) → t.there ≡ t.here
  same_message xs clear i e ci ce t =
      let gave : ℕ → Print = λ k. entry_print (place_of group e) (tags e) t.there e k in
      let met_by_echoer = map (λ k. entry_print (place_of group e) (tags e) t.there k e) (replicas p.n) in
      let gave_here = map (λ k. entry_print (place_of group i) (tags i) t.here i k) (replicas p.n) in
      let waits_for : ℕ → Print = λ k. entry_print (place_of group i) (tags i) t.here k i in
      let met_there = prints_at e xs t.there (gave t.verifier) t.sent_there
      (inr (has_left (map gave (replicas p.n)) met_by_echoer (gave t.verifier) (map_has gave (replicas p.n) t.verifier t.within))) in
      let met_here = prints_at i xs t.here (waits_for e) t.sent_here
      (inr (has_right gave_here (map waits_for (replicas p.n)) (waits_for e) (map_has waits_for (replicas p.n) e (has_replica p.n e (enough.within e ce))))) in
      let inputs = clear e i (gave t.verifier) (waits_for e) ce ci met_there met_here t.alike in
      let digests : (tags e).digest t.there ≡ (tags i).digest t.here = ap (λ (x : EntryInput). x.digest) inputs in
      clear e i (OfMessage t.there ((tags e).digest t.there)) (OfMessage t.here ((tags i).digest t.here)) ce ci
      (prints_at e xs t.there _ t.sent_there (inl refl)) (prints_at i xs t.here _ t.sent_here (inl refl)) digests

  good_sent : (xs : List (ReplicaStep Call)) → Run xs → IsClear group xs → (i e : ℕ) (v : List ℕ) → is_correct i ≡ true → is_correct e ≡ true → sent_to i xs ≡ Some v
      → is_good (place_of group i) (tags i) (calls_of i xs) e ≡ true → sent_to e xs ≡ Some v
  good_sent xs run clear i e v ci ce q good =
      let t = good_echoer i e ce xs run good in
      let here : t.here ≡ v = same_Some t.here v (sym t.sent_here ∙ q) in
      t.sent_there ∙ ap Some (same_message xs clear i e ci ce t ∙ here)

  agree : (xs : List (ReplicaStep Call)) → Run xs → IsClear group xs → (i j : ℕ) (v u : List ℕ) → is_correct i ≡ true → is_correct j ≡ true
      → matrix_out (place_of group i) (tags i) (calls_of i xs) ≡ Some v → matrix_out (place_of group j) (tags j) (calls_of j xs) ≡ Some u → v ≡ u
  agree xs run clear i j v u ci cj a b =
      let at_i = out_is (place_of group i) (tags i) (calls_of i xs) v a in
      let at_j = out_is (place_of group j) (tags j) (calls_of j xs) u b in
      let all = enough.many in
      let many_i = at_i.0 in
      let many_j = at_j.0 in
      let len = length-range_with_len 0 p.n in
      let good_i = is_good (place_of group i) (tags i) (calls_of i xs) in
      let good_j = is_good (place_of group j) (tags j) (calls_of j xs) in
      let large : 2 * length (replicas p.n) < count_by good_i (replicas p.n) + count_by good_j (replicas p.n) + count_by is_correct (replicas p.n)
      = omega (arith, many_i, many_j, len, all) in
      let shared = meet_three good_i good_j is_correct (replicas p.n) large in
      let as_i = good_sent xs run clear i shared.member v ci shared.third at_i.1 shared.first in
      let as_j = good_sent xs run clear j shared.member u cj shared.third at_j.1 shared.second in
      same_Some v u (sym as_i ∙ as_j)

  started_step : (x : ReplicaStep Call) (xs : List (ReplicaStep Call)) (v : List ℕ) → started (calls_of s.origin xs) ≡ Some v → started (calls_of s.origin (x ∷ xs)) ≡ Some v
  started_step x xs v q =
      cond_both (x.who == s.origin) (x.call ∷ calls_of s.origin xs) (calls_of s.origin xs) (λ h. started h ≡ Some v)
      (λ t. first_stays start_of x.call (calls_of s.origin xs) v q) (λ t. q)

  -- what a correct origin sent it started
  sent_started : (i : ℕ) (v : List ℕ) → is_correct s.origin ≡ true → (xs : List (ReplicaStep Call)) → Run xs → sent_to i xs ≡ Some v → started (calls_of s.origin xs) ≡ Some v
  sent_started i v correct [] run q = absurd (cc)
  sent_started i v correct (x ∷ xs) run q = go (x.who == i) q (λ t. started_step x xs v (sent_started i v correct xs run.2 t))
    where
      now : (y : Item) → IsFed group xs x.who (Take y) → (y.from ≡ s.origin) × (y.kind ≡ Send) × (y.value ≡ v) → started (calls_of s.origin xs) ≡ Some v
      now y fed is =
          let d = fed.1 (ap is_correct is.0 ∙ correct) in
          let due = send_due (place_of group y.from) (tags y.from) (calls_of y.from xs) d.message d.listed (ap (λ (z : Item). z.kind) d.same ∙ is.1) in
          subst (λ (k : ℕ). started (calls_of k xs) ≡ Some v) is.0 (due ∙ ap Some (ap (λ (z : Item). z.value) d.same ∙ is.2))

      call : (c : Call) → IsFed group xs x.who c → sent (place_of group i) (c ∷ calls_of i xs) ≡ Some v
          → (sent_to i xs ≡ Some v → started (calls_of s.origin (x ∷ xs)) ≡ Some v) → started (calls_of s.origin (x ∷ xs)) ≡ Some v
      call (Start u) fed t older = elim (option_or_some (sent_to i xs) None v t) [ inl was ↦ older was | inr none ↦ absurd (let wrong = none.1 in cc) ]
      call (Take y) fed t older =
          elim (option_or_some (sent_to i xs) (told s.origin Send (Take y)) v t) [
            | inl was ↦ older was
            | inr new ↦ started_step x xs v (now y fed (told_item s.origin Send y v new.1))
          ]

      go : (b : Bool) → sent (place_of group i) (if b then x.call ∷ calls_of i xs else calls_of i xs) ≡ Some v
          → (sent_to i xs ≡ Some v → started (calls_of s.origin (x ∷ xs)) ≡ Some v) → started (calls_of s.origin (x ∷ xs)) ≡ Some v
      go true t older = call x.call run.1 t older
      go false t older = older t

pub one_value_of_echo : OneValue echo
one_value_of_echo =
    record {
      agree = λ p s is_correct tags xs enough digests run clear i j v u ci cj a b. agree p s is_correct tags enough xs run clear i j v u ci cj a b;
      genuine = λ p s is_correct tags xs enough digests run clear i v ci co a.
          sent_started p s is_correct tags enough i v co xs run (out_is (record { numbers = p; me = i; slot = s }) (tags i) (calls_of i xs) v a).1;
    }
