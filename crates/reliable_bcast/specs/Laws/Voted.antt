-- What is carried is one thing in every run, where correct replicas say ECHO of what they make of the origin's first INIT, and
-- READY of what is backed: reliable broadcast makes of a value the value itself, or its digest.
use Rattle.std.specs.Prelude.{◌≡◌, ℕ, ◌<◌, ◌≤◌, ◌+◌, ◌*◌, ◌==◌, Bool, true, false, List, [], ◌∷◌, Option, Some, None, nat_le, count_by, length, if◌then◌else◌, refl}
use Rattle.std.proofs.Common.{sym, ◌∙◌, ap, subst, inl, inr, arith}
use Rattle.std.proofs.lemmas.Bool.{or_cases, leb-true, cond_both}
use Rattle.std.proofs.lemmas.List.FromFn.{length-range_with_len}
use Rattle.std.proofs.lemmas.Option.{same_Some}
use Rattle.ritas_base.specs.declared.item.Kind.{Kind}
use Rattle.ritas_base.specs.declared.item.Kind.TheVariants as kinds
use Rattle.ritas_base.specs.declared.item.Kind.TheVariants.{Init, Echo, Ready}
use Rattle.ritas_base.specs.declared.item.Msg.{Msg}
use Rattle.ritas_base.specs.declared.item.Item.{Item}
use Rattle.ritas_base.specs.declared.slot.Slot.{Slot}
use Rattle.ritas_base.specs.Numbers.{Numbers, quorum_of, ready_of, deliver_of}
use Rattle.ritas_base.specs.Shortest.{option_or_some, at_shortest_stays}
use Rattle.ritas_base.specs.History.{Call, Start, Take, told, start_of, first, started, voters, values, replicas, is_value}
use Rattle.ritas_base.specs.HistoryLaws.{first_stays, told_item, voters_stay, voters_are, is_value_is, find_passes}
use Rattle.ritas_base.specs.Messages.{Place}
use Rattle.ritas_base.specs.Quorums.{meet_two, meet_three}
use Rattle.ritas_base.specs.Tags.{Tags}
use Rattle.std.specs.Option.{option_or}
use Rattle.layer_api.specs.Broadcast.{BroadcastRules}
use Rattle.layer_api.specs.Runs.{ReplicaStep, Has, calls_of, IsEnough}
use Rattle.layer_api.specs.OneValue.{Group, place_of, IsFed, IsRun}
use Rattle.reliable_bcast.specs.Digests.{echo_of}
use Rattle.reliable_bcast.specs.Bracha.{is_backed, is_carried, some_backed, some_carried, ready_value, out_by_value}

-- how a message of a kind comes to be due
abbrev pub IsVotedAt : (Tags → List ℕ → List ℕ) → Place → Tags → List Call → Kind → List ℕ → Type 0
IsVotedAt make at tags h kinds.Init v = started h ≡ Some v
IsVotedAt make at tags h kinds.Echo v = echo_of (make tags) (first h at.slot.origin Init) ≡ Some v
IsVotedAt make at tags h kinds.Ready v = ready_value at.numbers h ≡ Some v
IsVotedAt make at tags h _ v = Unit {0}

-- a broadcast in which replicas vote so
pub record IsVoted (make : Tags → List ℕ → List ℕ) (r : BroadcastRules) : Type 0 where
  pub due : (at : Place) (tags : Tags) (h : List Call) (m : Msg) → Has (r.due at tags h) m → IsVotedAt make at tags h m.kind m.value

pub echo_stays : (make : List ℕ → List ℕ) (o more : Option (List ℕ)) (v : List ℕ) → echo_of make o ≡ Some v → echo_of make (option_or o more) ≡ Some v
echo_stays make None more v e = absurd (cc)
echo_stays make (Some m) more v e = e

voted_stays : (make : Tags → List ℕ → List ℕ) (at : Place) (tags : Tags) (c : Call) (h : List Call) (kind : Kind) (v : List ℕ)
    → IsVotedAt make at tags h kind v → IsVotedAt make at tags (c ∷ h) kind v
voted_stays make at tags c h kinds.Init v e = first_stays start_of c h v e
voted_stays make at tags c h kinds.Echo v e = echo_stays (make tags) (first h at.slot.origin Init) (told at.slot.origin Init c) v e
voted_stays make at tags c h kinds.Ready v e = at_shortest_stays (some_backed at.numbers) (c ∷ []) h v e
voted_stays make at tags c h kinds.Send v e = tt
voted_stays make at tags c h kinds.Hashes v e = tt
voted_stays make at tags c h kinds.Column v e = tt
voted_stays make at tags c h kinds.Want v e = tt
voted_stays make at tags c h kinds.Value v e = tt

one_of : (o : Option (List ℕ)) (v u : List ℕ) → o ≡ Some v → o ≡ Some u → v ≡ u
one_of o v u a b = same_Some v u (sym a ∙ b)

echoed_is : (make : List ℕ → List ℕ) (o : Option (List ℕ)) (v : List ℕ) → echo_of make o ≡ Some v → (m : List ℕ) × (o ≡ Some m) × (make m ≡ v)
echoed_is make None v e = absurd (cc)
echoed_is make (Some m) v e = (m, refl, same_Some (make m) v e)

-- what is delivered has enough READY voters
pub out_voted : (at : Place) (h : List Call) (v : List ℕ) → out_by_value at h ≡ Some v → deliver_of at.numbers ≤ voters at.numbers.n h Ready v
out_voted at [] v e = absurd (cc)
out_voted at (c ∷ h) v e =
    elim (option_or_some (out_by_value at h) (some_carried at.numbers (c ∷ h)) v e) [
      | inl older ↦ let l = out_voted at h v older in let more = voters_stay at.numbers.n c h Ready v in omega (arith, l, more)
      | inr now ↦ leb-true (deliver_of at.numbers) (voters at.numbers.n (c ∷ h) Ready v) (find_passes (is_carried at.numbers (c ∷ h)) (values (c ∷ h)) v now.1)
    ]

module _ (make : Tags → List ℕ → List ℕ) (r : BroadcastRules) (votes : IsVoted make r)
    (p : Numbers) (s : Slot) (is_correct : ℕ → Bool) (tags : ℕ → Tags) (enough : IsEnough p is_correct) where
  abbrev pub group : Group
  group = record { rules = r; numbers = p; slot = s; is_correct = is_correct; tags = tags }

  abbrev pub Run : List (ReplicaStep Call) → Type 0
  Run xs = IsRun group xs

  abbrev IsDueAt : ℕ → List (ReplicaStep Call) → Kind → List ℕ → Type 0
  IsDueAt k xs kind v = IsVotedAt make (place_of group k) (tags k) (calls_of k xs) kind v

  -- a fact that each call keeps is kept by a step
  kept_by : (P : List Call → Type 0) → ((c : Call) (h : List Call) → P h → P (c ∷ h)) → (i : ℕ) (x : ReplicaStep Call) (xs : List (ReplicaStep Call))
      → P (calls_of i xs) → P (calls_of i (x ∷ xs))
  kept_by P more i x xs h = cond_both (x.who == i) (x.call ∷ calls_of i xs) (calls_of i xs) P (λ q. more x.call (calls_of i xs) h) (λ q. h)

  due_step : (k : ℕ) (x : ReplicaStep Call) (xs : List (ReplicaStep Call)) (kind : Kind) (v : List ℕ) → IsDueAt k xs kind v → IsDueAt k (x ∷ xs) kind v
  due_step k x xs kind v = kept_by (λ h. IsVotedAt make (place_of group k) (tags k) h kind v) (λ c h. voted_stays make (place_of group k) (tags k) c h kind v) k x xs

  abbrev before : List (ReplicaStep Call) → List (ReplicaStep Call)
  before [] = []
  before (x ∷ xs) = xs

  due_before : (k : ℕ) (xs : List (ReplicaStep Call)) (kind : Kind) (v : List ℕ) → IsDueAt k (before xs) kind v → IsDueAt k xs kind v
  due_before k [] kind v e = e
  due_before k (x ∷ xs) kind v e = due_step k x xs kind v e

  -- an item of a correct replica was due there
  item_due : (xs : List (ReplicaStep Call)) (i k : ℕ) (y : Item) (kind : Kind) (v : List ℕ) → is_correct k ≡ true → IsFed group xs i (Take y)
      → (y.from ≡ k) × (y.kind ≡ kind) × (y.value ≡ v) → IsDueAt k xs kind v
  item_due xs i k y kind v correct fed told =
      let d = fed.1 (ap is_correct told.0 ∙ correct) in
      let due = votes.due (place_of group y.from) (tags y.from) (calls_of y.from xs) d.message d.listed in
      subst (λ (n : ℕ). IsDueAt n xs kind v) told.0
      (subst (λ (w : List ℕ). IsDueAt y.from xs kind w) (ap (λ (z : Item). z.value) d.same ∙ told.2)
      (subst (λ (l : Kind). IsDueAt y.from xs l d.message.value) (ap (λ (z : Item). z.kind) d.same ∙ told.1) due))

  -- what a correct replica has as the first of a kind from a correct one was due there before
  first_due : (i k : ℕ) (kind : Kind) (v : List ℕ) → is_correct k ≡ true → (xs : List (ReplicaStep Call)) → Run xs
      → first (calls_of i xs) k kind ≡ Some v → IsDueAt k (before xs) kind v
  first_due i k kind v correct [] run e = absurd (cc)
  first_due i k kind v correct (x ∷ xs) run e = go (x.who == i) refl e (λ q. due_before k xs kind v (first_due i k kind v correct xs run.2 q))
    where
      call : (c : Call) → IsFed group xs x.who c → first (c ∷ calls_of i xs) k kind ≡ Some v
          → (first (calls_of i xs) k kind ≡ Some v → IsDueAt k xs kind v) → IsDueAt k xs kind v
      call (Start u) fed q older = elim (option_or_some (first (calls_of i xs) k kind) None v q) [ inl was ↦ older was | inr now ↦ absurd (let wrong = now.1 in cc) ]
      call (Take y) fed q older =
          elim (option_or_some (first (calls_of i xs) k kind) _ v q) [ inl was ↦ older was | inr now ↦ item_due xs x.who k y kind v correct fed (told_item k kind y v now.1) ]

      go : (b : Bool) → (x.who == i) ≡ b → first (if b then x.call ∷ calls_of i xs else calls_of i xs) k kind ≡ Some v
          → (first (calls_of i xs) k kind ≡ Some v → IsDueAt k xs kind v) → IsDueAt k xs kind v
      go true e q older = call x.call run.1 q older
      go false e q older = older q

  -- some correct replica has a quorum of ECHO voters for v
  pub record IsEchoed (xs : List (ReplicaStep Call)) (v : List ℕ) : Type 0 where
    pub at : ℕ
    pub correct : is_correct at ≡ true
    pub many : quorum_of p ≤ voters p.n (calls_of at xs) Echo v

  echoed_step : (x : ReplicaStep Call) (xs : List (ReplicaStep Call)) (v : List ℕ) → IsEchoed xs v → IsEchoed (x ∷ xs) v
  echoed_step x xs v t =
      record {
        at = t.at;
        correct = t.correct;
        many = kept_by (λ h. quorum_of p ≤ voters p.n h Echo v) (λ c h l. let more = voters_stay p.n c h Echo v in omega (arith, l, more)) t.at x xs t.many;
      }

  -- a correct voter
  pub record IsVoter (h : List Call) (kind : Kind) (v : List ℕ) : Type 0 where
    pub voter : ℕ
    pub correct : is_correct voter ≡ true
    pub voted : first h voter kind ≡ Some v

  -- of f + 1 voters one is correct
  correct_voter : (kind : Kind) (v : List ℕ) (h : List Call) → ready_of p ≤ voters p.n h kind v → IsVoter h kind v
  correct_voter kind v h many =
      let all = enough.many in
      let count = voters_are p.n h kind v in
      let len = length-range_with_len 0 p.n in
      let for_v : ℕ → Bool = λ k. is_value v (first h k kind) in
      let large : length (replicas p.n) < count_by for_v (replicas p.n) + count_by is_correct (replicas p.n) = omega (arith, many, count, len, all) in
      let met = meet_two for_v is_correct (replicas p.n) large in
      record { voter = met.member; correct = met.second; voted = is_value_is v (first h met.member kind) met.first }

  -- a value for which READY is due at a correct replica is echoed
  ready_echoed : (xs : List (ReplicaStep Call)) → Run xs → (i : ℕ) (v : List ℕ) → is_correct i ≡ true → ready_value p (calls_of i xs) ≡ Some v → IsEchoed xs v
  ready_echoed [] run i v correct e = absurd (cc)
  ready_echoed (x ∷ xs) run i v correct e = go (x.who == i) refl e (λ k ck q. echoed_step x xs v (ready_echoed xs run.2 k v ck q))
    where
      call : (c : Call) → calls_of i (x ∷ xs) ≡ c ∷ calls_of i xs → ready_value p (c ∷ calls_of i xs) ≡ Some v
          → ((k : ℕ) → is_correct k ≡ true → ready_value p (calls_of k xs) ≡ Some v → IsEchoed (x ∷ xs) v) → IsEchoed (x ∷ xs) v
      call c is q ih =
          let h = c ∷ calls_of i xs in
          elim (option_or_some (ready_value p (calls_of i xs)) (some_backed p h) v q) [
            | inl older ↦ ih i correct older
            | inr now ↦
                elim (or_cases (nat_le (quorum_of p) (voters p.n h Echo v)) (nat_le (ready_of p) (voters p.n h Ready v)) (find_passes (is_backed p h) (values h) v now.1)) [
                  | inl echoes ↦
                      record { at = i; correct = correct; many = subst (λ (l : List Call). quorum_of p ≤ voters p.n l Echo v) (sym is) (leb-true (quorum_of p) (voters p.n h Echo v) echoes) }
                  | inr readies ↦
                      let one = correct_voter Ready v h (leb-true (ready_of p) (voters p.n h Ready v) readies) in
                      ih one.voter one.correct (first_due i one.voter Ready v one.correct (x ∷ xs) run (ap (λ (l : List Call). first l one.voter Ready) is ∙ one.voted))
                ]
          ]

      go : (b : Bool) → (x.who == i) ≡ b → ready_value p (if b then x.call ∷ calls_of i xs else calls_of i xs) ≡ Some v
          → ((k : ℕ) → is_correct k ≡ true → ready_value p (calls_of k xs) ≡ Some v → IsEchoed (x ∷ xs) v) → IsEchoed (x ∷ xs) v
      go true t q ih = call x.call (rw t refl) q ih
      go false t q ih = ih i correct q

  -- what is delivered is echoed
  pub out_echoed : (xs : List (ReplicaStep Call)) → Run xs → (i : ℕ) (v : List ℕ) → out_by_value (place_of group i) (calls_of i xs) ≡ Some v → IsEchoed xs v
  out_echoed xs run i v e =
      let many = out_voted (place_of group i) (calls_of i xs) v e in
      let one = correct_voter Ready v (calls_of i xs) (omega (arith, many)) in
      ready_echoed xs run one.voter v one.correct (due_before one.voter xs Ready v (first_due i one.voter Ready v one.correct xs run one.voted))

  -- two quorums of ECHO voters share a correct one, whose first INIT both are for
  pub echoed_same : (xs : List (ReplicaStep Call)) → Run xs → (v u : List ℕ) → IsEchoed xs v → IsEchoed xs u → v ≡ u
  echoed_same xs run v u a b =
      let all = enough.many in
      let many_v = a.many in
      let many_u = b.many in
      let count_v = voters_are p.n (calls_of a.at xs) Echo v in
      let count_u = voters_are p.n (calls_of b.at xs) Echo u in
      let len = length-range_with_len 0 p.n in
      let for_v : ℕ → Bool = λ k. is_value v (first (calls_of a.at xs) k Echo) in
      let for_u : ℕ → Bool = λ k. is_value u (first (calls_of b.at xs) k Echo) in
      let large : 2 * length (replicas p.n) < count_by for_v (replicas p.n) + count_by for_u (replicas p.n) + count_by is_correct (replicas p.n)
      = omega (arith, count_v, count_u, many_v, many_u, len, all) in
      let met = meet_three for_v for_u is_correct (replicas p.n) large in
      let init_v : IsDueAt met.member xs Echo v = due_before met.member xs Echo v (first_due a.at met.member Echo v met.third xs run (is_value_is v (first (calls_of a.at xs) met.member Echo) met.first)) in
      let init_u : IsDueAt met.member xs Echo u = due_before met.member xs Echo u (first_due b.at met.member Echo u met.third xs run (is_value_is u (first (calls_of b.at xs) met.member Echo) met.second)) in
      one_of (echo_of (make (tags met.member)) (first (calls_of met.member xs) s.origin Init)) v u init_v init_u

  -- where the origin is correct, it started what is echoed, and a correct replica has it as its first INIT
  pub record IsOfOrigin (xs : List (ReplicaStep Call)) (v : List ℕ) : Type 0 where
    pub voter : ℕ
    pub correct : is_correct voter ≡ true
    pub message : List ℕ
    pub heard : first (calls_of voter xs) s.origin Init ≡ Some message
    pub made : make (tags voter) message ≡ v
    pub was_started : started (calls_of s.origin xs) ≡ Some message

  pub echoed_started : (xs : List (ReplicaStep Call)) → Run xs → (v : List ℕ) → is_correct s.origin ≡ true → IsEchoed xs v → IsOfOrigin xs v
  echoed_started xs run v correct a =
      let many = a.many in
      let session = enough.session.enough in
      let one = correct_voter Echo v (calls_of a.at xs) (omega (arith, many, session)) in
      let echo : IsDueAt one.voter xs Echo v = due_before one.voter xs Echo v (first_due a.at one.voter Echo v one.correct xs run one.voted) in
      let of = echoed_is (make (tags one.voter)) (first (calls_of one.voter xs) s.origin Init) v echo in
      record {
        voter = one.voter;
        correct = one.correct;
        message = of.0;
        heard = of.1;
        made = of.2;
        was_started = due_before s.origin xs Init of.0 (first_due one.voter s.origin Init of.0 correct xs run of.1);
      }
