-- The law of one decision of multi-valued consensus, over any binary consensus with its law.
use Rattle.std.specs.Prelude.{◌≡◌, ℕ, ◌≤◌, Bool, true, false, not, ◌==◌, ◌&&◌, nat_le, if◌then◌else◌, List, [], ◌∷◌, length, drop, Option, Some, None, is_some, option_map, refl, ◌⊎◌}
use Rattle.std.specs.List.{list_any}
use Rattle.std.specs.Str.{bytes_eq}
use Rattle.std.specs.Ordering.{nat_cmp, is_lt}
use Rattle.std.specs.Cmp.Lexicographic.{slice_cmp}
use Rattle.std.proofs.Common.{sym, ◌∙◌, ap, subst, inl, inr, arith}
use Rattle.std.proofs.lemmas.Bool.{and_parts, or_cases, leb-true, eqb-true}
use Rattle.std.proofs.lemmas.Slice.Eq.{bytes_eq-Decides}
use Rattle.std.proofs.lemmas.List.FromFn.{length-range_with_len}
use Rattle.ritas_base.specs.declared.slot.Slot.{Slot}
use Rattle.ritas_base.specs.declared.item.Say.{Say}
use Rattle.ritas_base.specs.Numbers.{wait_of, support_of}
use Rattle.ritas_base.specs.History.{replicas}
use Rattle.ritas_base.specs.HistoryLaws.{is_value_is}
use Rattle.ritas_base.specs.Members.{has_member}
use Rattle.ritas_base.specs.Quorums.{meet_two, some_member, count_without}
use Rattle.frame_codec.specs.Values.{mask_of}
use Rattle.layer_api.specs.Runs.{ReplicaStep, calls_of, Has, IsEnough}
use Rattle.layer_api.specs.Service.{Instance, OfBit, OfValue, OfVector, Decision, Bit, value_decision}
use Rattle.layer_api.specs.Words.{Word, Ask, HasSay, value_at, bit_byte}
use Rattle.layer_api.specs.Binary.{BinaryRules, BoxLaws, OneBit}
use Rattle.layer_api.specs.Fed.{Met, IsFedRun}
use Rattle.layer_api.specs.Part.{proposed}
use Rattle.layer_api.specs.FedLaws.{some_if, say_later, shortest_at, proposed_has, proposed_stays, value_stays, one_value, heard_said, met}
use Rattle.layer_api.specs.PartLaws.{part_has}
use Rattle.layer_api.specs.Multi.{Scope, multi_play}
use Rattle.multivalued.specs.Consensus.{init_slot, vect_slot, init, has_init, count_passing, lesser, least, backed_vect, valid_of, valid, is_of, is_other, vect_backers, candidates, is_clear, own_vect, bit_at, proposed_bit, bench_of, is_step, bit_asked, bit_words, supported, multi_verdict, decision_at, multivalued}
use Rattle.multivalued.specs.Laws.Inside.{bit_stays, bit_nothing, bit_of, multi_box_play, multi_desk, bit_run, bit_fed, bit_calls, init_said, decided_still}

-- ---- values

-- a VECT that is of v has v
pub of_true : (v : List ℕ) (o : Option (Option (List ℕ))) → is_of v o ≡ true → o ≡ Some (Some v)
of_true v None q = absurd cc
of_true v (Some o) q = ap Some (is_value_is v o q)

-- what isn't another value is this one
not_other : (v u : List ℕ) → not (is_other v (Some (Some u))) ≡ true → u ≡ v
not_other v u q = go (bytes_eq u v) refl q
  where
    go : (b : Bool) → bytes_eq u v ≡ b → not (not b) ≡ true → u ≡ v
    go true e q = (bytes_eq-Decides u v).0 e
    go false e q = absurd cc

-- the least value that passes is one that passes
lesser_passes : (test : List ℕ → Bool) (v : List ℕ) (o : Option (List ℕ)) → test v ≡ true → ((u : List ℕ) → o ≡ Some u → test u ≡ true) → test (lesser v o) ≡ true
lesser_passes test v None q h = q
lesser_passes test v (Some u) q h = go (is_lt (slice_cmp nat_cmp u v)) (h u refl)
  where
    go : (b : Bool) → test u ≡ true → test (if b then u else v) ≡ true
    go true k = k
    go false k = q

pub least_passes : (test : List ℕ → Bool) (vs : List (List ℕ)) (v : List ℕ) → least test vs ≡ Some v → test v ≡ true
least_passes test [] v q = absurd cc
least_passes test (x ∷ xs) v q = go (test x) refl (λ u e. least_passes test xs u e) q
  where
    go : (b : Bool) → test x ≡ b → ((u : List ℕ) → least test xs ≡ Some u → test u ≡ true)
        → (if b then Some (lesser x (least test xs)) else least test xs) ≡ Some v → test v ≡ true
    go true e ih r = let same : lesser x (least test xs) ≡ v = cc in subst (λ (u : List ℕ). test u ≡ true) same (lesser_passes test x (least test xs) e ih)
    go false e ih r = ih v r

-- where one passes, one is found
any_found : (test : List ℕ → Bool) (xs : List (List ℕ)) → list_any test xs ≡ true → (x : List ℕ) × (test x ≡ true)
any_found test [] q = absurd cc
any_found test (x ∷ xs) q = elim (or_cases (test x) (list_any test xs) q) [ inl a ↦ (x, a) | inr b ↦ any_found test xs b ]

-- a verdict is none by 0, and by 1 the supported value
pub verdict_is : (o : Option Bool) (s : Option (List ℕ)) (d : Option (List ℕ)) → multi_verdict o s ≡ Some d
    → ((o ≡ Some false) × (d ≡ None)) ⊎ ((v : List ℕ) × (o ≡ Some true) × (s ≡ Some v) × (d ≡ Some v))
verdict_is None s d q = absurd cc
verdict_is (Some false) s d q = inl (refl, cc)
verdict_is (Some true) None d q = absurd cc
verdict_is (Some true) (Some v) d q = inr (v, refl, refl, cc)

pub mapped_in : {A : Type 0} (f : A → Decision) (c : Bool) (z : Option A) (d : Decision) → (if c then option_map f z else None) ≡ Some d
    → (y : A) × (z ≡ Some y) × (d ≡ f y)
mapped_in f false z d e = absurd cc
mapped_in f true None d e = absurd cc
mapped_in f true (Some y) d e = (y, refl, cc)

-- ---- one replica

-- the value that is read from a VECT
abbrev pub value_in_vect : List ℕ → Option (List ℕ)
value_in_vect [] = None
value_in_vect (b ∷ bs) = Some (drop 4 (b ∷ bs))

-- a backed VECT has its value and the proposals for it
backed_is : (at : Scope) (h : List Word) (mask : ℕ) (v : List ℕ) (w : Option (List ℕ)) → backed_vect at h mask v ≡ Some w
    → (support_of at.numbers ≤ count_passing at (λ k. has_member mask k && has_init at h v k)) × (w ≡ Some v)
backed_is at h mask v w q =
    let i = some_if (nat_le (support_of at.numbers) (count_passing at (λ k. has_member mask k && has_init at h v k))) (Some v) w q in
    (leb-true _ _ i.0, sym i.1)

-- a valid VECT has the value that is read from it
pub valid_reads : (at : Scope) (h : List Word) (o : Option (List ℕ)) (w : Option (List ℕ)) → valid_of at h o ≡ Some w → (x : List ℕ) × (o ≡ Some x) × (w ≡ value_in_vect x)
valid_reads at h None w q = absurd cc
valid_reads at h (Some []) w q = ([], refl, cc)
valid_reads at h (Some (b ∷ bs)) w q = (b ∷ bs, refl, (backed_is at h (mask_of (b ∷ bs)) (drop 4 (b ∷ bs)) w q).1)

-- and with a value the proposals for it
pub valid_inits : (at : Scope) (h : List Word) (o : Option (List ℕ)) (v : List ℕ) → valid_of at h o ≡ Some (Some v)
    → (mask : ℕ) × (support_of at.numbers ≤ count_passing at (λ k. has_member mask k && has_init at h v k))
valid_inits at h None v q = absurd cc
valid_inits at h (Some []) v q = absurd cc
valid_inits at h (Some (b ∷ bs)) v q =
    let x = backed_is at h (mask_of (b ∷ bs)) (drop 4 (b ∷ bs)) (Some v) q in
    let same : drop 4 (b ∷ bs) ≡ v = let e = x.1 in cc in
    (mask_of (b ∷ bs), subst (λ (u : List ℕ). support_of at.numbers ≤ count_passing at (λ k. has_member (mask_of (b ∷ bs)) k && has_init at h u k)) same x.0)

-- ---- a run

module _ (b : BinaryRules) (laws : BoxLaws b) (one : OneBit b) (at : Scope) (is_correct : ℕ → Bool) (coins : ℕ → Slot → Bool) (xs : List (ReplicaStep Word))
    (enough : IsEnough at.numbers is_correct) (fed : IsFedRun (multi_play (multivalued b) at coins) is_correct xs) where
  abbrev pub words_of_replica : ℕ → List Word
  words_of_replica i = calls_of i xs

  -- what the binary instance of replica i decided in some words
  abbrev pub bit_decided : ℕ → List Word → Option Bool
  bit_decided i w = b.decision (bench_of (multi_desk b at coins i)) (bit_words at w)

  -- part of the words of replica i: what it proposed in it and the values heard in it are what it proposed and heard, and a bit decided in it is the one that it decided
  pub record IsPast (i : ℕ) (g : List Word) : Type 0 where
    pub met : Met (multi_box_play b at coins) i g
    pub asked : (v : List ℕ) → proposed g ≡ Some v → proposed (words_of_replica i) ≡ Some v
    pub value : (s : Slot) (v : List ℕ) → value_at g s ≡ Some v → value_at (words_of_replica i) s ≡ Some v
    pub bit : (x : Bool) → bit_decided i g ≡ Some x → bit_decided i (words_of_replica i) ≡ Some x

  -- all its words are part of them, and a shorter part of a part is one
  pub whole : (i : ℕ) → IsPast i (words_of_replica i)
  whole i = record { met = met (multi_box_play b at coins) is_correct xs fed i; asked = λ v q. q; value = λ s v q. q; bit = λ x q. q }

  pub less : (i : ℕ) (c : Word) (w : List Word) → IsPast i (c ∷ w) → IsPast i w
  less i c w p = record {
    met = p.met.1;
    asked = λ v q. p.asked v (proposed_stays c w v q);
    value = λ s v q. p.value s v (value_stays c w s v q);
    bit = λ x q. p.bit x (decided_still b at coins laws i c w p.met x q);
  }

  pub size : length (replicas at.numbers.n) ≡ at.numbers.n
  size = length-range_with_len 0 at.numbers.n

  -- valid VECTs of one sender are one
  same_valid : (i j : ℕ) (g h : List Word) → is_correct i ≡ true → is_correct j ≡ true → IsPast i g → IsPast j h → (k : ℕ) (w u : Option (List ℕ))
      → valid at g k ≡ Some w → valid at h k ≡ Some u → w ≡ u
  same_valid i j g h ci cj pg ph k w u q r =
      let x = valid_reads at g (value_at g (vect_slot at k)) w q in
      let y = valid_reads at h (value_at h (vect_slot at k)) u r in
      let e = one_value (multi_box_play b at coins) is_correct xs fed i j (vect_slot at k) x.0 y.0 ci cj (pg.value _ x.0 x.1) (ph.value _ y.0 y.1) in
      x.2 ∙ (ap value_in_vect e ∙ sym y.2)

  -- n - 2f valid VECTs have v, in part of what a correct replica has heard
  record IsBacked (v : List ℕ) : Type 0 where
    who : ℕ
    prefix : List Word
    correct : is_correct who ≡ true
    past : IsPast who prefix
    many : support_of at.numbers ≤ vect_backers at prefix v

  -- n - f VECTs are valid there, and each has v or is none
  record IsClear (v : List ℕ) : Type 0 where
    who : ℕ
    prefix : List Word
    correct : is_correct who ≡ true
    past : IsPast who prefix
    many : wait_of at.numbers ≤ count_passing at (λ k. is_some (valid at prefix k))
    no_other : count_passing at (λ k. is_other v (valid at prefix k)) ≡ 0

  -- a sender whose VECT has v in the one, and no other value than u in the other
  shared : (v u : List ℕ) (a : IsClear u) (d : IsBacked v) (k : ℕ) → (is_some (valid at a.prefix k) && not (is_other u (valid at a.prefix k))) ≡ true
      → is_of v (valid at d.prefix k) ≡ true → v ≡ u
  shared v u a d k p has = go (valid at a.prefix k) refl p
    where
      go : (o : Option (Option (List ℕ))) → valid at a.prefix k ≡ o → (is_some o && not (is_other u o)) ≡ true → v ≡ u
      go None q p = absurd cc
      go (Some w) q p =
          let e = same_valid a.who d.who a.prefix d.prefix a.correct d.correct a.past d.past k w (Some v) q (of_true v _ has) in
          not_other u v (subst (λ x. not (is_other u (Some x)) ≡ true) e p)

  -- where u is clear, no other value is backed
  clear_value : (v u : List ℕ) → IsClear u → IsBacked v → v ≡ u
  clear_value v u a d =
      let few = enough.session.enough in
      let la = a.many in
      let ld = d.many in
      let lo = count_without (λ k. is_some (valid at a.prefix k)) (λ k. is_other u (valid at a.prefix k)) (replicas at.numbers.n) a.no_other in
      let z = size in
      let m = meet_two (λ k. is_some (valid at a.prefix k) && not (is_other u (valid at a.prefix k))) (λ k. is_of v (valid at d.prefix k)) (replicas at.numbers.n)
      (omega (arith, few, la, ld, lo, z)) in
      shared v u a d m.member m.first m.second

  -- where 1 was proposed, some value is clear
  cleared : (i : ℕ) → is_correct i ≡ true → proposed_bit at (words_of_replica i) ≡ Some true → (u : List ℕ) × IsClear u
  cleared i ci q =
      let t = shortest_at (IsPast i) (less i) (bit_at at) (words_of_replica i) true (whole i) q in
      let s = some_if (is_some (own_vect at t.0) && nat_le (wait_of at.numbers) (count_passing at (λ k. is_some (valid at t.0 k)))) (list_any (is_clear at t.0) (candidates at t.0)) true t.2 in
      let l = and_parts (is_some (own_vect at t.0)) _ s.0 in
      let u = any_found (is_clear at t.0) (candidates at t.0) s.1 in
      let n = and_parts (nat_le (support_of at.numbers) (vect_backers at t.0 u.0)) _ u.1 in
      (u.0, record { who = i; prefix = t.0; correct = ci; past = t.1; many = leb-true _ _ l.1; no_other = eqb-true _ 0 n.1 })

  -- ---- the bit

  -- it is what the box decided in its run
  pub inner_decided : (i : ℕ) (d : Bool) → bit_decided i (words_of_replica i) ≡ Some d → b.decision (bench_of (multi_desk b at coins i)) (calls_of i (bit_run b at coins xs)) ≡ Some d
  inner_decided i d q = subst (λ (w : List Word). b.decision (bench_of (multi_desk b at coins i)) w ≡ Some d) (sym (bit_calls b at coins i xs)) q

  -- the bits that two correct replicas decided are equal
  same_bit : (i j : ℕ) (d e : Bool) → is_correct i ≡ true → is_correct j ≡ true → bit_decided i (words_of_replica i) ≡ Some d → bit_decided j (words_of_replica j) ≡ Some e → d ≡ e
  same_bit i j d e ci cj q r =
      one.agree at.numbers at.a at.attempt is_correct coins (bit_run b at coins xs) enough (bit_fed b at coins is_correct xs fed) i j d e ci cj
      (inner_decided i d q) (inner_decided j e r)

  bit_byte_one : (v : Bool) → bit_byte v ∷ [] ≡ bit_byte true ∷ [] → v ≡ true
  bit_byte_one true e = refl
  bit_byte_one false e = absurd (let z : bit_byte false ≡ bit_byte true = cc in omega (arith, z))

  -- a decision 1 of the binary instance has a clear value
  one_clear : (i : ℕ) → is_correct i ≡ true → bit_decided i (words_of_replica i) ≡ Some true → (u : List ℕ) × IsClear u
  one_clear i ci q =
      let k = one.valid at.numbers at.a at.attempt is_correct coins (bit_run b at coins xs) enough (bit_fed b at coins is_correct xs fed) i true ci (inner_decided i true q) in
      let h = part_has (bit_asked at) is_step (bit_stays at) (bit_nothing at) (words_of_replica k.0) (bit_byte true ∷ [])
      (subst (λ (w : List Word). Has w (Ask (bit_byte true ∷ []))) (bit_calls b at coins k.0 xs) k.2) in
      let d = bit_of at (words_of_replica k.0) (bit_byte true ∷ []) h in
      cleared k.0 k.1 (d.1 ∙ ap Some (bit_byte_one d.0 (sym d.2)))

  -- ---- agreement

  abbrev decided : ℕ → Option (Option (List ℕ))
  decided i = (multivalued b).decision (multi_desk b at coins i) (words_of_replica i)

  -- what is decided goes by the bit: none by 0, and by 1 a backed value
  data ByBit (i : ℕ) (d : Option (List ℕ)) : Type 0 where
    Zero : bit_decided i (words_of_replica i) ≡ Some false → d ≡ None → ByBit i d
    One : (v : List ℕ) → bit_decided i (words_of_replica i) ≡ Some true → IsBacked v → d ≡ Some v → ByBit i d

  by_bit : (i : ℕ) (d : Option (List ℕ)) → is_correct i ≡ true → decided i ≡ Some d → ByBit i d
  by_bit i d ci q =
      let t = shortest_at (IsPast i) (less i) (decision_at b (multi_desk b at coins i)) (words_of_replica i) d (whole i) q in
      elim (verdict_is (bit_decided i t.0) (supported at t.0) d t.2) [
        | inl x ↦ Zero (t.1.bit false x.0) x.1
        | inr x ↦
            let many = leb-true _ _ (least_passes (λ v. nat_le (support_of at.numbers) (vect_backers at t.0 v)) (candidates at t.0) x.0 x.2) in
            One x.0 (t.1.bit true x.1) (record { who = i; prefix = t.0; correct = ci; past = t.1; many = many }) x.3
      ]

  none_by : (i : ℕ) → ByBit i None → bit_decided i (words_of_replica i) ≡ Some false
  none_by i (Zero p q) = p
  none_by i (One v p k q) = absurd cc

  -- none goes by 0
  pub none_is_zero : (i : ℕ) → is_correct i ≡ true → decided i ≡ Some None → bit_decided i (words_of_replica i) ≡ Some false
  none_is_zero i ci q = none_by i (by_bit i None ci q)

  agree_by : (i j : ℕ) (d e : Option (List ℕ)) → is_correct i ≡ true → is_correct j ≡ true → ByBit i d → ByBit j e → d ≡ e
  agree_by i j d e ci cj (Zero p q) (Zero r s) = q ∙ sym s
  agree_by i j d e ci cj (Zero p q) (One v r k s) = absurd (let z = same_bit i j false true ci cj p r in cc)
  agree_by i j d e ci cj (One v p k q) (Zero r s) = absurd (let z = same_bit i j true false ci cj p r in cc)
  agree_by i j d e ci cj (One v p k q) (One w r m s) =
      let u = one_clear i ci p in
      q ∙ (ap Some (clear_value v u.0 u.1 k ∙ sym (clear_value w u.0 u.1 m)) ∙ sym s)

  pub agree : (i j : ℕ) (d e : Option (List ℕ)) → is_correct i ≡ true → is_correct j ≡ true → decided i ≡ Some d → decided j ≡ Some e → d ≡ e
  agree i j d e ci cj q r = agree_by i j d e ci cj (by_bit i d ci q) (by_bit j e cj r)

  -- ---- validity

  pub said_more : (k : ℕ) (c : Word) (w : List Word) (y : Say) → HasSay ((multi_box_play b at coins).said k w) y → HasSay ((multi_box_play b at coins).said k (c ∷ w)) y
  said_more k c w y h = say_later ((multivalued b).says (multi_desk b at coins k) w c) _ y h

  -- a correct replica said v in its INIT
  abbrev pub SaysInit : List ℕ → Type 0
  SaysInit v = (k : ℕ) × (is_correct k ≡ true) × HasSay ((multi_box_play b at coins).said k (words_of_replica k)) (record { slot = init_slot at k; value = v })

  -- a correct replica whose INIT was heard with v said v
  said_there : (v : List ℕ) (d : IsBacked v) (mask k : ℕ) → (has_member mask k && has_init at d.prefix v k) ≡ true → is_correct k ≡ true
      → HasSay ((multi_box_play b at coins).said k (words_of_replica k)) (record { slot = init_slot at k; value = v })
  said_there v d mask k p ck =
      let h = is_value_is v (init at d.prefix k) (and_parts (has_member mask k) (has_init at d.prefix v k) p).1 in
      heard_said (multi_box_play b at coins) is_correct said_more xs fed d.who (init_slot at k) v (d.past.value (init_slot at k) v h) ck

  -- a backed value was said by a correct replica
  backed_said : (v : List ℕ) → IsBacked v → SaysInit v
  backed_said v d =
      let few = enough.session.enough in
      let many = enough.many in
      let l = d.many in
      let z = size in
      let m = some_member (λ k. is_of v (valid at d.prefix k)) (replicas at.numbers.n) (omega (arith, few, l)) in
      let x = valid_inits at d.prefix (value_at d.prefix (vect_slot at m.0)) v (of_true v (valid at d.prefix m.0) m.1) in
      let y = x.1 in
      let t = meet_two (λ k. has_member x.0 k && has_init at d.prefix v k) is_correct (replicas at.numbers.n) (omega (arith, few, many, y, z)) in
      (t.member, t.second, said_there v d x.0 t.member t.first t.second)

  said_by : (i : ℕ) (v : List ℕ) → ByBit i (Some v) → SaysInit v
  said_by i v (Zero p q) = absurd cc
  said_by i v (One u p k q) = backed_said v (let e : u ≡ v = cc in subst IsBacked e k)

  -- so was a value that is decided
  pub value_said : (i : ℕ) (v : List ℕ) → is_correct i ≡ true → decided i ≡ Some (Some v) → SaysInit v
  value_said i v ci q = said_by i v (by_bit i (Some v) ci q)

  -- and that one proposed it
  pub valid_value : (i : ℕ) (v : List ℕ) → is_correct i ≡ true → decided i ≡ Some (Some v) → (k : ℕ) × (is_correct k ≡ true) × Has (words_of_replica k) (Ask v)
  valid_value i v ci q =
      let s = value_said i v ci q in
      (s.0, s.1, proposed_has (words_of_replica s.0) v (init_said b at coins laws s.0 (words_of_replica s.0) v (whole s.0).met s.2))

  -- ---- the binary instance

  pub same_inside : (i j : ℕ) (x : Instance) (d e : Decision) → is_correct i ≡ true → is_correct j ≡ true
      → (multivalued b).inside (multi_desk b at coins i) (words_of_replica i) x ≡ Some d → (multivalued b).inside (multi_desk b at coins j) (words_of_replica j) x ≡ Some e → d ≡ e
  same_inside i j (OfVector a) d e ci cj q r = absurd cc
  same_inside i j (OfValue a t) d e ci cj q r =
      let x = mapped_in value_decision (a == at.a && t == at.attempt) _ d q in
      let y = mapped_in value_decision (a == at.a && t == at.attempt) _ e r in
      x.2 ∙ (ap value_decision (agree i j x.0 y.0 ci cj x.1 y.1) ∙ sym y.2)
  same_inside i j (OfBit a t) d e ci cj q r =
      let x = mapped_in Bit (a == at.a && t == at.attempt) _ d q in
      let y = mapped_in Bit (a == at.a && t == at.attempt) _ e r in
      x.2 ∙ (ap Bit (same_bit i j x.0 y.0 ci cj x.1 y.1) ∙ sym y.2)
