-- The entries of the vector of all proposals are those proposals, so in a decided vector the entry of a correct replica is what it
-- proposed.
use Rattle.std.specs.Prelude.{◌≡◌, ℕ, zero, suc, ◌<◌, ◌+◌, ◌^◌, Bool, true, false, ◌&&◌, nat_le, List, [], ◌∷◌, map, drop, length, count_by, Option, Some, None, is_some, refl, cond}
use Rattle.std.specs.List.{slice_get, range_with_len}
use Rattle.std.specs.Int.RustNames.{count_ones}
use Rattle.std.specs.Simd.Lanes.{mask_l}
use Rattle.std.proofs.Common.{sym, ◌∙◌, ap, ap₂, subst, arith, get_or, take, lit≤}
use Rattle.std.proofs.Math.Pow.{pow-lt}
use Rattle.std.proofs.lemmas.Simd.{mask_l-lt, ones-mask_l}
use Rattle.std.proofs.lemmas.List.{length-map}
use Rattle.std.proofs.lemmas.List.FromFn.{length-map-range_with_len}
use Rattle.ritas_base.specs.declared.slot.Slot.{Slot}
use Rattle.ritas_base.specs.Members.{has_member, member_count}
use Rattle.ritas_base.specs.MemberLaws.{places_there, rank_there}
use Rattle.ritas_base.specs.Numbers.{IsSession, wait_of}
use Rattle.ritas_base.specs.History.{replicas}
use Rattle.ritas_base.specs.Quorums.{count_yes, count_no}
use Rattle.frame_codec.specs.Format.{Format, Is}
use Rattle.frame_codec.specs.Values.{at_place, entries_in, entry_at_place}
use Rattle.frame_codec.specs.VectorLaws.{class2_short}
use Rattle.frame_codec.specs.ColumnLaws.{vector_again}
use Rattle.layer_api.specs.Runs.{ReplicaStep, calls_of, Has, IsEnough}
use Rattle.layer_api.specs.Words.{Word, Ask, HasSay, value_at}
use Rattle.layer_api.specs.Part.{proposed}
use Rattle.layer_api.specs.Fed.{Play, IsFedRun}
use Rattle.layer_api.specs.FedLaws.{some_if, shortest_at, value_stays, proposed_has, heard_said, heard_met, say_later, met}
use Rattle.layer_api.specs.PartLaws.{part_has}
use Rattle.layer_api.specs.Multi.{Scope, MultiRules, MultiLaws, OneDecision}
use Rattle.layer_api.specs.Vectors.{HasVectors, MayVector, AreVector, vector_play}
use Rattle.vector_consensus.specs.Consensus.{prop_slot, props, present, vector_of, try_at, is_of_try, try_scope, failed_below, vectors}
use Rattle.vector_consensus.specs.Laws.Proposals.{present_length, present_all, prop_value}
use Rattle.vector_consensus.specs.Laws.Tries.{vector_box_play, vector_desk, ask_attempt, ask_stays, ask_nothing, try_run, try_fed, try_calls, prop_said}
use Rattle.vector_consensus.specs.Laws.Agreement.{decided_by, to_run}

-- ---- what stands at a place

-- what is there at a place stands among those that are there, behind so many
present_at : (os : List (Option (List ℕ))) (k : ℕ) (e : List ℕ) → is_some (get_or os k None) ≡ true → slice_get (present os) (count_by is_some (take k os)) ≡ Some e
    → slice_get os k ≡ Some (Some e)
present_at [] k e is q = absurd cc
present_at (None ∷ os) zero e is q = absurd cc
present_at (Some u ∷ os) zero e is q = let same : u ≡ e = cc in ap (λ (x : List ℕ). Some (Some x)) same
present_at (None ∷ os) (suc k) e is q =
    present_at os k e is (ap (slice_get (present os)) (sym (count_no is_some None (take k os) refl)) ∙ q)
present_at (Some u ∷ os) (suc k) e is q =
    let more : count_by is_some (Some u ∷ take k os) ≡ suc (count_by is_some (take k os)) = count_yes is_some (Some u) (take k os) refl ∙ one_more (count_by is_some (take k os)) in
    present_at os k e is (ap (slice_get (u ∷ present os)) (sym more) ∙ q)
  where
    one_more : (c : ℕ) → 1 + c ≡ suc c
    one_more c = omega arith

-- a place of a mask below a power of two is below its exponent, and what stands there is found so
pub placed : (os : List (Option (List ℕ))) (k : ℕ) (e : List ℕ) → at_place (mask_l (map is_some os)) (present os) k ≡ Some e → slice_get os k ≡ Some (Some e)
unfolding at_place
placed os k e q = go (has_member (mask_l (map is_some os)) k) refl q
  where
    within : (os : List (Option (List ℕ))) (k : ℕ) → is_some (get_or os k None) ≡ true → k < length os
    within [] k is = absurd cc
    within (o ∷ os) zero is = omega arith
    within (o ∷ os) (suc k) is = let l = within os k is in omega (arith, l)

    go : (b : Bool) → has_member (mask_l (map is_some os)) k ≡ b
        → cond b (slice_get (present os) (member_count k (mask_l (map is_some os)))) None ≡ Some e → slice_get os k ≡ Some (Some e)
    go false f q = absurd cc
    go true f q =
        let is = sym (places_there os k) ∙ f in
        let l = within os k is in
        present_at os k e is (ap (slice_get (present os)) (sym (rank_there os k (omega (arith, l)))) ∙ q)

-- ---- the vector of all proposals

-- those proposals that are there are short
abbrev pub AreShort : Scope → List Word → Type 0
AreShort at h = (k : ℕ) (v : List ℕ) → value_at h (prop_slot at k) ≡ Some v → length v < 2 ^ 16

-- its entries are those proposals
pub entry_is : (at : Scope) → IsSession at.numbers → (h : List Word) → AreShort at h → (k : ℕ) (e : List ℕ) → entry_at_place (vector_of at h) k ≡ Some e
    → value_at h (prop_slot at k) ≡ Some e
entry_is at session h short k e q =
    let hs = props at h in
    let mask = mask_l (map is_some hs) in
    let most = session.most in
    let size : length (map is_some hs) ≡ at.numbers.n = length-map hs is_some ∙ length-map-range_with_len (λ j. value_at h (prop_slot at j)) 0 at.numbers.n in
    let below : mask < 2 ^ at.numbers.n = subst (λ (j : ℕ). mask < 2 ^ j) size (mask_l-lt (map is_some hs)) in
    let least : at.numbers.n < 32 = omega (arith, most) in
    let more : 2 ^ at.numbers.n < 2 ^ 32 = pow-lt least in
    let ones : count_ones mask ≡ count_by is_some hs = ones-mask_l is_some hs in
    let again = vector_again mask (present hs) (omega (arith, below, more)) (present_length hs ∙ sym ones)
    (present_all (λ u. length u < 2 ^ 16) (λ j. value_at h (prop_slot at j)) short (replicas at.numbers.n)) in
    let stands : at_place mask (present hs) k ≡ Some e =
    sym (ap₂ (λ (j : ℕ) (es : List (List ℕ)). at_place j es k) again.0 (ap (λ (j : ℕ). entries_in (count_ones j) (drop 4 (vector_of at h))) again.0 ∙ again.1)) ∙ q in
    let zero : 0 + k ≡ k = omega arith in
    ap (λ (j : ℕ). value_at h (prop_slot at j)) (sym zero) ∙ map_at (λ j. value_at h (prop_slot at j)) 0 at.numbers.n k e (placed hs k e stands)
  where
    map_at : (f : ℕ → Option (List ℕ)) (a n k : ℕ) (e : List ℕ) → slice_get (map f (range_with_len a n)) k ≡ Some (Some e) → f (a + k) ≡ Some e
    map_at f a zero k e q = absurd cc
    map_at f a (suc n) zero e q = let same : a + 0 ≡ a = omega arith in ap f same ∙ (let z : f a ≡ Some e = cc in z)
    map_at f a (suc n) (suc k) e q = let same : a + suc k ≡ (a + 1) + k = omega arith in ap f same ∙ map_at f (a + 1) n k e q

-- ---- a run

module _ (m : MultiRules) (laws : MultiLaws m) (one : OneDecision m) (at : Scope) (is_correct : ℕ → Bool) (coins : ℕ → Slot → Bool) (xs : List (ReplicaStep Word))
    (enough : IsEnough at.numbers is_correct) (has : HasVectors at) (fed : IsFedRun (vector_play (vectors m) at coins) is_correct xs) where
  abbrev here_play : Play
  here_play = vector_box_play m laws at enough.session has coins

  record IsOlder (i : ℕ) (g : List Word) : Type 0 where
    met : AreVector (vectors m) (vector_desk m laws at enough.session has coins i) g
    value : (s : Slot) (v : List ℕ) → value_at g s ≡ Some v → value_at (calls_of i xs) s ≡ Some v

  older_less : (i : ℕ) (c : Word) (h : List Word) → IsOlder i (c ∷ h) → IsOlder i h
  older_less i c h o = record { met = o.met.1; value = λ s v q. o.value s v (value_stays c h s v q) }

  older_all : (i : ℕ) → IsOlder i (calls_of i xs)
  older_all i = record { met = met here_play is_correct xs fed i; value = λ s v q. q }

  -- proposals are of class 2, so they are short
  older_short : (i : ℕ) (g : List Word) → IsOlder i g → AreShort at g
  older_short i g o k v q =
      let may = (heard_met (MayVector (vectors m) (vector_desk m laws at enough.session has coins i)) g (prop_slot at k) v o.met q).1 in
      let l = (class2_short at.numbers at.root v (subst (λ (f : Format). Is f v) (prop_value at.numbers at.root at k) may.good)).1 in
      let big : 512 < 2 ^ 16 = lit≤ tt in
      omega (arith, l, big)

  -- replica k said it at the slot of its proposal
  abbrev SaysProposal : ℕ → List ℕ → Type 0
  SaysProposal k v = HasSay (here_play.said k (calls_of k xs)) (record { slot = prop_slot at k; value = v })

  -- what was heard of a correct replica's proposal it said
  heard_from : (i k : ℕ) (v : List ℕ) → is_correct k ≡ true → value_at (calls_of i xs) (prop_slot at k) ≡ Some v → SaysProposal k v
  heard_from i k v ck q =
      heard_said here_play is_correct (λ j c w y h. say_later ((vectors m).says (vector_desk m laws at enough.session has coins j) w c) _ y h) xs fed i (prop_slot at k) v q ck

  -- an attempt is asked a vector whose entries are what correct replicas said
  asked_entry : (t j : ℕ) (v : List ℕ) → ask_attempt m laws at enough.session has coins t j (calls_of j xs) ≡ Some v → (k : ℕ) (e : List ℕ) → is_correct k ≡ true
      → entry_at_place v k ≡ Some e → SaysProposal k e
  asked_entry t j v q k e ck r =
      let failed = failed_below m (vector_desk m laws at enough.session has coins j) t in
      let g = shortest_at (IsOlder j) (older_less j) (try_at at t failed) (calls_of j xs) v (older_all j) q in
      let s = some_if (is_some (proposed g.0) && (failed g.0 && nat_le (wait_of at.numbers + t) (count_by is_some (props at g.0)))) (vector_of at g.0) v g.2 in
      let e_is = entry_is at enough.session g.0 (older_short j g.0 g.1) k e (ap (λ (x : List ℕ). entry_at_place x k) s.1 ∙ r) in
      heard_from j k e ck (g.1.value (prop_slot at k) e e_is)

  -- in a decided vector the entry of a correct replica is what it said
  pub entry_said : (i k : ℕ) (v e : List ℕ) → is_correct i ≡ true → is_correct k ≡ true
      → (vectors m).decision (vector_desk m laws at enough.session has coins i) (calls_of i xs) ≡ Some v → entry_at_place v k ≡ Some e → SaysProposal k e
  entry_said i k v e ci ck q r =
      let d = decided_by m (vector_desk m laws at enough.session has coins i) (suc at.numbers.f) (calls_of i xs) v q in
      let t : ℕ = d.attempt in
      let j = one.valid (try_scope at t) is_correct coins (try_run m laws at enough.session has coins t xs) enough
      (try_fed m laws at enough.session has coins is_correct t xs fed) i v ci
      (to_run m laws one at is_correct coins xs enough has fed t i (Some v) d.decides) in
      let failed = failed_below m (vector_desk m laws at enough.session has coins j.0) t in
      let a = part_has (ask_attempt m laws at enough.session has coins t j.0) (is_of_try t) (ask_stays at t failed) (ask_nothing at t failed) (calls_of j.0 xs) v
      (subst (λ (w : List Word). Has w (Ask v)) (try_calls m laws at enough.session has coins t j.0 xs) j.2) in
      asked_entry t j.0 v a k e ck r

  -- and that is what it proposed
  pub entry_asked : (i k : ℕ) (v e : List ℕ) → is_correct i ≡ true → is_correct k ≡ true
      → (vectors m).decision (vector_desk m laws at enough.session has coins i) (calls_of i xs) ≡ Some v → entry_at_place v k ≡ Some e → Has (calls_of k xs) (Ask e)
  entry_asked i k v e ci ck q r =
      proposed_has (calls_of k xs) e (prop_said m laws at enough.session has coins k (calls_of k xs) e (older_all k).met (entry_said i k v e ci ck q r))
