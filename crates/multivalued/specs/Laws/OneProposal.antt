-- Where all that correct replicas proposed is equal, no correct replica decides that no value is: no other value has support or is
-- valid, so each of them that proposes a bit proposes 1.
use Rattle.std.specs.Prelude.{◌≡◌, ℕ, ◌<◌, ◌≤◌, Bool, true, false, not, ◌&&◌, ◌||◌, nat_le, if◌then◌else◌, List, [], ◌∷◌, count_by, Option, Some, None, is_some, refl}
use Rattle.std.specs.List.{list_any}
use Rattle.std.specs.Str.{bytes_eq}
use Rattle.std.proofs.Common.{sym, ◌∙◌, ap, subst, inl, inr, arith}
use Rattle.std.proofs.lemmas.Bool.{and_parts, and_from, cases_Bool, or_left, or_right, both_ways, leb-true, le-leb, eq-eqb}
use Rattle.std.proofs.lemmas.Slice.Eq.{bytes_eq-Decides}
use Rattle.ritas_base.specs.declared.slot.Slot.{Slot}
use Rattle.ritas_base.specs.Numbers.{wait_of, support_of}
use Rattle.ritas_base.specs.History.{replicas, is_value}
use Rattle.ritas_base.specs.HistoryLaws.{is_value_is, is_value_at}
use Rattle.ritas_base.specs.Members.{has_member}
use Rattle.ritas_base.specs.Quorums.{count_no, count_none, count_more, count_meet, meet_two}
use Rattle.frame_codec.specs.Values.{vect_bytes}
use Rattle.layer_api.specs.Runs.{ReplicaStep, calls_of, Has, IsEnough}
use Rattle.layer_api.specs.Words.{Word, Ask, value_at, bit_byte}
use Rattle.layer_api.specs.Binary.{BinaryRules, BoxLaws, OneBit}
use Rattle.layer_api.specs.Part.{proposed}
use Rattle.layer_api.specs.Fed.{Met, IsFedRun, ProposeOne}
use Rattle.layer_api.specs.FedLaws.{some_if, shortest_at, proposed_has, heard_said}
use Rattle.layer_api.specs.PartLaws.{part_has}
use Rattle.layer_api.specs.Multi.{Scope, multi_play}
use Rattle.ritas_base.specs.Places.{push, listed}
use Rattle.std.specs.Option.{option_flatten}
use Rattle.multivalued.specs.Consensus.{lesser, least, init_slot, vect_slot, init, has_init, count_passing, common, vect_told, vect_now, own_vect, valid, is_of, is_other, vect_backers, candidates, is_clear, bit_at, proposed_bit, is_step, bit_asked, multivalued}
use Rattle.multivalued.specs.Laws.Inside.{bit_stays, bit_nothing, bit_of, some_value, multi_box_play, multi_desk, bit_run, bit_fed, bit_calls, init_said, vect_said}
use Rattle.multivalued.specs.Laws.Agreement.{IsPast, whole, less, said_more, least_passes, valid_reads, valid_inits, value_in_vect, none_is_zero, inner_decided, bit_decided, size}

-- ---- values that are there

-- a value that some of these have and that passes
any_listed : (test : List ℕ → Bool) (f : ℕ → Option (List ℕ)) (v : List ℕ) (ks : List ℕ) → 0 < count_by (λ k. is_value v (f k)) ks → test v ≡ true
    → list_any test (listed f ks) ≡ true
any_listed test f v [] some passes = absurd (omega (arith, some))
any_listed test f v (k ∷ ks) some passes =
    elim (cases_Bool (is_value v (f k))) [
      | inl here ↦ here_is (f k) (is_value_is v (f k) here)
      | inr out ↦ let m = count_no (λ j. is_value v (f j)) k ks out in later (f k) (any_listed test f v ks (omega (arith, some, m)) passes)
    ]
  where
    here_is : (o : Option (List ℕ)) → o ≡ Some v → list_any test (push o (listed f ks)) ≡ true
    here_is o e = subst (λ (x : Option (List ℕ)). list_any test (push x (listed f ks)) ≡ true) (sym e) (or_left (test v) (list_any test (listed f ks)) passes)

    later : (o : Option (List ℕ)) → list_any test (listed f ks) ≡ true → list_any test (push o (listed f ks)) ≡ true
    later None h = h
    later (Some u) h = or_right (test u) (list_any test (listed f ks)) h

-- where one passes, there is a least one
any_least : (test : List ℕ → Bool) (vs : List (List ℕ)) → list_any test vs ≡ true → (u : List ℕ) × (least test vs ≡ Some u)
any_least test [] e = absurd cc
any_least test (x ∷ xs) e = go (test x) e (λ h. any_least test xs h)
  where
    go : (b : Bool) → (b || list_any test xs) ≡ true → (list_any test xs ≡ true → (u : List ℕ) × (least test xs ≡ Some u))
        → (u : List ℕ) × ((if b then Some (lesser x (least test xs)) else least test xs) ≡ Some u)
    go true e ih = (lesser x (least test xs), refl)
    go false e ih = ih e

-- ---- a run

module _ (b : BinaryRules) (laws : BoxLaws b) (one : OneBit b) (at : Scope) (is_correct : ℕ → Bool) (coins : ℕ → Slot → Bool) (xs : List (ReplicaStep Word))
    (enough : IsEnough at.numbers is_correct) (fed : IsFedRun (multi_play (multivalued b) at coins) is_correct xs) (alone : ProposeOne is_correct xs) where
  abbrev Past : ℕ → List Word → Type 0
  Past i g = IsPast b laws one at is_correct coins xs enough fed i g

  abbrev met_all : (i : ℕ) → Met (multi_box_play b at coins) i (calls_of i xs)
  met_all i = (whole b laws one at is_correct coins xs enough fed i).met

  -- what was heard from a correct replica it proposed
  init_asked : (i k : ℕ) (g : List Word) (u : List ℕ) → Past i g → is_correct k ≡ true → init at g k ≡ Some u → Has (calls_of k xs) (Ask u)
  init_asked i k g u past ck h =
      let s = heard_said (multi_box_play b at coins) is_correct (said_more b laws one at is_correct coins xs enough fed) xs fed i (init_slot at k) u
      (past.value (init_slot at k) u h) ck in
      proposed_has (calls_of k xs) u (init_said b at coins laws k (calls_of k xs) u (met_all k) s)

  -- with one value that a correct replica proposed
  module _ (v : List ℕ) (who : ℕ) (correct : is_correct who ≡ true) (asks : Has (calls_of who xs) (Ask v)) where
    -- a correct replica's proposal is that value
    init_is : (i k : ℕ) (g : List Word) (u : List ℕ) → Past i g → is_correct k ≡ true → init at g k ≡ Some u → u ≡ v
    init_is i k g u past ck h = alone k who u v ck correct (init_asked i k g u past ck h) asks

    -- no other value has support
    supported_is : (i : ℕ) (g : List Word) (u : List ℕ) (test : ℕ → Bool) → Past i g → ((k : ℕ) → test k ≡ true → has_init at g u k ≡ true)
        → support_of at.numbers ≤ count_passing at test → u ≡ v
    supported_is i g u test past narrow l =
        let few = enough.session.enough in
        let many = enough.many in
        let z = size b laws one at is_correct coins xs enough fed in
        let m = meet_two test is_correct (replicas at.numbers.n) (omega (arith, few, many, l, z)) in
        init_is i m.member g u past m.second (is_value_is u (init at g m.member) (narrow m.member m.first))

    -- of n - f that are there, so many are of correct replicas
    correct_part : (test : ℕ → Bool) → wait_of at.numbers ≤ count_passing at test → support_of at.numbers ≤ count_passing at (λ k. test k && is_correct k)
    correct_part test l =
        let few = enough.session.enough in
        let many = enough.many in
        let z = size b laws one at is_correct coins xs enough fed in
        let m = count_meet test is_correct (replicas at.numbers.n) in
        omega (arith, few, many, l, z, m)

    -- ---- the VECT of a correct replica has that value

    init_there : (i k : ℕ) (g : List Word) → Past i g → (is_some (init at g k) && is_correct k) ≡ true → has_init at g v k ≡ true
    init_there i k g past t =
        let p = and_parts (is_some (init at g k)) (is_correct k) t in
        let u = some_value (init at g k) p.0 in
        is_value_at v (init at g k) (u.1 ∙ ap Some (init_is i k g u.0 past p.1 u.1))

    common_is : (i : ℕ) (g : List Word) → Past i g → wait_of at.numbers ≤ count_passing at (λ k. is_some (init at g k)) → common at g ≡ Some v
    common_is i g past l =
        let few = enough.session.enough in
        let part = correct_part (λ k. is_some (init at g k)) l in
        let more = count_more (λ k. is_some (init at g k) && is_correct k) (has_init at g v) (λ k t. init_there i k g past t) (replicas at.numbers.n) in
        let have : support_of at.numbers ≤ count_passing at (has_init at g v) = omega (arith, part, more) in
        let test : List ℕ → Bool = λ u. nat_le (support_of at.numbers) (count_passing at (has_init at g u)) in
        let passes : test v ≡ true = le-leb (support_of at.numbers) (count_passing at (has_init at g v)) have in
        let found = any_least test (listed (init at g) (replicas at.numbers.n))
        (any_listed test (init at g) v (replicas at.numbers.n) (omega (arith, have, few)) passes) in
        let p = leb-true _ _ (least_passes test (listed (init at g) (replicas at.numbers.n)) found.0 found.1) in
        found.1 ∙ ap Some (supported_is i g found.0 (has_init at g found.0) past (λ k t. t) p)

    -- it is written with some mask
    abbrev HasValue : List ℕ → Type 0
    HasValue x = (mask : ℕ) × (x ≡ vect_bytes mask v)

    vect_has : (k : ℕ) (x : List ℕ) → is_correct k ≡ true → own_vect at (calls_of k xs) ≡ Some x → HasValue x
    vect_has k x ck q =
        let t = shortest_at (Past k) (less b laws one at is_correct coins xs enough fed k) (vect_now at) (calls_of k xs) x
        (whole b laws one at is_correct coins xs enough fed k) q in
        let s = some_if (is_some (proposed t.0) && nat_le (wait_of at.numbers) (count_passing at (λ j. is_some (init at t.0 j)))) (vect_told at t.0 (common at t.0)) x t.2 in
        let l = leb-true _ _ (and_parts (is_some (proposed t.0)) _ s.0).1 in
        let c = common_is k t.0 t.1 l in
        (_, sym s.1 ∙ ap (vect_told at t.0) c)

    value_has : (x : List ℕ) → HasValue x → value_in_vect x ≡ Some v
    value_has x h = subst (λ (y : List ℕ). value_in_vect y ≡ Some v) (sym h.1) refl

    -- so where it is valid it backs it
    valid_has : (i k : ℕ) (g : List Word) → Past i g → (is_some (valid at g k) && is_correct k) ≡ true → is_of v (valid at g k) ≡ true
    valid_has i k g past t =
        let p = and_parts (is_some (valid at g k)) (is_correct k) t in
        let w = some_value (valid at g k) p.0 in
        let x = valid_reads at g (value_at g (vect_slot at k)) w.0 w.1 in
        let s = heard_said (multi_box_play b at coins) is_correct (said_more b laws one at is_correct coins xs enough fed) xs fed i (vect_slot at k) x.0
        (past.value (vect_slot at k) x.0 x.1) p.1 in
        let q = vect_said b at coins laws k (calls_of k xs) x.0 (met_all k) s in
        let e = value_has x.0 (vect_has k x.0 p.1 q) in
        subst (λ (o : Option (Option (List ℕ))). is_of v o ≡ true) (sym (w.1 ∙ ap Some (x.2 ∙ e))) (is_value_at v (Some v) refl)

    -- ---- and no valid VECT has another

    none_other : (i k : ℕ) (g : List Word) → Past i g → is_other v (valid at g k) ≡ true → ⊥
    none_other i k g past t = go (valid at g k) refl t
      where
        go : (o : Option (Option (List ℕ))) → valid at g k ≡ o → is_other v o ≡ true → ⊥
        go None e t = cc
        go (Some None) e t = cc
        go (Some (Some u)) e t =
            let d = valid_inits at g (value_at g (vect_slot at k)) u e in
            let same = supported_is i g u (λ j. has_member d.0 j && has_init at g u j) past (λ j q. (and_parts (has_member d.0 j) (has_init at g u j) q).1) d.1 in
            both_ways (not (bytes_eq u v)) (ap not ((bytes_eq-Decides u v).1 same)) t

    -- so it is clear
    clear_is : (i : ℕ) (g : List Word) → Past i g → wait_of at.numbers ≤ count_passing at (λ k. is_some (valid at g k)) → list_any (is_clear at g) (candidates at g) ≡ true
    clear_is i g past l =
        let few = enough.session.enough in
        let part = correct_part (λ k. is_some (valid at g k)) l in
        let more = count_more (λ k. is_some (valid at g k) && is_correct k) (λ k. is_of v (valid at g k)) (λ k t. valid_has i k g past t) (replicas at.numbers.n) in
        let have : support_of at.numbers ≤ vect_backers at g v = omega (arith, part, more) in
        let none = count_none (λ k. is_other v (valid at g k)) (replicas at.numbers.n) (λ k t. none_other i k g past t) in
        let clear : is_clear at g v ≡ true =
        and_from (nat_le (support_of at.numbers) (vect_backers at g v)) _ (le-leb (support_of at.numbers) (vect_backers at g v) have) (eq-eqb _ 0 none) in
        let there = count_more (λ k. is_of v (valid at g k)) (λ k. is_value v (option_flatten (valid at g k))) (λ k t. of_valued (valid at g k) t) (replicas at.numbers.n) in
        any_listed (is_clear at g) (λ k. option_flatten (valid at g k)) v (replicas at.numbers.n) (omega (arith, have, there, few)) clear
      where
        of_valued : (o : Option (Option (List ℕ))) → is_of v o ≡ true → is_value v (option_flatten o) ≡ true
        of_valued None t = absurd cc
        of_valued (Some o) t = t

  -- ---- the bit

  -- a correct replica that proposed a bit proposed a value
  bit_proposed : (k : ℕ) (d : Bool) → proposed_bit at (calls_of k xs) ≡ Some d → (v : List ℕ) × (proposed (calls_of k xs) ≡ Some v)
  bit_proposed k d q =
      let t = shortest_at (Past k) (less b laws one at is_correct coins xs enough fed k) (bit_at at) (calls_of k xs) d
      (whole b laws one at is_correct coins xs enough fed k) q in
      let s = some_if (is_some (own_vect at t.0) && nat_le (wait_of at.numbers) (count_passing at (λ j. is_some (valid at t.0 j)))) (list_any (is_clear at t.0) (candidates at t.0)) d t.2 in
      let x = some_value (own_vect at t.0) (and_parts (is_some (own_vect at t.0)) _ s.0).0 in
      let y = shortest_at (Past k) (less b laws one at is_correct coins xs enough fed k) (vect_now at) t.0 x.0 t.1 x.1 in
      let z = some_if (is_some (proposed y.0) && nat_le (wait_of at.numbers) (count_passing at (λ j. is_some (init at y.0 j)))) (vect_told at y.0 (common at y.0)) x.0 y.2 in
      let u = some_value (proposed y.0) (and_parts (is_some (proposed y.0)) _ z.0).0 in
      (u.0, y.1.asked u.0 u.1)

  -- it is never 0
  bit_is : (k : ℕ) → is_correct k ≡ true → proposed_bit at (calls_of k xs) ≡ Some false → ⊥
  bit_is k ck q =
      let v = bit_proposed k false q in
      let t = shortest_at (Past k) (less b laws one at is_correct coins xs enough fed k) (bit_at at) (calls_of k xs) false
      (whole b laws one at is_correct coins xs enough fed k) q in
      let s = some_if (is_some (own_vect at t.0) && nat_le (wait_of at.numbers) (count_passing at (λ j. is_some (valid at t.0 j)))) (list_any (is_clear at t.0) (candidates at t.0)) false t.2 in
      let l = leb-true _ _ (and_parts (is_some (own_vect at t.0)) _ s.0).1 in
      both_ways (list_any (is_clear at t.0) (candidates at t.0)) s.1 (clear_is v.0 k ck (proposed_has (calls_of k xs) v.0 v.1) k t.0 t.1 l)

  bit_byte_zero : (d : Bool) → bit_byte d ∷ [] ≡ bit_byte false ∷ [] → d ≡ false
  bit_byte_zero false e = refl
  bit_byte_zero true e = absurd (let z : bit_byte true ≡ bit_byte false = cc in omega (arith, z))

  -- so 0 is never decided
  zero_not : (i : ℕ) → is_correct i ≡ true → bit_decided b laws one at is_correct coins xs enough fed i (calls_of i xs) ≡ Some false → ⊥
  zero_not i ci q =
      let k = one.valid at.numbers at.a at.attempt is_correct coins (bit_run b at coins xs) enough (bit_fed b at coins is_correct xs fed) i false ci
      (inner_decided b laws one at is_correct coins xs enough fed i false q) in
      let h = part_has (bit_asked at) is_step (bit_stays at) (bit_nothing at) (calls_of k.0 xs) (bit_byte false ∷ [])
      (subst (λ (w : List Word). Has w (Ask (bit_byte false ∷ []))) (bit_calls b at coins k.0 xs) k.2) in
      let d = bit_of at (calls_of k.0 xs) (bit_byte false ∷ []) h in
      bit_is k.0 k.1 (d.1 ∙ ap Some (bit_byte_zero d.0 (sym d.2)))

  -- and a value is what is decided
  pub decides_value : (i : ℕ) → is_correct i ≡ true → (multivalued b).decision (multi_desk b at coins i) (calls_of i xs) ≡ Some None → ⊥
  decides_value i ci q = zero_not i ci (none_is_zero b laws one at is_correct coins xs enough fed i ci q)
