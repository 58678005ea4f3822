-- The last attempt, which no correct replica sees fail: each that proposes in it proposes the vector of all n proposals, and these are
-- equal everywhere.
use Rattle.std.specs.Prelude.{◌≡◌, ℕ, suc, ◌+◌, ◌≤◌, Bool, true, ◌&&◌, nat_le, List, [], ◌∷◌, map, length, count_by, Option, Some, None, is_some, refl}
use Rattle.std.proofs.Common.{sym, ◌∙◌, ap, ap₂, subst, arith}
use Rattle.std.proofs.lemmas.Bool.{and_parts, leb-true}
use Rattle.std.proofs.lemmas.List.{length-map}
use Rattle.std.proofs.lemmas.List.FromFn.{length-range_with_len}
use Rattle.std.proofs.lemmas.List.Sums.{count_by-le-length}
use Rattle.std.specs.Simd.Lanes.{mask_l}
use Rattle.ritas_base.specs.declared.slot.Slot.{Slot}
use Rattle.ritas_base.specs.Numbers.{wait_of}
use Rattle.ritas_base.specs.History.{replicas}
use Rattle.ritas_base.specs.Quorums.{count_yes, count_no}
use Rattle.frame_codec.specs.Values.{vector_bytes}
use Rattle.layer_api.specs.Runs.{ReplicaStep, calls_of, Has, IsEnough}
use Rattle.layer_api.specs.Words.{Word, Ask, value_at}
use Rattle.layer_api.specs.Part.{proposed}
use Rattle.layer_api.specs.Fed.{IsFedRun, ProposeOne}
use Rattle.layer_api.specs.FedLaws.{some_if, shortest_at, value_stays, one_value}
use Rattle.layer_api.specs.PartLaws.{part_has}
use Rattle.layer_api.specs.Multi.{Scope, MultiRules, MultiLaws, OneDecision}
use Rattle.layer_api.specs.Vectors.{HasVectors, vector_play}
use Rattle.vector_consensus.specs.Consensus.{prop_slot, props, present, vector_of, try_at, is_of_try, try_scope, failed_below, vectors}
use Rattle.vector_consensus.specs.Laws.Tries.{vector_box_play, vector_desk, ask_attempt, ask_stays, ask_nothing, try_run, try_fed, try_calls}
use Rattle.vector_consensus.specs.Laws.Agreement.{failed_each, to_run}

-- two lists in which something stands at each place, and nothing else in the one than in the other
same_full : {X : Type 0} (f g : ℕ → Option X) (ks : List ℕ) → ((k : ℕ) (a b : X) → f k ≡ Some a → g k ≡ Some b → a ≡ b)
    → length ks ≤ count_by is_some (map f ks) → length ks ≤ count_by is_some (map g ks) → map f ks ≡ map g ks
same_full f g [] same l m = refl
same_full {X} f g (k ∷ ks) same l m =
    ap₂ (λ (o : Option X) (os : List (Option X)). o ∷ os) (head (f k) (g k) refl refl l m) (same_full f g ks same (tail f l) (tail g m))
  where
    tail : (h : ℕ → Option X) → suc (length ks) ≤ count_by is_some (map h (k ∷ ks)) → length ks ≤ count_by is_some (map h ks)
    tail h l = go (h k) l
      where
        go : (o : Option X) → suc (length ks) ≤ count_by is_some (o ∷ map h ks) → length ks ≤ count_by is_some (map h ks)
        go None l = let e = count_no is_some None (map h ks) refl in omega (arith, e, l)
        go (Some x) l = let e = count_yes is_some (Some x) (map h ks) refl in omega (arith, e, l)

    full : (h : ℕ → Option X) → h k ≡ None → suc (length ks) ≤ count_by is_some (map h (k ∷ ks)) → ⊥
    full h none l =
        let at_none : suc (length ks) ≤ count_by is_some (None ∷ map h ks) = subst (λ (o : Option X). suc (length ks) ≤ count_by is_some (o ∷ map h ks)) none l in
        let e = count_no is_some None (map h ks) refl in
        let few = count_by-le-length is_some (map h ks) in
        let size : length (map h ks) ≡ length ks = length-map ks h in
        omega (arith, at_none, e, few, size)

    head : (o u : Option X) → f k ≡ o → g k ≡ u → suc (length ks) ≤ count_by is_some (map f (k ∷ ks)) → suc (length ks) ≤ count_by is_some (map g (k ∷ ks)) → f k ≡ g k
    head None u p q l m = absurd (full f p l)
    head (Some a) None p q l m = absurd (full g q m)
    head (Some a) (Some b) p q l m = p ∙ (ap Some (same k a b p q) ∙ sym q)

module _ (m : MultiRules) (laws : MultiLaws m) (one : OneDecision m) (at : Scope) (is_correct : ℕ → Bool) (coins : ℕ → Slot → Bool) (xs : List (ReplicaStep Word))
    (enough : IsEnough at.numbers is_correct) (has : HasVectors at) (fed : IsFedRun (vector_play (vectors m) at coins) is_correct xs) where
  abbrev last : ℕ
  last = at.numbers.f

  -- what a replica's words have at a prefix they have still
  abbrev Older : ℕ → List Word → Type 0
  Older i g = (s : Slot) (v : List ℕ) → value_at g s ≡ Some v → value_at (calls_of i xs) s ≡ Some v

  -- the vector of all n proposals
  record IsFull (i : ℕ) (v : List ℕ) : Type 0 where
    prefix : List Word
    older : Older i prefix
    all : length (replicas at.numbers.n) ≤ count_by is_some (props at prefix)
    whole : vector_of at prefix ≡ v

  -- that is what a replica proposes in the last attempt
  full_asked : (i : ℕ) (v : List ℕ) → ask_attempt m laws at enough.session has coins last i (calls_of i xs) ≡ Some v → IsFull i v
  full_asked i v q =
      let failed = failed_below m (vector_desk m laws at enough.session has coins i) last in
      let t = shortest_at (Older i) (λ c h older s v q. older s v (value_stays c h s v q)) (try_at at last failed) (calls_of i xs) v (λ s v q. q) q in
      let s = some_if (is_some (proposed t.0) && (failed t.0 && nat_le (wait_of at.numbers + last) (count_by is_some (props at t.0)))) (vector_of at t.0) v t.2 in
      let x = and_parts (is_some (proposed t.0)) _ s.0 in
      let l = leb-true _ _ (and_parts (failed t.0) _ x.1).1 in
      let few = enough.session.enough in
      let size : length (replicas at.numbers.n) ≡ at.numbers.n = length-range_with_len 0 at.numbers.n in
      record { prefix = t.0; older = t.1; all = omega (arith, l, few, size); whole = s.1 }

  -- and it is one vector
  same_vector : (i j : ℕ) (v u : List ℕ) → is_correct i ≡ true → is_correct j ≡ true → IsFull i v → IsFull j u → v ≡ u
  same_vector i j v u ci cj x y =
      let same = same_full (λ k. value_at x.prefix (prop_slot at k)) (λ k. value_at y.prefix (prop_slot at k)) (replicas at.numbers.n)
      (λ k a b p q. one_value (vector_box_play m laws at enough.session has coins) is_correct xs fed i j (prop_slot at k) a b ci cj (x.older _ a p) (y.older _ b q)) x.all y.all in
      sym x.whole ∙ (ap (λ (os : List (Option (List ℕ))). vector_bytes (mask_l (map is_some os)) (present os)) same ∙ y.whole)

  asked_in : (i : ℕ) (v : List ℕ) → Has (calls_of i (try_run m laws at enough.session has coins last xs)) (Ask v)
      → ask_attempt m laws at enough.session has coins last i (calls_of i xs) ≡ Some v
  asked_in i v h =
      let failed = failed_below m (vector_desk m laws at enough.session has coins i) last in
      part_has (ask_attempt m laws at enough.session has coins last i) (is_of_try last) (ask_stays at last failed) (ask_nothing at last failed) (calls_of i xs) v
      (subst (λ (w : List Word). Has w (Ask v)) (try_calls m laws at enough.session has coins last i xs) h)

  all_one : ProposeOne is_correct (try_run m laws at enough.session has coins last xs)
  all_one i j v u ci cj p q = same_vector i j v u ci cj (full_asked i v (asked_in i v p)) (full_asked j u (asked_in j u q))

  -- so the attempts are never spent
  pub unspent : (i : ℕ) → is_correct i ≡ true → (vectors m).spent (vector_desk m laws at enough.session has coins i) (calls_of i xs) ≡ true → ⊥
  unspent i ci q =
      one.decides (try_scope at last) is_correct coins (try_run m laws at enough.session has coins last xs) enough
      (try_fed m laws at enough.session has coins is_correct last xs fed) all_one i ci
      (to_run m laws one at is_correct coins xs enough has fed last i None (failed_each m (vector_desk m laws at enough.session has coins i) (suc last) (calls_of i xs) q last (omega arith)))
