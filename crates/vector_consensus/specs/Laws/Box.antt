-- The laws of a single value of vector consensus, from those of its multi-valued consensus.
use Rattle.std.specs.Prelude.{◌≡◌, ℕ, zero, suc, ◌+◌, ◌<◌, ◌≤◌, Bool, true, false, ◌==◌, ◌&&◌, nat_le, if◌then◌else◌, List, [], ◌∷◌, ◌++◌, count_by, Option, Some, None, is_some, option_map, refl}
use Rattle.std.specs.Option.{option_or, option_flatten}
use Rattle.std.proofs.Common.{sym, ◌∙◌, ap, ap₂, subst, inl, inr, arith}
use Rattle.std.proofs.lemmas.Bool.{and_parts, and_from, and_right, both_ways, lt-leb, le-leb, eq-eqb, cases_order}
use Rattle.std.proofs.lemmas.Option.{none-some}
use Rattle.ritas_base.specs.declared.slot.Slot.{Slot}
use Rattle.ritas_base.specs.declared.item.Say.{Say}
use Rattle.ritas_base.specs.Numbers.{IsSession, wait_of}
use Rattle.ritas_base.specs.History.{replicas}
use Rattle.ritas_base.specs.Quorums.{count_by-map, count_none}
use Rattle.ritas_base.specs.Shortest.{not_there, option_or_some, option_or_older}
use Rattle.frame_codec.specs.Format.{Format, Is}
use Rattle.frame_codec.specs.Grammar.{class2, vector}
use Rattle.layer_api.specs.Service.{Instance, OfBit, OfValue, OfVector, Decision, Bit, Nothing, value_decision, vector_decision, GoesByBit, IsAttemptOf}
use Rattle.layer_api.specs.DecisionLaws.{if_stays, vector_stays}
use Rattle.layer_api.specs.Words.{Word, Ask, Hear, value_at, HasSay, is_said, all_said, AreFresh}
use Rattle.layer_api.specs.Part.{proposed, newly, newly_asked, part_of, says_in}
use Rattle.layer_api.specs.FedLaws.{newly_said, proposed_stays, kept_over}
use Rattle.layer_api.specs.PartLaws.{says_in_all}
use Rattle.layer_api.specs.FreshLaws.{unsaid, has_said, fresh_append, fresh_other, fresh_newly, fresh_in}
use Rattle.layer_api.specs.Multi.{Scope, Desk, MultiRules, MayMulti, AreMulti, IsMultiSaid, MultiLaws}
use Rattle.layer_api.specs.Vectors.{HasVectors, is_vector_slot, AreVector, IsVectorSaid, VectorLaws}
use Rattle.vector_consensus.specs.Consensus.{prop_slot, props, vector_of, is_of_try, try_desk, is_none, failed_below, vector_decided_below, attempt_below, try_words, try_decides, try_ask, attempts_say_below, try_inside, inside_at, vector_opens, vectors}
use Rattle.vector_consensus.specs.Laws.Proposals.{prop_value, vector_class}
use Rattle.vector_consensus.specs.Laws.Tries.{IsOfTry, of_try, outer_slot, words_met, tried_good, below_said, try_said, prop_said}
use Rattle.vector_consensus.specs.Laws.Agreement.{none_is, value_is, if_true, failed_each, decided_by, attempt_by}

-- where all attempts below one failed, none of them decided a value
pub failed_nothing : (m : MultiRules) (at : Desk) (n : ℕ) (w : List Word) → failed_below m at n w ≡ true → vector_decided_below m at n w ≡ None
failed_nothing m at zero w q = refl
failed_nothing m at (suc n) w q =
    let x = and_parts (failed_below m at n w) _ q in
    let d = none_is (try_decides m at n w) x.1 in
    ap₂ (λ (o : Option (List ℕ)) (b : Bool). option_or o (if b then option_flatten (try_decides m at n w) else None)) (failed_nothing m at n w x.0) x.0
    ∙ ap option_flatten d

-- an attempt decided where something is decided
pub attempt_there : (m : MultiRules) (at : Desk) (n : ℕ) (w : List Word) → is_some (attempt_below m at n w) ≡ is_some (vector_decided_below m at n w)
attempt_there m at zero w = refl
attempt_there m at (suc n) w = go (attempt_below m at n w) (vector_decided_below m at n w) (failed_below m at n w) (option_flatten (try_decides m at n w)) (attempt_there m at n w)
  where
    go : (o : Option ℕ) (u : Option (List ℕ)) (b : Bool) (d : Option (List ℕ)) → is_some o ≡ is_some u
        → is_some (option_or o (if b then option_map (λ v. n) d else None)) ≡ is_some (option_or u (if b then d else None))
    go (Some x) (Some y) b d e = refl
    go (Some x) None b d e = absurd cc
    go None (Some y) b d e = absurd cc
    go None None true None e = refl
    go None None true (Some v) e = refl
    go None None false d e = refl

-- where all attempts below one failed and it decided a vector, it is the one
pub attempt_is : (m : MultiRules) (at : Desk) (n k : ℕ) (w : List Word) (v : List ℕ) → k < n → failed_below m at k w ≡ true → try_decides m at k w ≡ Some (Some v)
    → attempt_below m at n w ≡ Some k
attempt_is m at zero k w v l f d = absurd (omega (arith, l))
attempt_is m at (suc n) k w v l f d =
    elim (cases_order k n) [
      | inl same ↦
          let none : attempt_below m at k w ≡ None = not_there (attempt_below m at k w) (attempt_there m at k w ∙ ap is_some (failed_nothing m at k w f)) in
          subst (λ (j : ℕ). option_or (attempt_below m at j w) (if failed_below m at j w then option_map (λ x. j) (option_flatten (try_decides m at j w)) else None) ≡ Some k) same
          (ap₂ (λ (o : Option ℕ) (b : Bool). option_or o (if b then option_map (λ x. k) (option_flatten (try_decides m at k w)) else None)) none f
          ∙ ap (λ (o : Option (Option (List ℕ))). option_map (λ x. k) (option_flatten o)) d)
      | inr (inl less) ↦ option_or_older (attempt_below m at n w) _ k (attempt_is m at n k w v less f d)
      | inr (inr more) ↦ absurd (omega (arith, l, more))
    ]

-- ---- before any word

module _ (m : MultiRules) (laws : MultiLaws m) (at : Desk) where
  -- nothing is open, nothing is decided, and it is not spent
  pub opens_first : (s : Slot) → vector_opens m at [] s ≡ false
  opens_first s = and_right (is_vector_slot at.scope s) _ (go (s.class == 2))
    where
      go : (b : Bool) → (if b then false else m.opens (try_desk at s.attempt) [] s) ≡ false
      go true = refl
      go false = laws.opens_first (try_desk at s.attempt) s

  -- where no attempt has a word, nothing is decided
  nothing_yet : (n : ℕ) (w : List Word) → ((k : ℕ) → try_words m at k w ≡ []) → vector_decided_below m at n w ≡ None
  nothing_yet zero w quiet = refl
  nothing_yet (suc n) w quiet =
      ap₂ (λ (o : Option (List ℕ)) (d : Option (Option (List ℕ))). option_or o (if failed_below m at n w then option_flatten d else None)) (nothing_yet n w quiet)
      (ap (m.decision (try_desk at n)) (quiet n) ∙ laws.decision_first (try_desk at n))
      ∙ nothing (failed_below m at n w)
    where
      nothing : (b : Bool) → (if b then option_flatten {T = List ℕ} None else None) ≡ None
      nothing true = refl
      nothing false = refl

  pub decision_first : (n : ℕ) → vector_decided_below m at n [] ≡ None
  decision_first n = nothing_yet n [] (λ k. refl)

  pub spent_first : (n : ℕ) → failed_below m at (suc n) [] ≡ false
  spent_first n = and_right (failed_below m at n []) _ (ap is_none (laws.decision_first (try_desk at n)))

  -- ---- where only a proposal was made

  -- no replica's proposal is there
  none_there : (v : List ℕ) → count_by is_some (props at.scope (Ask v ∷ [])) ≡ 0
  none_there v =
      count_by-map is_some (λ k. value_at (Ask v ∷ []) (prop_slot at.scope k)) (replicas at.scope.numbers.n)
      ∙ count_none (λ k. is_some (value_at (Ask v ∷ []) (prop_slot at.scope k))) (replicas at.scope.numbers.n) (λ k e. both_ways false refl e)

  -- so no attempt is asked anything
  not_asked : (v : List ℕ) → IsSession at.scope.numbers → (k : ℕ) → try_ask m at k (Ask v ∷ []) ≡ None
  not_asked v session k =
      let lone = Ask v ∷ [] in
      let enough = session.enough in
      let none = none_there v in
      let few = lt-leb (wait_of at.scope.numbers + k) (count_by is_some (props at.scope lone)) (omega (arith, none, enough)) in
      ap (λ (b : Bool). if b then Some (vector_of at.scope lone) else None) (and_right (failed_below m at k lone) _ few)

  -- and none has a word
  quiet : (v : List ℕ) → IsSession at.scope.numbers → (k : ℕ) → try_words m at k (Ask v ∷ []) ≡ []
  quiet v session k = ap (λ (o : Option (List ℕ)). (newly_asked None o ++ []) ++ []) (not_asked v session k)

  pub decision_asked : (v : List ℕ) → IsSession at.scope.numbers → (n : ℕ) → vector_decided_below m at n (Ask v ∷ []) ≡ None
  decision_asked v session n = nothing_yet n (Ask v ∷ []) (quiet v session)

  pub spent_asked : (v : List ℕ) → IsSession at.scope.numbers → (n : ℕ) → failed_below m at (suc n) (Ask v ∷ []) ≡ false
  spent_asked v session n =
      and_right (failed_below m at n (Ask v ∷ [])) _ (ap is_none (ap (m.decision (try_desk at n)) (quiet v session n) ∙ laws.decision_first (try_desk at n)))

  -- where no attempt has a word, none decided anything inside, and nor did this instance where it decided nothing
  inside_nothing : (w : List Word) → ((k : ℕ) → try_words m at k w ≡ []) → vector_decided_below m at (suc at.scope.numbers.f) w ≡ None
      → failed_below m at (suc at.scope.numbers.f) w ≡ false → (x : Instance) → inside_at m at w x ≡ None
  inside_nothing w quiet none going x = go x
    where
      none_if : (b : Bool) (o : Option Decision) → o ≡ None → (if b then o else None) ≡ None
      none_if true o e = e
      none_if false o e = refl

      try_nothing : (a k : ℕ) (y : Instance) → try_inside m at w a k y ≡ None
      try_nothing a k y =
          none_if (a == at.scope.a && nat_le k at.scope.numbers.f) _
          (ap (λ (u : List Word). m.inside (try_desk at k) u y) (quiet k) ∙ laws.inside_first (try_desk at k) y)

      go : (x : Instance) → inside_at m at w x ≡ None
      go (OfBit a k) = try_nothing a k (OfBit a k)
      go (OfValue a k) = try_nothing a k (OfValue a k)
      go (OfVector a) = none_if (a == at.scope.a) _ (ap₂ vector_decision none going)

  pub inside_first : (x : Instance) → inside_at m at [] x ≡ None
  inside_first x = inside_nothing [] (λ k. refl) (decision_first (suc at.scope.numbers.f)) (spent_first at.scope.numbers.f) x

  pub inside_asked : (v : List ℕ) → IsSession at.scope.numbers → (x : Instance) → inside_at m at (Ask v ∷ []) x ≡ None
  inside_asked v session x =
      inside_nothing (Ask v ∷ []) (quiet v session) (decision_asked v session (suc at.scope.numbers.f)) (spent_asked v session at.scope.numbers.f) x

-- ---- what the instances inside decided, together

module _ (m : MultiRules) (laws : MultiLaws m) (at : Desk) where
  -- how many attempts there are
  abbrev attempts : ℕ
  attempts = suc at.scope.numbers.f

  pub inside_own : (w : List Word) → inside_at m at w (OfVector at.scope.a) ≡ vector_decision (vector_decided_below m at attempts w) (failed_below m at attempts w)
  inside_own w = ap (λ (b : Bool). if b then vector_decision (vector_decided_below m at attempts w) (failed_below m at attempts w) else None) (eq-eqb at.scope.a at.scope.a refl)

  -- an attempt's own instance has its decision
  inside_value : (w : List Word) (k : ℕ) → k ≤ at.scope.numbers.f → inside_at m at w (OfValue at.scope.a k) ≡ option_map value_decision (try_decides m at k w)
  inside_value w k l =
      ap (λ (b : Bool). if b then m.inside (try_desk at k) (try_words m at k w) (OfValue at.scope.a k) else None)
      (and_from (at.scope.a == at.scope.a) _ (eq-eqb at.scope.a at.scope.a refl) (le-leb k at.scope.numbers.f l))
      ∙ laws.inside_own (try_desk at k) (try_words m at k w)

  inside_failed : (w : List Word) (n k : ℕ) → failed_below m at n w ≡ true → k < n → n ≤ attempts → inside_at m at w (OfValue at.scope.a k) ≡ Some Nothing
  inside_failed w n k q l few = inside_value w k (omega (arith, l, few)) ∙ ap (option_map value_decision) (failed_each m at n w q k l)

  pub inside_attempt : (w : List Word) (k : ℕ) (v : List ℕ) → attempt_below m at attempts w ≡ Some k → vector_decided_below m at attempts w ≡ Some v → IsAttemptOf (inside_at m at w) at.scope.a k v
  inside_attempt w k v q d =
      let x = decided_by m at attempts w v d in
      let below = x.below in
      let same : x.attempt ≡ k = let e = sym (attempt_is m at attempts x.attempt w v below x.failed x.decides) ∙ q in cc in
      subst (λ (j : ℕ). IsAttemptOf (inside_at m at w) at.scope.a j v) same (record {
        vector = inside_own w ∙ ap (λ (o : Option (List ℕ)). vector_decision o (failed_below m at attempts w)) d;
        value = inside_value w x.attempt (omega (arith, below)) ∙ ap (option_map value_decision) x.decides;
        failed = λ j l. inside_failed w x.attempt j x.failed l (omega (arith, below));
      })

  pub inside_spent : (w : List Word) (k : ℕ) → failed_below m at attempts w ≡ true → k ≤ at.scope.numbers.f → inside_at m at w (OfValue at.scope.a k) ≡ Some Nothing
  inside_spent w k q l = inside_failed w attempts k q (omega (arith, l)) (omega arith)

-- ---- what stays

-- something that stays is there still
still_some : {X : Type 0} (o u : Option X) → ((x : X) → o ≡ Some x → u ≡ Some x) → is_some o ≡ true → is_some u ≡ true
still_some None u stays q = absurd cc
still_some (Some x) u stays q = ap is_some (stays x refl)

module _ (m : MultiRules) (laws : MultiLaws m) (at : Desk) (session : IsSession at.scope.numbers) (has : HasVectors at.scope) where
  abbrev coins : ℕ → Slot → Bool
  coins i = at.coin

  abbrev scope : Scope
  scope = at.scope

  abbrev new_words : ℕ → List Word → Word → List Word
  new_words k w c = part_of (try_ask m at k) (is_of_try k) w c

  -- an attempt's words met their conditions
  pub tries_met : (k : ℕ) (w : List Word) → AreVector (vectors m) at w → AreMulti m (try_desk at k) (try_words m at k w)
  tries_met k w met = words_met m laws scope session has coins k at.me w met

  -- what each word of an attempt keeps, a word of the layer keeps
  try_keeps : (k : ℕ) (P : List Word → Type 0) → ((d : Word) (u : List Word) → AreMulti m (try_desk at k) (d ∷ u) → P u → P (d ∷ u))
      → (c : Word) (w : List Word) → AreVector (vectors m) at (c ∷ w) → P (try_words m at k w) → P (try_words m at k (c ∷ w))
  try_keeps k P keeps c w met q = kept_over (MayMulti m (try_desk at k)) P keeps (new_words k w c) (try_words m at k w) (tries_met k (c ∷ w) met) q

  -- what an attempt decided stays
  pub try_stays : (k : ℕ) (c : Word) (w : List Word) (d : Option (List ℕ)) → AreVector (vectors m) at (c ∷ w)
      → try_decides m at k w ≡ Some d → try_decides m at k (c ∷ w) ≡ Some d
  try_stays k c w d met q =
      try_keeps k (λ u. m.decision (try_desk at k) u ≡ Some d) (λ x u all. laws.decision_stays (try_desk at k) x u d all) c w met q

  -- and so does that all attempts below one failed, and what these decided
  pub failed_stays : (n : ℕ) (c : Word) (w : List Word) → AreVector (vectors m) at (c ∷ w) → failed_below m at n w ≡ true → failed_below m at n (c ∷ w) ≡ true
  failed_stays zero c w met q = refl
  failed_stays (suc n) c w met q =
      let x = and_parts (failed_below m at n w) _ q in
      and_from (failed_below m at n (c ∷ w)) _ (failed_stays n c w met x.0) (ap is_none (try_stays n c w None met (none_is (try_decides m at n w) x.1)))

  pub decided_stays : (n : ℕ) (c : Word) (w : List Word) (v : List ℕ) → AreVector (vectors m) at (c ∷ w)
      → vector_decided_below m at n w ≡ Some v → vector_decided_below m at n (c ∷ w) ≡ Some v
  decided_stays zero c w v met q = absurd cc
  decided_stays (suc n) c w v met q =
      elim (option_or_some (vector_decided_below m at n w) (if failed_below m at n w then option_flatten (try_decides m at n w) else None) v q) [
        | inl a ↦ option_or_older (vector_decided_below m at n (c ∷ w)) _ v (decided_stays n c w v met a)
        | inr b ↦
            let x = if_true (failed_below m at n w) (option_flatten (try_decides m at n w)) v b.1 in
            let f = failed_stays n c w met x.0 in
            let d = try_stays n c w (Some v) met (value_is (try_decides m at n w) v x.1) in
            ap₂ (λ (o : Option (List ℕ)) (k : Bool). option_or o (if k then option_flatten (try_decides m at n (c ∷ w)) else None)) (failed_nothing m at n (c ∷ w) f) f
            ∙ ap option_flatten d
      ]

  -- and so does the attempt that decided it
  pub attempt_stays : (n : ℕ) (c : Word) (w : List Word) (k : ℕ) → AreVector (vectors m) at (c ∷ w)
      → attempt_below m at n w ≡ Some k → attempt_below m at n (c ∷ w) ≡ Some k
  attempt_stays n c w k met q =
      let x = attempt_by m at n w k q in
      let below = x.1.below in
      let e : x.1.attempt ≡ k = x.2 in
      attempt_is m at n k (c ∷ w) x.0 (omega (arith, below, e))
      (failed_stays k c w met (subst (λ (j : ℕ). failed_below m at j w ≡ true) e x.1.failed))
      (try_stays k c w (Some x.0) met (subst (λ (j : ℕ). try_decides m at j w ≡ Some (Some x.0)) e x.1.decides))

  -- what each instance inside decided stays
  tried : (a k : ℕ) (x : Instance) (c : Word) (w : List Word) (d : Decision) → AreVector (vectors m) at (c ∷ w)
      → try_inside m at w a k x ≡ Some d → try_inside m at (c ∷ w) a k x ≡ Some d
  tried a k x c w d met q =
      if_stays (a == scope.a && nat_le k scope.numbers.f) (m.inside (try_desk at k) (try_words m at k w) x) (m.inside (try_desk at k) (try_words m at k (c ∷ w)) x) d
      (λ e r. try_keeps k (λ u. m.inside (try_desk at k) u x ≡ Some e) (λ y u met. laws.inside_stays (try_desk at k) y u x e met) c w met r) q

  pub inside_stays : (c : Word) (w : List Word) (x : Instance) (d : Decision) → AreVector (vectors m) at (c ∷ w)
      → inside_at m at w x ≡ Some d → inside_at m at (c ∷ w) x ≡ Some d
  inside_stays c w (OfBit a k) d met q = tried a k (OfBit a k) c w d met q
  inside_stays c w (OfValue a k) d met q = tried a k (OfValue a k) c w d met q
  inside_stays c w (OfVector a) d met q =
      let all : ℕ = suc scope.numbers.f in
      if_stays (a == scope.a) (vector_decision (vector_decided_below m at all w) (failed_below m at all w)) (vector_decision (vector_decided_below m at all (c ∷ w)) (failed_below m at all (c ∷ w))) d
      (λ e r. vector_stays (vector_decided_below m at all w) (vector_decided_below m at all (c ∷ w)) (failed_below m at all w) (failed_below m at all (c ∷ w)) e
      (λ v s. decided_stays all c w v met s) (λ s. let t = failed_stays all c w met s in (t, failed_nothing m at all (c ∷ w) t)) r) q

  -- and each multi-valued consensus went by its bit
  pub inside_bit : (w : List Word) (a k : ℕ) → AreVector (vectors m) at w → GoesByBit (inside_at m at w) a k
  inside_bit w a k met o q = go (a == scope.a && nat_le k scope.numbers.f) q
    where
      go : (b : Bool) → (if b then m.inside (try_desk at k) (try_words m at k w) (OfValue a k) else None) ≡ Some (value_decision o)
          → (if b then m.inside (try_desk at k) (try_words m at k w) (OfBit a k) else None) ≡ Some (Bit (is_some o))
      go false e = absurd cc
      go true e = laws.inside_bit (try_desk at k) (try_words m at k w) a k (tries_met k w met) o e

  -- what is open stays open
  pub opens_stays : (c : Word) (w : List Word) (s : Slot) → AreVector (vectors m) at (c ∷ w) → vector_opens m at w s ≡ true → vector_opens m at (c ∷ w) s ≡ true
  opens_stays c w s met q =
      let x = and_parts (is_vector_slot scope s) _ q in
      and_from (is_vector_slot scope s) _ x.0 (go (s.class == 2) x.1)
    where
      go : (b : Bool) → (if b then is_some (proposed w) else m.opens (try_desk at s.attempt) (try_words m at s.attempt w) s) ≡ true
          → (if b then is_some (proposed (c ∷ w)) else m.opens (try_desk at s.attempt) (try_words m at s.attempt (c ∷ w)) s) ≡ true
      go true e = still_some (proposed w) (proposed (c ∷ w)) (proposed_stays c w) e
      go false e =
          try_keeps s.attempt (λ u. m.opens (try_desk at s.attempt) u s ≡ true) (λ d u all. laws.opens_stays (try_desk at s.attempt) d u s all) c w met e

  -- what is decided is a vector
  pub decision_good : (w : List Word) (v : List ℕ) → AreVector (vectors m) at w → (vectors m).decision at w ≡ Some v → Is (vector scope.numbers scope.root) v
  decision_good w v met q =
      let x = decided_by m at (suc scope.numbers.f) w v q in
      subst (λ (f : Format). Is f v) (vector_class scope has)
      (laws.decision_good (try_desk at x.attempt) (try_words m at x.attempt w) v session (tries_met x.attempt w met) x.decides)

  -- ---- what is said, and where

  abbrev try_says : ℕ → List Word → Word → List Say
  try_says k w c = m.says (try_desk at k) w c

  -- what a word newly says in an attempt, and all that was said before
  abbrev says_of_try : ℕ → List Word → Word → List Say
  says_of_try k w c = says_in (try_says k) (new_words k w c) (try_words m at k w)

  abbrev before : List Word → List Say
  before w = all_said ((vectors m).says at) w

  -- what a word newly says in an attempt is at slots of the attempt
  new_said : (k : ℕ) (w : List Word) (c : Word) (y : Say) → AreVector (vectors m) at (c ∷ w) → HasSay (says_of_try k w c) y → IsOfTry k y.slot
  new_said k w c y met h =
      of_try scope k y.slot
      (tried_good m laws scope session has coins k at.me (c ∷ w) y met (says_in_all (try_says k) (new_words k w c) (try_words m at k w) y h)).slot

  -- and below an attempt, of one of these
  below_tried : (n : ℕ) (w : List Word) (c : Word) (y : Say) → AreVector (vectors m) at (c ∷ w) → HasSay (attempts_say_below m at n w c) y
      → (j : ℕ) × (j < n) × IsOfTry j y.slot
  below_tried n w c y met h =
      let x = below_said m laws scope session has coins n at.me w c y h in
      (x.0, x.1, new_said x.0 w c y met x.2)

  -- what is proposed is of class 2
  proposed_good : (w : List Word) (v : List ℕ) → AreVector (vectors m) at w → proposed w ≡ Some v → Is (class2 scope.numbers scope.root) v
  proposed_good [] v met q = absurd cc
  proposed_good (Hear s u ∷ w) v met q = proposed_good w v met.1 q
  proposed_good (Ask u ∷ w) v met q =
      elim (option_or_some (proposed w) (Some u) v q) [
        | inl a ↦ proposed_good w v met.1 a
        | inr a ↦ let e : u ≡ v = cc a.1 in subst (λ (x : List ℕ). Is (class2 scope.numbers scope.root) x) e met.0.1
      ]

  -- the slot of the proposal is one of the layer
  prop_is_own : is_vector_slot scope (prop_slot scope at.me) ≡ true
  prop_is_own = and_from (scope.a == scope.a) true (eq-eqb scope.a scope.a refl) refl

  -- ---- what a word says is new

  -- the proposal is
  own_fresh : (w : List Word) (c : Word) → AreVector (vectors m) at (c ∷ w)
      → AreFresh (IsVectorSaid at) (before w) (newly (prop_slot scope at.me) (proposed w) (proposed (c ∷ w)))
  own_fresh w c met = fresh_newly (IsVectorSaid at) (before w) (prop_slot scope at.me) (proposed w) (proposed (c ∷ w)) (λ v none now. (
    record {
      slot = prop_is_own;
      origin = refl;
      good = subst (λ (f : Format). Is f v) (sym (prop_value scope.numbers scope.root scope at.me)) (proposed_good (c ∷ w) v met now);
    },
    unsaid (before w) (prop_slot scope at.me) (λ u h. none-some u (sym none ∙ prop_said m laws scope session has coins at.me w u met.1 h)),
  ))

  -- what an attempt says is as it must be here
  wider : (k : ℕ) → k ≤ scope.numbers.f → (y : Say) → IsMultiSaid (try_desk at k) y → IsVectorSaid at y
  wider k few y h = record { slot = outer_slot scope k y.slot few h.slot; origin = h.origin; good = h.good }

  -- and new here where it is new there
  try_unsaid : (k : ℕ) (w : List Word) → AreVector (vectors m) at w → (y : Say) → IsMultiSaid (try_desk at k) y
      → is_said (all_said (try_says k) (try_words m at k w)) y.slot ≡ false → is_said (before w) y.slot ≡ false
  try_unsaid k w met y h none =
      unsaid (before w) y.slot (λ v s.
      both_ways _ none
      (has_said (all_said (try_says k) (try_words m at k w)) (record { slot = y.slot; value = v })
      (try_said m laws scope session has coins k at.me w y.slot v met (of_try scope k y.slot h.slot).takes s)))

  -- so what an attempt newly says is new here
  try_fresh : (k : ℕ) → k ≤ scope.numbers.f → (w : List Word) (c : Word) → AreVector (vectors m) at (c ∷ w) → AreFresh (IsVectorSaid at) (before w) (says_of_try k w c)
  try_fresh k few w c met =
      fresh_other (IsMultiSaid (try_desk at k)) (IsVectorSaid at) (all_said (try_says k) (try_words m at k w)) (before w) (says_of_try k w c) (wider k few) (try_unsaid k w met.1)
      (fresh_in (try_says k) (MayMulti m (try_desk at k)) (IsMultiSaid (try_desk at k)) (λ d u n. laws.says_new (try_desk at k) d u session n)
      (new_words k w c) (try_words m at k w) (tries_met k (c ∷ w) met))

  -- nothing that an attempt says is at a slot of an earlier one
  not_again : (k : ℕ) (w : List Word) (c : Word) (s : Slot) (j : ℕ) → AreVector (vectors m) at (c ∷ w) → IsOfTry j s → j < k → is_said (says_of_try k w c) s ≡ false
  not_again k w c s j met o l =
      unsaid (says_of_try k w c) s (λ v h.
      let a = (new_said k w c (record { slot = s; value = v }) met h).attempt in
      let b = o.attempt in
      omega (arith, a, b, l))

  -- so all that they newly say is new
  below_fresh : (n : ℕ) → n ≤ suc scope.numbers.f → (w : List Word) (c : Word) → AreVector (vectors m) at (c ∷ w) → AreFresh (IsVectorSaid at) (before w) (attempts_say_below m at n w c)
  below_fresh zero few w c met = tt
  below_fresh (suc n) few w c met =
      fresh_append (IsVectorSaid at) (before w) (attempts_say_below m at n w c) (says_of_try n w c) (below_fresh n (omega (arith, few)) w c met) (try_fresh n (omega (arith, few)) w c met)
      (λ y h. let x = below_tried n w c y met h in not_again n w c y.slot x.0 met x.2 x.1)

  -- nor is anything that the attempts say at the slot of the proposal
  own_apart : (w : List Word) (c : Word) → AreVector (vectors m) at (c ∷ w) → (y : Say) → HasSay (newly (prop_slot scope at.me) (proposed w) (proposed (c ∷ w))) y
      → is_said (attempts_say_below m at (suc scope.numbers.f) w c) y.slot ≡ false
  own_apart w c met y h =
      let below = attempts_say_below m at (suc scope.numbers.f) w c in
      subst (λ (s : Slot). is_said below s ≡ false) (newly_said (prop_slot scope at.me) (proposed w) (proposed (c ∷ w)) y.slot y.value h).0
      (unsaid below (prop_slot scope at.me) (λ v s.
      let l = (below_tried (suc scope.numbers.f) w c (record { slot = prop_slot scope at.me; value = v }) met s).2.class in
      omega (arith, l)))

  -- and all that a word newly says
  pub says_new : (c : Word) (w : List Word) → AreVector (vectors m) at (c ∷ w) → AreFresh (IsVectorSaid at) (before w) ((vectors m).says at w c)
  says_new c w met =
      fresh_append (IsVectorSaid at) (before w) (newly (prop_slot scope at.me) (proposed w) (proposed (c ∷ w))) (attempts_say_below m at (suc scope.numbers.f) w c)
      (own_fresh w c met) (below_fresh (suc scope.numbers.f) (omega arith) w c met) (own_apart w c met)

-- the laws of a single value
pub vector_laws_law : (m : MultiRules) → MultiLaws m → VectorLaws (vectors m)
vector_laws_law m laws = record {
  says_new = λ at c w session has met. says_new m laws at session has c w met;
  opens_stays = λ at c w s session has met q. opens_stays m laws at session has c w s met q;
  opens_first = λ at s. opens_first m laws at s;
  decision_first = λ at. decision_first m laws at (suc at.scope.numbers.f);
  spent_first = λ at. spent_first m laws at at.scope.numbers.f;
  decision_asked = λ at v session. decision_asked m laws at v session (suc at.scope.numbers.f);
  spent_asked = λ at v session. spent_asked m laws at v session at.scope.numbers.f;
  decision_stays = λ at c w v session has met q. decided_stays m laws at session has (suc at.scope.numbers.f) c w v met q;
  spent_stays = λ at c w session has met q. failed_stays m laws at session has (suc at.scope.numbers.f) c w met q;
  attempt_there = λ at w. attempt_there m at (suc at.scope.numbers.f) w;
  attempt_few = λ at w k q. let x = attempt_by m at (suc at.scope.numbers.f) w k q in let l = x.1.below in let e = x.2 in omega (arith, l, e);
  attempt_stays = λ at c w k session has met q. attempt_stays m laws at session has (suc at.scope.numbers.f) c w k met q;
  spent_alone = λ at w met q. failed_nothing m at (suc at.scope.numbers.f) w q;
  decision_good = λ at w v session has met q. decision_good m laws at session has w v met q;
  inside_own = λ at w. inside_own m laws at w;
  inside_attempt = λ at w k v q d. inside_attempt m laws at w k v q d;
  inside_spent = λ at w k q l. inside_spent m laws at w k q l;
  inside_bit = λ at w a k session has met. inside_bit m laws at session has w a k met;
  inside_stays = λ at c w x d session has met q. inside_stays m laws at session has c w x d met q;
  inside_first = λ at x. inside_first m laws at x;
  inside_asked = λ at v x session. inside_asked m laws at v session x;
}
