-- The run of each attempt inside: it is a run of its boxes, and what the layer says at its slots, the attempt says.
use Rattle.std.specs.Prelude.{◌≡◌, ℕ, zero, suc, ◌+◌, ◌<◌, ◌≤◌, Bool, true, false, not, ◌==◌, ◌&&◌, nat_le, if◌then◌else◌, List, [], ◌∷◌, ◌++◌, count_by, Option, Some, None, is_some, refl, ◌⊎◌}
use Rattle.std.proofs.Common.{sym, ◌∙◌, ap, subst, inl, inr, arith}
use Rattle.std.proofs.lemmas.Bool.{and_parts, and_from, both_ways, eqb-true, eqb-false, eq-eqb, ne_eqb, leb-true, le-leb, not-true, cases_order}
use Rattle.ritas_base.specs.declared.slot.Slot.{Slot}
use Rattle.ritas_base.specs.declared.item.Say.{Say}
use Rattle.ritas_base.specs.Numbers.{IsSession, wait_of}
use Rattle.ritas_base.specs.Shortest.{option_or_older}
use Rattle.ritas_base.specs.Slots.{within}
use Rattle.frame_codec.specs.Format.{Is}
use Rattle.frame_codec.specs.Grammar.{class3}
use Rattle.layer_api.specs.Runs.{ReplicaStep, calls_of, inner_run}
use Rattle.layer_api.specs.Words.{Word, Ask, Hear, HasSay, all_said}
use Rattle.layer_api.specs.Part.{proposed, newly, newly_asked, passed, part_of, says_in}
use Rattle.layer_api.specs.Fed.{Play, Met, IsFedRun}
use Rattle.layer_api.specs.FedLaws.{some_if, say_append, newly_said, proposed_stays, heard_met, Stays, shortest_at}
use Rattle.layer_api.specs.PartLaws.{part_heard, part_asked_still, says_in_all, all_said_later, Feeds, Passes, part_met, part_inner, part_calls, part_fed}
use Rattle.layer_api.specs.FreshLaws.{said_each}
use Rattle.layer_api.specs.Multi.{Scope, Desk, desk_at, MultiRules, MultiLaws, is_multi_slot, MayMulti, AreMulti, IsMultiSaid, multi_play}
use Rattle.layer_api.specs.Vectors.{HasVectors, is_vector_slot, MayVector, AreVector, vector_play}
use Rattle.vector_consensus.specs.Consensus.{prop_slot, props, vector_of, try_at, try_asked, is_of_try, try_scope, try_desk, failed_below, try_words, try_ask, attempts_say_below, vectors}
use Rattle.vector_consensus.specs.Laws.Proposals.{vector_is_good}

-- ---- slots

-- a slot of an attempt: its class is not that of a proposal, and its number is the attempt's
pub record IsOfTry (k : ℕ) (s : Slot) : Type 0 where
  pub class : 3 ≤ s.class
  pub attempt : s.attempt ≡ k
  pub takes : is_of_try k s ≡ true

-- a slot of an attempt's instance is one of the attempt
pub of_try : (at : Scope) (k : ℕ) (s : Slot) → is_multi_slot (try_scope at k) s ≡ true → IsOfTry k s
of_try at k s e =
    let p = and_parts (within 3 5 s.class) _ e in
    let q = and_parts (s.a == at.a) _ p.1 in
    let r = and_parts (s.attempt == k) _ q.1 in
    let l = leb-true 3 s.class (and_parts (nat_le 3 s.class) _ p.0).0 in
    record {
      class = l;
      attempt = eqb-true s.attempt k r.0;
      takes = and_from (not (s.class == 2)) _ (ap not (ne_eqb s.class 2 (λ z. omega (arith, z, l)))) r.0;
    }

-- from 2 on, what isn't 2 is from 3 on
bigger : (c : ℕ) → 2 ≤ c → (c == 2) ≡ false → 3 ≤ c
bigger c l e =
    elim (cases_order c 2) [
      | inl same ↦ absurd (eqb-false c 2 e same)
      | inr (inl less) ↦ absurd (omega (arith, l, less))
      | inr (inr more) ↦ more
    ]

-- and a slot of the layer that is one of an attempt is one of its instance
pub try_slot : (at : Scope) (k : ℕ) (s : Slot) → is_vector_slot at s ≡ true → is_of_try k s ≡ true → is_multi_slot (try_scope at k) s ≡ true
try_slot at k s e t =
    let x = and_parts (within 2 5 s.class) _ e in
    let w = and_parts (nat_le 2 s.class) _ x.0 in
    let y = and_parts (s.a == at.a) _ x.1 in
    let z = and_parts (if s.class == 2 then s.attempt == 0 else nat_le s.attempt at.numbers.f) _ y.1 in
    let u = and_parts (not (s.class == 2)) _ t in
    let l = bigger s.class (leb-true 2 s.class w.0) (not-true (s.class == 2) u.0) in
    and_from (within 3 5 s.class) _ (and_from (nat_le 3 s.class) _ (le-leb 3 s.class l) w.1)
    (and_from (s.a == at.a) _ y.0 (and_from (s.attempt == k) _ u.1 z.1))

-- a slot of the instance of one of the f + 1 attempts is one of the layer
pub outer_slot : (at : Scope) (k : ℕ) (s : Slot) → k ≤ at.numbers.f → is_multi_slot (try_scope at k) s ≡ true → is_vector_slot at s ≡ true
outer_slot at k s few e =
    let o = of_try at k s e in
    let l = o.class in
    let same = o.attempt in
    let p = and_parts (within 3 5 s.class) _ e in
    let q = and_parts (s.a == at.a) _ p.1 in
    let r = and_parts (s.attempt == k) _ q.1 in
    let t = and_parts (nat_le 3 s.class) _ p.0 in
    let other : (s.class == 2) ≡ false = ne_eqb s.class 2 (λ z. omega (arith, z, l)) in
    and_from (within 2 5 s.class) _ (and_from (nat_le 2 s.class) _ (le-leb 2 s.class (omega (arith, l))) t.1)
    (and_from (s.a == at.a) _ q.0
    (and_from (if s.class == 2 then s.attempt == 0 else nat_le s.attempt at.numbers.f) _
    (ap (λ (b : Bool). if b then s.attempt == 0 else nat_le s.attempt at.numbers.f) other ∙ le-leb s.attempt at.numbers.f (omega (arith, few, same))) r.1))

-- where a slot of an attempt is open, it is open in the attempt
pub opens_try : (m : MultiRules) (at : Desk) (k : ℕ) (w : List Word) (s : Slot) → is_of_try k s ≡ true → (vectors m).opens at w s ≡ true
    → m.opens (try_desk at k) (try_words m at k w) s ≡ true
opens_try m at k w s of e =
    let u = and_parts (not (s.class == 2)) _ of in
    let o = and_parts (is_vector_slot at.scope s) _ e in
    let opened : m.opens (try_desk at s.attempt) (try_words m at s.attempt w) s ≡ true =
    sym (ap (λ (b : Bool). if b then is_some (proposed w) else m.opens (try_desk at s.attempt) (try_words m at s.attempt w) s) (not-true (s.class == 2) u.0)) ∙ o.1 in
    subst (λ (j : ℕ). m.opens (try_desk at j) (try_words m at j w) s ≡ true) (eqb-true s.attempt k u.1) opened

-- ---- what an attempt is asked

-- it is asked once, and nothing before any word
pub ask_stays : (at : Scope) (k : ℕ) (failed : List Word → Bool) → Stays (try_asked at k failed)
ask_stays at k failed c w v q = option_or_older (try_asked at k failed w) (try_at at k failed (c ∷ w)) v q

pub ask_nothing : (at : Scope) (k : ℕ) (failed : List Word → Bool) → try_asked at k failed [] ≡ None
ask_nothing at k failed = refl

-- what is asked nothing was asked nothing before
untold_before : (ask : List Word → Option (List ℕ)) → Stays ask → (c : Word) (w : List Word) → ask (c ∷ w) ≡ None → ask w ≡ None
untold_before ask stays c w q = go (ask w) refl
  where
    go : (o : Option (List ℕ)) → ask w ≡ o → ask w ≡ None
    go None e = e
    go (Some v) e = absurd (let z = sym q ∙ stays c w v e in cc)

-- an attempt that nothing was proposed to has no words: nothing is heard at its slots before
pub untold_words : (m : MultiRules) → MultiLaws m → (at : Desk) (k : ℕ) (w : List Word) → AreVector (vectors m) at w → try_ask m at k w ≡ None → try_words m at k w ≡ []
untold_words m laws at k [] met q = refl
untold_words m laws at k (c ∷ w) met q =
    let before = untold_before (try_ask m at k) (ask_stays at.scope k (failed_below m at k)) c w q in
    let none = untold_words m laws at k w met.1 before in
    ap (λ (u : List Word). (newly_asked (try_ask m at k w) (try_ask m at k (c ∷ w)) ++ passed (is_of_try k) c) ++ u) none
    ∙ (ap (λ (o : Option (List ℕ)). (newly_asked (try_ask m at k w) o ++ passed (is_of_try k) c) ++ []) q ∙ unheard c met.0 none)
  where
    unheard : (c : Word) → MayVector (vectors m) at w c → try_words m at k w ≡ [] → passed (is_of_try k) c ++ [] ≡ []
    unheard (Ask v) may none = refl
    unheard (Hear s v) may none = go (is_of_try k s) refl
      where
        go : (b : Bool) → is_of_try k s ≡ b → (if b then Hear s v ∷ [] else []) ++ [] ≡ []
        go false e = refl
        go true e =
            absurd (both_ways (m.opens (try_desk at k) [] s)
            (laws.opens_first (try_desk at k) s)
            (subst (λ (u : List Word). m.opens (try_desk at k) u s ≡ true) none (opens_try m at k w s e may.is_open)))

module _ (m : MultiRules) (laws : MultiLaws m) (at : Scope) (session : IsSession at.numbers) (has : HasVectors at) (coins : ℕ → Slot → Bool) where
  abbrev pub vector_box_play : Play
  vector_box_play = vector_play (vectors m) at coins

  abbrev pub vector_desk : ℕ → Desk
  vector_desk i = desk_at at coins i

  abbrev pub ask_attempt : ℕ → ℕ → List Word → Option (List ℕ)
  ask_attempt k i = try_ask m (vector_desk i) k

  abbrev pub attempt_words : ℕ → ℕ → List Word → List Word
  attempt_words k i = try_words m (vector_desk i) k

  abbrev pub attempt_play : ℕ → Play
  attempt_play k = multi_play m (try_scope at k) coins

  -- the newest words of an attempt, and all that it says
  abbrev new_words : ℕ → ℕ → List Word → Word → List Word
  new_words k i w c = part_of (ask_attempt k i) (is_of_try k) w c

  abbrev pub tried : ℕ → ℕ → List Word → List Say
  tried k i w = all_said (m.says (try_desk (vector_desk i) k)) (attempt_words k i w)

  -- it is asked a vector
  asked_good : (k i : ℕ) (w : List Word) (v : List ℕ) → Met vector_box_play i w → ask_attempt k i w ≡ Some v → Is (class3 at.numbers at.root) v
  asked_good k i w v met q =
      let t = shortest_at (AreVector (vectors m) (vector_desk i)) (λ c h g. g.1) (try_at at k (failed_below m (vector_desk i) k)) w v met q in
      let s = some_if (is_some (proposed t.0) && (failed_below m (vector_desk i) k t.0 && nat_le (wait_of at.numbers + k) (count_by is_some (props at t.0)))) (vector_of at t.0) v t.2 in
      let x = and_parts (is_some (proposed t.0)) _ s.0 in
      let y = and_parts (failed_below m (vector_desk i) k t.0) _ x.1 in
      let l = leb-true (wait_of at.numbers + k) (count_by is_some (props at t.0)) y.1 in
      subst (λ (u : List ℕ). Is (class3 at.numbers at.root) u) s.1
      (vector_is_good at session has t.0
      (λ j u r. (heard_met (MayVector (vectors m) (vector_desk i)) t.0 (prop_slot at j) u t.1 r).1.good) (omega (arith, l)))

  -- its proposals and what it hears meet its conditions
  asks : (k i : ℕ) (c : Word) (w : List Word) (v : List ℕ) → Met vector_box_play i (c ∷ w) → ask_attempt k i w ≡ None → ask_attempt k i (c ∷ w) ≡ Some v
      → MayMulti m (try_desk (vector_desk i) k) (passed (is_of_try k) c ++ attempt_words k i w) (Ask v)
  asks k i c w v met none now = (
    part_asked_still (ask_attempt k i) (is_of_try k) (ask_stays at k (failed_below m (vector_desk i) k)) (ask_nothing at k (failed_below m (vector_desk i) k)) c w none,
    asked_good k i (c ∷ w) v met now,
  )

  hears : (k i : ℕ) (s : Slot) (v : List ℕ) (w : List Word) → Met vector_box_play i (Hear s v ∷ w) → is_of_try k s ≡ true
      → MayMulti m (try_desk (vector_desk i) k) (attempt_words k i w) (Hear s v)
  hears k i s v w met of =
      let h = met.0 in
      record {
        slot = try_slot at k s h.slot of;
        origin = h.origin;
        is_open = opens_try m (vector_desk i) k w s of h.is_open;
        first = part_heard (ask_attempt k i) (is_of_try k) w s h.first;
        good = h.good;
      }

  pub feeds : (k : ℕ) → Feeds vector_box_play (attempt_play k) (ask_attempt k) (is_of_try k)
  feeds k = record { asks = asks k; hears = hears k }

  -- an attempt's words met their conditions
  pub words_met : (k i : ℕ) (w : List Word) → Met vector_box_play i w → AreMulti m (try_desk (vector_desk i) k) (attempt_words k i w)
  words_met k i w met = part_met vector_box_play (attempt_play k) (ask_attempt k) (is_of_try k) (feeds k) i w met

  -- ---- what is said

  -- what an attempt says is as it must be
  pub tried_good : (k i : ℕ) (w : List Word) (y : Say) → Met vector_box_play i w → HasSay (tried k i w) y → IsMultiSaid (try_desk (vector_desk i) k) y
  tried_good k i w y met h =
      said_each (m.says (try_desk (vector_desk i) k)) (MayMulti m (try_desk (vector_desk i) k)) (IsMultiSaid (try_desk (vector_desk i) k))
      (λ c u n. laws.says_new (try_desk (vector_desk i) k) c u session n) (attempt_words k i w) y (words_met k i w met) h

  -- what a word newly says below an attempt is what one of these newly says
  abbrev pub IsSaidBelow : ℕ → ℕ → List Word → Word → Say → Type 0
  IsSaidBelow n i w c y = (j : ℕ) × (j < n) × HasSay (says_in (m.says (try_desk (vector_desk i) j)) (new_words j i w c) (attempt_words j i w)) y

  pub below_said : (n i : ℕ) (w : List Word) (c : Word) (y : Say) → HasSay (attempts_say_below m (vector_desk i) n w c) y → IsSaidBelow n i w c y
  below_said zero i w c y h = absurd h
  below_said (suc n) i w c y h =
      elim (say_append (attempts_say_below m (vector_desk i) n w c) _ y h) [
        | inl a ↦ let x = below_said n i w c y a in let l = x.1 in (x.0, omega (arith, l), x.2)
        | inr b ↦ (n, omega arith, b)
      ]

  -- what replica i said is its proposal, or what one of its attempts said
  abbrev pub IsSaidByAttempts : ℕ → List Word → Slot → List ℕ → Type 0
  IsSaidByAttempts i w s v = ((prop_slot at i ≡ s) × (proposed w ≡ Some v)) ⊎ ((k : ℕ) × HasSay (tried k i w) (record { slot = s; value = v }))

  -- it is still so after a word more
  one_later : (i : ℕ) (c : Word) (w : List Word) (s : Slot) (v : List ℕ) → IsSaidByAttempts i w s v → IsSaidByAttempts i (c ∷ w) s v
  one_later i c w s v (inl x) = inl (x.0, proposed_stays c w v x.1)
  one_later i c w s v (inr x) = inr (x.0, all_said_later (m.says (try_desk (vector_desk i) x.0)) (new_words x.0 i w c) (attempt_words x.0 i w) _ x.1)

  pub said_is : (i : ℕ) (w : List Word) (s : Slot) (v : List ℕ) → HasSay (vector_box_play.said i w) (record { slot = s; value = v }) → IsSaidByAttempts i w s v
  said_is i [] s v h = absurd h
  said_is i (c ∷ w) s v h =
      elim (say_append ((vectors m).says (vector_desk i) w c) _ _ h) [
        | inl a ↦ elim (say_append (newly (prop_slot at i) (proposed w) (proposed (c ∷ w))) _ _ a) [
          | inl x ↦ inl (newly_said _ _ _ s v x)
          | inr x ↦
              let b = below_said (suc at.numbers.f) i w c _ x in
              inr (b.0, says_in_all (m.says (try_desk (vector_desk i) b.0)) (new_words b.0 i w c) (attempt_words b.0 i w) _ b.2)
        ]
        | inr a ↦ one_later i c w s v (said_is i w s v a)
      ]

  -- what the layer says in an attempt, the attempt says
  pub try_said : (k i : ℕ) (w : List Word) (s : Slot) (v : List ℕ) → Met vector_box_play i w → is_of_try k s ≡ true → HasSay (vector_box_play.said i w) (record { slot = s; value = v })
      → HasSay (tried k i w) (record { slot = s; value = v })
  try_said k i w s v met of h =
      let u = and_parts (not (s.class == 2)) _ of in
      elim (said_is i w s v h) [
        | inl x ↦
            let e : 2 ≡ s.class = ap (λ (q : Slot). q.class) x.0 in
            absurd (both_ways (s.class == 2) (not-true (s.class == 2) u.0) (eq-eqb s.class 2 (sym e)))
        | inr x ↦
            let o = of_try at x.0 s (tried_good x.0 i w _ met x.1).slot in
            subst (λ (j : ℕ). HasSay (tried j i w) (record { slot = s; value = v })) (sym o.attempt ∙ eqb-true s.attempt k u.1) x.1
      ]

  -- and what it says at the slot of the proposal is the proposal
  pub prop_said : (i : ℕ) (w : List Word) (v : List ℕ) → Met vector_box_play i w → HasSay (vector_box_play.said i w) (record { slot = prop_slot at i; value = v }) → proposed w ≡ Some v
  prop_said i w v met h =
      elim (said_is i w (prop_slot at i) v h) [
        | inl x ↦ x.1
        | inr x ↦ absurd (let l = (of_try at x.0 (prop_slot at i) (tried_good x.0 i w _ met x.1).slot).class in omega (arith, l))
      ]

  -- ---- the run of an attempt

  pub passes : (k : ℕ) → Passes vector_box_play (attempt_play k) (ask_attempt k) (is_of_try k)
  passes k = record { feeds = feeds k; says = λ i s v w met of mine h. try_said k i w s v met of h }

  abbrev pub try_run : ℕ → List (ReplicaStep Word) → List (ReplicaStep Word)
  try_run k xs = inner_run (part_inner (ask_attempt k) (is_of_try k)) xs

  -- it is a run of the attempt's boxes, in which each replica has the attempt's words
  pub try_fed : (is_correct : ℕ → Bool) (k : ℕ) (xs : List (ReplicaStep Word)) → IsFedRun vector_box_play is_correct xs → IsFedRun (attempt_play k) is_correct (try_run k xs)
  try_fed is_correct k xs fed = part_fed vector_box_play (attempt_play k) is_correct (ask_attempt k) (is_of_try k) (passes k) xs fed

  pub try_calls : (k i : ℕ) (xs : List (ReplicaStep Word)) → calls_of i (try_run k xs) ≡ attempt_words k i (calls_of i xs)
  try_calls k i xs = part_calls (ask_attempt k) (is_of_try k) i xs
