-- The run of the binary instance inside: it is a run of its boxes, and what stays in a box's words stays in the layer's.
use Rattle.std.specs.Prelude.{◌≡◌, ℕ, ◌+◌, ◌≤◌, Bool, true, ◌==◌, ◌&&◌, nat_le, if◌then◌else◌, List, [], ◌∷◌, ◌++◌, Option, Some, None, is_some, option_map, refl, ◌⊎◌}
use Rattle.std.proofs.Common.{sym, ◌∙◌, ap, inl, inr, arith}
use Rattle.std.proofs.lemmas.Bool.{and_parts, eqb-true, leb-true}
use Rattle.ritas_base.specs.declared.slot.Slot.{Slot}
use Rattle.ritas_base.specs.declared.item.Say.{Say}
use Rattle.ritas_base.specs.Shortest.{option_or_older}
use Rattle.ritas_base.specs.Slots.{within, has_count}
use Rattle.layer_api.specs.Runs.{ReplicaStep, calls_of, inner_run}
use Rattle.layer_api.specs.Words.{Word, Ask, Hear, HasSay, bit_byte}
use Rattle.layer_api.specs.Binary.{BinaryRules, BoxLaws, IsStepSlot, MayBit, AreVotes, IsVoteSaid, binary_play, bits_said}
use Rattle.layer_api.specs.VoteLaws.{value_vote}
use Rattle.layer_api.specs.Part.{proposed, newly, passed, part_of}
use Rattle.layer_api.specs.Fed.{Play, Met, IsFedRun}
use Rattle.layer_api.specs.FedLaws.{say_append, newly_said, proposed_stays, kept_over, Stays}
use Rattle.layer_api.specs.FreshLaws.{said_each}
use Rattle.layer_api.specs.PartLaws.{part_heard, part_asked_once, part_asked_still, says_in_all, all_said_later, Feeds, Passes, part_inner, part_calls, part_fed, part_met}
use Rattle.layer_api.specs.Multi.{Scope, Desk, desk_at, is_multi_slot, multi_play}
use Rattle.multivalued.specs.Consensus.{init_slot, vect_slot, vect_now, own_vect, bit_at, proposed_bit, bench_of, is_step, bit_asked, bit_words, multi_opens, multivalued}

-- ---- the bit and the VECT

-- the bit is proposed once
pub bit_stays : (at : Scope) → Stays (bit_asked at)
bit_stays at c w v q = go (proposed_bit at w) refl q
  where
    go : (o : Option Bool) → proposed_bit at w ≡ o → option_map (λ b. bit_byte b ∷ []) o ≡ Some v → bit_asked at (c ∷ w) ≡ Some v
    go None e q = absurd cc
    go (Some b) e q = ap (option_map (λ b. bit_byte b ∷ [])) (option_or_older (proposed_bit at w) (bit_at at (c ∷ w)) b e) ∙ q

pub bit_nothing : (at : Scope) → bit_asked at [] ≡ None
bit_nothing at = refl

-- the VECT is said once
pub vect_stays : (at : Scope) → Stays (own_vect at)
vect_stays at c w v q = option_or_older (own_vect at w) (vect_now at (c ∷ w)) v q

-- a proposal is a bit's byte
pub bit_of : (at : Scope) (w : List Word) (v : List ℕ) → bit_asked at w ≡ Some v → (b : Bool) × (proposed_bit at w ≡ Some b) × (v ≡ bit_byte b ∷ [])
bit_of at w v q = go (proposed_bit at w) refl q
  where
    go : (o : Option Bool) → proposed_bit at w ≡ o → option_map (λ b. bit_byte b ∷ []) o ≡ Some v → (b : Bool) × (proposed_bit at w ≡ Some b) × (v ≡ bit_byte b ∷ [])
    go None e q = absurd cc
    go (Some b) e q = (b, e, cc)

-- ---- slots

-- a step's slot of the instance is one of the binary instance
pub inner_slot : (at : Desk) (s : Slot) → is_multi_slot at.scope s ≡ true → s.class ≡ 5 → IsStepSlot (bench_of at) s
inner_slot at s e five =
    let x = and_parts (within 3 5 s.class) _ e in
    let y = and_parts (s.a == at.scope.a) _ x.1 in
    let z = and_parts (s.attempt == at.scope.attempt) _ y.1 in
    let t = and_parts (has_count 200 s.class s.bround) _ z.1 in
    let r : within 1 200 s.bround ≡ true = sym (ap (λ (k : ℕ). has_count 200 k s.bround) five) ∙ t.0 in
    let u : within 1 3 s.step ≡ true = sym (ap (λ (k : ℕ). has_count 3 k s.step) five) ∙ t.1 in
    let k = and_parts (nat_le 1 s.bround) _ r in
    let m = and_parts (nat_le 1 s.step) _ u in
    record {
      class = five;
      number = eqb-true s.a at.scope.a y.0;
      attempt = eqb-true s.attempt at.scope.attempt z.0;
      first_round = leb-true 1 s.bround k.0;
      last_round = leb-true s.bround 200 k.1;
      first_step = leb-true 1 s.step m.0;
      last_step = leb-true s.step 3 m.1;
    }

-- a step is open from the bit on, and one round ahead
pub record IsOpenStep (at : Scope) (w : List Word) (round : ℕ) (s : Slot) : Type 0 where
  pub given : is_some (bit_asked at w) ≡ true
  pub near : s.bround ≤ round + 1

pub open_step : (at : Scope) (w : List Word) (round : ℕ) (s : Slot) → is_step s ≡ true → multi_opens at w round s ≡ true → IsOpenStep at w round s
open_step at w round s step e =
    let x = and_parts (is_multi_slot at s) _ e in
    let y : (is_some (bit_asked at w) && nat_le s.bround (round + 1)) ≡ true =
    sym (ap (λ (b : Bool). if b then is_some (bit_asked at w) && nat_le s.bround (round + 1) else is_some (proposed w)) step) ∙ x.1 in
    let z = and_parts (is_some (bit_asked at w)) _ y in
    record { given = z.0; near = leb-true _ _ z.1 }

-- what is there
pub some_value : {X : Type 0} (o : Option X) → is_some o ≡ true → (v : X) × (o ≡ Some v)
some_value None q = absurd cc
some_value (Some v) q = (v, refl)

module _ (b : BinaryRules) (at : Scope) (coins : ℕ → Slot → Bool) where
  abbrev pub multi_box_play : Play
  multi_box_play = multi_play (multivalued b) at coins

  -- the boxes inside
  abbrev pub boxes : Play
  boxes = binary_play b at.numbers at.a at.attempt coins

  abbrev pub multi_desk : ℕ → Desk
  multi_desk i = desk_at at coins i

  -- its proposals and what it hears meet its conditions
  asks : (i : ℕ) (c : Word) (w : List Word) (v : List ℕ) → Met multi_box_play i (c ∷ w) → bit_asked at w ≡ None → bit_asked at (c ∷ w) ≡ Some v
      → MayBit b (bench_of (multi_desk i)) (passed is_step c ++ bit_words at w) (Ask v)
  asks i c w v met none now =
      let d = bit_of at (c ∷ w) v now in
      (part_asked_still (bit_asked at) is_step (bit_stays at) (bit_nothing at) c w none, (d.0, d.2))

  hears : (i : ℕ) (s : Slot) (v : List ℕ) (w : List Word) → Met multi_box_play i (Hear s v ∷ w) → is_step s ≡ true
      → MayBit b (bench_of (multi_desk i)) (bit_words at w) (Hear s v)
  hears i s v w met step =
      let m = met.0 in
      let five : s.class ≡ 5 = eqb-true s.class 5 step in
      let vote = value_vote at.numbers at.root s v five m.good in
      let o = open_step at w (b.round (bench_of (multi_desk i)) (bit_words at w)) s step m.is_open in
      let some = some_value (bit_asked at w) o.given in (
        vote.vote,
        vote.whole,
        record {
          proposed = part_asked_once (bit_asked at) is_step (bit_stays at) (bit_nothing at) w some.0 some.1;
          slot = inner_slot (multi_desk i) s m.slot five;
          origin = m.origin;
          near = o.near;
          value = vote.small;
          first = part_heard (bit_asked at) is_step w s m.first;
        },
      )

  -- what replica i said is its proposal, its VECT, or what its box said
  abbrev pub IsSaidByBox : ℕ → List Word → Slot → List ℕ → Type 0
  IsSaidByBox i w s v =
      ((init_slot at i ≡ s) × (proposed w ≡ Some v))
      ⊎ (((vect_slot at i ≡ s) × (own_vect at w ≡ Some v)) ⊎ HasSay (bits_said b (bench_of (multi_desk i)) (bit_words at w)) (record { slot = s; value = v }))

  one_later : (i : ℕ) (c : Word) (w : List Word) (s : Slot) (v : List ℕ) → IsSaidByBox i w s v → IsSaidByBox i (c ∷ w) s v
  one_later i c w s v (inl x) = inl (x.0, proposed_stays c w v x.1)
  one_later i c w s v (inr (inl x)) = inr (inl (x.0, vect_stays at c w v x.1))
  one_later i c w s v (inr (inr x)) = inr (inr (all_said_later (b.says (bench_of (multi_desk i))) (part_of (bit_asked at) is_step w c) (bit_words at w) _ x))

  pub said_is : (i : ℕ) (w : List Word) (s : Slot) (v : List ℕ) → HasSay (multi_box_play.said i w) (record { slot = s; value = v }) → IsSaidByBox i w s v
  said_is i [] s v h = absurd h
  said_is i (c ∷ w) s v h =
      elim (say_append ((multivalued b).says (multi_desk i) w c) _ _ h) [
        | inl a ↦ elim (say_append (newly (init_slot at i) (proposed w) (proposed (c ∷ w))) _ _ a) [
          | inl x ↦ inl (newly_said _ _ _ s v x)
          | inr x ↦ elim (say_append (newly (vect_slot at i) (own_vect at w) (own_vect at (c ∷ w))) _ _ x) [
            | inl y ↦ inr (inl (newly_said _ _ _ s v y))
            | inr y ↦ inr (inr (says_in_all (b.says (bench_of (multi_desk i))) (part_of (bit_asked at) is_step w c) (bit_words at w) _ y))
          ]
        ]
        | inr a ↦ one_later i c w s v (said_is i w s v a)
      ]

  -- what the layer says at a step, the instance says
  pub step_said : (i : ℕ) (w : List Word) (s : Slot) (v : List ℕ) → s.class ≡ 5 → HasSay (multi_box_play.said i w) (record { slot = s; value = v })
      → HasSay (bits_said b (bench_of (multi_desk i)) (bit_words at w)) (record { slot = s; value = v })
  step_said i w s v five h =
      elim (said_is i w s v h) [
        | inl x ↦ absurd (let e = ap (λ (q : Slot). q.class) x.0 in omega (arith, e, five))
        | inr x ↦ elim x [ inl y ↦ absurd (let e = ap (λ (q : Slot). q.class) y.0 in omega (arith, e, five)) | inr y ↦ y ]
      ]

  says : (i : ℕ) (s : Slot) (v : List ℕ) (w : List Word) → Met multi_box_play i w → is_step s ≡ true → s.origin ≡ i
      → HasSay (multi_box_play.said i w) (record { slot = s; value = v }) → HasSay (boxes.said i (bit_words at w)) (record { slot = s; value = v })
  says i s v w met step mine h = step_said i w s v (eqb-true s.class 5 step) h

  feeds : Feeds multi_box_play boxes (λ i. bit_asked at) is_step
  feeds = record { asks = asks; hears = hears }

  passes : Passes multi_box_play boxes (λ i. bit_asked at) is_step
  passes = record { feeds = feeds; says = says }

  -- ---- the run

  abbrev pub bit_run : List (ReplicaStep Word) → List (ReplicaStep Word)
  bit_run xs = inner_run (part_inner (λ i. bit_asked at) is_step) xs

  -- it is a run of the boxes inside, and each replica's words in it are those of its box
  pub bit_fed : (is_correct : ℕ → Bool) (xs : List (ReplicaStep Word)) → IsFedRun multi_box_play is_correct xs → IsFedRun boxes is_correct (bit_run xs)
  bit_fed is_correct xs fed = part_fed multi_box_play boxes is_correct (λ i. bit_asked at) is_step passes xs fed

  pub bit_calls : (i : ℕ) (xs : List (ReplicaStep Word)) → calls_of i (bit_run xs) ≡ bit_words at (calls_of i xs)
  bit_calls i xs = part_calls (λ i. bit_asked at) is_step i xs

  -- ---- the words of one replica

  -- the box's words met their conditions
  pub bits_met : (i : ℕ) (w : List Word) → Met multi_box_play i w → AreVotes b (bench_of (multi_desk i)) (bit_words at w)
  bits_met i w m = part_met multi_box_play boxes (λ i. bit_asked at) is_step feeds i w m

  -- what the box says is at its steps alone
  pub votes_said : BoxLaws b → (i : ℕ) (w : List Word) (y : Say) → Met multi_box_play i w → HasSay (bits_said b (bench_of (multi_desk i)) (bit_words at w)) y
      → IsVoteSaid (bench_of (multi_desk i)) y
  votes_said laws i w y m h =
      said_each (b.says (bench_of (multi_desk i))) (MayBit b (bench_of (multi_desk i))) (IsVoteSaid (bench_of (multi_desk i))) (laws.says_new (bench_of (multi_desk i)))
      (bit_words at w) y (bits_met i w m) h

  -- what is said at the slot of the proposal is the proposal
  pub init_said : BoxLaws b → (i : ℕ) (w : List Word) (v : List ℕ) → Met multi_box_play i w → HasSay (multi_box_play.said i w) (record { slot = init_slot at i; value = v }) → proposed w ≡ Some v
  init_said laws i w v m h =
      elim (said_is i w (init_slot at i) v h) [
        | inl x ↦ x.1
        | inr x ↦ elim x [
          | inl y ↦ absurd (let e = ap (λ (q : Slot). q.class) y.0 in omega (arith, e))
          | inr y ↦ absurd (let e = (votes_said laws i w (record { slot = init_slot at i; value = v }) m y).slot.class in omega (arith, e))
        ]
      ]

  -- and at that of the VECT the VECT
  pub vect_said : BoxLaws b → (i : ℕ) (w : List Word) (v : List ℕ) → Met multi_box_play i w → HasSay (multi_box_play.said i w) (record { slot = vect_slot at i; value = v }) → own_vect at w ≡ Some v
  vect_said laws i w v m h =
      elim (said_is i w (vect_slot at i) v h) [
        | inl x ↦ absurd (let e = ap (λ (q : Slot). q.class) x.0 in omega (arith, e))
        | inr x ↦ elim x [
          | inl y ↦ y.1
          | inr y ↦ absurd (let e = (votes_said laws i w (record { slot = vect_slot at i; value = v }) m y).slot.class in omega (arith, e))
        ]
      ]

  module _ (laws : BoxLaws b) (i : ℕ) (c : Word) (w : List Word) (m : Met multi_box_play i (c ∷ w)) where
    -- the bit that is decided stays
    pub decided_still : (x : Bool) → b.decision (bench_of (multi_desk i)) (bit_words at w) ≡ Some x
        → b.decision (bench_of (multi_desk i)) (bit_words at (c ∷ w)) ≡ Some x
    decided_still x q =
        kept_over (MayBit b (bench_of (multi_desk i))) (λ (u : List Word). b.decision (bench_of (multi_desk i)) u ≡ Some x) (λ d u. laws.decision_stays (bench_of (multi_desk i)) d u x)
        (part_of (bit_asked at) is_step w c) (bit_words at w) (bits_met i (c ∷ w) m) q

    -- the round never falls
    pub round_still : b.round (bench_of (multi_desk i)) (bit_words at w) ≤ b.round (bench_of (multi_desk i)) (bit_words at (c ∷ w))
    round_still =
        kept_over (MayBit b (bench_of (multi_desk i))) (λ (u : List Word). b.round (bench_of (multi_desk i)) (bit_words at w) ≤ b.round (bench_of (multi_desk i)) u)
        (λ d u votes l. let more = laws.round_stays (bench_of (multi_desk i)) d u votes in omega (arith, l, more))
        (part_of (bit_asked at) is_step w c) (bit_words at w) (bits_met i (c ∷ w) m) (omega arith)
