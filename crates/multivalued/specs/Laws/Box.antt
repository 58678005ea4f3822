-- The laws of a single value of multi-valued consensus, from those of its binary consensus.
use Rattle.std.specs.Prelude.{◌≡◌, ℕ, ◌+◌, ◌<◌, ◌≤◌, ◌^◌, Bool, true, false, ◌==◌, ◌&&◌, nat_le, nat_lt, if◌then◌else◌, List, [], ◌∷◌, ◌++◌, map, length, Option, Some, None, is_some, option_map, refl}
use Rattle.std.specs.Int.RustNames.{count_ones}
use Rattle.std.specs.Simd.Lanes.{mask_l}
use Rattle.std.proofs.Common.{sym, ◌∙◌, ap, subst, inl, inr, arith}
use Rattle.std.proofs.Math.Pow.{pow-lt}
use Rattle.std.proofs.lemmas.Bool.{and_parts, and_from, leb-true, le-leb, lt-ltb, eq-eqb, both_ways}
use Rattle.std.proofs.lemmas.Option.{none-some}
use Rattle.std.proofs.lemmas.Simd.{mask_l-lt, ones-mask_l}
use Rattle.std.proofs.lemmas.List.FromFn.{length-map-range_with_len}
use Rattle.ritas_base.specs.declared.slot.Slot.{Slot}
use Rattle.ritas_base.specs.declared.item.Say.{Say}
use Rattle.ritas_base.specs.Numbers.{Numbers, IsSession, wait_of, support_of}
use Rattle.ritas_base.specs.History.{replicas}
use Rattle.ritas_base.specs.HistoryLaws.{is_value_is}
use Rattle.ritas_base.specs.Members.{has_member}
use Rattle.ritas_base.specs.Shortest.{option_or_some, option_or_older}
use Rattle.ritas_base.specs.Slots.{within, has_count}
use Rattle.ritas_base.specs.Quorums.{some_member}
use Rattle.frame_codec.specs.Format.{Format, Is}
use Rattle.frame_codec.specs.Grammar.{class3, value, is_places}
use Rattle.frame_codec.specs.Grammar as grammar
use Rattle.frame_codec.specs.ColumnLaws.{vect_written, vect_none}
use Rattle.layer_api.specs.Service.{Instance, OfBit, OfValue, OfVector, Decision, Bit, value_decision, GoesByBit}
use Rattle.layer_api.specs.DecisionLaws.{decided_value, same_value}
use Rattle.layer_api.specs.Words.{Word, Ask, Hear, HasSay, is_said, value_at, all_said, AreFresh}
use Rattle.layer_api.specs.Binary.{BinaryRules, BoxLaws, IsStepSlot, MayBit, IsVoteSaid, bits_said}
use Rattle.layer_api.specs.VoteLaws.{vote_value}
use Rattle.layer_api.specs.Part.{proposed, newly, part_of, says_in}
use Rattle.layer_api.specs.FedLaws.{some_if, say_append, shortest_at, newly_said, proposed_stays, heard_met}
use Rattle.layer_api.specs.PartLaws.{says_in_all}
use Rattle.layer_api.specs.FreshLaws.{unsaid, has_said, fresh_append, fresh_other, fresh_newly, fresh_in}
use Rattle.layer_api.specs.Multi.{Scope, Desk, MultiRules, is_multi_slot, MayMulti, AreMulti, IsMultiSaid, MultiLaws}
use Rattle.ritas_base.specs.Places.{listed}
use Rattle.multivalued.specs.Consensus.{init_slot, vect_slot, init, has_init, count_passing, common, vect_told, vect_now, own_vect, valid, is_of, vect_backers, candidates, bench_of, is_step, bit_asked, bit_words, supported, multi_verdict, decision_at, multi_decision, multivalued}
use Rattle.multivalued.specs.Laws.Inside.{bit_stays, some_value, votes_said, init_said, vect_said, step_said, bits_met, decided_still, round_still}
use Rattle.multivalued.specs.Laws.Agreement.{of_true, least_passes, verdict_is, valid_inits}

-- ---- decisions

-- that no value is goes by the bit 0, and a value by 1
verdict_bit : (bit : Option Bool) (v : Option (List ℕ)) (o : Option (List ℕ)) → multi_verdict bit v ≡ Some o → bit ≡ Some (is_some o)
verdict_bit None v o q = absurd cc
verdict_bit (Some false) v o q = let e : None ≡ o = cc in ap (λ (x : Option (List ℕ)). Some (is_some x)) e
verdict_bit (Some true) None o q = absurd cc
verdict_bit (Some true) (Some v) o q = let e : Some v ≡ o = cc in ap (λ (x : Option (List ℕ)). Some (is_some x)) e

is_own : (at : Scope) → (at.a == at.a && at.attempt == at.attempt) ≡ true
is_own at = and_from (at.a == at.a) _ (eq-eqb at.a at.a refl) (eq-eqb at.attempt at.attempt refl)

if_stays : {A : Type 0} (f : A → Decision) (k : Bool) (o u : Option A) (d : Decision) → ((x : A) → o ≡ Some x → u ≡ Some x)
    → (if k then option_map f o else None) ≡ Some d → (if k then option_map f u else None) ≡ Some d
if_stays f false o u d stays e = absurd cc
if_stays f true None u d stays e = absurd cc
if_stays f true (Some x) u d stays e = ap (option_map f) (stays x refl) ∙ e

-- ---- slots

-- the slots of a proposal and of a VECT are slots of the instance
own_slot : (at : Scope) (class k : ℕ) → within 3 5 class ≡ true → has_count 200 class 0 ≡ true → has_count 3 class 0 ≡ true
    → is_multi_slot at (record { class = class; a = at.a; attempt = at.attempt; bround = 0; step = 0; origin = k }) ≡ true
own_slot at class k e f g =
    and_from (within 3 5 class) _ e
    (and_from (at.a == at.a) _ (eq-eqb at.a at.a refl) (and_from (at.attempt == at.attempt) _ (eq-eqb at.attempt at.attempt refl) (and_from (has_count 200 class 0) _ f g)))

-- and so is each of a step
outer_slot : (at : Desk) (s : Slot) → IsStepSlot (bench_of at) s → is_multi_slot at.scope s ≡ true
outer_slot at s h =
    and_from (within 3 5 s.class) _ (ap (within 3 5) h.class)
    (and_from (s.a == at.scope.a) _ (eq-eqb s.a at.scope.a h.number)
    (and_from (s.attempt == at.scope.attempt) _ (eq-eqb s.attempt at.scope.attempt h.attempt)
    (and_from (has_count 200 s.class s.bround) _
    (ap (λ (k : ℕ). has_count 200 k s.bround) h.class ∙ and_from (nat_le 1 s.bround) _ (le-leb 1 s.bround h.first_round) (le-leb s.bround 200 h.last_round))
    (ap (λ (k : ℕ). has_count 3 k s.step) h.class ∙ and_from (nat_le 1 s.step) _ (le-leb 1 s.step h.first_step) (le-leb s.step 3 h.last_step)))))

init_value : (p : Numbers) (root : ℕ) (at : Scope) (k : ℕ) → value p root (init_slot at k) ≡ class3 p root
unfolding value
init_value p root at k = refl

vect_value : (p : Numbers) (root : ℕ) (at : Scope) (k : ℕ) → value p root (vect_slot at k) ≡ grammar.vect p root
unfolding value
vect_value p root at k = refl

-- ---- values

module _ (b : BinaryRules) (laws : BoxLaws b) (at : Desk) where
  abbrev r : MultiRules
  r = multivalued b

  abbrev coins : ℕ → Slot → Bool
  coins i = at.coin

  abbrev scope : Scope
  scope = at.scope

  -- what is proposed is of class 3
  proposed_good : (w : List Word) (v : List ℕ) → AreMulti r at w → proposed w ≡ Some v → Is (class3 scope.numbers scope.root) v
  proposed_good [] v m q = absurd cc
  proposed_good (Hear s u ∷ w) v m q = proposed_good w v m.1 q
  proposed_good (Ask u ∷ w) v m q =
      elim (option_or_some (proposed w) (Some u) v q) [
        | inl a ↦ proposed_good w v m.1 a
        | inr a ↦ let e : u ≡ v = cc a.1 in subst (λ (x : List ℕ). Is (class3 scope.numbers scope.root) x) e m.0.1
      ]

  -- and so is what some replica proposed
  init_good : (h : List Word) (v : List ℕ) → AreMulti r at h → (k : ℕ) → has_init scope h v k ≡ true → Is (class3 scope.numbers scope.root) v
  init_good h v m k q =
      subst (λ (f : Format). Is f v) (init_value scope.numbers scope.root scope k)
      (heard_met (MayMulti r at) h (init_slot scope k) v m (is_value_is v (init scope h k) q)).1.good

  -- what is told is a VECT
  told_good : IsSession scope.numbers → (h : List Word) → AreMulti r at h → (o : Option (List ℕ)) → ((v : List ℕ) → o ≡ Some v → support_of scope.numbers ≤ count_passing scope (has_init scope h v))
      → Is (grammar.vect scope.numbers scope.root) (vect_told scope h o)
  told_good session h m None many = vect_none scope.numbers scope.root
  told_good session h m (Some v) many =
      let test = has_init scope h v in
      let mask = mask_l (map test (replicas scope.numbers.n)) in
      let most = session.most in
      let enough = session.enough in
      let l = many v refl in
      let size : length (map test (replicas scope.numbers.n)) ≡ scope.numbers.n = length-map-range_with_len test 0 scope.numbers.n in
      let below : mask < 2 ^ scope.numbers.n = subst (λ (k : ℕ). mask < 2 ^ k) size (mask_l-lt (map test (replicas scope.numbers.n))) in
      let under : scope.numbers.n < 32 = omega (arith, most) in
      let more : 2 ^ scope.numbers.n < 2 ^ 32 = pow-lt under in
      let ones : count_ones mask ≡ count_passing scope test = ones-mask_l test (replicas scope.numbers.n) in
      let support : support_of scope.numbers ≤ count_ones mask = omega (arith, l, ones) in
      let places : is_places scope.numbers.n (support_of scope.numbers) mask ≡ true =
      and_from (nat_lt mask (2 ^ scope.numbers.n)) _ (lt-ltb mask (2 ^ scope.numbers.n) below) (le-leb (support_of scope.numbers) (count_ones mask) support) in
      let k = some_member test (replicas scope.numbers.n) (omega (arith, l, enough)) in
      vect_written scope.numbers scope.root mask v (omega (arith, below, more)) places (init_good h v m k.0 k.1)

  -- and so is what is said
  vect_good : IsSession scope.numbers → (w : List Word) (v : List ℕ) → AreMulti r at w → own_vect scope w ≡ Some v → Is (grammar.vect scope.numbers scope.root) v
  vect_good session w v m q =
      let t = shortest_at (AreMulti r at) (λ c h g. g.1) (vect_now scope) w v m q in
      let i = some_if (is_some (proposed t.0) && nat_le (wait_of scope.numbers) (count_passing scope (λ k. is_some (init scope t.0 k)))) (vect_told scope t.0 (common scope t.0)) v t.2 in
      subst (λ (x : List ℕ). Is (grammar.vect scope.numbers scope.root) x) i.1
      (told_good session t.0 t.1 (common scope t.0) (λ u e. leb-true _ _ (least_passes (λ x. nat_le (support_of scope.numbers) (count_passing scope (has_init scope t.0 x))) (listed (init scope t.0) (replicas scope.numbers.n)) u e)))

  -- ---- what is said, and where

  abbrev bit_says : List Word → Word → List Say
  bit_says w c = b.says (bench_of at) w c

  abbrev new_words : List Word → Word → List Word
  new_words w c = part_of (bit_asked scope) is_step w c

  -- what the binary instance says is at its steps
  inner_class : (w : List Word) (c : Word) (y : Say) → AreMulti r at (c ∷ w) → HasSay (says_in bit_says (new_words w c) (bit_words scope w)) y → y.slot.class ≡ 5
  inner_class w c y m h = (votes_said b scope coins laws at.me (c ∷ w) y m (says_in_all bit_says (new_words w c) (bit_words scope w) y h)).slot.class

  -- where nothing is proposed, nothing was said at its slot, and where there is no VECT, at its
  init_unsaid : (w : List Word) → AreMulti r at w → proposed w ≡ None → is_said (all_said (r.says at) w) (init_slot scope at.me) ≡ false
  init_unsaid w m none = unsaid (all_said (r.says at) w) (init_slot scope at.me) (λ v h. none-some v (sym none ∙ init_said b scope coins laws at.me w v m h))

  vect_unsaid : (w : List Word) → AreMulti r at w → own_vect scope w ≡ None → is_said (all_said (r.says at) w) (vect_slot scope at.me) ≡ false
  vect_unsaid w m none = unsaid (all_said (r.says at) w) (vect_slot scope at.me) (λ v h. none-some v (sym none ∙ vect_said b scope coins laws at.me w v m h))

  -- what is newly said at a slot is apart from what is never said there
  newly_apart : (s : Slot) (o u : Option (List ℕ)) (ys : List Say) → ((v : List ℕ) → HasSay ys (record { slot = s; value = v }) → ⊥)
      → (y : Say) → HasSay (newly s o u) y → is_said ys y.slot ≡ false
  newly_apart s o u ys never y h = subst (λ (q : Slot). is_said ys q ≡ false) (newly_said s o u y.slot y.value h).0 (unsaid ys s never)

  vect_apart : (w : List Word) (c : Word) → AreMulti r at (c ∷ w) → (v : List ℕ)
      → HasSay (says_in bit_says (new_words w c) (bit_words scope w)) (record { slot = vect_slot scope at.me; value = v }) → ⊥
  vect_apart w c m v h = let e = inner_class w c (record { slot = vect_slot scope at.me; value = v }) m h in omega (arith, e)

  init_apart : (w : List Word) (c : Word) → AreMulti r at (c ∷ w) → (v : List ℕ)
      → HasSay (newly (vect_slot scope at.me) (own_vect scope w) (own_vect scope (c ∷ w)) ++ says_in bit_says (new_words w c) (bit_words scope w)) (record { slot = init_slot scope at.me; value = v })
      → ⊥
  init_apart w c m v h =
      elim (say_append (newly (vect_slot scope at.me) (own_vect scope w) (own_vect scope (c ∷ w))) _ _ h) [
        | inl x ↦ let e = ap (λ (q : Slot). q.class) (newly_said _ _ _ (init_slot scope at.me) v x).0 in omega (arith, e)
        | inr x ↦ let e = inner_class w c (record { slot = init_slot scope at.me; value = v }) m x in omega (arith, e)
      ]

  -- ---- what a word says is new

  init_fresh : (w : List Word) (c : Word) → AreMulti r at (c ∷ w)
      → AreFresh (IsMultiSaid at) (all_said (r.says at) w) (newly (init_slot scope at.me) (proposed w) (proposed (c ∷ w)))
  init_fresh w c m = fresh_newly (IsMultiSaid at) (all_said (r.says at) w) (init_slot scope at.me) (proposed w) (proposed (c ∷ w)) (λ v none now. (
    record {
      slot = own_slot scope 3 at.me refl refl refl;
      origin = refl;
      good = subst (λ (f : Format). Is f v) (sym (init_value scope.numbers scope.root scope at.me)) (proposed_good (c ∷ w) v m now);
    },
    init_unsaid w m.1 none,
  ))

  vect_fresh : IsSession scope.numbers → (w : List Word) (c : Word) → AreMulti r at (c ∷ w)
      → AreFresh (IsMultiSaid at) (all_said (r.says at) w) (newly (vect_slot scope at.me) (own_vect scope w) (own_vect scope (c ∷ w)))
  vect_fresh session w c m = fresh_newly (IsMultiSaid at) (all_said (r.says at) w) (vect_slot scope at.me) (own_vect scope w) (own_vect scope (c ∷ w)) (λ v none now. (
    record {
      slot = own_slot scope 4 at.me refl refl refl;
      origin = refl;
      good = subst (λ (f : Format). Is f v) (sym (vect_value scope.numbers scope.root scope at.me)) (vect_good session (c ∷ w) v m now);
    },
    vect_unsaid w m.1 none,
  ))

  -- what the binary instance says is as it must be here
  bit_wider : (y : Say) → IsVoteSaid (bench_of at) y → IsMultiSaid at y
  bit_wider y h = record {
    slot = outer_slot at y.slot h.slot;
    origin = h.origin;
    good = vote_value scope.numbers scope.root y.slot y.value h.vote.vote h.slot.class h.vote.whole h.vote.small;
  }

  -- and new here where it is new there
  bit_unsaid : (w : List Word) (y : Say) → IsVoteSaid (bench_of at) y → is_said (bits_said b (bench_of at) (bit_words scope w)) y.slot ≡ false
      → is_said (all_said (r.says at) w) y.slot ≡ false
  bit_unsaid w y h none =
      unsaid (all_said (r.says at) w) y.slot (λ v s.
      both_ways _ none
      (has_said (bits_said b (bench_of at) (bit_words scope w)) (record { slot = y.slot; value = v }) (step_said b scope coins at.me w y.slot v h.slot.class s)))

  inner_fresh : (w : List Word) (c : Word) → AreMulti r at (c ∷ w)
      → AreFresh (IsMultiSaid at) (all_said (r.says at) w) (says_in bit_says (new_words w c) (bit_words scope w))
  inner_fresh w c m =
      fresh_other (IsVoteSaid (bench_of at)) (IsMultiSaid at) (bits_said b (bench_of at) (bit_words scope w)) (all_said (r.says at) w)
      (says_in bit_says (new_words w c) (bit_words scope w)) bit_wider (bit_unsaid w)
      (fresh_in bit_says (MayBit b (bench_of at)) (IsVoteSaid (bench_of at)) (λ d u k. laws.says_new (bench_of at) d u k)
      (new_words w c) (bit_words scope w) (bits_met b scope coins at.me (c ∷ w) m))

  pub says_new : IsSession scope.numbers → (c : Word) (w : List Word) → AreMulti r at (c ∷ w) → AreFresh (IsMultiSaid at) (all_said (r.says at) w) (r.says at w c)
  says_new session c w m =
      let i = newly (init_slot scope at.me) (proposed w) (proposed (c ∷ w)) in
      let v = newly (vect_slot scope at.me) (own_vect scope w) (own_vect scope (c ∷ w)) in
      let s = says_in bit_says (new_words w c) (bit_words scope w) in
      fresh_append (IsMultiSaid at) (all_said (r.says at) w) i (v ++ s) (init_fresh w c m)
      (fresh_append (IsMultiSaid at) (all_said (r.says at) w) v s (vect_fresh session w c m) (inner_fresh w c m)
      (newly_apart (vect_slot scope at.me) (own_vect scope w) (own_vect scope (c ∷ w)) s (vect_apart w c m)))
      (newly_apart (init_slot scope at.me) (proposed w) (proposed (c ∷ w)) (v ++ s) (init_apart w c m))

  -- ---- what is open

  -- a bit that was proposed stays, and so does what was proposed
  given_stays : (c : Word) (w : List Word) → is_some (bit_asked scope w) ≡ true → is_some (bit_asked scope (c ∷ w)) ≡ true
  given_stays c w q = let v = some_value (bit_asked scope w) q in ap is_some (bit_stays scope c w v.0 v.1)

  proposed_still : (c : Word) (w : List Word) → is_some (proposed w) ≡ true → is_some (proposed (c ∷ w)) ≡ true
  proposed_still c w q = let v = some_value (proposed w) q in ap is_some (proposed_stays c w v.0 v.1)

  pub opens_stays : (c : Word) (w : List Word) (s : Slot) → AreMulti r at (c ∷ w) → r.opens at w s ≡ true → r.opens at (c ∷ w) s ≡ true
  opens_stays c w s m q =
      let x = and_parts (is_multi_slot scope s) _ q in
      and_from (is_multi_slot scope s) _ x.0 (go (is_step s) x.1)
    where
      go : (k : Bool)
          → (if k then is_some (bit_asked scope w) && nat_le s.bround (b.round (bench_of at) (bit_words scope w) + 1) else is_some (proposed w)) ≡ true
          → (if k then is_some (bit_asked scope (c ∷ w)) && nat_le s.bround (b.round (bench_of at) (bit_words scope (c ∷ w)) + 1) else is_some (proposed (c ∷ w))) ≡ true
      go false e = proposed_still c w e
      go true e =
          let y = and_parts (is_some (bit_asked scope w)) _ e in
          let near = leb-true _ _ y.1 in
          let later = round_still b scope coins laws at.me c w m in
          and_from (is_some (bit_asked scope (c ∷ w))) _ (given_stays c w y.0)
          (le-leb s.bround (b.round (bench_of at) (bit_words scope (c ∷ w)) + 1) (omega (arith, near, later)))

  -- ---- the decision

  pub decision_stays : (c : Word) (w : List Word) (d : Option (List ℕ)) → r.decision at w ≡ Some d → r.decision at (c ∷ w) ≡ Some d
  decision_stays c w d q = option_or_older (multi_decision b at w) (decision_at b at (c ∷ w)) d q

  pub inside_stays : (c : Word) (w : List Word) (x : Instance) (d : Decision) → AreMulti r at (c ∷ w) → r.inside at w x ≡ Some d → r.inside at (c ∷ w) x ≡ Some d
  inside_stays c w (OfVector a) d m q = absurd cc
  inside_stays c w (OfValue a t) d m q =
      if_stays value_decision (a == scope.a && t == scope.attempt) (multi_decision b at w) (multi_decision b at (c ∷ w)) d (λ x e. decision_stays c w x e) q
  inside_stays c w (OfBit a t) d m q =
      if_stays Bit (a == scope.a && t == scope.attempt) (b.decision (bench_of at) (bit_words scope w)) (b.decision (bench_of at) (bit_words scope (c ∷ w))) d
      (λ x e. decided_still b scope coins laws at.me c w m x e) q

  -- the words before it, with the bit that was decided in them
  record IsBefore (w h : List Word) : Type 0 where
    met : AreMulti r at h
    bit : (x : Bool) → b.decision (bench_of at) (bit_words scope h) ≡ Some x → b.decision (bench_of at) (bit_words scope w) ≡ Some x

  -- it is decided by the bit
  bit_by : (w : List Word) (o : Option (List ℕ)) → AreMulti r at w → multi_decision b at w ≡ Some o → b.decision (bench_of at) (bit_words scope w) ≡ Some (is_some o)
  bit_by w o m q =
      let t = shortest_at (IsBefore w)
      (λ c h g. record { met = g.met.1; bit = λ x e. g.bit x (decided_still b scope coins laws at.me c h g.met x e) })
      (decision_at b at) w o (record { met = m; bit = λ x e. e }) q in
      t.1.bit (is_some o) (verdict_bit (b.decision (bench_of at) (bit_words scope t.0)) (supported scope t.0) o t.2)

  pub inside_own : (w : List Word) → r.inside at w (OfValue scope.a scope.attempt) ≡ option_map value_decision (multi_decision b at w)
  inside_own w = ap (λ (k : Bool). if k then option_map value_decision (multi_decision b at w) else None) (is_own scope)

  pub inside_bit : (w : List Word) (a t : ℕ) → AreMulti r at w → GoesByBit (r.inside at w) a t
  inside_bit w a t m o q = go (a == scope.a && t == scope.attempt) q
    where
      go : (k : Bool) → (if k then option_map value_decision (multi_decision b at w) else None) ≡ Some (value_decision o)
          → (if k then option_map Bit (b.decision (bench_of at) (bit_words scope w)) else None) ≡ Some (Bit (is_some o))
      go false e = absurd cc
      go true e =
          let x = decided_value (multi_decision b at w) (value_decision o) e in
          ap (option_map Bit) (bit_by w o m (x.1 ∙ ap Some (sym (same_value o x.0 x.2))))

  -- a value that enough valid VECTs have is of class 3
  supported_good : IsSession scope.numbers → (h : List Word) (v : List ℕ) → AreMulti r at h → supported scope h ≡ Some v → Is (class3 scope.numbers scope.root) v
  supported_good session h v m q =
      let enough = session.enough in
      let l = leb-true _ _ (least_passes (λ x. nat_le (support_of scope.numbers) (vect_backers scope h x)) (candidates scope h) v q) in
      let k = some_member (λ k. is_of v (valid scope h k)) (replicas scope.numbers.n) (omega (arith, l, enough)) in
      let x = valid_inits scope h (value_at h (vect_slot scope k.0)) v (of_true v _ k.1) in
      let y = x.1 in
      let j = some_member (λ k. has_member x.0 k && has_init scope h v k) (replicas scope.numbers.n) (omega (arith, y, enough)) in
      init_good h v m j.0 (and_parts (has_member x.0 j.0) (has_init scope h v j.0) j.1).1

  pub decision_good : IsSession scope.numbers → (w : List Word) (v : List ℕ) → AreMulti r at w → r.decision at w ≡ Some (Some v) → Is (class3 scope.numbers scope.root) v
  decision_good session w v m q =
      let t = shortest_at (AreMulti r at) (λ c h g. g.1) (decision_at b at) w (Some v) m q in
      elim (verdict_is (b.decision (bench_of at) (bit_words scope t.0)) (supported scope t.0) (Some v) t.2) [
        | inl x ↦ absurd (none-some v (sym x.1))
        | inr x ↦
            let e : x.0 ≡ v = let f = x.3 in cc in
            subst (λ (u : List ℕ). Is (class3 scope.numbers scope.root) u) e (supported_good session t.0 x.0 t.1 x.2)
      ]

-- before any word nothing is decided
none_mapped : {A : Type 0} (f : A → Decision) (c : Bool) (o : Option A) → o ≡ None → (if c then option_map f o else None) ≡ None
none_mapped f true o e = ap (option_map f) e
none_mapped f false o e = refl

inside_first : (b : BinaryRules) → BoxLaws b → (at : Desk) (x : Instance) → (multivalued b).inside at [] x ≡ None
inside_first b laws at (OfBit a t) = none_mapped Bit (a == at.scope.a && t == at.scope.attempt) (b.decision (bench_of at) []) (laws.decision_first (bench_of at))
inside_first b laws at (OfValue a t) =
    none_mapped value_decision (a == at.scope.a && t == at.scope.attempt) (multi_decision b at [])
    (ap (λ (o : Option Bool). multi_verdict o (supported at.scope [])) (laws.decision_first (bench_of at)))
inside_first b laws at (OfVector a) = refl

-- before any word nothing is open
none_open : (a b : Bool) → (a && (if b then false else false)) ≡ false
none_open true true = refl
none_open true false = refl
none_open false b = refl

-- the laws of a single value
pub multi_laws_law : (b : BinaryRules) → BoxLaws b → MultiLaws (multivalued b)
multi_laws_law b laws = record {
  says_new = λ at c w session m. says_new b laws at session c w m;
  opens_stays = λ at c w s m q. opens_stays b laws at c w s m q;
  opens_first = λ at s. none_open (is_multi_slot at.scope s) (is_step s);
  decision_first = λ at. ap (λ (o : Option Bool). multi_verdict o (supported at.scope [])) (laws.decision_first (bench_of at));
  decision_stays = λ at c w d m q. decision_stays b laws at c w d q;
  decision_good = λ at w v session m q. decision_good b laws at session w v m q;
  inside_own = λ at w. inside_own b laws at w;
  inside_bit = λ at w a t m. inside_bit b laws at w a t m;
  inside_stays = λ at c w x d m q. inside_stays b laws at c w x d m q;
  inside_first = λ at x. inside_first b laws at x;
}
