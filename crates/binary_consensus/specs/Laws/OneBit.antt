-- The law of one bit: over every run, all decisions are equal, and a decided bit was proposed by a correct replica.
use Rattle.std.specs.Prelude.{◌≡◌, ℕ, zero, suc, ◌+◌, ◌*◌, ◌/◌, ◌%◌, ◌<◌, ◌≤◌, ◌==◌, nat_le, Bool, true, false, not, ◌&&◌, if◌then◌else◌, List, [], ◌∷◌, length, count_by, Option, Some, None, is_some, refl, ◌⊎◌}
use Rattle.std.proofs.Common.{sym, ◌∙◌, ap, subst, inl, inr, arith}
use Rattle.std.proofs.lemmas.Bool.{leb-true, eqb-true, eq-eqb, and_parts, and_from, cases_Bool, cases_eq, cases_lt, both_ways}
use Rattle.std.proofs.lemmas.List.FromFn.{length-range_with_len}
use Rattle.ritas_base.specs.declared.slot.Slot.{Slot}
use Rattle.ritas_base.specs.declared.item.Say.{Say}
use Rattle.ritas_base.specs.Numbers.{Numbers, wait_of, deliver_of}
use Rattle.ritas_base.specs.History.{replicas}
use Rattle.ritas_base.specs.Quorums.{count_none, meet_two}
use Rattle.ritas_base.specs.Shortest.{option_or_some}
use Rattle.layer_api.specs.Runs.{ReplicaStep, calls_of, Has, IsEnough}
use Rattle.layer_api.specs.Words.{Word, Ask, Hear, HasSay, value_at, bit_byte}
use Rattle.layer_api.specs.Fed.{Play, IsFedRun}
use Rattle.layer_api.specs.FedLaws.{some_if, say_append, say_later, shortest_at, value_stays, heard_met, one_value, heard_said, met}
use Rattle.layer_api.specs.Binary.{Bench, MayBit, bench_at, binary_play, vote_limit, bits_said}
use Rattle.bracha_validation.specs.Votes.{votes}
use Rattle.bracha_validation.specs.PickLaws.{no_bit, length_three}
use Rattle.bracha_validation.specs.RuleLaws.{FirstSays, first_gives}
use Rattle.binary_consensus.specs.Steps.{step_of, line_slot, vote_in, vote_heard, heard, accepts, accepted}
use Rattle.binary_consensus.specs.Consensus.{proposed_vote, enough_at, left, step_verdict, decides, stage, vote_said, decided_below, steps, newly_voted, steps_say_below, binary_decision, binary}
use Rattle.binary_consensus.specs.Laws.Acceptance.{has_passing_vote, holds_some, holds_is, is, count_accepted, count_listed, accepts_follows}
use Rattle.binary_consensus.specs.Laws.Lock.{HeardVotes, same_bit}
use Rattle.binary_consensus.specs.Laws.Lock as Lock
use Rattle.binary_consensus.specs.Laws.Stays.{stays}

-- ---- what is said at a step

pub one_step : (at : Bench) (t s k j : ℕ) → line_slot at t k ≡ line_slot at s j → t ≡ s
one_step at t s k j e =
    let r : t / 3 + 1 ≡ s / 3 + 1 = ap (λ (q : Slot). q.bround) e in
    let m : t % 3 + 1 ≡ s % 3 + 1 = ap (λ (q : Slot). q.step) e in
    omega arith

-- what is newly said is the vote that is there now
pub newly_said : (slot : Slot) (before after : Option ℕ) (s : Slot) (v : List ℕ) → HasSay (newly_voted slot before after) (record { slot = s; value = v })
    → (slot ≡ s) × (x : ℕ) × (v ≡ x ∷ []) × (after ≡ Some x)
newly_said slot before None s v h = absurd h
newly_said slot None (Some u) s v (inl e) = (ap (λ (y : Say). y.slot) e, u, sym (ap (λ (y : Say). y.value) e), refl)
newly_said slot None (Some u) s v (inr h) = absurd h
newly_said slot (Some x) (Some u) s v h = absurd h

-- a value is the vote that is said at a step, one of the first n
pub record IsSaidAt (at : Bench) (n t : ℕ) (w : List Word) (v : List ℕ) : Type 0 where
  pub below : t < n
  pub vote : ℕ
  pub whole : v ≡ vote ∷ []
  pub is_said : vote_said at t w ≡ Some vote

-- what a word says at a step is what is said there after it
pub says_said : (at : Bench) (n : ℕ) (w : List Word) (c : Word) (t : ℕ) (v : List ℕ)
    → HasSay (steps_say_below at n w c) (record { slot = line_slot at t at.me; value = v }) → IsSaidAt at n t (c ∷ w) v
says_said at zero w c t v h = absurd h
says_said at (suc n) w c t v h =
    elim (say_append (steps_say_below at n w c) _ _ h) [
      | inl a ↦
          let x = says_said at n w c t v a in
          let l = x.below in
          record { below = omega (arith, l); vote = x.vote; whole = x.whole; is_said = x.is_said }
      | inr b ↦
          let e = newly_said (line_slot at n at.me) (vote_said at n w) (vote_said at n (c ∷ w)) (line_slot at t at.me) v b in
          let same = one_step at n t at.me at.me e.0 in
          record { below = omega (arith, same); vote = e.1; whole = e.2; is_said = subst (λ (m : ℕ). vote_said at m (c ∷ w) ≡ Some e.1) same e.3 }
    ]

-- and so is all that is put out
pub put_said : (at : Bench) (w : List Word) (t : ℕ) (v : List ℕ) → HasSay (bits_said binary at w) (record { slot = line_slot at t at.me; value = v })
    → IsSaidAt at steps t w v
put_said at [] t v h = absurd h
put_said at (c ∷ w) t v h =
    elim (say_append (steps_say_below at steps w c) _ _ h) [
      | inl a ↦ says_said at steps w c t v a
      | inr b ↦
          let x = put_said at w t v b in
          record { below = x.below; vote = x.vote; whole = x.whole; is_said = (stays at t c w x.vote x.is_said).0 }
    ]

-- ---- what is proposed and heard

vote_alone : (value : List ℕ) (v : ℕ) → vote_in value ≡ Some v → value ≡ v ∷ []
vote_alone [] v q = absurd cc
vote_alone (u ∷ []) v q = let e : u ≡ v = cc in ap (λ (x : ℕ). x ∷ []) e
vote_alone (u ∷ x ∷ xs) v q = absurd cc

proposal_has : (w : List Word) (v : ℕ) → proposed_vote w ≡ Some v → Has w (Ask (v ∷ []))
proposal_has [] v q = absurd cc
proposal_has (Hear s value ∷ w) v q = inr (proposal_has w v q)
proposal_has (Ask value ∷ w) v q =
    elim (option_or_some (proposed_vote w) (vote_in value) v q) [
      | inl a ↦ inr (proposal_has w v a)
      | inr b ↦ inl (ap Ask (vote_alone value v b.1))
    ]

pub vote_from : (o : Option (List ℕ)) (v : ℕ) → vote_heard o ≡ Some v → o ≡ Some (v ∷ [])
vote_from None v q = absurd cc
vote_from (Some value) v q = ap Some (vote_alone value v q)

-- ---- a run

module _ (p : Numbers) (a attempt : ℕ) (is_correct : ℕ → Bool) (coins : ℕ → Slot → Bool) (xs : List (ReplicaStep Word)) where
  abbrev pub bench : ℕ → Bench
  bench i = bench_at p a attempt coins i

  abbrev play : Play
  play = binary_play binary p a attempt coins

  module _ (enough : IsEnough p is_correct) (fed : IsFedRun play is_correct xs) where
    -- what is heard is a vote of its step
    small_vote : (i : ℕ) (s : Slot) (v : ℕ) → value_at (calls_of i xs) s ≡ Some (v ∷ []) → v < vote_limit s.step
    small_vote i s v q =
        let m = (heard_met (MayBit binary (bench i)) (calls_of i xs) s (v ∷ []) (met play is_correct xs fed i) q).1 in
        let whole = m.1 in
        let same : v ≡ m.0 = cc in
        let small = m.2.value in
        omega (arith, same, small)

    -- a part of what a correct replica has heard
    abbrev View : HeardVotes → Type 0
    View g = (i : ℕ) × (is_correct i ≡ true) × ((t k v : ℕ) → g t k ≡ Some v → heard (bench i) (calls_of i xs) t k ≡ Some v)

    one : (g h : HeardVotes) → View g → View h → (t k v u : ℕ) → g t k ≡ Some v → h t k ≡ Some u → v ≡ u
    one g h x y t k v u q r =
        let s = line_slot (bench x.0) t k in
        let m = vote_from (value_at (calls_of x.0 xs) s) v (x.2 t k v q) in
        let n = vote_from (value_at (calls_of y.0 xs) s) u (y.2 t k u r) in
        let e : v ∷ [] ≡ u ∷ [] = one_value play is_correct xs fed x.0 y.0 s (v ∷ []) (u ∷ []) x.1 y.1 m n in
        cc

    -- the words of a correct replica, or fewer
    abbrev Words : ℕ → List Word → Type 0
    Words i w = (s : Slot) (v : List ℕ) → value_at w s ≡ Some v → value_at (calls_of i xs) s ≡ Some v

    view_of : (i : ℕ) → is_correct i ≡ true → (w : List Word) → Words i w → View (heard (bench i) w)
    view_of i c w h = (i, c, λ t k v q. ap vote_heard (h (line_slot (bench i) t k) (v ∷ []) (vote_from _ v q)))

    few : 3 * p.f < p.n
    few = let e = enough.session.enough in omega arith

    abbrev IsDecision : Bool → ℕ → HeardVotes → Type 0
    IsDecision b t g = Lock.IsDecision p few View one b t g

    -- what is decided below a step is decided by such votes
    decided : (i : ℕ) → is_correct i ≡ true → (t : ℕ) (w : List Word) (b : Bool) → Words i w → decided_below (bench i) t w ≡ Some b
        → (s : ℕ) × ((g : HeardVotes) × IsDecision b s g)
    decided i c zero w b h q = absurd cc
    decided i c (suc t) w b h q =
        elim (option_or_some (decided_below (bench i) t w) (decides p t (left (bench i) t w)) b q) [
          | inl x ↦ decided i c t w b h x
          | inr x ↦ go (left (bench i) t w) refl x.1
        ]
      where
        many : (vs : List ℕ) (m n d : Bool) → nat_le (deliver_of p) (votes 0 vs) ≡ m → nat_le (deliver_of p) (votes 1 vs) ≡ n
            → (if m then Some false else if n then Some true else None) ≡ Some d → 2 * p.f + 1 ≤ votes (bit_byte d) vs
        many vs true n false x y r = leb-true _ _ x
        many vs true n true x y r = absurd cc
        many vs false true true x y r = leb-true _ _ y
        many vs false true false x y r = absurd cc
        many vs false false d x y r = absurd cc

        by_votes : (g : List Word) → Words i g → (step : ℕ) → step_of t ≡ step → (r : Bool) → (step == 3) ≡ r → step_verdict p step (accepted p (heard (bench i) g) t) ≡ Some b
            → IsDecision b t (heard (bench i) g)
        by_votes g wg step e true f q =
            let third : step ≡ 3 = eqb-true step 3 f in
            let vs = accepted p (heard (bench i) g) t in
            let v : step_verdict p 3 vs ≡ Some b = subst (λ (s : ℕ). step_verdict p s vs ≡ Some b) third q in
            let l = many vs (nat_le (deliver_of p) (votes 0 vs)) (nat_le (deliver_of p) (votes 1 vs)) b refl refl v in
            let x = count_listed (is (bit_byte b)) (accepts p (heard (bench i) g) t) (replicas p.n) in
            record { third = e ∙ third; view = view_of i c g wg; many = omega (arith, l, x) }
        by_votes g wg step e false f q =
            let vs = accepted p (heard (bench i) g) t in
            let z : None ≡ Some b = sym (ap (λ (r : Bool). if r then (if nat_le (deliver_of p) (votes 0 vs) then Some false else if nat_le (deliver_of p) (votes 1 vs) then Some true else None) else None) f) ∙ q in
            absurd cc

        go : (o : Option (List ℕ)) → left (bench i) t w ≡ o → decides p t o ≡ Some b → (s : ℕ) × ((g : HeardVotes) × IsDecision b s g)
        go None e r = absurd cc
        go (Some vs) e r =
            let f = shortest_at (Words i) (λ c cs k s v q. k s v (value_stays c cs s v q)) (enough_at (bench i) t (stage (bench i) t).said) w vs h e in
            let n = some_if (is_some ((stage (bench i) t).said f.0) && nat_le (wait_of p) (length (accepted p (heard (bench i) f.0) t))) (accepted p (heard (bench i) f.0) t) vs f.2 in
            let v : step_verdict p (step_of t) (accepted p (heard (bench i) f.0) t) ≡ Some b = subst (λ (us : List ℕ). step_verdict p (step_of t) us ≡ Some b) (sym n.1) r in
            (t, (heard (bench i) f.0, by_votes f.0 f.1 (step_of t) refl (step_of t == 3) refl v))

    all_words : (i : ℕ) → Words i (calls_of i xs)
    all_words i s v q = q

    pub agree : (i j : ℕ) (b d : Bool) → is_correct i ≡ true → is_correct j ≡ true
        → binary_decision (bench i) (calls_of i xs) ≡ Some b → binary_decision (bench j) (calls_of j xs) ≡ Some d → b ≡ d
    agree i j b d ci cj q r =
        let x = decided i ci steps (calls_of i xs) b (all_words i) q in
        let y = decided j cj steps (calls_of j xs) d (all_words j) r in
        Lock.agree p few View one x.0 y.0 b d x.1.0 y.1.0 x.1.1 y.1.1

    -- ---- validity

    abbrev is_vote : ℕ → Option ℕ → Bool
    is_vote v o = has_passing_vote (is v) o

    abbrev Proposes : Bool → ℕ → Bool
    Proposes b k = is_correct k && is_vote (bit_byte b) (proposed_vote (calls_of k xs))

    is_vote_from : (o : Option ℕ) (v : ℕ) → o ≡ Some v → is_vote v o ≡ true
    is_vote_from None v q = absurd cc
    is_vote_from (Some u) v q = let e : u ≡ v = cc in eq-eqb u v e

    -- a bit that more than f origins have at the first step was proposed by a correct replica
    proposed : (b : Bool) (g : HeardVotes) → View g → p.f < count_accepted p (is (bit_byte b)) g 0 → (k : ℕ) × (k < p.n) × (Proposes b k ≡ true)
    proposed b g vg l =
        let many = enough.many in
        let size = length-range_with_len 0 p.n in
        let m = meet_two (λ k. has_passing_vote (is (bit_byte b)) (accepts p g 0 k)) is_correct (replicas p.n) (omega (arith, l, many, size)) in
        let k = m.member in
        let e = vg.2 0 k (bit_byte b) (holds_is (accepts p g 0 k) (bit_byte b) m.first) in
        let more = λ (k : ℕ) (c : Word) (w : List Word) (y : Say) (h : HasSay (play.said k w) y). say_later (binary.says (bench k) w c) (play.said k w) y h in
        let h = heard_said play is_correct more xs fed vg.0 (line_slot (bench vg.0) 0 k) (bit_byte b ∷ []) (vote_from _ (bit_byte b) e) m.second in
        let d = put_said (bench k) (calls_of k xs) 0 (bit_byte b ∷ []) h in
        (k, enough.within k m.second, and_from (is_correct k) _ m.second (is_vote_from _ (bit_byte b) (d.is_said ∙ ap vote_in (sym d.whole))))

    few_votes : (b : Bool) → ((k : ℕ) → k < p.n → Proposes b k ≡ true → ⊥) → (g : HeardVotes) → View g → count_accepted p (is (bit_byte b)) g 0 ≤ p.f
    few_votes b none g vg =
        elim (cases_lt p.f (count_accepted p (is (bit_byte b)) g 0)) [
          | inl many ↦ let k = proposed b g vg many in absurd (none k.0 k.1 k.2)
          | inr few ↦ few
        ]

    not_bit : (v : ℕ) → v < 2 → no_bit v ≡ true → ⊥
    not_bit zero l q = absurd cc
    not_bit (suc zero) l q = absurd cc
    not_bit (suc (suc v)) l q = absurd (omega arith)

    -- where no correct replica proposed it, all that is accepted at the second step is the other bit
    unproposed : (b : Bool) → ((k : ℕ) → k < p.n → Proposes b k ≡ true → ⊥) → Lock.IsLocked p few View one 1 (bit_byte (not b))
    unproposed b none g vg k w q =
        let y = accepts_follows p g 0 k w q in
        let bits = count_none (λ k. has_passing_vote no_bit (accepts p g 0 k)) (replicas p.n) (λ l h.
        let x = holds_some no_bit (accepts p g 0 l) h in
        not_bit x.0 (small_vote vg.0 (line_slot (bench vg.0) 0 l) x.0 (vote_from _ x.0 (vg.2 0 l x.0 x.1))) x.2) in
        let z = y.within no_bit in
        let o = y.within (is (bit_byte b)) in
        let f = few_votes b none g vg in
        last b y.set w (first_gives p y.set w y.given) (omega (arith, o, f)) (omega (arith, z, bits)) y.size
      where
        last : (b : Bool) (ys : List ℕ) (w : ℕ) → FirstSays ys w → votes (bit_byte b) ys ≤ p.f → count_by no_bit ys ≡ 0 → length ys ≡ wait_of p → w ≡ bit_byte (not b)
        last true ys w v l z e = let q = few in let s = length_three ys in omega arith
        last false ys w v l z e = let q = few in let s = length_three ys in omega arith

    -- none below n passes, or some does
    none_or_some : (test : ℕ → Bool) (n : ℕ) → ((k : ℕ) → k < n → test k ≡ true → ⊥) ⊎ ((k : ℕ) × (test k ≡ true))
    none_or_some test zero = inl (λ k l q. absurd (omega (arith, l)))
    none_or_some test (suc n) =
        elim (cases_Bool (test n)) [
          | inl here ↦ inr (n, here)
          | inr off ↦ elim (none_or_some test n) [
            | inl none ↦ inl (λ k l q. elim (cases_eq k n) [
              | inl same ↦ both_ways _ off (subst (λ (m : ℕ). test m ≡ true) same q)
              | inr other ↦ none k (omega (arith, l, other)) q
            ])
            | inr some ↦ inr some
          ]
        ]

    -- a bit that is decided is the vote that a correct replica proposed
    pub valid_vote : (i : ℕ) (b : Bool) → is_correct i ≡ true → binary_decision (bench i) (calls_of i xs) ≡ Some b
        → (k : ℕ) × (is_correct k ≡ true) × (proposed_vote (calls_of k xs) ≡ Some (bit_byte b))
    valid_vote i b ci q =
        elim (none_or_some (Proposes b) p.n) [
          | inl none ↦
              let x = decided i ci steps (calls_of i xs) b (all_words i) q in
              let late = third_late x.0 x.1.1.third in
              absurd (other b (Lock.locked_decides p few View one 1 x.0 (not b) b x.1.0 (unproposed b none) late x.1.1))
          | inr some ↦
              let e = and_parts (is_correct some.0) _ some.1 in
              (some.0, e.0, holds_is (proposed_vote (calls_of some.0 xs)) (bit_byte b) e.1)
        ]
      where
        other : (d : Bool) → bit_byte d ≡ bit_byte (not d) → ⊥
        other true e = absurd (omega arith)
        other false e = absurd (omega arith)

        third_late : (t : ℕ) → step_of t ≡ 3 → 1 ≤ t
        third_late t e = omega arith

    pub valid : (i : ℕ) (b : Bool) → is_correct i ≡ true → binary_decision (bench i) (calls_of i xs) ≡ Some b
        → (k : ℕ) × (is_correct k ≡ true) × Has (calls_of k xs) (Ask (bit_byte b ∷ []))
    valid i b ci q = let k = valid_vote i b ci q in (k.0, k.1, proposal_has (calls_of k.0 xs) (bit_byte b) k.2)
