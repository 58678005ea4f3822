-- The votes that are accepted, by counts of those heard, and what a word that hears changes.
use Rattle.std.proofs.Common.{◌≡◌, ℕ, zero, suc, ◌+◌, ◌<◌, ◌≤◌, ◌==◌, Bool, true, false, if◌then◌else◌, List, [], ◌∷◌, count_by, Option, Some, None, inl, inr, refl, sym, ◌∙◌, ap, ap₂, subst, arith, eqb-true}
use Rattle.std.specs.Option.{option_or}
use Rattle.std.specs.List.{range_with_len}
use Rattle.std.proofs.lemmas.Bool.{cases_Bool, cases_eq, both_ways, false_from_ne_true}
use Rattle.ritas_base.specs.declared.slot.Slot.{Slot}
use Rattle.ritas_base.specs.Numbers.{Numbers}
use Rattle.ritas_base.specs.Quorums.{count_same, count_none, count_more}
use Rattle.ritas_base.specs.Shortest.{option_or_none}
use Rattle.ritas_base.specs.SlotOrder.{same_slot, slot_itself}
use Rattle.layer_api.specs.Words.{Word, Hear, is_heard, value_at}
use Rattle.layer_api.specs.PartLaws.{unheard}
use Rattle.layer_api.specs.Binary.{Bench}
use Rattle.bracha_validation.specs.declared.tally.Tally.{Tally}
use Rattle.bracha_validation.specs.Votes.{votes, may_give}
use Rattle.bracha_validation.specs.Tallies.{tally_votes, IsTally, DependsOnCounts}
use Rattle.ritas_base.specs.Places.{push, listed}
use Rattle.binary_consensus.specs.Steps.{step_of, line_slot, vote_heard, heard, passed_vote, accepted}
use Rattle.binary_consensus.specs.Laws.Acceptance.{has_passing_vote, count_listed}
use Rattle.binary_consensus.specs.Laws.OneBit.{one_step}
use Rattle.binary_consensus.specs.Counts.{count_kept, tally_taken, row_votes, HeardRows, HearsOneVote}
use Rattle.binary_consensus.specs.Going.{AreRowsHeard}
use Rattle.binary_consensus.proofs.RowCounts.{is_other, length_four}

-- ---- what is accepted, by counts

holds_passed : (s test : ℕ → Bool) (o : Option ℕ) → has_passing_vote s (passed_vote test o) ≡ true → has_passing_vote s o ≡ true
holds_passed s test None q = absurd cc
holds_passed s test (Some v) q = go (test v) q
  where
    go : (b : Bool) → has_passing_vote s (if b then Some v else None) ≡ true → s v ≡ true
    go true q = q
    go false q = absurd cc

passes_all : (v : ℕ) (test : ℕ → Bool) → test v ≡ true → (o : Option ℕ) → has_passing_vote (λ x. x == v) (passed_vote test o) ≡ has_passing_vote (λ x. x == v) o
passes_all v test t None = refl
passes_all v test t (Some x) = go (test x) refl
  where
    go : (b : Bool) → test x ≡ b → has_passing_vote (λ y. y == v) (if b then Some x else None) ≡ (x == v)
    go true e = refl
    go false e = sym (false_from_ne_true _ (λ q. both_ways (test x) e (subst (λ (y : ℕ). test y ≡ true) (sym (eqb-true x v q)) t)))

passes_none : (v : ℕ) (test : ℕ → Bool) → test v ≡ false → (o : Option ℕ) → has_passing_vote (λ x. x == v) (passed_vote test o) ≡ true → ⊥
passes_none v test t None q = absurd cc
passes_none v test t (Some x) q = go (test x) refl q
  where
    go : (b : Bool) → test x ≡ b → has_passing_vote (λ y. y == v) (if b then Some x else None) ≡ true → ⊥
    go true e q = both_ways (test v) t (subst (λ (y : ℕ). test y ≡ true) (eqb-true x v q) e)
    go false e q = absurd cc

-- of the votes of one value all are accepted or none
votes_passed : (v : ℕ) (test : ℕ → Bool) (a : ℕ → Option ℕ) (ks : List ℕ) → votes v (listed (λ k. passed_vote test (a k)) ks) ≡ count_kept (test v) (votes v (listed a ks))
votes_passed v test a ks =
    let here = count_listed (λ x. x == v) (λ k. passed_vote test (a k)) ks in
    let all = count_listed (λ x. x == v) a ks in
    elim (cases_Bool (test v)) [
      | inl t ↦ here ∙ (count_same _ _ (λ k. passes_all v test t (a k)) ks ∙ (sym all ∙ sym (ap (λ (b : Bool). count_kept b (votes v (listed a ks))) t)))
      | inr f ↦ here ∙ (count_none _ ks (λ k q. passes_none v test f (a k) q) ∙ sym (ap (λ (b : Bool). count_kept b (votes v (listed a ks))) f))
    ]

others_passed : (test : ℕ → Bool) (a : ℕ → Option ℕ) (ks : List ℕ) → count_by is_other (listed (λ k. passed_vote test (a k)) ks) ≤ count_by is_other (listed a ks)
others_passed test a ks =
    let here = count_listed is_other (λ k. passed_vote test (a k)) ks in
    let all = count_listed is_other a ks in
    let more = count_more (λ k. has_passing_vote is_other (passed_vote test (a k))) (λ k. has_passing_vote is_other (a k)) (λ k q. holds_passed is_other test (a k) q) ks in
    omega (arith, here, all, more)

kept_votes : (b : Bool) (n m : ℕ) → n ≡ m → count_kept b n ≡ count_kept b m
kept_votes b n m e = ap (count_kept b) e

pub taken_tally : DependsOnCounts → (p : Numbers) (t : ℕ) (before heard : Tally) (vs : List ℕ) (a : ℕ → Option ℕ) (ks : List ℕ) → IsTally before vs → IsTally heard (listed a ks)
    → IsTally (tally_taken p (suc t) before heard) (listed (λ k. passed_vote (λ v. may_give p (step_of t) v vs) (a k)) ks)
taken_tally alone p t before heard vs a ks is tally =
    let test : ℕ → Bool = λ v. may_give p (step_of t) v vs in
    let value : (v n : ℕ) → votes v (listed a ks) ≡ n → votes v (listed (λ k. passed_vote test (a k)) ks) ≡ count_kept (may_give p (step_of t) v (tally_votes before)) n =
    λ v n e. votes_passed v test a ks ∙ (ap (count_kept (test v)) e ∙ ap (λ (b : Bool). count_kept b n) (alone p (step_of t) v before vs is)) in
    let z = value 0 heard.zeros tally.zeros in
    let o = value 1 heard.ones tally.ones in
    let u = value 2 heard.nones tally.nones in
    let all = length_four (listed (λ k. passed_vote test (a k)) ks) in
    let some = others_passed test a ks in
    let rest = length_four (listed a ks) in
    let tz = tally.zeros in let to = tally.ones in let tu = tally.nones in let ta = tally.all in
    record { zeros = z; ones = o; nones = u; all = omega (arith, z, o, u, all, some, rest, tz, to, tu, ta) }

-- ---- the same votes

listed_same : (a b : ℕ → Option ℕ) (from n : ℕ) → ((k : ℕ) → k < from + n → a k ≡ b k) → listed a (range_with_len from n) ≡ listed b (range_with_len from n)
listed_same a b from zero same = refl
listed_same a b from (suc n) same = ap₂ push (same from (omega arith)) (listed_same a b (from + 1) n (λ k l. same k (omega (arith, l))))

-- where the same was heard, the same is accepted
pub same_accepted : (p : Numbers) (a b : ℕ → ℕ → Option ℕ) (t : ℕ) → ((s k : ℕ) → s ≤ t → k < p.n → a s k ≡ b s k) → accepted p a t ≡ accepted p b t
same_accepted p a b zero same = listed_same (a 0) (b 0) 0 p.n (λ k l. same 0 k (omega arith) (omega (arith, l)))
same_accepted p a b (suc t) same =
    let before = same_accepted p a b t (λ s k l m. same s k (omega (arith, l)) m) in
    listed_same _ _ 0 p.n (λ k l.
    ap₂ (λ (vs : List ℕ) (o : Option ℕ). passed_vote (λ v. may_give p (step_of t) v vs) o) before (same (suc t) k (omega arith) (omega (arith, l))))

-- ---- a word that hears

heard_now : (at : Bench) (w : List Word) (t k v : ℕ) → is_heard w (line_slot at t k) ≡ false → heard at (Hear (line_slot at t k) (v ∷ []) ∷ w) t k ≡ Some v
heard_now at w t k v first =
    ap vote_heard (ap₂ (λ (o : Option (List ℕ)) (b : Bool). option_or o (if b then Some (v ∷ []) else None)) (unheard w (line_slot at t k) first) (slot_itself (line_slot at t k)))

heard_still : (at : Bench) (w : List Word) (t k s j v : ℕ) → (line_slot at t k ≡ line_slot at s j → ⊥) → heard at (Hear (line_slot at t k) (v ∷ []) ∷ w) s j ≡ heard at w s j
heard_still at w t k s j v ne =
    ap vote_heard
    (ap (λ (b : Bool). option_or (value_at w (line_slot at s j)) (if b then Some (v ∷ []) else None)) (false_from_ne_true _ (λ e. ne (same_slot _ _ e)))
    ∙ option_or_none (value_at w (line_slot at s j)))

-- at a step nothing was heard from an origin whose word is the first
pub unheard_row : (at : Bench) (rows : List (List ℕ)) (w : List Word) (t k : ℕ) → AreRowsHeard at rows w → t < 600 → k < at.numbers.n → is_heard w (line_slot at t k) ≡ false
    → row_votes rows t k ≡ None
unheard_row at rows w t k are l within first = are t k l within ∙ ap vote_heard (unheard w (line_slot at t k) first)

pub heard_one_more : (at : Bench) (old new : HeardRows) (w : List Word) (t k v : ℕ) → AreRowsHeard at old.rows w → HearsOneVote t k v old new
    → is_heard w (line_slot at t k) ≡ false → AreRowsHeard at new.rows (Hear (line_slot at t k) (v ∷ []) ∷ w)
heard_one_more at old new w t k v are hears first s j ls lj =
    elim (cases_eq s t) [
      | inl same ↦ elim (cases_eq j k) [
        | inl here ↦
            subst (λ (r : ℕ). row_votes new.rows r j ≡ heard at (Hear (line_slot at t k) (v ∷ []) ∷ w) r j) (sym same)
            (subst (λ (i : ℕ). row_votes new.rows t i ≡ heard at (Hear (line_slot at t k) (v ∷ []) ∷ w) t i) (sym here) (hears.here ∙ sym (heard_now at w t k v first)))
        | inr other ↦ kept (λ q. other q.1) (λ e. other (sym (ap (λ (q : Slot). q.origin) e)))
      ]
      | inr other ↦ kept (λ q. other q.0) (λ e. other (sym (one_step at t s k j e)))
    ]
  where
    kept : ((s ≡ t) × (j ≡ k) → ⊥) → (line_slot at t k ≡ line_slot at s j → ⊥) → row_votes new.rows s j ≡ heard at (Hear (line_slot at t k) (v ∷ []) ∷ w) s j
    kept apart ne = hears.others s j apart ∙ (are s j ls lj ∙ sym (heard_still at w t k s j v ne))
