-- The laws of a single value: what is said is new, at a step of this replica and with a vote of that step.
use Rattle.std.specs.Prelude.{◌≡◌, ℕ, zero, suc, ◌+◌, ◌*◌, ◌/◌, ◌%◌, ◌<◌, ◌≤◌, ◌==◌, nat_le, nat_lt, Bool, true, false, ◌&&◌, if◌then◌else◌, List, [], ◌∷◌, ◌++◌, length, Option, Some, None, is_some, option_map, unwrap_or, refl, ◌⊎◌}
use Rattle.std.proofs.Common.{sym, ◌∙◌, ap, ap₂, subst, inl, inr, arith}
use Rattle.std.proofs.lemmas.Bool.{cases_order, both_ways}
use Rattle.ritas_base.specs.declared.slot.Slot.{Slot}
use Rattle.ritas_base.specs.declared.item.Say.{Say}
use Rattle.ritas_base.specs.Numbers.{Numbers}
use Rattle.ritas_base.specs.Shortest.{option_or_some}
use Rattle.layer_api.specs.Words.{Word, Ask, Hear, HasSay, is_said, bit_byte, AreFresh}
use Rattle.layer_api.specs.FedLaws.{say_later, say_earlier}
use Rattle.layer_api.specs.FreshLaws.{has_said, said_has, unsaid, fresh_append}
use Rattle.layer_api.specs.Binary.{Bench, IsStepSlot, vote_limit, AreVotes, bits_said, IsVoteSaid, BoxLaws, step_slot as slot_at}
use Rattle.bracha_validation.specs.Votes.{votes, majority, marked, backed_vote, rule}
use Rattle.binary_consensus.specs.Steps.{step_of, line_slot, vote_in}
use Rattle.binary_consensus.specs.Consensus.{proposed_vote, left, next_vote, vote_said, decided_below, binary_rounds, steps, newly_voted, steps_say_below, round_below, binary}
use Rattle.binary_consensus.specs.Laws.Acceptance.{step_next}
use Rattle.binary_consensus.specs.Laws.OneBit.{newly_said, says_said, put_said}
use Rattle.binary_consensus.specs.Laws.Stays.{rounds_are, steps_are, stays, silent, clash, decided_stays, round_stays, decision_first}

-- ---- votes of their step

bit_small : (b : Bool) → bit_byte b < 2
bit_small true = omega arith
bit_small false = omega arith

proposal_small : (at : Bench) (w : List Word) (v : ℕ) → AreVotes binary at w → proposed_vote w ≡ Some v → v < 2
proposal_small at [] v votes q = absurd cc
proposal_small at (Hear s value ∷ w) v votes q = proposal_small at w v votes.1 q
proposal_small at (Ask value ∷ w) v votes q =
    elim (option_or_some (proposed_vote w) (vote_in value) v q) [
      | inl a ↦ proposal_small at w v votes.1 a
      | inr a ↦
          let h = votes.0.1 in
          let e : Some (bit_byte h.0) ≡ Some v = sym (ap vote_in h.1) ∙ a.1 in
          let same : bit_byte h.0 ≡ v = cc in
          let small = bit_small h.0 in
          omega (arith, same, small)
    ]

majority_small : (vs : List ℕ) → majority vs < 2
majority_small vs = go (nat_lt (length vs) (2 * votes 1 vs))
  where
    go : (b : Bool) → (if b then 1 else 0) < 2
    go true = omega arith
    go false = omega arith

marked_small : (p : Numbers) (vs : List ℕ) → marked p vs < 3
marked_small p vs = go (nat_lt p.n (2 * votes 0 vs)) (nat_lt p.n (2 * votes 1 vs))
  where
    go : (a b : Bool) → (if a then 0 else if b then 1 else 2) < 3
    go true b = omega arith
    go false true = omega arith
    go false false = omega arith

backed_small : (p : Numbers) (vs : List ℕ) (toss : Bool) → unwrap_or (backed_vote p vs) (bit_byte toss) < 2
backed_small p vs toss = go (nat_le (p.f + 1) (votes 0 vs)) (nat_le (p.f + 1) (votes 1 vs))
  where
    go : (a b : Bool) → unwrap_or (if a then Some 0 else if b then Some 1 else None) (bit_byte toss) < 2
    go true b = omega arith
    go false true = omega arith
    go false false = bit_small toss

-- what a rule gives is a vote of the step after
rule_small : (p : Numbers) (step next : ℕ) (vs : List ℕ) (toss : Bool) → ((step ≡ 1) × (next ≡ 2)) ⊎ ((step ≡ 2) × (next ≡ 3)) ⊎ ((step ≡ 3) × (next ≡ 1))
    → unwrap_or (rule p step vs) (bit_byte toss) < vote_limit next
rule_small p step next vs toss (inl e) =
    subst (λ (s : ℕ). unwrap_or (rule p s vs) (bit_byte toss) < vote_limit next) (sym e.0)
    (subst (λ (s : ℕ). majority vs < vote_limit s) (sym e.1) (majority_small vs))
rule_small p step next vs toss (inr (inl e)) =
    subst (λ (s : ℕ). unwrap_or (rule p s vs) (bit_byte toss) < vote_limit next) (sym e.0)
    (subst (λ (s : ℕ). marked p vs < vote_limit s) (sym e.1) (marked_small p vs))
rule_small p step next vs toss (inr (inr e)) =
    subst (λ (s : ℕ). unwrap_or (rule p s vs) (bit_byte toss) < vote_limit next) (sym e.0)
    (subst (λ (s : ℕ). unwrap_or (backed_vote p vs) (bit_byte toss) < vote_limit s) (sym e.1) (backed_small p vs toss))

some_map : {X Y : Type 0} (f : X → Y) (x : X) (y : Y) → Some (f x) ≡ Some y → f x ≡ y
some_map f x y e = cc

pub said_small : (at : Bench) (t : ℕ) (w : List Word) (v : ℕ) → AreVotes binary at w → vote_said at t w ≡ Some v → v < vote_limit (step_of t)
said_small at zero w v votes q = proposal_small at w v votes q
said_small at (suc t) w v votes q = go (step_of t == 3 && is_some (decided_below at t w)) (left at t w) q
  where
    go : (b : Bool) (l : Option (List ℕ)) → (if b then None else option_map (next_vote at t) l) ≡ Some v → v < vote_limit (step_of (suc t))
    go true l q = absurd cc
    go false None q = absurd cc
    go false (Some vs) q =
        subst (λ (u : ℕ). u < vote_limit (step_of (suc t))) (some_map (next_vote at t) vs v q)
        (rule_small at.numbers (step_of t) (step_of (suc t)) vs (at.coin (line_slot at t at.me)) (step_next t))

-- ---- what is said is new

-- the steps below say nothing at a step
nothing_at : (at : Bench) (n s : ℕ) (w : List Word) (c : Word) → n ≤ s → is_said (steps_say_below at n w c) (line_slot at s at.me) ≡ false
nothing_at at n s w c l = unsaid _ (line_slot at s at.me) (λ v h. let m = (says_said at n w c s v h).below in omega (arith, l, m))

-- nor was anything put out at a step that is not said
unsaid_before : (at : Bench) (s : ℕ) (w : List Word) → vote_said at s w ≡ None → is_said (bits_said binary at w) (line_slot at s at.me) ≡ false
unsaid_before at s w e = unsaid _ (line_slot at s at.me) (λ v h. let x = put_said at w s v h in clash at (vote_said at s w) x.vote e x.is_said)

step_slot_is : (at : Bench) (t : ℕ) → t < 600 → IsStepSlot at (line_slot at t at.me)
step_slot_is at t l = record {
  class = refl;
  number = refl;
  attempt = refl;
  first_round = omega arith;
  last_round = omega arith;
  first_step = omega arith;
  last_step = omega arith;
}

-- what is newly said at a step is fresh
new_at : (at : Bench) (n : ℕ) (w : List Word) (c : Word) → n < 600 → AreVotes binary at (c ∷ w) → (o u : Option ℕ) → vote_said at n w ≡ o → vote_said at n (c ∷ w) ≡ u
    → AreFresh (IsVoteSaid at) (bits_said binary at w) (newly_voted (line_slot at n at.me) o u)
new_at at n w c l votes o None e f = tt
new_at at n w c l votes (Some u) (Some v) e f = tt
new_at at n w c l votes None (Some v) e f = (
  record { slot = step_slot_is at n l; origin = refl; vote = record { vote = v; whole = refl; small = said_small at n (c ∷ w) v votes f } },
  unsaid_before at n w e,
  refl,
  tt,
)

says_new : (at : Bench) (n : ℕ) (w : List Word) (c : Word) → n ≤ 600 → AreVotes binary at (c ∷ w) → AreFresh (IsVoteSaid at) (bits_said binary at w) (steps_say_below at n w c)
says_new at zero w c l votes = tt
says_new at (suc n) w c l votes =
    fresh_append (IsVoteSaid at) (bits_said binary at w) (steps_say_below at n w c) _ (says_new at n w c (omega arith) votes)
    (new_at at n w c (omega arith) votes (vote_said at n w) (vote_said at n (c ∷ w)) refl refl)
    (λ y h. unsaid _ y.slot (λ v g.
    let same = (newly_said (line_slot at n at.me) (vote_said at n w) (vote_said at n (c ∷ w)) y.slot v g).0 in
    let none = subst (λ (s : Slot). is_said (steps_say_below at n w c) s ≡ false) same (nothing_at at n n w c (omega arith)) in
    both_ways _ none (has_said (steps_say_below at n w c) y h)))

-- ---- what is said was put out

newly_has : (slot : Slot) (before after : Option ℕ) (v : ℕ) → before ≡ None → after ≡ Some v → HasSay (newly_voted slot before after) (record { slot = slot; value = v ∷ [] })
newly_has slot None None v e f = absurd cc
newly_has slot None (Some u) v e f = let same : u ≡ v = cc in inl (ap (λ (x : ℕ). let y : Say = record { slot = slot; value = x ∷ [] } in y) same)
newly_has slot (Some u) after v e f = absurd cc

-- a word says at a step what is said there after it, and was not before
says_out : (at : Bench) (n t : ℕ) (w : List Word) (c : Word) (v : ℕ) → t < n → vote_said at t w ≡ None → vote_said at t (c ∷ w) ≡ Some v
    → HasSay (steps_say_below at n w c) (record { slot = line_slot at t at.me; value = v ∷ [] })
says_out at zero t w c v l e f = absurd (omega arith)
says_out at (suc n) t w c v l e f =
    elim (cases_order n t) [
      | inl same ↦
          say_later (steps_say_below at n w c) _ _
          (subst (λ (m : ℕ). HasSay (newly_voted (line_slot at m at.me) (vote_said at m w) (vote_said at m (c ∷ w))) (record { slot = line_slot at t at.me; value = v ∷ [] })) (sym same)
          (newly_has (line_slot at t at.me) (vote_said at t w) (vote_said at t (c ∷ w)) v e f))
      | inr (inl less) ↦ absurd (omega arith)
      | inr (inr more) ↦ say_earlier (steps_say_below at n w c) _ _ (says_out at n t w c v more e f)
    ]

-- what is said at a step was put out
pub put_out : (at : Bench) (t : ℕ) (w : List Word) (v : ℕ) → t < steps → vote_said at t w ≡ Some v
    → HasSay (bits_said binary at w) (record { slot = line_slot at t at.me; value = v ∷ [] })
put_out at t [] v l q = clash at (vote_said at t []) v (silent at t) q
put_out at t (c ∷ w) v l q = go (vote_said at t w) refl (λ r. put_out at t w v l r)
  where
    go : (o : Option ℕ) → vote_said at t w ≡ o → (vote_said at t w ≡ Some v → HasSay (bits_said binary at w) (record { slot = line_slot at t at.me; value = v ∷ [] }))
        → HasSay (steps_say_below at steps w c ++ bits_said binary at w) (record { slot = line_slot at t at.me; value = v ∷ [] })
    go None e before = say_earlier (steps_say_below at steps w c) _ _ (says_out at steps t w c v l e q)
    go (Some u) e before = say_later (steps_say_below at steps w c) _ _ (before (e ∙ (sym (stays at t c w u e).0 ∙ q)))

-- ---- the round

-- x is a round below n whose first step is said, from 1
record IsRound (at : Bench) (n : ℕ) (w : List Word) (x : ℕ) : Type 0 where
  before : ℕ
  within : before < n
  same : x ≡ suc before
  vote : ℕ
  is_said : vote_said at (3 * before) w ≡ Some vote

round_has : (at : Bench) (n : ℕ) (w : List Word) → (round_below at n w ≡ 0) ⊎ IsRound at n w (round_below at n w)
round_has at zero w = inl refl
round_has at (suc n) w = go (vote_said at (3 * n) w) refl (round_has at n w)
  where
    go : (o : Option ℕ) → vote_said at (3 * n) w ≡ o → (round_below at n w ≡ 0) ⊎ IsRound at n w (round_below at n w)
        → ((if is_some o then suc n else round_below at n w) ≡ 0) ⊎ IsRound at (suc n) w (if is_some o then suc n else round_below at n w)
    go (Some v) e less = inr (record { before = n; within = omega arith; same = refl; vote = v; is_said = e })
    go None e (inl none) = inl none
    go None e (inr h) =
        let l = h.within in inr (record { before = h.before; within = omega arith; same = h.same; vote = h.vote; is_said = h.is_said })

round_reaches : (at : Bench) (n r : ℕ) (w : List Word) (v : ℕ) → r < n → vote_said at (3 * r) w ≡ Some v → r + 1 ≤ round_below at n w
round_reaches at zero r w v l q = absurd (omega arith)
round_reaches at (suc n) r w v l q = go (vote_said at (3 * n) w) refl (λ m. round_reaches at n r w v m q)
  where
    go : (o : Option ℕ) → vote_said at (3 * n) w ≡ o → (r < n → r + 1 ≤ round_below at n w) → r + 1 ≤ (if is_some o then suc n else round_below at n w)
    go (Some u) e less = omega arith
    go None e less =
        elim (cases_order r n) [
          | inl same ↦ clash at (vote_said at (3 * n) w) v e (subst (λ (m : ℕ). vote_said at (3 * m) w ≡ Some v) same q)
          | inr (inl below) ↦ less below
          | inr (inr above) ↦ absurd (omega arith)
        ]

first_slot : (at : Bench) (r x : ℕ) → x ≡ suc r → line_slot at (3 * r) at.me ≡ slot_at at x 1
first_slot at r x e =
    let round : 3 * r / 3 + 1 ≡ x = omega arith in
    let step : 3 * r % 3 + 1 ≡ 1 = omega arith in
    ap₂ (λ (b s : ℕ). let slot : Slot = record { class = 5; a = at.a; attempt = at.attempt; bround = b; step = s; origin = at.me } in slot) round step

round_said : (at : Bench) (w : List Word) → (round_below at binary_rounds w ≡ 0) ⊎ (is_said (bits_said binary at w) (slot_at at (round_below at binary_rounds w) 1) ≡ true)
round_said at w =
    elim (round_has at binary_rounds w) [
      | inl none ↦ inl none
      | inr h ↦
          let l = h.within in let r = rounds_are in let e = steps_are in
          inr (subst (λ (s : Slot). is_said (bits_said binary at w) s ≡ true) (first_slot at h.before (round_below at binary_rounds w) h.same)
          (has_said (bits_said binary at w) _ (put_out at (3 * h.before) w h.vote (omega (arith, l, r, e)) h.is_said)))
    ]

round_greatest : (at : Bench) (w : List Word) (round : ℕ) → is_said (bits_said binary at w) (slot_at at round 1) ≡ true → round ≤ round_below at binary_rounds w
round_greatest at w zero h = omega arith
round_greatest at w (suc r) h =
    let y = said_has (bits_said binary at w) (slot_at at (suc r) 1) h in
    let here = subst (λ (s : Slot). HasSay (bits_said binary at w) (record { slot = s; value = y.0 })) (sym (first_slot at r (suc r) refl)) y.1 in
    let x = put_said at w (3 * r) y.0 here in
    let l = x.below in let n = rounds_are in let e = steps_are in
    let m = round_reaches at binary_rounds r w x.vote (omega (arith, l, n, e)) x.is_said in
    omega (arith, m)

pub box_laws_hold : BoxLaws binary
box_laws_hold = record {
  says_new = λ at c w votes. says_new at steps w c (let e = steps_are in omega arith) votes;
  decision_first = decision_first;
  decision_stays = λ at c w b votes q. decided_stays at steps c w b q;
  round_said = λ at w votes. round_said at w;
  round_greatest = λ at w round votes. round_greatest at w round;
  round_stays = λ at c w votes. round_stays at binary_rounds c w;
}
