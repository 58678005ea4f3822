-- What is said, left and decided stays.
use Rattle.std.specs.Prelude.{◌≡◌, ℕ, zero, suc, ◌*◌, ◌≤◌, ◌==◌, nat_le, Bool, true, false, ◌&&◌, if◌then◌else◌, List, [], ◌∷◌, length, Option, Some, None, is_some, option_map, refl}
use Rattle.std.specs.Option.{option_or}
use Rattle.std.proofs.Common.{sym, ◌∙◌, ap, ap₂, subst, inl, inr, arith, eq-or-lt_of_le}
use Rattle.std.proofs.lemmas.Bool.{and_parts}
use Rattle.ritas_base.specs.Numbers.{wait_of}
use Rattle.ritas_base.specs.Shortest.{option_or_some, option_or_older}
use Rattle.layer_api.specs.Words.{Word, Ask, Hear}
use Rattle.layer_api.specs.Binary.{Bench}
use Rattle.binary_consensus.specs.Steps.{step_of, vote_in, heard, accepted}
use Rattle.binary_consensus.specs.Consensus.{proposed_vote, enough_at, step_left_by, left, next_vote, next_said, decides, vote_said, decided_below, binary_rounds, steps, last_step, round_below}
use Rattle.layer_api.specs.FedLaws.{some_if}

pub rounds_are : binary_rounds ≡ 200
unfolding binary_rounds
rounds_are = refl

pub steps_are : steps ≡ 600
unfolding steps
steps_are = refl

pub last_is : last_step ≡ 599
unfolding last_step
last_is = refl

is_there : {X : Type 0} (o : Option X) → is_some o ≡ true → (v : X) × (o ≡ Some v)
is_there None q = absurd cc
is_there (Some v) q = (v, refl)

proposal_stays : (c : Word) (w : List Word) (v : ℕ) → proposed_vote w ≡ Some v → proposed_vote (c ∷ w) ≡ Some v
proposal_stays (Ask value) w v q = option_or_older (proposed_vote w) (vote_in value) v q
proposal_stays (Hear s value) w v q = q

-- a step that is left is said
pub left_said : (at : Bench) (t : ℕ) (f : List Word → Option ℕ) → ((c : Word) (w : List Word) (v : ℕ) → f w ≡ Some v → f (c ∷ w) ≡ Some v)
    → (w : List Word) (vs : List ℕ) → step_left_by at t f w ≡ Some vs → (v : ℕ) × (f w ≡ Some v)
left_said at t f stay [] vs q =
    let i = some_if (is_some (f []) && nat_le (wait_of at.numbers) (length (accepted at.numbers (heard at []) t))) (accepted at.numbers (heard at []) t) vs q in
    is_there (f []) (and_parts (is_some (f [])) _ i.0).0
left_said at t f stay (c ∷ w) vs q =
    elim (option_or_some (step_left_by at t f w) (enough_at at t f (c ∷ w)) vs q) [
      | inl a ↦ let h = left_said at t f stay w vs a in (h.0, stay c w h.0 h.1)
      | inr a ↦
          let i = some_if (is_some (f (c ∷ w)) && nat_le (wait_of at.numbers) (length (accepted at.numbers (heard at (c ∷ w)) t))) (accepted at.numbers (heard at (c ∷ w)) t) vs a.1 in
          is_there (f (c ∷ w)) (and_parts (is_some (f (c ∷ w))) _ i.0).0
    ]

module _ (at : Bench) where
  pub next_left : (t : ℕ) (d : Option Bool) (l : Option (List ℕ)) (v : ℕ) → next_said at t d l ≡ Some v → (vs : List ℕ) × (l ≡ Some vs)
  next_left t d None v q = absurd (go (step_of t == 3 && is_some d) q)
    where
      go : (b : Bool) → (if b then None else None) ≡ Some v → ⊥
      go true q = absurd cc
      go false q = absurd cc
  next_left t d (Some vs) v q = (vs, refl)

  -- what is said stays, and what the steps before it decide is then settled
  pub stays : (t : ℕ) (c : Word) (w : List Word) (v : ℕ) → vote_said at t w ≡ Some v
      → (vote_said at t (c ∷ w) ≡ Some v) × (decided_below at t (c ∷ w) ≡ decided_below at t w)
  stays zero c w v q = (proposal_stays c w v q, refl)
  stays (suc t) c w v q =
      let l = next_left t (decided_below at t w) (left at t w) v q in
      let s = left_said at t (vote_said at t) (λ c w v r. (stays t c w v r).0) w l.0 l.1 in
      let d = (stays t c w s.0 s.1).1 in
      let e : left at t (c ∷ w) ≡ left at t w = option_or_older (left at t w) _ l.0 l.1 ∙ sym l.1 in
      (ap₂ (next_said at t) d e ∙ q, ap₂ (λ (d : Option Bool) (l : Option (List ℕ)). option_or d (decides at.numbers t l)) d e)

  -- a step that is left is said
  pub left_is_said : (t : ℕ) (w : List Word) (vs : List ℕ) → left at t w ≡ Some vs → (v : ℕ) × (vote_said at t w ≡ Some v)
  left_is_said t w vs q = left_said at t (vote_said at t) (λ c w v r. (stays t c w v r).0) w vs q

  decides_left : (t : ℕ) (l : Option (List ℕ)) (b : Bool) → decides at.numbers t l ≡ Some b → (vs : List ℕ) × (l ≡ Some vs)
  decides_left t None b q = absurd cc
  decides_left t (Some vs) b q = (vs, refl)

  pub decided_stays : (t : ℕ) (c : Word) (w : List Word) (b : Bool) → decided_below at t w ≡ Some b → decided_below at t (c ∷ w) ≡ Some b
  decided_stays zero c w b q = absurd cc
  decided_stays (suc t) c w b q = go (decided_below at t w) refl (λ u r. decided_stays t c w u r) q
    where
      go : (o : Option Bool) → decided_below at t w ≡ o → ((u : Bool) → decided_below at t w ≡ Some u → decided_below at t (c ∷ w) ≡ Some u)
          → option_or o (decides at.numbers t (left at t w)) ≡ Some b
          → option_or (decided_below at t (c ∷ w)) (decides at.numbers t (left at t (c ∷ w))) ≡ Some b
      go (Some u) e ih r = option_or_older (decided_below at t (c ∷ w)) _ b (ih b (e ∙ r))
      go None e ih r =
          let l = decides_left t (left at t w) b r in
          let s = left_is_said t w l.0 l.1 in
          let d : decided_below at t (c ∷ w) ≡ None = (stays t c w s.0 s.1).1 ∙ e in
          let f : left at t (c ∷ w) ≡ left at t w = option_or_older (left at t w) _ l.0 l.1 ∙ sym l.1 in
          ap₂ (λ (d : Option Bool) (l : Option (List ℕ)). option_or d (decides at.numbers t l)) d f ∙ r

  pub none_of : {X : Type 0} (o : Option X) → ((v : X) → o ≡ Some v → ⊥) → o ≡ None
  none_of None h = refl
  none_of (Some v) h = absurd (h v refl)

  pub clash : {X : Type 0} {A : Type 0} (o : Option X) (v : X) → o ≡ None → o ≡ Some v → A
  clash None v a b = absurd cc
  clash (Some u) v a b = absurd cc

  -- a step that is not left is followed by none, and one that is not said is not left
  pub next_none : (t : ℕ) (w : List Word) → left at t w ≡ None → vote_said at (suc t) w ≡ None
  next_none t w e =
      none_of (vote_said at (suc t) w) (λ v q. let l = next_left t (decided_below at t w) (left at t w) v q in clash (left at t w) l.0 e l.1)

  pub unleft : (t : ℕ) (w : List Word) → vote_said at t w ≡ None → left at t w ≡ None
  unleft t w e = none_of (left at t w) (λ vs q. let s = left_is_said t w vs q in clash (vote_said at t w) s.0 e s.1)

  -- a step that is said follows one that is said
  pub said_down : (t : ℕ) (w : List Word) (v : ℕ) → vote_said at (suc t) w ≡ Some v → (u : ℕ) × (vote_said at t w ≡ Some u)
  said_down t w v q = let l = next_left t (decided_below at t w) (left at t w) v q in left_is_said t w l.0 l.1

  -- the steps above one that isn't said are not said either
  pub silent_above : (t s : ℕ) (w : List Word) → vote_said at t w ≡ None → t ≤ s → vote_said at s w ≡ None
  silent_above t zero w e l = let z : t ≡ 0 = omega arith in subst (λ (m : ℕ). vote_said at m w ≡ None) z e
  silent_above t (suc s) w e l =
      elim (eq-or-lt_of_le l) [
        | inl z ↦ subst (λ (m : ℕ). vote_said at m w ≡ None) z e
        | inr m ↦ next_none s w (unleft s w (silent_above t s w e (omega arith)))
      ]

  -- nor is any step said before a word
  pub silent : (t : ℕ) → vote_said at t [] ≡ None
  silent zero = refl
  silent (suc t) = next_none t [] (unleft t [] (silent t))

  round_small : (r : ℕ) (w : List Word) → round_below at r w ≤ r
  round_small zero w = omega arith
  round_small (suc r) w = go (is_some (vote_said at (3 * r) w)) (round_small r w)
    where
      go : (b : Bool) → round_below at r w ≤ r → (if b then suc r else round_below at r w) ≤ suc r
      go true l = omega arith
      go false l = omega arith

  pub round_stays : (r : ℕ) (c : Word) (w : List Word) → round_below at r w ≤ round_below at r (c ∷ w)
  round_stays zero c w = omega arith
  round_stays (suc r) c w = go (vote_said at (3 * r) w) (vote_said at (3 * r) (c ∷ w)) refl refl (round_stays r c w)
    where
      go : (o u : Option ℕ) → vote_said at (3 * r) w ≡ o → vote_said at (3 * r) (c ∷ w) ≡ u → round_below at r w ≤ round_below at r (c ∷ w)
          → (if is_some o then suc r else round_below at r w) ≤ (if is_some u then suc r else round_below at r (c ∷ w))
      go None None e f ih = ih
      go None (Some v) e f ih = let l = round_small r w in omega arith
      go (Some v) (Some u) e f ih = omega arith
      go (Some v) None e f ih = absurd (clash (vote_said at (3 * r) (c ∷ w)) v f (stays (3 * r) c w v e).0)

-- ---- before any word

left_first : (at : Bench) (t : ℕ) → vote_said at t [] ≡ None → left at t [] ≡ None
left_first at t q =
    let vs = accepted at.numbers (heard at []) t in
    ap (λ (o : Option ℕ). if is_some o && nat_le (wait_of at.numbers) (length vs) then Some vs else None) q

none_either : (b : Bool) (o : Option ℕ) → o ≡ None → (if b then None else o) ≡ None
none_either true o q = refl
none_either false o q = q

-- nothing is said at any step, and nothing is decided
nothing_first : (at : Bench) (t : ℕ) → (vote_said at t [] ≡ None) × (decided_below at t [] ≡ None)
nothing_first at zero = (refl, refl)
nothing_first at (suc t) =
    let before = nothing_first at t in
    let none : left at t [] ≡ None = left_first at t before.0 in (
      none_either _ (option_map (next_vote at t) (left at t [])) (ap (option_map (next_vote at t)) none),
      ap₂ (λ (o : Option Bool) (u : Option (List ℕ)). option_or o (decides at.numbers t u)) before.1 none,
    )

pub decision_first : (at : Bench) → decided_below at steps [] ≡ None
decision_first at = (nothing_first at steps).1
