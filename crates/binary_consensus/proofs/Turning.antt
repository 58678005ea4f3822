-- What one more word does, step by step: how a box that stands at a step goes on.
use Rattle.std.proofs.Common.{◌≡◌, ℕ, zero, suc, ◌<◌, ◌≤◌, ◌==◌, Bool, true, false, ◌&&◌, nat_le, if◌then◌else◌, List, [], ◌∷◌, ◌++◌, length, Option, Some, None, is_some, option_map, ◌⊎◌, inl, inr, refl, sym, ◌∙◌, ap, ap₂, subst, arith, append-nil, append_assoc, eq-or-lt_of_le, eqb-true}
use Rattle.std.specs.Option.{option_or}
use Rattle.std.proofs.lemmas.Bool.{le-leb, lt-leb, cases_Bool}
use Rattle.ritas_base.specs.declared.slot.Slot.{Slot}
use Rattle.ritas_base.specs.declared.item.Say.{Say}
use Rattle.ritas_base.specs.Numbers.{wait_of}
use Rattle.ritas_base.specs.Shortest.{option_or_none}
use Rattle.layer_api.specs.Words.{Word}
use Rattle.layer_api.specs.Binary.{Bench}
use Rattle.binary_consensus.specs.Steps.{step_of, line_slot, heard, accepted}
use Rattle.binary_consensus.specs.Consensus.{left, decides, next_vote, vote_said, decided_below, steps, newly_voted, steps_say_below, binary_decision, next_said}
use Rattle.binary_consensus.specs.Laws.Stays.{steps_are, stays, unleft, next_none, said_down}
use Rattle.binary_consensus.specs.Going.{StandsAtStep, Passing, Gone, Done}
use Rattle.binary_consensus.specs.declared.place.Place.{Place}

module _ (at : Bench) where
  newly_old : (slot : Slot) (u : ℕ) (old new : Option ℕ) → old ≡ Some u → newly_voted slot old new ≡ []
  newly_old slot u None new e = absurd cc
  newly_old slot u (Some w) None e = refl
  newly_old slot u (Some w) (Some v) e = refl

  newly_none : (slot : Slot) (old new : Option ℕ) → new ≡ None → newly_voted slot old new ≡ []
  newly_none slot old None e = refl
  newly_none slot old (Some v) e = absurd cc

  newly_new : (slot : Slot) (v : ℕ) (old new : Option ℕ) → old ≡ None → new ≡ Some v → newly_voted slot old new ≡ record { slot = slot; value = v ∷ [] } ∷ []
  newly_new slot v None None e f = absurd cc
  newly_new slot v None (Some u) e f = let g : u ≡ v = cc in ap (λ (w : ℕ). record { slot = slot; value = w ∷ [] } ∷ []) g
  newly_new slot v (Some w) new e f = absurd cc

  -- nothing is said anew at and below a step that was said before
  pub says_old : (t : ℕ) (c : Word) (w : List Word) (v : ℕ) → vote_said at t w ≡ Some v → steps_say_below at (suc t) w c ≡ []
  says_old zero c w v q = newly_old (line_slot at zero at.me) v (vote_said at zero w) _ q
  says_old (suc t) c w v q =
      let d = said_down at t w v q in
      rw (says_old t c w d.0 d.1) (newly_old (line_slot at (suc t) at.me) v (vote_said at (suc t) w) _ q)

  -- where a step is not said, nothing above the one below it is said or decided
  pub rest : (t : ℕ) (c : Word) (w : List Word) → vote_said at (suc t) (c ∷ w) ≡ None → (n : ℕ) → t < n
      → (steps_say_below at n w c ≡ steps_say_below at (suc t) w c) × (vote_said at n (c ∷ w) ≡ None) × (decided_below at n (c ∷ w) ≡ decided_below at (suc t) (c ∷ w))
  rest t c w e zero l = absurd (omega arith)
  rest t c w e (suc n) l =
      let below : t ≤ n = omega arith in
      elim (eq-or-lt_of_le below) [
        | inl same ↦ (
          subst (λ (m : ℕ). steps_say_below at (suc m) w c ≡ steps_say_below at (suc t) w c) same refl,
          subst (λ (m : ℕ). vote_said at (suc m) (c ∷ w) ≡ None) same e,
          subst (λ (m : ℕ). decided_below at (suc m) (c ∷ w) ≡ decided_below at (suc t) (c ∷ w)) same refl,
        )
        | inr m ↦
            let h = rest t c w e n m in
            let s : vote_said at n (c ∷ w) ≡ None = h.1 in (
              rw h.0 (ap (λ (xs : List Say). steps_say_below at (suc t) w c ++ xs) (newly_none (line_slot at n at.me) (vote_said at n w) (vote_said at n (c ∷ w)) s) ∙ append-nil (steps_say_below at (suc t) w c)),
              next_none at n (c ∷ w) (unleft at n (c ∷ w) s),
              ap (λ (l : Option (List ℕ)). option_or (decided_below at n (c ∷ w)) (decides at.numbers n l)) (unleft at n (c ∷ w) s) ∙ (option_or_none (decided_below at n (c ∷ w)) ∙ h.2),
            )
      ]

  -- a step that was not left before is left now where n - f are accepted
  pub left_now : (t : ℕ) (c : Word) (w : List Word) → (a : Passing at t c w) → (b : Bool) → nat_le (wait_of at.numbers) (length (accepted at.numbers (heard at (c ∷ w)) t)) ≡ b
      → left at t (c ∷ w) ≡ (if b then Some (accepted at.numbers (heard at (c ∷ w)) t) else None)
  left_now t c w a b e = go (left at t w) a.not_left (vote_said at t (c ∷ w)) a.is_said (nat_le (wait_of at.numbers) (length (accepted at.numbers (heard at (c ∷ w)) t))) e
    where
      go : (l : Option (List ℕ)) → l ≡ None → (s : Option ℕ) → s ≡ Some a.value → (d : Bool) → d ≡ b
          → option_or l (if is_some s && d then Some (accepted at.numbers (heard at (c ∷ w)) t) else None) ≡ (if b then Some (accepted at.numbers (heard at (c ∷ w)) t) else None)
      go None x (Some v) y d z = ap (λ (r : Bool). if r then Some (accepted at.numbers (heard at (c ∷ w)) t) else None) z
      go None x None y d z = absurd cc
      go (Some vs) x s y d z = absurd cc

  -- the word begins at the step where the box stood
  pub begins : (t : ℕ) (c : Word) (w : List Word) → StandsAtStep at t w → Passing at t c w × (steps_say_below at (suc t) w c ≡ [])
  begins t c w s = (
    record { value = s.value; is_said = (stays at t c w s.value s.is_said).0; not_left = s.not_left },
    says_old t c w s.value s.is_said,
  )

  module _ (start : ℕ) (old : List Say) (c : Word) (w : List Word) where
    abbrev Votes : ℕ → List ℕ
    Votes t = accepted at.numbers (heard at (c ∷ w)) t

    pub begin : (known : Option Bool) → Passing at start c w → known ≡ decided_below at start (c ∷ w) → Gone at start start old old known c w
    begin known a e = record { passing = a; decided = e; out = []; pushed = sym (append-nil old); says = sym (append-nil (steps_say_below at (suc start) w c)) }

    -- with fewer than n - f it stays where it is
    pub stay : (new : List Say) (known : Option Bool) (t : ℕ) (place : Place) → place.said ≡ suc t → place.ended ≡ false → place.decided ≡ known → t < 600
        → Gone at start t old new known c w → length (Votes t) < wait_of at.numbers → Done at start old new place c w
    stay new known t place said-is ended-is decided-is l g few =
        let none = left_now t c w g.passing false (lt-leb (wait_of at.numbers) (length (Votes t)) few) in
        let e = steps_are in
        let quiet = rest t c w (next_none at t (c ∷ w) none) steps (omega (arith, e, l)) in
        let same : decided_below at (suc t) (c ∷ w) ≡ decided_below at t (c ∷ w) =
        ap (λ (l : Option (List ℕ)). option_or (decided_below at t (c ∷ w)) (decides at.numbers t l)) none ∙ option_or_none (decided_below at t (c ∷ w)) in
        record {
          here = rw (said-is, ended-is) (record { below = l; value = g.passing.value; is_said = g.passing.is_said; not_left = none });
          decided = decided-is ∙ (g.decided ∙ sym (quiet.2 ∙ same));
          out = g.out;
          pushed = g.pushed;
          says = quiet.0 ∙ g.says;
        }

    left_is : (t : ℕ) → Passing at t c w → wait_of at.numbers ≤ length (Votes t) → left at t (c ∷ w) ≡ Some (Votes t)
    left_is t a many = left_now t c w a true (le-leb _ _ many)

    decided_now : (t : ℕ) → Passing at t c w → wait_of at.numbers ≤ length (Votes t) → (known later : Option Bool) → known ≡ decided_below at t (c ∷ w)
        → later ≡ option_or known (decides at.numbers t (Some (Votes t))) → later ≡ decided_below at (suc t) (c ∷ w)
    decided_now t a many known later e q =
        q ∙ ap₂ (λ (d : Option Bool) (l : Option (List ℕ)). option_or d (decides at.numbers t l)) e (sym (left_is t a many))

    said_next : (t : ℕ) → Passing at t c w → wait_of at.numbers ≤ length (Votes t) → (known : Option Bool) → known ≡ decided_below at t (c ∷ w)
        → vote_said at (suc t) (c ∷ w) ≡ next_said at t known (Some (Votes t))
    said_next t a many known e = ap₂ (next_said at t) (sym e) (left_is t a many)

    -- with n - f it leaves the step, and says the next one
    pub move : (new : List Say) (known later : Option Bool) (t v : ℕ) → t < 599 → Gone at start t old new known c w → wait_of at.numbers ≤ length (Votes t)
        → later ≡ option_or known (decides at.numbers t (Some (Votes t))) → Some v ≡ next_said at t known (Some (Votes t))
        → Gone at start (suc t) old (new ++ record { slot = line_slot at (suc t) at.me; value = v ∷ [] } ∷ []) later c w
    move new known later t v l g many learned next =
        let say : Say = record { slot = line_slot at (suc t) at.me; value = v ∷ [] } in
        let s : vote_said at (suc t) (c ∷ w) ≡ Some v = said_next t g.passing many known g.decided ∙ sym next in
        let before : vote_said at (suc t) w ≡ None = next_none at t w g.passing.not_left in
        record {
          passing = record { value = v; is_said = s; not_left = unleft at (suc t) w before };
          decided = decided_now t g.passing many known later g.decided learned;
          out = g.out ++ say ∷ [];
          pushed = ap (λ (xs : List Say). xs ++ say ∷ []) g.pushed ∙ append_assoc old g.out (say ∷ []);
          says = ap (λ (xs : List Say). steps_say_below at (suc t) w c ++ xs) (newly_new (line_slot at (suc t) at.me) v (vote_said at (suc t) w) (vote_said at (suc t) (c ∷ w)) before s)
              ∙ (ap (λ (xs : List Say). xs ++ say ∷ []) g.says ∙ append_assoc (steps_say_below at (suc start) w c) g.out (say ∷ []));
        }

    no_next : (t : ℕ) (known : Option Bool) (vs : List ℕ) → None ≡ next_said at t known (Some vs) → (step_of t == 3 && is_some known) ≡ true
    no_next t known vs e = go (step_of t == 3 && is_some known) e
      where
        go : (b : Bool) → None ≡ (if b then None else option_map (next_vote at t) (Some vs)) → b ≡ true
        go true e = refl
        go false e = absurd cc

    -- where nothing follows the step that it leaves, it is over
    pub stop : (new : List Say) (known later : Option Bool) (t : ℕ) (place : Place) → place.said ≡ suc t → place.ended ≡ true → place.decided ≡ later → t < 600
        → Gone at start t old new known c w → wait_of at.numbers ≤ length (Votes t) → later ≡ option_or known (decides at.numbers t (Some (Votes t)))
        → None ≡ (if t == 599 then None else next_said at t known (Some (Votes t))) → Done at start old new place c w
    stop new known later t place said-is ended-is decided-is l g many learned next =
        elim (cases_Bool (t == 599)) [
          | inl last ↦
              let e = steps_are in
              let t-is = eqb-true t 599 last in
              let end : suc t ≡ steps = omega (arith, e, t-is) in
              over (inr end) (ap (λ (n : ℕ). steps_say_below at n w c) (sym end)) (ap (λ (n : ℕ). decided_below at n (c ∷ w)) (sym end))
          | inr more ↦
              let none : None ≡ next_said at t known (Some (Votes t)) = next ∙ ap (λ (b : Bool). if b then None else next_said at t known (Some (Votes t))) more in
              let e = steps_are in
              let quiet = rest t c w (said_next t g.passing many known g.decided ∙ sym none) steps (omega (arith, e, l)) in
              over (inl (ap (λ (d : Option Bool). step_of t == 3 && is_some d) (sym g.decided) ∙ no_next t known (Votes t) none)) quiet.0 quiet.2
        ]
      where
        over : ((step_of t == 3 && is_some (decided_below at t (c ∷ w))) ≡ true) ⊎ (suc t ≡ steps) → steps_say_below at steps w c ≡ steps_say_below at (suc t) w c
            → binary_decision at (c ∷ w) ≡ decided_below at (suc t) (c ∷ w) → Done at start old new place c w
        over ends says-are decided-are = record {
          here = rw (said-is, ended-is) (record {
            below = l;
            value = g.passing.value;
            is_said = g.passing.is_said;
            votes = Votes t;
            is_left = left_is t g.passing many;
            is_decided = decided-are;
            ends = ends;
          });
          decided = decided-is ∙ (decided_now t g.passing many known later g.decided learned ∙ sym decided-are);
          out = g.out;
          pushed = g.pushed;
          says = says-are ∙ g.says;
        }
