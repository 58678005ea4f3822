-- What a word does to the attempts: those that began hear it, and no other does; and what is said in the call, in order.
use Rattle.std.specs.Prelude.{◌≡◌, ℕ, zero, suc, ◌<◌, ◌≤◌, Bool, true, false, if◌then◌else◌, List, [], ◌∷◌, ◌++◌, Option, Some, None, is_some, refl}
use Rattle.std.proofs.Common.{sym, ◌∙◌, ap, ap₂, subst, inl, inr, arith, append_assoc, append-nil}
use Rattle.std.proofs.lemmas.Bool.{both_ways, cases_lt}
use Rattle.ritas_base.specs.declared.item.Say.{Say}
use Rattle.layer_api.specs.Words.{Word, Ask, Hear}
use Rattle.layer_api.specs.Part.{newly_asked, passed, part_of, says_in}
use Rattle.layer_api.specs.Multi.{Desk, MultiRules, MultiLaws}
use Rattle.layer_api.specs.Vectors.{MayVector, AreVector}
use Rattle.vector_consensus.specs.Consensus.{is_of_try, try_desk, try_words, try_ask, attempts_say_below, vectors}
use Rattle.vector_consensus.specs.Laws.Tries.{opens_try, untold_words}
use Rattle.vector_consensus.specs.Begun.{IsBegun}
use Rattle.vector_consensus.specs.Going.{mid, asks_below}

-- what is said in some words is what is said in the older ones, and then in the newer
says_parts : (says : List Word → Word → List Say) (newer older before : List Word)
    → says_in says (newer ++ older) before ≡ says_in says older before ++ says_in says newer (older ++ before)
says_parts says [] older before = sym (append-nil (says_in says older before))
says_parts says (x ∷ newer) older before =
    ap₂ (λ (ys : List Say) (u : List Word). ys ++ says u x) (says_parts says newer older before) (append_assoc newer older before)
    ∙ append_assoc (says_in says older before) (says_in says newer (older ++ before)) (says (newer ++ (older ++ before)) x)

-- what was asked isn't newly asked
asked_before : (o u : Option (List ℕ)) → is_some o ≡ true → newly_asked o u ≡ []
asked_before None u e = absurd cc
asked_before (Some x) None e = refl
asked_before (Some x) (Some y) e = refl

-- what an attempt says as it hears a word, and then as it is asked
module _ (m : MultiRules) (at : Desk) (w : List Word) (c : Word) where
  abbrev pub heard : ℕ → List Say
  heard k = says_in (m.says (try_desk at k)) (passed (is_of_try k) c) (try_words m at k w)

  abbrev pub asked : ℕ → List Say
  asked k = says_in (m.says (try_desk at k)) (newly_asked (try_ask m at k w) (try_ask m at k (c ∷ w))) (mid m at w c k)

  abbrev pub hears_below : ℕ → List Say
  hears_below zero = []
  hears_below (suc k) = hears_below k ++ heard k

  says_turn : (k : ℕ) → says_in (m.says (try_desk at k)) (part_of (try_ask m at k) (is_of_try k) w c) (try_words m at k w) ≡ heard k ++ asked k
  says_turn k = says_parts (m.says (try_desk at k)) (newly_asked (try_ask m at k w) (try_ask m at k (c ∷ w))) (passed (is_of_try k) c) (try_words m at k w)

  pub asked_nothing : (k : ℕ) → newly_asked (try_ask m at k w) (try_ask m at k (c ∷ w)) ≡ [] → asked k ≡ []
  asked_nothing k e = ap (λ (xs : List Word). says_in (m.says (try_desk at k)) xs (mid m at w c k)) e

  pub heard_nothing : (k : ℕ) → passed (is_of_try k) c ≡ [] → heard k ≡ []
  heard_nothing k e = ap (λ (xs : List Word). says_in (m.says (try_desk at k)) xs (try_words m at k w)) e

  -- a word that no attempt hears
  pub quiet : (n : ℕ) → ((k : ℕ) → passed (is_of_try k) c ≡ []) → hears_below n ≡ []
  quiet zero none = refl
  quiet (suc n) none = ap₂ (λ (xs ys : List Say). xs ++ ys) (quiet n none) (heard_nothing n (none n))

  -- a word that one attempt hears
  alone_before : (j n : ℕ) → ((k : ℕ) → (k ≡ j → ⊥) → passed (is_of_try k) c ≡ []) → n ≤ j → hears_below n ≡ []
  alone_before j zero none l = refl
  alone_before j (suc n) none l =
      ap₂ (λ (xs ys : List Say). xs ++ ys) (alone_before j n none (omega (arith, l))) (heard_nothing n (none n (λ e. omega (arith, e, l))))

  pub alone : (j n : ℕ) → ((k : ℕ) → (k ≡ j → ⊥) → passed (is_of_try k) c ≡ []) → j < n → hears_below n ≡ heard j
  alone j zero none l = absurd (omega (arith, l))
  alone j (suc n) none l =
      elim (cases_lt j n) [
        | inl less ↦ ap₂ (λ (xs ys : List Say). xs ++ ys) (alone j n none less) (heard_nothing n (none n (λ e. omega (arith, e, less)))) ∙ append-nil (heard j)
        | inr most ↦
            let same : n ≡ j = omega (arith, l, most) in
            ap₂ (λ (xs ys : List Say). xs ++ ys) (alone_before j n none (omega (arith, same))) (ap heard same)
      ]

  module _ (laws : MultiLaws m) (met : AreVector (vectors m) at (c ∷ w)) (n : ℕ) (begun : IsBegun m at w n) where
    -- an attempt that began isn't asked again
    pub not_newly : (k : ℕ) → k < n → newly_asked (try_ask m at k w) (try_ask m at k (c ∷ w)) ≡ []
    not_newly k l = asked_before (try_ask m at k w) (try_ask m at k (c ∷ w)) (begun.asked k l)

    pub words_begun : (k : ℕ) → k < n → try_words m at k (c ∷ w) ≡ mid m at w c k
    words_begun k l = ap (λ (xs : List Word). (xs ++ passed (is_of_try k) c) ++ try_words m at k w) (not_newly k l)

    -- one that didn't begin has no words, and hears nothing
    pub no_words : (k : ℕ) → n ≤ k → k ≤ at.scope.numbers.f → try_words m at k w ≡ []
    no_words k l last = untold_words m laws at k w met.1 (begun.unasked k l last)

    pub not_passed : (k : ℕ) → n ≤ k → k ≤ at.scope.numbers.f → passed (is_of_try k) c ≡ []
    not_passed k l last = go c met.0
      where
        go : (d : Word) → MayVector (vectors m) at w d → passed (is_of_try k) d ≡ []
        go (Ask v) may = refl
        go (Hear s v) may = hears (is_of_try k s) refl
          where
            hears : (b : Bool) → is_of_try k s ≡ b → (if b then Hear s v ∷ [] else []) ≡ []
            hears false e = refl
            hears true e =
                absurd (both_ways (m.opens (try_desk at k) [] s) (laws.opens_first (try_desk at k) s)
                (subst (λ (u : List Word). m.opens (try_desk at k) u s ≡ true) (no_words k l last) (opens_try m at k w s e may.is_open)))

    pub mid_nothing : (k : ℕ) → n ≤ k → k ≤ at.scope.numbers.f → mid m at w c k ≡ []
    mid_nothing k l last = ap₂ (λ (xs ys : List Word). xs ++ ys) (not_passed k l last) (no_words k l last)

    -- those that began aren't asked
    pub asked_early : (k : ℕ) → k ≤ n → asks_below m at k w c ≡ []
    asked_early zero l = refl
    asked_early (suc k) l = ap₂ (λ (xs ys : List Say). xs ++ ys) (asked_early k (omega (arith, l))) (asked_nothing k (not_newly k (omega (arith, l))))

    -- what attempts say as they hear comes first
    pub say_order : (k : ℕ) → k ≤ suc at.scope.numbers.f → attempts_say_below m at k w c ≡ hears_below k ++ asks_below m at k w c
    say_order zero l = refl
    say_order (suc k) l =
        ap₂ (λ (xs ys : List Say). xs ++ ys) (say_order k (omega (arith, l))) (says_turn k)
        ∙ elim (cases_lt k n) [
          | inl less ↦ begins (asks_below m at k w c) (asked k) (asked_early k (omega (arith, less))) (asked_nothing k (not_newly k less))
          | inr most ↦ goes (heard k) (heard_nothing k (not_passed k most (omega (arith, l))))
        ]
      where
        begins : (us vs : List Say) → us ≡ [] → vs ≡ [] → (hears_below k ++ us) ++ (heard k ++ vs) ≡ (hears_below k ++ heard k) ++ (us ++ vs)
        begins us vs e f =
            ap₂ (λ (xs ys : List Say). (hears_below k ++ xs) ++ (heard k ++ ys)) e f
            ∙ (ap₂ (λ (xs ys : List Say). xs ++ ys) (append-nil (hears_below k)) (append-nil (heard k))
            ∙ (sym (append-nil (hears_below k ++ heard k)) ∙ ap₂ (λ (xs ys : List Say). (hears_below k ++ heard k) ++ (xs ++ ys)) (sym e) (sym f)))

        goes : (h : List Say) → h ≡ [] → (hears_below k ++ asks_below m at k w c) ++ (h ++ asked k) ≡ (hears_below k ++ h) ++ (asks_below m at k w c ++ asked k)
        goes h e =
            ap (λ (xs : List Say). (hears_below k ++ asks_below m at k w c) ++ (xs ++ asked k)) e
            ∙ (append_assoc (hears_below k) (asks_below m at k w c) (asked k)
            ∙ ap (λ (xs : List Say). xs ++ (asks_below m at k w c ++ asked k)) (sym (append-nil (hears_below k)) ∙ ap (λ (xs : List Say). hears_below k ++ xs) (sym e)))
