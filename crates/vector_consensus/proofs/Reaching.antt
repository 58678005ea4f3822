-- What the attempts that began came to, as the code tells it.
use Rattle.std.specs.Prelude.{◌≡◌, ℕ, zero, suc, ◌-◌, ◌<◌, ◌≤◌, Bool, true, false, ◌&&◌, nat_lt, if◌then◌else◌, List, length, Option, Some, None, is_some, refl}
use Rattle.std.specs.List.{slice_get}
use Rattle.std.specs.Option.{option_or, option_flatten}
use Rattle.std.proofs.Common.{sym, ◌∙◌, ap, ap₂, subst, inl, inr, arith}
use Rattle.std.proofs.lemmas.Bool.{and_right, cases_lt, lt-ltb, le-ltb}
use Rattle.std.proofs.lemmas.Option.{slice_get_past}
use Rattle.layer_api.specs.Words.{Word, Ask, Hear}
use Rattle.layer_api.specs.Multi.{Desk, MultiRules, MultiLaws}
use Rattle.layer_api.specs.MultiCalls.{MultiShown, ShowsMulti}
use Rattle.layer_api.specs.Vectors.{HasVectors, MayVector, AreVector}
use Rattle.vector_consensus.specs.Consensus.{try_desk, is_none, failed_below, vector_decided_below, try_words, try_decides, try_ask, vectors}
use Rattle.vector_consensus.specs.Laws.Tries.{untold_words}
use Rattle.vector_consensus.specs.Laws.Agreement.{value_is}
use Rattle.vector_consensus.specs.Laws.Box.{failed_nothing}
use Rattle.vector_consensus.specs.Begun.{there_is, last_attempt, has_failed, all_failed, vector_of_attempt, decided_at, attempts_progress, IsBegun, Each, IsDecidingAttempt, AreAttemptsReached}
use Rattle.vector_consensus.specs.declared.part.Part.{Part}
use Rattle.vector_consensus.specs.declared.going.Progress.{Progress}

-- what the getters of a box answer
abbrev pub Shows : {M : Type 0} → (M → Desk → List Word → Type 0) → MultiRules → (M → Bool) → (M → MultiShown) → Type 0
Shows {M} stands m live shown = (b : M) (at : Desk) (w : List Word) → stands b at w → (live b ≡ true) × ShowsMulti m at w (shown b)

-- the words have vectors, where there are some
pub has_vectors : (m : MultiRules) (at : Desk) (w : List Word) (c : Word) → MayVector (vectors m) at w c → HasVectors at.scope
has_vectors m at w (Ask v) may = may.2
has_vectors m at w (Hear s v) may = may.has

no_last : {X : Type 0} (xs : List X) → length xs ≡ 0 → last_attempt xs ≡ None
no_last xs e = slice_get_past xs (length xs - 1) (omega (arith, e))

-- ---- what the attempts that began came to

module _ {M : Type 0} (stands : M → Desk → List Word → Type 0) (m : MultiRules) (laws : MultiLaws m) (live : M → Bool) (shown : M → MultiShown) (shows : Shows stands m live shown)
    (at : Desk) (u : List Word) (met : AreVector (vectors m) at u) (ts : List M) (each : Each stands at (λ k. try_words m at k u) ts) where
  -- what the last of them shows
  last_is : (k : ℕ) → length ts ≡ suc k → (b : M) × (last_attempt ts ≡ Some b) × ((shown b).decision ≡ try_decides m at k u)
  last_is k size =
      let there = there_is ts k (omega (arith, size)) in
      let place : k ≡ length ts - 1 = omega (arith, size) in (
        there.0,
        subst (λ (i : ℕ). slice_get ts i ≡ Some there.0) place there.1,
        (shows there.0 (try_desk at k) (try_words m at k u) (each k there.0 there.1)).1.decision,
      )

  -- all of them failed
  pub all_failed_is : ((k : ℕ) → k < length ts → failed_below m at k u ≡ true) → all_failed shown ts ≡ failed_below m at (length ts) u
  all_failed_is failed = go (length ts) refl
    where
      go : (n : ℕ) → length ts ≡ n → all_failed shown ts ≡ failed_below m at n u
      go zero size = ap (has_failed shown) (no_last ts size)
      go (suc k) size =
          let x = last_is k size in
          ap (has_failed shown) x.1 ∙ (ap is_none x.2 ∙ sym (ap (λ (b : Bool). b && is_none (try_decides m at k u)) (failed k (omega (arith, size)))))

  -- an attempt that wasn't asked decided nothing, and those after it don't begin
  pub untold_nothing : (k : ℕ) → try_ask m at k u ≡ None → try_decides m at k u ≡ None
  untold_nothing k e = ap (m.decision (try_desk at k)) (untold_words m laws at k u met e) ∙ laws.decision_first (try_desk at k)

  pub stuck : (k j : ℕ) → try_ask m at k u ≡ None → k < j → failed_below m at j u ≡ false
  stuck k zero e l = absurd (omega (arith, l))
  stuck k (suc j) e l =
      elim (cases_lt k j) [
        | inl less ↦ ap (λ (b : Bool). b && is_none (try_decides m at j u)) (stuck k j e less)
        | inr most ↦
            let same : k ≡ j = omega (arith, l, most) in
            and_right (failed_below m at j u) _ (ap is_none (subst (λ (i : ℕ). try_decides m at i u ≡ None) same (untold_nothing k e)))
      ]

  module _ (begun : IsBegun m at u (length ts)) where
    decided_so_far : vector_decided_below m at (length ts) u ≡ vector_of_attempt shown (last_attempt ts)
    decided_so_far = go (length ts) refl
      where
        go : (n : ℕ) → length ts ≡ n → vector_decided_below m at n u ≡ vector_of_attempt shown (last_attempt ts)
        go zero size = sym (ap (vector_of_attempt shown) (no_last ts size))
        go (suc k) size =
            let x = last_is k size in
            let f = begun.failed k (omega (arith, size)) in
            ap₂ (λ (o : Option (List ℕ)) (b : Bool). option_or o (if b then option_flatten (try_decides m at k u) else None)) (failed_nothing m at k u f) f
            ∙ (ap option_flatten (sym x.2) ∙ sym (ap (vector_of_attempt shown) x.1))

    decided_later : (n : ℕ) → length ts ≤ n → n ≤ suc at.scope.numbers.f → vector_decided_below m at n u ≡ vector_decided_below m at (length ts) u
    decided_later zero l last = let none : 0 ≡ length ts = omega (arith, l) in ap (λ (k : ℕ). vector_decided_below m at k u) none
    decided_later (suc n) l last =
        elim (cases_lt n (length ts)) [
          | inl less ↦ let same : suc n ≡ length ts = omega (arith, l, less) in ap (λ (k : ℕ). vector_decided_below m at k u) same
          | inr most ↦
              ap (λ (o : Option (Option (List ℕ))). option_or (vector_decided_below m at n u) (if failed_below m at n u then option_flatten o else None))
              (untold_nothing n (begun.unasked n most (omega (arith, last))))
              ∙ (nothing (vector_decided_below m at n u) (failed_below m at n u) ∙ decided_later n most (omega (arith, last)))
        ]
      where
        nothing : (o : Option (List ℕ)) (b : Bool) → option_or o (if b then option_flatten None else None) ≡ o
        nothing None true = refl
        nothing None false = refl
        nothing (Some v) b = refl

    -- the last of them decided, if one did
    pub decision_is : (vectors m).decision at u ≡ vector_of_attempt shown (last_attempt ts)
    decision_is = decided_later (suc at.scope.numbers.f) begun.few (omega arith) ∙ decided_so_far

    spent_is : (nat_lt at.scope.numbers.f (length ts) && all_failed shown ts) ≡ (vectors m).spent at u
    spent_is =
        elim (cases_lt at.scope.numbers.f (length ts)) [
          | inl all ↦
              let most = begun.few in
              let same : length ts ≡ suc at.scope.numbers.f = omega (arith, all, most) in
              ap₂ (λ (x y : Bool). x && y) (lt-ltb at.scope.numbers.f (length ts) all) (all_failed_is begun.failed ∙ ap (λ (k : ℕ). failed_below m at k u) same)
          | inr less ↦
              ap (λ (x : Bool). x && all_failed shown ts) (le-ltb at.scope.numbers.f (length ts) less)
              ∙ sym (stuck (length ts) (suc at.scope.numbers.f) (begun.unasked (length ts) (omega arith) less) (omega (arith, less)))
        ]

    decided_is : IsDecidingAttempt m at u (length ts) (decided_at shown ts)
    decided_is = go (vector_of_attempt shown (last_attempt ts)) refl
      where
        some : (v : List ℕ) → vector_of_attempt shown (last_attempt ts) ≡ Some v → (n : ℕ) → length ts ≡ n → (length ts - 1 < length ts) × (try_decides m at (length ts - 1) u ≡ Some (Some v))
        some v e zero size = absurd (let z = sym (ap (vector_of_attempt shown) (no_last ts size)) ∙ e in cc)
        some v e (suc k) size =
            let x = last_is k size in
            let place : k ≡ length ts - 1 = omega (arith, size) in (
              omega (arith, size),
              subst (λ (i : ℕ). try_decides m at i u ≡ Some (Some v)) place
                  (value_is (try_decides m at k u) v (ap option_flatten (sym x.2) ∙ (sym (ap (vector_of_attempt shown) x.1) ∙ e))),
            )

        go : (o : Option (List ℕ)) → vector_of_attempt shown (last_attempt ts) ≡ o → IsDecidingAttempt m at u (length ts) (if is_some o then Some (length ts - 1) else None)
        go None e = decision_is ∙ e
        go (Some v) e = let x = some v e (length ts) refl in (x.0, (v, x.1, decision_is ∙ e))

    pub reached : (part : Part) (own : Bool) (now : Progress) → part.last ≡ at.scope.numbers.f → now ≡ attempts_progress shown part own ts → AreAttemptsReached m at u (length ts) own now
    reached part own now last e = record {
      owns = ap (λ (p : Progress). p.own) e;
      begun = ap (λ (p : Progress). p.begun) e;
      decided = subst (λ (p : Progress). IsDecidingAttempt m at u (length ts) p.decided) (sym e) decided_is;
      spent = ap (λ (p : Progress). p.spent) e ∙ (ap (λ (f : ℕ). nat_lt f (length ts) && all_failed shown ts) last ∙ spent_is);
    }
