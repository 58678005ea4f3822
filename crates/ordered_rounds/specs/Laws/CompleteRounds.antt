-- How many rounds are complete, by which logs are there.
use Rattle.std.specs.Prelude.{◌≡◌, ℕ, zero, suc, ◌<◌, ◌≤◌, if◌then◌else◌, List, Option, Some, None, is_some, refl}
use Rattle.std.proofs.Common.{sym, ◌∙◌, ap, subst, inl, inr, arith}
use Rattle.std.proofs.lemmas.Bool.{cases_order}
use Rattle.std.proofs.lemmas.Option.{none-some, same_Some}
use Rattle.ritas_base.specs.declared.id.Id.{Id}
use Rattle.layer_api.specs.Words.{Word}
use Rattle.layer_api.specs.Service.{Seat}
use Rattle.ordered_rounds.specs.Box.{RoundRules}
use Rattle.ordered_rounds.specs.Rounds.{log_below, log_of, complete_of}
use Rattle.ordered_rounds.specs.Laws.LogsByRound.{log_earlier, log_complete}

module _ (v : RoundRules) (seat : Seat) where
  -- rounds above those that are complete aren't
  pub complete_none : (n a : ℕ) (w : List Word) → complete_of v seat n w < a → a ≤ n → log_below v seat a w ≡ None
  complete_none zero a w l m = absurd (omega (arith, l, m))
  complete_none (suc n) a w l m = go (log_below v seat (suc n) w) refl l (λ less few. complete_none n a w less few)
    where
      go : (o : Option (List Id)) → log_below v seat (suc n) w ≡ o → (if is_some o then suc n else complete_of v seat n w) < a
          → (complete_of v seat n w < a → a ≤ n → log_below v seat a w ≡ None) → log_below v seat a w ≡ None
      go (Some log) e l before = absurd (omega (arith, l, m))
      go None e l before =
          elim (cases_order a (suc n)) [
            | inl same ↦ subst (λ (k : ℕ). log_below v seat k w ≡ None) (sym same) e
            | inr (inl less) ↦ before l (omega (arith, less))
            | inr (inr more) ↦ absurd (omega (arith, more, m))
          ]

  -- those below are
  pub complete_there : (n a : ℕ) (w : List Word) → a ≤ complete_of v seat n w → (log : List Id) × (log_below v seat a w ≡ Some log)
  complete_there n a w l = let e = log_earlier v seat (complete_of v seat n w) a w (log_of v seat n w) l (log_complete v seat n w) in (e.old, e.there)

  -- where the rounds below one are complete and it isn't, so many are, with the log there
  pub record IsComplete (n a : ℕ) (w : List Word) (log : List Id) : Type 0 where
    pub count : complete_of v seat n w ≡ a
    pub log_is : log_of v seat n w ≡ log

  same_log : (n a : ℕ) (w : List Word) (log : List Id) → complete_of v seat n w ≡ a → log_below v seat a w ≡ Some log → IsComplete n a w log
  same_log n a w log same q = record {
    count = same;
    log_is = same_Some (log_of v seat n w) log (sym (log_complete v seat n w) ∙ (ap (λ (k : ℕ). log_below v seat k w) same ∙ q));
  }

  pub complete_is : (n a : ℕ) (w : List Word) (log : List Id) → a ≤ n → log_below v seat a w ≡ Some log → log_below v seat (suc a) w ≡ None → IsComplete n a w log
  complete_is n a w log few q none =
      elim (cases_order (complete_of v seat n w) a) [
        | inl same ↦ same_log n a w log same q
        | inr (inl less) ↦ absurd (none-some log (sym (complete_none n a w less few) ∙ q))
        | inr (inr more) ↦ let t = complete_there n (suc a) w (omega (arith, more)) in absurd (none-some t.0 (sym none ∙ t.1))
      ]

  -- where all are
  pub complete_all : (n : ℕ) (w : List Word) (log : List Id) → complete_of v seat n w ≤ n → log_below v seat n w ≡ Some log → IsComplete n n w log
  complete_all n w log few q =
      elim (cases_order (complete_of v seat n w) n) [
        | inl same ↦ same_log n n w log same q
        | inr (inl less) ↦ absurd (none-some log (sym (complete_none n n w less (omega arith)) ∙ q))
        | inr (inr more) ↦ absurd (omega (arith, more, few))
      ]
