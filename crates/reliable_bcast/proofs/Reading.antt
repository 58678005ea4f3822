-- At the shortest prefix with a value that passes there is one such value, where an item changes the test at its own
-- value alone.
use Rattle.std.proofs.Common.{◌≡◌, ◌∙◌, ap, sym, List, [], ◌∷◌, ◌++◌, ℕ, Bool, true, false, Some, None, inl, inr, refl}
use Rattle.std.specs.Prelude.{Option}
use Rattle.std.specs.List.{find}
use Rattle.std.specs.Str.{bytes_eq}
use Rattle.std.specs.Option.{option_or}
use Rattle.std.proofs.lemmas.Bool.{cases_Bool, both_ways}
use Rattle.std.proofs.lemmas.Slice.Eq.{bytes_eq-Decides}
use Rattle.ritas_base.specs.declared.item.Item.{Item}
use Rattle.ritas_base.specs.Numbers.{Numbers}
use Rattle.ritas_base.specs.Messages.{Place}
use Rattle.ritas_base.specs.History.{Call, Start, Take, values}
use Rattle.ritas_base.specs.HistoryLaws.{find_none, find_passes}
use Rattle.ritas_base.specs.Shortest.{at_shortest, at_shortest_is, at_shortest_stays, at_shortest_never}
use Rattle.reliable_bcast.specs.Bracha.{is_backed, is_carried, ready_value, out_by_value}
use Rattle.reliable_bcast.specs.Reading.{IsOnlyAtShortest, IsTheValue}
use Rattle.reliable_bcast.specs.Laws.Steps.{unvoted_backed, unvoted_carried, backed_kept, carried_kept, backed_same, carried_same}

-- where no prefix gives anything
nothing_before : {V : Type 0} (f : List Call → Option V) (h : List Call) → ((r b : List Call) → r ++ b ≡ h → f b ≡ None) → at_shortest f h ≡ None
nothing_before f [] none = none [] [] refl
nothing_before f (c ∷ h) none =
    ap (λ o. option_or o (f (c ∷ h))) (nothing_before f h (λ r b e. none (c ∷ r) b (ap (λ l. c ∷ l) e))) ∙ none [] (c ∷ h) refl

-- the calls from c on, cut before b
pub record IsCut (c : Call) (r b : List Call) : Type 0 where
  pub later : List Call
  pub call : Call
  pub whole : later ++ call ∷ b ≡ c ∷ (r ++ b)

cut : (c : Call) (r b : List Call) → IsCut c r b
cut c [] b = record { later = []; call = c; whole = refl }
cut c (x ∷ r) b = let t = cut x r b in record { later = c ∷ t.later; call = t.call; whole = ap (λ l. c ∷ l) t.whole }

-- the first prefix that gives something
first_gives : {V : Type 0} (f : List Call → Option V) (h : List Call) (v : V) → f h ≡ Some v
    → ((r : List Call) (c : Call) (b : List Call) → r ++ c ∷ b ≡ h → f b ≡ None) → at_shortest f h ≡ Some v
first_gives f [] v gives none = gives
first_gives f (c ∷ h) v gives none =
    ap (λ o. option_or o (f (c ∷ h)))
    (nothing_before f h (λ r b e. let t = cut c r b in none t.later t.call b (t.whole ∙ ap (λ l. c ∷ l) e)))
    ∙ gives

module _ (test : List Call → List ℕ → Bool)
    (unvoted : (h : List Call) → find (test h) (values h) ≡ None → (w : List ℕ) → test h w ≡ false)
    (kept : (h : List Call) (i : Item) (w : List ℕ) → (w ≡ i.value → ⊥) → test (Take i ∷ h) w ≡ test h w)
    (quiet : (h : List Call) (m w : List ℕ) → test (Start m ∷ h) w ≡ test h w) where
  abbrev passing : List Call → Option (List ℕ)
  passing h = find (test h) (values h)

  -- where no value passes, an item makes no value pass but its own
  its_own : (h : List Call) (i : Item) (w : List ℕ) → passing h ≡ None → test (Take i ∷ h) w ≡ true → w ≡ i.value
  its_own h i w none e =
      elim (cases_Bool (bytes_eq w i.value)) [
        | inl t ↦ (bytes_eq-Decides w i.value).0 t
        | inr f ↦
            let ne : w ≡ i.value → ⊥ = λ s. both_ways (bytes_eq w i.value) f ((bytes_eq-Decides w i.value).1 s) in
            absurd (both_ways (test h w) (unvoted h none w) (sym (kept h i w ne) ∙ e))
      ]

  -- of two values that pass, where none did before
  one : (h : List Call) → ((r : List Call) (c : Call) (b : List Call) → r ++ c ∷ b ≡ h → passing b ≡ None)
      → (v w : List ℕ) → test h v ≡ true → test h w ≡ true → v ≡ w
  one [] none v w e d = absurd (both_ways (test [] v) (unvoted [] refl v) e)
  one (Start m ∷ h) none v w e d = absurd (both_ways (test h v) (unvoted h (none [] (Start m) h refl) v) (sym (quiet h m v) ∙ e))
  one (Take i ∷ h) none v w e d = its_own h i v (none [] (Take i) h refl) e ∙ sym (its_own h i w (none [] (Take i) h refl) d)

  only : (h : List Call) (v : List ℕ) → at_shortest passing h ≡ Some v → IsOnlyAtShortest test h v
  only h v e =
      let at = at_shortest_is passing h v e in
      let here = find_passes (test at.prefix) (values at.prefix) v at.gives in
      record {
        later = at.later;
        prefix = at.prefix;
        whole = at.whole;
        passes = here;
        only = λ w d. one at.prefix at.none_before w v d here;
        none_before = λ r c b q w. unvoted b (at.none_before r c b q) w;
      }

  found : (h : List Call) (v : List ℕ) → test h v ≡ true → ((w : List ℕ) → test h w ≡ true → w ≡ v) → (o : Option (List ℕ)) → passing h ≡ o → o ≡ Some v
  found h v here alone None e = absurd (both_ways (test h v) (unvoted h e v) here)
  found h v here alone (Some w) e = ap Some (alone w (find_passes (test h) (values h) w e))

  gives : (h : List Call) (v : List ℕ) → IsOnlyAtShortest test h v → at_shortest passing h ≡ Some v
  gives h v at =
      ap (at_shortest passing) (sym at.whole)
      ∙ at_shortest_stays passing at.later at.prefix v
      (first_gives passing at.prefix v (found at.prefix v at.passes at.only (passing at.prefix) refl)
      (λ r c b q. find_none (test b) (values b) (at.none_before r c b q)))

  pub the_value : IsTheValue test (at_shortest passing)
  the_value =
      record {
        some = λ h v. (only h v, gives h v);
        none = λ h. (
          λ e r b whole w. unvoted b (at_shortest_never passing r b (ap (at_shortest passing) whole ∙ e)) w,
          λ none. nothing_before passing h (λ r b whole. find_none (test b) (values b) (none r b whole)),
        );
      }

pub backed_value : (p : Numbers) → IsTheValue (is_backed p) (ready_value p)
backed_value p = the_value (is_backed p) (unvoted_backed p) (backed_kept p) (λ h m w. backed_same p h (Start m) (λ k. refl) (λ k. refl) w)

pub carried_value : (at : Place) → IsTheValue (is_carried at.numbers) (out_by_value at)
carried_value at = the_value (is_carried at.numbers) (unvoted_carried at.numbers) (carried_kept at.numbers) (λ h m w. carried_same at.numbers h (Start m) (λ k. refl) w)
