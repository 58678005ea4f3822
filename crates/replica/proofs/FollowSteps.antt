-- Identifiers of a list, one after another.
use Rattle.std.specs.Prelude.{◌≡◌, ℕ, zero, suc, ◌+◌, ◌<◌, List, [], ◌∷◌, ◌++◌, length, take, drop, reverse, get_or, Option, refl}
use Rattle.std.specs.List.{AllByRecursion}
use Rattle.std.proofs.Common.{sym, ◌∙◌, ap, ap₂, subst, arith, append_assoc}
use Rattle.std.proofs.lemmas.List.{take_more, take-append-drop, reverse-append, length-reverse, length-append, length-take-le}
use Rattle.ritas_base.specs.declared.id.Id.{Id}
use Rattle.layer_api.specs.Service.{IsPart}
use Rattle.command_log.specs.Rows.{Row, Start, entry_of_id, entries_of_log, chain_rows, rows_over}
use Rattle.command_log.specs.Standing.{Ledger, StandsFor}
use Rattle.command_log.specs.Laws.{chain_part}
use Rattle.command_log.specs.Fits.{chain_fits}

abbrev pub item_at : List Id → ℕ → Id
item_at ids i = get_or ids i (record { origin = 0; num = 0 })

pub all_at : (P : Id → Type 0) (ids : List Id) (i : ℕ) → i < length ids → AllByRecursion P ids → P (item_at ids i)
all_at P [] i within all = absurd (omega (arith, within))
all_at P (x ∷ ids) zero within all = all.0
all_at P (x ∷ ids) (suc i) within all = all_at P ids i (omega (arith, within)) all.1

-- the first of them are in front of the others
abbrev pub first_ids : List Id → ℕ → List Id → List Id
first_ids ids i xs = reverse (take i ids) ++ xs

module _ (a : Id → Option (List ℕ)) (ids xs : List Id) (i : ℕ) (now : Ledger) (is : StandsFor now (entries_of_log a (first_ids ids i xs))) where
  -- there is room for one more
  pub fits_at : i < length ids → length now.start.base + length xs + length ids < 4294967295 → length now.rows < 4294967295
  fits_at within room =
      let most = chain_fits now.start now.f a (first_ids ids i xs) in
      let whole = length-append (reverse (take i ids)) xs in
      let len = length-reverse (take i ids) in
      let few = length-take-le i ids (omega (arith, within)) in
      omega (arith, most, whole, len, few, room, within, ap length is.rows)

  -- and it is entered
  pub stands_next : (next : Ledger) → i < length ids → StandsFor next (entry_of_id a (item_at ids i) ∷ entries_of_log a (first_ids ids i xs))
      → StandsFor next (entries_of_log a (first_ids ids (i + 1) xs))
  stands_next next within step =
      subst (λ (l : List Id). StandsFor next (entries_of_log a (l ++ xs)))
      (sym (ap reverse (take_more ids i (record { origin = 0; num = 0 }) within) ∙ reverse-append (take i ids) (item_at ids i ∷ []))) step

  -- the rows of the first of them lie between those of none and of all
  whole_is : reverse (drop i ids) ++ first_ids ids i xs ≡ reverse ids ++ xs
  whole_is =
      sym (append_assoc (reverse (drop i ids)) (reverse (take i ids)) xs)
      ∙ ap (λ l. l ++ xs) (sym (reverse-append (take i ids) (drop i ids)) ∙ ap reverse (take-append-drop i ids))

  pub first_between : (s : Start) (f : ℕ) (next : List Row) → next ≡ now.rows → now.start ≡ s → now.f ≡ f
      → IsPart (chain_rows s f a xs) next × IsPart next (chain_rows s f a (reverse ids ++ xs))
  first_between s f next same start faults =
      subst (λ (q : List Row). IsPart (chain_rows s f a xs) q × IsPart q (chain_rows s f a (reverse ids ++ xs)))
      (sym (same ∙ is.rows ∙ ap₂ (λ (t : Start) (n : ℕ). rows_over t n (entries_of_log a (first_ids ids i xs))) start faults)) (
        chain_part s f a a xs (first_ids ids i xs) (reverse (take i ids), refl) (λ x here. refl),
        chain_part s f a a (first_ids ids i xs) (reverse ids ++ xs) (reverse (drop i ids), whole_is) (λ x here. refl),
      )
