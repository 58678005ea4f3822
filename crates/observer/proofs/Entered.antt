-- What is entered.
use Rattle.std.specs.Prelude.{◌≡◌, ℕ, zero, suc, ◌-◌, ◌<◌, ◌≤◌, List, [], ◌∷◌, ◌++◌, length, reverse, Option, Some, None, refl}
use Rattle.std.proofs.Common.{sym, ◌∙◌, ap, arith}
use Rattle.std.proofs.lemmas.List.{length-reverse, reverse-append}
use Rattle.ritas_base.specs.Numbers.{Numbers}
use Rattle.command_log.specs.Rows.{Row}
use Rattle.observer.specs.Giving.{backed, gifts_at, next_backed, GivenStep, Passed, rows_given}
use Rattle.observer.specs.Watching.{entered_given, entered_given_so}
use Rattle.observer.specs.Places.{Window, StandsForSteps}
use Rattle.observer.specs.Standing.{Entering}

pub entered_none : (p : Numbers) (kept : ℕ → ℕ → Option Row) (times : ℕ) (rows : List Row) → backed p.f (gifts_at p.n kept (length rows)) ≡ None → entered_given p kept times rows ≡ rows
unfolding entered_given
entered_none p kept zero rows e = refl
entered_none p kept (suc times) rows e = ap (entered_given_so (entered_given p kept times) rows) e

entered_some : (p : Numbers) (kept : ℕ → ℕ → Option Row) (times : ℕ) (rows : List Row) (r : Row) → 0 < times → backed p.f (gifts_at p.n kept (length rows)) ≡ Some r
    → entered_given p kept times rows ≡ entered_given p kept (times - 1) (r ∷ rows)
unfolding entered_given
entered_some p kept zero rows r some e = absurd (omega (arith, some))
entered_some p kept (suc times) rows r some e =
    let less : suc times - 1 ≡ times = omega arith in
    ap (entered_given_so (entered_given p kept times) rows) e ∙ ap (λ t. entered_given p kept t (r ∷ rows)) (sym less)

pub entered_never : (p : Numbers) (kept : ℕ → ℕ → Option Row) (times : ℕ) (rows : List Row) → times ≡ 0 → entered_given p kept times rows ≡ rows
unfolding entered_given
entered_never p kept zero rows e = refl
entered_never p kept (suc times) rows e = absurd (omega (arith, e))

-- ---- of given rows

-- nothing is entered
pub enters_none : (p : Numbers) (first times : ℕ) (h : List GivenStep) (rows : List Row) (w : Window) → StandsForSteps p first h w
    → entered_given p (rows_given first h).kept times (reverse rows) ≡ reverse rows → Entering p first times h rows rows w
enters_none p first times h rows w stands stays = record { log = sym stays; steps = h; same = refl; stands = stands }

-- since no row is there
pub enters_no_row : (p : Numbers) (first times : ℕ) (h : List GivenStep) (rows : List Row) (w : Window) → StandsForSteps p first h w → w.len ≡ length rows
    → next_backed p (rows_given first h) ≡ None → Entering p first times h rows rows w
enters_no_row p first times h rows w stands len none =
    enters_none p first times h rows w stands
    (entered_none p (rows_given first h).kept times (reverse rows)
    (ap (λ n. backed p.f (gifts_at p.n (rows_given first h).kept n)) (length-reverse rows ∙ (sym len ∙ stands.len)) ∙ none))

-- a row is, and then the others
pub enters_more : (p : Numbers) (first times : ℕ) (h : List GivenStep) (rows mid more : List Row) (r : Row) (w left : Window) → 0 < times → mid ≡ rows ++ r ∷ [] → StandsForSteps p first h w
    → w.len ≡ length rows → next_backed p (rows_given first h) ≡ Some r → Entering p first (times - 1) (Passed ∷ h) mid more left → Entering p first times h rows more left
enters_more p first times h rows mid more r w left some pushed stands len is rest = record {
  log =
      let kept = (rows_given first h).kept in
      let now : backed p.f (gifts_at p.n kept (length (reverse rows))) ≡ Some r = ap (λ n. backed p.f (gifts_at p.n kept n)) (length-reverse rows ∙ (sym len ∙ stands.len)) ∙ is in
      rest.log ∙ (ap (entered_given p kept (times - 1)) (ap reverse pushed ∙ reverse-append rows (r ∷ [])) ∙ sym (entered_some p kept times (reverse rows) r some now));
  steps = rest.steps;
  same = rest.same;
  stands = rest.stands;
}

-- ---- the log only grows

grows_so : (next : List Row → List Row) (rows : List Row) (o : Option Row) → ((qs : List Row) → length qs ≤ length (next qs)) → length rows ≤ length (entered_given_so next rows o)
grows_so next rows None more = omega arith
grows_so next rows (Some r) more = let h = more (r ∷ rows) in omega (arith, h)

pub entered_grows : (p : Numbers) (kept : ℕ → ℕ → Option Row) (times : ℕ) (rows : List Row) → length rows ≤ length (entered_given p kept times rows)
unfolding entered_given
entered_grows p kept zero rows = omega arith
entered_grows p kept (suc times) rows = grows_so (entered_given p kept times) rows (backed p.f (gifts_at p.n kept (length rows))) (λ qs. entered_grows p kept times qs)
