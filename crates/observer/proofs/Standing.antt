-- For which steps the rows of an observer stand, and for what it stands after a piece.
use Rattle.std.specs.Prelude.{◌≡◌, ℕ, zero, suc, ◌+◌, ◌-◌, List, [], ◌∷◌, length, reverse, Option, Some, None, refl}
use Rattle.std.proofs.Common.{sym, ◌∙◌, ap, ap₂, subst, arith}
use Rattle.std.proofs.lemmas.List.{length-reverse}
use Rattle.ritas_base.specs.Numbers.{Numbers}
use Rattle.command_log.specs.Rows.{Row}
use Rattle.observer.specs.Giving.{Gift, window, keeping, backed, gifts_at, RowsGiven, GivenStep, Gave, Passed, after_step, rows_given, gifts_given, given_fault}
use Rattle.observer.specs.Watching.{observed, entered_given, entered_given_so, given_beside, piece_fault}
use Rattle.observer.specs.Places.{Window, AreKeptIn, IsTakenGift, AreTakenGifts, StandsForSteps}
use Rattle.observer.specs.Standing.{Watcher, StandsForGifts, Entering}
use Rattle.observer.specs.declared.fault.PieceFault.{PieceFault}
use Rattle.observer.specs.Laws.{AllEnteredLaw}
use Rattle.observer.proofs.Backing.{none_backed, none_given}
use Rattle.observer.proofs.Taken.{NoneFrom}
use Rattle.observer.proofs.Giving.{far_kept, none_far}
use Rattle.observer.proofs.Entered.{entered_grows}

-- ---- the steps of an observer: a position is passed for each row that is entered

abbrev passes : ℕ → List GivenStep → List GivenStep
passes zero h = h
passes (suc k) h = Passed ∷ passes k h

passes_given : (first k : ℕ) (h : List GivenStep) → rows_given first (passes k h) ≡ record { len = (rows_given first h).len + k; kept = (rows_given first h).kept }
passes_given first zero h =
    let at : ℕ → RowsGiven = λ n. record { len = n; kept = (rows_given first h).kept } in
    let same : (rows_given first h).len ≡ (rows_given first h).len + zero = omega arith in
    ap at same
passes_given first (suc k) h =
    let at : ℕ → RowsGiven = λ n. record { len = n; kept = (rows_given first h).kept } in
    let same : ((rows_given first h).len + k) + 1 ≡ (rows_given first h).len + suc k = omega arith in
    ap (after_step Passed) (passes_given first k h) ∙ ap at same

passes_gifts : (k : ℕ) (h : List GivenStep) → gifts_given (passes k h) ≡ gifts_given h
passes_gifts zero h = refl
passes_gifts (suc k) h = passes_gifts k h

abbrev pub steps_of : Numbers → List Gift → List GivenStep
steps_of p [] = []
steps_of p (g ∷ h) = passes (length (observed p (g ∷ h)).rows - length (observed p h).rows) (Gave g ∷ steps_of p h)

steps_given : (p : Numbers) (h : List Gift) → rows_given 0 (steps_of p h) ≡ given_beside (observed p h)
steps_given p [] = refl
steps_given p (g ∷ h) =
    let s = observed p h in
    let more : ℕ = length (observed p (g ∷ h)).rows - length s.rows in
    let after : RowsGiven → RowsGiven = λ x. record { len = x.len + more; kept = keeping g x.len x.kept } in
    let at : ℕ → RowsGiven = λ n. record { len = n; kept = keeping g (length s.rows) s.kept } in
    let grows = entered_grows p (keeping g (length s.rows) s.kept) window s.rows in
    let same : length s.rows + more ≡ length (observed p (g ∷ h)).rows = omega (arith, grows) in
    passes_given 0 more (Gave g ∷ steps_of p h) ∙ (ap after (steps_given p h) ∙ ap at same)

steps_gifts : (p : Numbers) (h : List Gift) → gifts_given (steps_of p h) ≡ h
steps_gifts p [] = refl
steps_gifts p (g ∷ h) = passes_gifts (length (observed p (g ∷ h)).rows - length (observed p h).rows) (Gave g ∷ steps_of p h) ∙ ap (λ l. g ∷ l) (steps_gifts p h)

-- the rows that an observer was given stand for its steps
pub stands_so : (p : Numbers) (h : List Gift) (rows : List Row) (w : Window) (o : Watcher) → record { numbers = w.numbers; rows = reverse rows; places = w.places } ≡ o → w.len ≡ length rows
    → StandsForGifts p h o → StandsForSteps p 0 (steps_of p h) w
stands_so p h rows w o view len stands =
    let log : reverse rows ≡ o.rows = ap (λ (v : Watcher). v.rows) view in
    let long : length o.rows ≡ w.len = ap length (sym log) ∙ (length-reverse rows ∙ sym len) in
    let at : StandsForGifts p h (record { numbers = w.numbers; rows = reverse rows; places = w.places }) = subst (λ (v : Watcher). StandsForGifts p h v) (sym view) stands in
    record {
      numbers = at.numbers;
      len = sym long ∙ (ap length stands.rows ∙ ap (λ (s : RowsGiven). s.len) (sym (steps_given p h)));
      kept =
          subst (λ (s : RowsGiven). AreKeptIn w.len w.places s.kept) (sym (steps_given p h))
          (subst (λ (n : ℕ). AreKeptIn n w.places (observed p h).kept) (length-reverse rows ∙ sym len) at.kept);
      taken = subst (λ (l : List Gift). AreTakenGifts p l) (sym (steps_gifts p h)) stands.taken;
    }

-- and the fault that they find is the observer's
pub found_so : (p : Numbers) (h : List Gift) (rows : List Row) (w : Window) (o : Watcher) (from : ℕ) (bytes : List ℕ) (found : Option PieceFault)
    → record { numbers = w.numbers; rows = reverse rows; places = w.places } ≡ o → w.len ≡ length rows → StandsForGifts p h o
    → (StandsForSteps p 0 (steps_of p h) w → found ≡ given_fault p (rows_given 0 (steps_of p h)) from bytes) → found ≡ piece_fault p (observed p h) from bytes
unfolding piece_fault
found_so p h rows w o from bytes found view len stands finds =
    finds (stands_so p h rows w o view len stands) ∙ ap (λ (s : RowsGiven). given_fault p s from bytes) (steps_given p h)

-- ---- one piece more

pub stands_more : (p : Numbers) (h : List Gift) (g : Gift) (rows more : List Row) (left : Window) (o : Watcher) → o.rows ≡ reverse rows → StandsForGifts p h o → IsTakenGift p g
    → Entering p 0 window (Gave g ∷ steps_of p h) rows more left → left.len ≡ length more
    → StandsForGifts p (g ∷ h) (record { numbers = left.numbers; rows = reverse more; places = left.places })
stands_more p h g rows more left o log stands taken did len =
    let s = observed p h in
    let kept : (rows_given 0 (Gave g ∷ steps_of p h)).kept ≡ keeping g (length s.rows) s.kept = ap (λ (x : RowsGiven). keeping g x.len x.kept) (steps_given p h) in
    let stays : AreKeptIn left.len left.places (keeping g (length s.rows) s.kept) = subst (λ (q : ℕ → ℕ → Option Row). AreKeptIn left.len left.places q) (did.same ∙ kept) did.stands.kept in
    record {
      numbers = did.stands.numbers;
      rows = did.log ∙ ap₂ (λ q l. entered_given p q window l) kept (sym log ∙ stands.rows);
      kept = subst (λ (n : ℕ). AreKeptIn n left.places (keeping g (length s.rows) s.kept)) (len ∙ sym (length-reverse more)) stays;
      taken = (taken, stands.taken);
    }

-- ---- nothing more is entered

none_now : (p : Numbers) (kept : ℕ → ℕ → Option Row) (rows : List Row) → NoneFrom (length rows) kept → backed p.f (gifts_at p.n kept (length rows)) ≡ None
none_now p kept rows none = none_backed p.f (gifts_at p.n kept (length rows)) (none_given p.n kept (length rows) (λ k. none k (length rows) (omega arith)))

entered_all : (p : Numbers) (kept : ℕ → ℕ → Option Row) (times : ℕ) (rows : List Row) → NoneFrom (length rows + times) kept
    → backed p.f (gifts_at p.n kept (length (entered_given p kept times rows))) ≡ None
unfolding entered_given
entered_all p kept zero rows none = none_now p kept rows (λ k at above. none k at (omega (arith, above)))
entered_all p kept (suc times) rows none =
    go (λ r. entered_all p kept times (r ∷ rows) (λ k at above. none k at (omega (arith, above)))) (backed p.f (gifts_at p.n kept (length rows))) refl
  where
    go : ((r : Row) → backed p.f (gifts_at p.n kept (length (entered_given p kept times (r ∷ rows)))) ≡ None) → (o : Option Row) → backed p.f (gifts_at p.n kept (length rows)) ≡ o
        → backed p.f (gifts_at p.n kept (length (entered_given_so (entered_given p kept times) rows o))) ≡ None
    go next None e = e
    go next (Some r) e = next r

pub all_entered : AllEnteredLaw
all_entered p [] = none_now p (λ k at. None) [] (λ k at above. refl)
all_entered p (g ∷ h) =
    let s = observed p h in
    let far : NoneFrom (length s.rows + window) s.kept = subst (λ (x : RowsGiven). NoneFrom (x.len + window) x.kept) (steps_given p h) (none_far 0 (steps_of p h)) in
    entered_all p (keeping g (length s.rows) s.kept) window s.rows (far_kept g (length s.rows) s.kept far)
