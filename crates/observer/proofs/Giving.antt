-- What given rows stand for after a step more.
use Rattle.std.specs.Prelude.{◌≡◌, ℕ, ◌+◌, ◌-◌, ◌≤◌, ◌==◌, Bool, true, false, ◌&&◌, nat_le, nat_lt, List, [], ◌∷◌, length, Option, None, if◌then◌else◌, refl}
use Rattle.std.proofs.Common.{sym, ◌∙◌, ap, ap₂, subst, arith}
use Rattle.std.specs.Option.{option_or}
use Rattle.std.proofs.lemmas.Bool.{le-leb, le-ltb, cond-true}
use Rattle.std.proofs.lemmas.Option.{slice_get_past}
use Rattle.ritas_base.specs.Numbers.{Numbers}
use Rattle.command_log.specs.Rows.{Row}
use Rattle.observer.specs.Giving.{Gift, row_from, is_near, window, keeping, backed, gifts_at, next_backed, GivenStep, Gave, Passed, rows_given, gifts_given}
use Rattle.observer.specs.Places.{Window, placed, first_place, each, all_places, gifts_in, AreKeptIn, Keeps, IsCleared, IsTakenGift, AreTakenGifts, StandsForSteps}
use Rattle.observer.proofs.Backing.{none_backed, none_given}
use Rattle.observer.proofs.Taken.{NoneFrom, gifts_are, placed_on}

-- ---- what is kept after a piece

-- the places have it
keeping_placed : (g : Gift) (len : ℕ) (kept : ℕ → ℕ → Option Row) (old new : List (Option Row)) → AreKeptIn len old kept
    → Keeps len old new g.from g.piece.position g.piece.rows → AreKeptIn len new (keeping g len kept)
keeping_placed g len kept old new are keeps = λ k at small is.
    keeps k at small is ∙ ap₂ option_or (are k at small is) (go (g.from == k) (is_near len at) is (row_from g.piece.position g.piece.rows at))
  where
    go : (b e : Bool) → e ≡ true → (o : Option Row) → (if b then o else None) ≡ (if b && e then o else None)
    go false e is o = refl
    go true e is o = sym (cond-true e o None is)

-- nothing is behind the window
pub far_kept : (g : Gift) (len : ℕ) (kept : ℕ → ℕ → Option Row) → NoneFrom (len + window) kept → NoneFrom (len + window) (keeping g len kept)
far_kept g len kept none = λ k at above.
    let not_near : is_near len at ≡ false = far (nat_le len at) (nat_lt at (len + window)) (le-ltb at (len + window) (omega (arith, above))) in
    ap₂ (λ o (b : Bool). option_or o (if g.from == k && b then row_from g.piece.position g.piece.rows at else None)) (none k at above) not_near
    ∙ neither (g.from == k) (row_from g.piece.position g.piece.rows at)
  where
    far : (a b : Bool) → b ≡ false → (a && b) ≡ false
    far true b e = e
    far false b e = refl

    neither : (b : Bool) (o : Option Row) → (if b && false then o else None) ≡ None
    neither true o = refl
    neither false o = refl

-- no row has the greatest position
last_kept : (p : Numbers) (g : Gift) (len : ℕ) (kept : ℕ → ℕ → Option Row) → IsTakenGift p g → NoneFrom 4294967295 kept → NoneFrom 4294967295 (keeping g len kept)
last_kept p g len kept taken none = λ k at above.
    let below = taken.below in
    let past : row_from g.piece.position g.piece.rows at ≡ None =
    cond-true (nat_le g.piece.position at) _ None (le-leb g.piece.position at (omega (arith, below, above)))
    ∙ slice_get_past g.piece.rows (at - g.piece.position) (omega (arith, below, above)) in
    ap₂ (λ o q. option_or o (if g.from == k && is_near len at then q else None)) (none k at above) past ∙ neither (g.from == k && is_near len at)
  where
    neither : (b : Bool) → ◌≡◌ {A = Option Row} (if b then None else None) None
    neither true = refl
    neither false = refl

-- ---- of all steps

pub none_far : (first : ℕ) (h : List GivenStep) → NoneFrom ((rows_given first h).len + window) (rows_given first h).kept
none_far first [] = λ k at above. refl
none_far first (Gave g ∷ h) = far_kept g (rows_given first h).len (rows_given first h).kept (none_far first h)
none_far first (Passed ∷ h) = λ k at above. none_far first h k at (omega (arith, above))

none_last : (p : Numbers) (first : ℕ) (h : List GivenStep) → AreTakenGifts p (gifts_given h) → NoneFrom 4294967295 (rows_given first h).kept
none_last p first [] taken = λ k at above. refl
none_last p first (Gave g ∷ h) taken = last_kept p g (rows_given first h).len (rows_given first h).kept taken.0 (none_last p first h taken.1)
none_last p first (Passed ∷ h) taken = none_last p first h taken

-- ---- the row at the next position

-- it is what the places back
pub next_is : (p : Numbers) (first : ℕ) (h : List GivenStep) (w : Window) → StandsForSteps p first h w → length w.places ≡ all_places → w.numbers.n ≤ each
    → backed w.numbers.f (gifts_in w.numbers.n w.len w.places) ≡ next_backed p (rows_given first h)
next_is p first h w stands sized few =
    ap (backed w.numbers.f) (gifts_are w.numbers.n w.len w.places (rows_given first h).kept sized few stands.kept)
    ∙ ap₂ (λ (q : Numbers) (n : ℕ). backed q.f (gifts_at q.n (rows_given first h).kept n)) stands.numbers stands.len

-- none has the greatest position
pub none_at_last : (p : Numbers) (first : ℕ) (h : List GivenStep) (w : Window) → StandsForSteps p first h w → w.len ≡ 4294967295 → next_backed p (rows_given first h) ≡ None
none_at_last p first h w stands last =
    let s = rows_given first h in
    none_backed p.f (gifts_at p.n s.kept s.len) (none_given p.n s.kept s.len (λ k. none_last p first h stands.taken k s.len (omega (arith, last, stands.len))))

-- ---- one step more

pub stands_gave : (p : Numbers) (first : ℕ) (h : List GivenStep) (g : Gift) (w : Window) (new : List (Option Row)) → StandsForSteps p first h w → IsTakenGift p g
    → Keeps w.len w.places new g.from g.piece.position g.piece.rows → StandsForSteps p first (Gave g ∷ h) (record w { places = new })
stands_gave p first h g w new stands taken keeps = record {
  numbers = stands.numbers;
  len = stands.len;
  kept =
      subst (λ (n : ℕ). AreKeptIn w.len new (keeping g n (rows_given first h).kept)) stands.len (keeping_placed g w.len (rows_given first h).kept w.places new stands.kept keeps);
  taken = (taken, stands.taken);
}

pub stands_passed : (p : Numbers) (first : ℕ) (h : List GivenStep) (w : Window) (new : List (Option Row)) → StandsForSteps p first h w → IsCleared (first_place w.len) w.places new
    → StandsForSteps p first (Passed ∷ h) (record w { len = w.len + 1; places = new })
stands_passed p first h w new stands cleared = record {
  numbers = stands.numbers;
  len = ap (λ n. n + 1) stands.len;
  kept =
      placed_on w.len w.places new (rows_given first h).kept stands.kept
      (subst (λ (n : ℕ). NoneFrom (n + window) (rows_given first h).kept) (sym stands.len) (none_far first h)) cleared;
  taken = stands.taken;
}

-- ---- the same things by other names

pub keeps_as : (len len' : ℕ) (old old' new : List (Option Row)) (from first first' : ℕ) (rows rows' : List Row) → len ≡ len' → old ≡ old' → first ≡ first' → rows ≡ rows'
    → Keeps len old new from first rows → Keeps len' old' new from first' rows'
keeps_as len len' old old' new from first first' rows rows' e o f r keeps = λ k at small is.
    keeps k at small (ap (λ l. is_near l at) e ∙ is)
    ∙ (ap (λ l. option_or (placed l k at) (if from == k then row_from first rows at else None)) o
    ∙ ap₂ (λ x l. option_or (placed old' k at) (if from == k then row_from x l at else None)) f r)
