-- One box of an older round is exchanged for another.
use Rattle.std.specs.Prelude.{◌≡◌, ℕ, zero, suc, ◌<◌, ◌≤◌, Bool, if◌then◌else◌, List, [], ◌∷◌, length, slice_set, Some, refl}
use Rattle.std.specs.List.{slice_get}
use Rattle.std.proofs.Common.{sym, ◌∙◌, ap, inl, inr, arith}
use Rattle.std.proofs.lemmas.Bool.{cases_eq, eq-eqb, ne_eqb}
use Rattle.std.proofs.lemmas.Option.{none-some, same_Some, slice_get_past}
use Rattle.ordered_rounds.specs.Boxes.{box_at, IsExchanged}
use Rattle.ordered_rounds.specs.declared.boxes.Boxes.{Boxes}

set_here : {V : Type 0} (xs : List V) (i : ℕ) (y : V) → i < length xs → slice_get (slice_set xs i y) i ≡ Some y
set_here [] i y l = absurd (omega (arith, l))
set_here (x ∷ xs) zero y l = refl
set_here (x ∷ xs) (suc i) y l = set_here xs i y (omega (arith, l))

set_there : {V : Type 0} (xs : List V) (i j : ℕ) (y : V) → (j ≡ i → ⊥) → slice_get (slice_set xs i y) j ≡ slice_get xs j
set_there [] i j y ne = refl
set_there (x ∷ xs) zero zero y ne = absurd (ne refl)
set_there (x ∷ xs) zero (suc j) y ne = refl
set_there (x ∷ xs) (suc i) zero y ne = refl
set_there (x ∷ xs) (suc i) (suc j) y ne = set_there xs i j y (λ e. ne (ap suc e))

module _ {V : Type 0} (b c : Boxes V) (place : ℕ) where
  pub exchanged : (y : V) → place < length b.older.items → c.current ≡ b.current → c.older.items ≡ slice_set b.older.items place y
      → (k : ℕ) → k ≡ suc place → IsExchanged b c k y
  exchanged y l now older k same zero =
      now ∙ sym (ap (λ (t : Bool). if t then Some y else b.current) (ne_eqb 0 k (λ e. omega (arith, same, e))))
  exchanged y l now older k same (suc j) =
      ap (λ (xs : List V). slice_get xs j) older
      ∙ elim (cases_eq j place) [
        | inl e ↦
            ap (slice_get (slice_set b.older.items place y)) e ∙ (set_here b.older.items place y l
            ∙ sym (ap (λ (t : Bool). if t then Some y else slice_get b.older.items j) (eq-eqb (suc j) k (omega (arith, same, e)))))
        | inr ne ↦
            set_there b.older.items place j y ne
            ∙ sym (ap (λ (t : Bool). if t then Some y else slice_get b.older.items j) (ne_eqb (suc j) k (λ e. ne (omega (arith, same, e)))))
      ]

  -- it is the box that was there
  pub the_box : (one other : V) (k : ℕ) → k ≡ suc place → box_at b k ≡ Some one → slice_get b.older.items place ≡ Some other → other ≡ one
  the_box one other k same is there = same_Some _ _ (sym there ∙ (sym (ap (box_at b) same) ∙ is))

  -- there is none behind the last
  pub no_box : (one : V) (k : ℕ) → k ≡ suc place → box_at b k ≡ Some one → length b.older.items ≤ place → ⊥
  no_box one k same is far = none-some one (sym (slice_get_past b.older.items place far) ∙ (sym (ap (box_at b) same) ∙ is))
