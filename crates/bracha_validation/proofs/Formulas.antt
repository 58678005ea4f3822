-- Sets of n - f votes against three counts.
use Rattle.std.proofs.Common.{◌≡◌, ℕ, zero, suc, ◌+◌, ◌-◌, ◌*◌, ◌/◌, ◌<◌, ◌≤◌, min, Bool, true, false, List, length, ◌⊎◌, inl, inr, ◌↔◌, refl, sym, ◌∙◌, arith}
use Rattle.std.proofs.lemmas.Bool.{cases_lt}
use Rattle.ritas_base.specs.Numbers.{Numbers, wait_of}
use Rattle.bracha_validation.specs.declared.tally.Tally.{Tally}
use Rattle.bracha_validation.specs.Votes.{votes, gives, may_give}
use Rattle.bracha_validation.specs.Tallies.{vote_count, tally_votes, IsTally}
use Rattle.bracha_validation.proofs.Counts.{FoundSet, PassesAll, set_found, set_made, tally_is}
use Rattle.bracha_validation.specs.RuleLaws.{first_gives, second_gives, third_gives, first_may, second_may, third_may, gives_same}

same_bool : (a b : Bool) → (a ≡ true → b ≡ true) → (b ≡ true → a ≡ true) → a ≡ b
same_bool true b f g = sym (f refl)
same_bool false true f g = g refl
same_bool false false f g = refl

-- ---- the counts alone matter

pub moves : (p : Numbers) (step v : ℕ) (t : Tally) (xs ys : List ℕ) → IsTally t xs → IsTally t ys → may_give p step v xs ≡ true → may_give p step v ys ≡ true
moves p step v t xs ys is_xs is_ys q =
    let g = set_found (λ l. gives p step l v) (wait_of p) t xs is_xs q in
    let yz = is_ys.zeros in let yo = is_ys.ones in let yu = is_ys.nones in
    let z = g.zeros in let o = g.ones in let u = g.nones in let s = g.size in let b = g.bits in
    let w : ℕ = length g.set - votes 0 g.set - votes 1 g.set in
    set_made (λ l. gives p step l v) (wait_of p) ys (votes 0 g.set) (votes 1 g.set) w (omega arith) (omega arith) (omega arith) (omega arith)
    (λ l a b c. gives_same p step v l g.set a b (omega arith) ∙ g.passes)

pub same_counts : (p : Numbers) (step v : ℕ) (t : Tally) (vs : List ℕ) → IsTally t vs → may_give p step v vs ≡ may_give p step v (tally_votes t)
same_counts p step v t vs is =
    same_bool _ _ (moves p step v t vs (tally_votes t) is (tally_is t)) (moves p step v t (tally_votes t) vs (tally_is t) is)

-- ---- formulas

-- the counts of votes of which some set of n - f gives v by the rule of step 1, where there are so many
abbrev pub FirstFormula : ℕ → ℕ → Tally → Type 0
FirstFormula wait zero t = wait ≤ 2 * (t.zeros + t.nones)
FirstFormula wait (suc zero) t = wait < 2 * t.ones
FirstFormula wait (suc (suc v)) t = ⊥

-- the same of step 2
abbrev pub SecondFormula : ℕ → ℕ → ℕ → Tally → Type 0
SecondFormula n wait zero t = n < 2 * t.zeros
SecondFormula n wait (suc zero) t = n < 2 * t.ones
SecondFormula n wait (suc (suc zero)) t = wait ≤ min t.zeros (n / 2) + min t.ones (n / 2) + t.nones
SecondFormula n wait (suc (suc (suc v))) t = ⊥

-- the same of step 3
abbrev pub ThirdFormula : ℕ → ℕ → ℕ → Tally → Type 0
ThirdFormula f wait zero t = (f < t.zeros) ⊎ (wait ≤ t.zeros + min t.ones f + t.nones)
ThirdFormula f wait (suc zero) t = wait ≤ min t.zeros f + t.ones + t.nones
ThirdFormula f wait (suc (suc v)) t = ⊥

found : (p : Numbers) (step v : ℕ) (t : Tally) → may_give p step v (tally_votes t) ≡ true
    → FoundSet (λ ys. gives p step ys v) (wait_of p) t.zeros t.ones t.nones
found p step v t q = set_found (λ ys. gives p step ys v) (wait_of p) t (tally_votes t) (tally_is t) q

-- fewer than n - f votes
pub too_few : (p : Numbers) (step v : ℕ) (t : Tally) → vote_count t < wait_of p → false ≡ may_give p step v (tally_votes t)
too_few p step v t less =
    same_bool _ _ (λ q. absurd cc)
    (λ q. let g = found p step v t q in let z = g.zeros in let o = g.ones in let u = g.nones in let s = g.size in absurd (omega arith))

module _ (p : Numbers) (t : Tally) (few : 3 * p.f + 1 ≤ p.n) (enough : wait_of p ≤ vote_count t) where
  -- a set of x zeros, y ones and w other votes
  made : (step v x y w : ℕ) → x + y + w ≡ wait_of p → x ≤ t.zeros → y ≤ t.ones → w ≤ t.nones
      → PassesAll (λ ys. gives p step ys v) x y w → may_give p step v (tally_votes t) ≡ true
  made step v x y w e a b c all =
      let is = tally_is t in let tz = is.zeros in let to = is.ones in let tu = is.nones in
      set_made (λ ys. gives p step ys v) (wait_of p) (tally_votes t) x y w (sym e) (omega arith) (omega arith) (omega arith) all

  first_needs : (v : ℕ) → may_give p 1 v (tally_votes t) ≡ true → FirstFormula (wait_of p) v t
  first_needs zero q =
      let g = found p 1 0 t q in let h = first_gives p g.set 0 g.passes in
      let z = g.zeros in let u = g.nones in let s = g.size in omega arith
  first_needs (suc zero) q =
      let g = found p 1 1 t q in let h = first_gives p g.set 1 g.passes in let o = g.ones in let s = g.size in omega arith
  first_needs (suc (suc v)) q =
      let g = found p 1 (suc (suc v)) t q in let h = first_gives p g.set (suc (suc v)) g.passes in absurd (omega arith)

  second_needs : (v : ℕ) → may_give p 2 v (tally_votes t) ≡ true → SecondFormula p.n (wait_of p) v t
  second_needs zero q = let g = found p 2 0 t q in let h = second_gives p g.set 0 g.passes in let z = g.zeros in omega arith
  second_needs (suc zero) q = let g = found p 2 1 t q in let h = second_gives p g.set 1 g.passes in let o = g.ones in omega arith
  second_needs (suc (suc zero)) q =
      let g = found p 2 2 t q in let h = second_gives p g.set 2 g.passes in
      let z = g.zeros in let o = g.ones in let u = g.nones in let s = g.size in omega arith
  second_needs (suc (suc (suc v))) q =
      let g = found p 2 (suc (suc (suc v))) t q in let h = second_gives p g.set (suc (suc (suc v))) g.passes in absurd (omega arith)

  third_needs : (v : ℕ) → may_give p 3 v (tally_votes t) ≡ true → ThirdFormula p.f (wait_of p) v t
  third_needs zero q =
      let g = found p 3 0 t q in let z = g.zeros in let o = g.ones in let u = g.nones in let s = g.size in
      elim (third_gives p g.set 0 g.passes) [
        | inl h ↦ inl (omega arith)
        | inr (inl h) ↦ absurd (omega arith)
        | inr (inr h) ↦ inr (omega arith)
      ]
  third_needs (suc zero) q =
      let g = found p 3 1 t q in let h = third_gives p g.set 1 g.passes in
      let z = g.zeros in let o = g.ones in let u = g.nones in let s = g.size in omega arith
  third_needs (suc (suc v)) q =
      let g = found p 3 (suc (suc v)) t q in let h = third_gives p g.set (suc (suc v)) g.passes in absurd (omega arith)

  first_serves : (v : ℕ) → FirstFormula (wait_of p) v t → may_give p 1 v (tally_votes t) ≡ true
  first_serves zero h =
      let w : ℕ = min t.nones (wait_of p) in let x : ℕ = min t.zeros (wait_of p - w) in
      made 1 0 x (wait_of p - w - x) w (omega arith) (omega arith) (omega arith) (omega arith)
      (λ ys a b c. first_may p ys 0 (inr (omega arith, refl)))
  first_serves (suc zero) h =
      let y : ℕ = min t.ones (wait_of p) in let x : ℕ = min t.zeros (wait_of p - y) in
      made 1 1 x y (wait_of p - y - x) (omega arith) (omega arith) (omega arith) (omega arith)
      (λ ys a b c. first_may p ys 1 (inl (omega arith, refl)))
  first_serves (suc (suc v)) h = absurd h

  second_serves : (v : ℕ) → SecondFormula p.n (wait_of p) v t → may_give p 2 v (tally_votes t) ≡ true
  second_serves zero h =
      let x : ℕ = min t.zeros (wait_of p) in let y : ℕ = min t.ones (wait_of p - x) in
      made 2 0 x y (wait_of p - x - y) (omega arith) (omega arith) (omega arith) (omega arith)
      (λ ys a b c. second_may p ys 0 (inl (omega arith, refl)))
  second_serves (suc zero) h =
      let y : ℕ = min t.ones (wait_of p) in let x : ℕ = min t.zeros (wait_of p - y) in
      made 2 1 x y (wait_of p - y - x) (omega arith) (omega arith) (omega arith) (omega arith)
      (λ ys a b c. second_may p ys 1 (inr (inl (omega arith, omega arith, refl))))
  second_serves (suc (suc zero)) h =
      let x : ℕ = min (min t.zeros (p.n / 2)) (wait_of p) in let y : ℕ = min (min t.ones (p.n / 2)) (wait_of p - x) in
      made 2 2 x y (wait_of p - x - y) (omega arith) (omega arith) (omega arith) (omega arith)
      (λ ys a b c. second_may p ys 2 (inr (inr (omega arith, omega arith, refl))))
  second_serves (suc (suc (suc v))) h = absurd h

  third_serves : (v : ℕ) → ThirdFormula p.f (wait_of p) v t → may_give p 3 v (tally_votes t) ≡ true
  third_serves zero (inl h) =
      let x : ℕ = min t.zeros (wait_of p) in let y : ℕ = min t.ones (wait_of p - x) in
      made 3 0 x y (wait_of p - x - y) (omega arith) (omega arith) (omega arith) (omega arith)
      (λ ys a b c. third_may p ys 0 (inl (omega arith, refl)))
  third_serves zero (inr h) =
      let y : ℕ = min (min t.ones p.f) (wait_of p) in let w : ℕ = min t.nones (wait_of p - y) in
      made 3 0 (wait_of p - y - w) y w (omega arith) (omega arith) (omega arith) (omega arith)
      (λ ys a b c. third_may p ys 0
      (elim (cases_lt p.f (wait_of p - y - w)) [ inl more ↦ inl (omega arith, refl) | inr no_more ↦ inr (inr (omega arith, omega arith, omega arith)) ]))
  third_serves (suc zero) h =
      let x : ℕ = min (min t.zeros p.f) (wait_of p) in let w : ℕ = min t.nones (wait_of p - x) in
      made 3 1 x (wait_of p - x - w) w (omega arith) (omega arith) (omega arith) (omega arith)
      (λ ys a b c. third_may p ys 1
      (elim (cases_lt p.f (wait_of p - x - w)) [ inl more ↦ inr (inl (omega arith, omega arith, refl)) | inr no_more ↦ inr (inr (omega arith, omega arith, omega arith)) ]))
  third_serves (suc (suc v)) h = absurd h

  -- ---- a test that agrees with the formula agrees with the sets

  pub first_joins : (r : Bool) (v : ℕ) → (r ≡ true) ↔ FirstFormula (wait_of p) v t → r ≡ may_give p 1 v (tally_votes t)
  first_joins r v is = same_bool _ _ (λ q. first_serves v (is.0 q)) (λ q. is.1 (first_needs v q))

  pub second_joins : (r : Bool) (v : ℕ) → (r ≡ true) ↔ SecondFormula p.n (wait_of p) v t → r ≡ may_give p 2 v (tally_votes t)
  second_joins r v is = same_bool _ _ (λ q. second_serves v (is.0 q)) (λ q. is.1 (second_needs v q))

  pub third_joins : (r : Bool) (v : ℕ) → (r ≡ true) ↔ ThirdFormula p.f (wait_of p) v t → r ≡ may_give p 3 v (tally_votes t)
  third_joins r v is = same_bool _ _ (λ q. third_serves v (is.0 q)) (λ q. is.1 (third_needs v q))
