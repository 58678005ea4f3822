-- The three tests of the code, value by value, against the sets.
use Rattle.std.proofs.Common.{◌≡◌, ℕ, zero, suc, ◌+◌, ◌*◌, ◌/◌, ◌<◌, ◌≤◌, min, Bool, true, false, ◌⊎◌, ◌↔◌, refl, sym, subst, arith}
use Rattle.ritas_base.specs.Numbers.{Numbers, IsSession, wait_of}
use Rattle.bracha_validation.specs.declared.tally.Tally.{Tally}
use Rattle.bracha_validation.specs.Votes.{may_give, step_before}
use Rattle.bracha_validation.specs.Tallies.{vote_count, tally_votes}
use Rattle.bracha_validation.proofs.Formulas.{FirstFormula, SecondFormula, ThirdFormula, first_joins, second_joins, third_joins}

never : (r : Bool) → r ≡ false → (r ≡ true) ↔ ⊥
never r e = (λ q. absurd cc, λ h. absurd h)

by_first : (r : Bool) (wait v : ℕ) (t : Tally) → (v ≡ 0 → (r ≡ true) ↔ (wait ≤ 2 * (t.zeros + t.nones))) → (v ≡ 1 → (r ≡ true) ↔ (wait < 2 * t.ones))
    → (2 ≤ v → r ≡ false) → (r ≡ true) ↔ FirstFormula wait v t
by_first r wait zero t a b c = a refl
by_first r wait (suc zero) t a b c = b refl
by_first r wait (suc (suc v)) t a b c = never r (c (omega arith))

by_second : (r : Bool) (n wait v : ℕ) (t : Tally) → (v ≡ 0 → (r ≡ true) ↔ (n < 2 * t.zeros)) → (v ≡ 1 → (r ≡ true) ↔ (n < 2 * t.ones))
    → (v ≡ 2 → (r ≡ true) ↔ (wait ≤ min t.zeros (n / 2) + min t.ones (n / 2) + t.nones)) → (3 ≤ v → r ≡ false)
    → (r ≡ true) ↔ SecondFormula n wait v t
by_second r n wait zero t a b c d = a refl
by_second r n wait (suc zero) t a b c d = b refl
by_second r n wait (suc (suc zero)) t a b c d = c refl
by_second r n wait (suc (suc (suc v))) t a b c d = never r (d (omega arith))

by_third : (r : Bool) (f wait v : ℕ) (t : Tally) → (v ≡ 0 → (r ≡ true) ↔ ((f < t.zeros) ⊎ (wait ≤ t.zeros + min t.ones f + t.nones)))
    → (v ≡ 1 → (r ≡ true) ↔ (wait ≤ min t.zeros f + t.ones + t.nones)) → (2 ≤ v → r ≡ false) → (r ≡ true) ↔ ThirdFormula f wait v t
by_third r f wait zero t a b c = a refl
by_third r f wait (suc zero) t a b c = b refl
by_third r f wait (suc (suc v)) t a b c = never r (c (omega arith))

-- at the step whose rule it is
at_step : (p : Numbers) (s k v : ℕ) (t : Tally) (r : Bool) → s ≡ k → r ≡ may_give p (step_before k) v (tally_votes t) → r ≡ may_give p (step_before s) v (tally_votes t)
at_step p s k v t r e q = subst (λ (x : ℕ). r ≡ may_give p (step_before x) v (tally_votes t)) (sym e) q

pub after_first : (p : Numbers) (s v : ℕ) (t : Tally) (r : Bool) (wait : ℕ) → IsSession p → wait_of p ≤ vote_count t → s ≡ 2 → wait ≡ wait_of p
    → (v ≡ 0 → (r ≡ true) ↔ (wait ≤ 2 * (t.zeros + t.nones))) → (v ≡ 1 → (r ≡ true) ↔ (wait < 2 * t.ones)) → (2 ≤ v → r ≡ false)
    → r ≡ may_give p (step_before s) v (tally_votes t)
after_first p s v t r wait session enough two w a b c =
    at_step p s 2 v t r two (first_joins p t session.enough enough r v
    (subst (λ (x : ℕ). (r ≡ true) ↔ FirstFormula x v t) w (by_first r wait v t a b c)))

pub after_second : (p : Numbers) (s v : ℕ) (t : Tally) (r : Bool) (n wait : ℕ) → IsSession p → wait_of p ≤ vote_count t → s ≡ 3 → n ≡ p.n → wait ≡ wait_of p
    → (v ≡ 0 → (r ≡ true) ↔ (n < 2 * t.zeros)) → (v ≡ 1 → (r ≡ true) ↔ (n < 2 * t.ones))
    → (v ≡ 2 → (r ≡ true) ↔ (wait ≤ min t.zeros (n / 2) + min t.ones (n / 2) + t.nones)) → (3 ≤ v → r ≡ false)
    → r ≡ may_give p (step_before s) v (tally_votes t)
after_second p s v t r n wait session enough three en ew a b c d =
    at_step p s 3 v t r three (second_joins p t session.enough enough r v
    (subst (λ (x : ℕ). (r ≡ true) ↔ SecondFormula p.n x v t) ew
    (subst (λ (x : ℕ). (r ≡ true) ↔ SecondFormula x wait v t) en (by_second r n wait v t a b c d))))

pub after_third : (p : Numbers) (s v : ℕ) (t : Tally) (r : Bool) (f wait : ℕ) → IsSession p → wait_of p ≤ vote_count t → s ≡ 1 → f ≡ p.f → wait ≡ wait_of p
    → (v ≡ 0 → (r ≡ true) ↔ ((f < t.zeros) ⊎ (wait ≤ t.zeros + min t.ones f + t.nones)))
    → (v ≡ 1 → (r ≡ true) ↔ (wait ≤ min t.zeros f + t.ones + t.nones)) → (2 ≤ v → r ≡ false)
    → r ≡ may_give p (step_before s) v (tally_votes t)
after_third p s v t r f wait session enough one ef ew a b c =
    at_step p s 1 v t r one (third_joins p t session.enough enough r v
    (subst (λ (x : ℕ). (r ≡ true) ↔ ThirdFormula p.f x v t) ew
    (subst (λ (x : ℕ). (r ≡ true) ↔ ThirdFormula x wait v t) ef (by_third r f wait v t a b c))))
