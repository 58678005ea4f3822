-- The header of a plan has a mask of its replicas.
use Rattle.std.proofs.Common.{◌≡◌, ℕ, ◌-◌, ◌^◌, ◌<◌, ◌≤◌, Bool, true, false, if◌then◌else◌, inl, inr, sym, subst, arith}
use Rattle.std.proofs.lemmas.Bool.{cases_lt}
use Rattle.std.proofs.lemmas.Nat.{pow_below, pow_pos}
use Rattle.ritas_base.specs.declared.plan.Plan.{Plan}
use Rattle.schedule_file.specs.declared.header.Header.{Header}
use Rattle.schedule_plan.specs.Plans.{correct_of, header_of, is_absent}

correct_most : (p : Plan) (b : Bool) → (if b then p.p.n else p.p.n - p.p.f) ≤ p.p.n
correct_most p true = omega arith
correct_most p false = omega arith

mask_fits : (i j : ℕ) → i ≤ j → 2 ^ i - 1 < 2 ^ j
mask_fits i j most =
    elim (cases_lt i j) [
      | inl below ↦ omega (arith, pow_below i j below)
      | inr above ↦ let same : i ≡ j = omega (arith, most, above) in subst (λ (k : ℕ). 2 ^ i - 1 < 2 ^ k) same (omega (arith, pow_pos i))
    ]

pub mask_within : (p : Plan) (h : Header) → h ≡ header_of p → h.correct < 2 ^ h.p.n
mask_within p h same =
    let P : Header → Type 0 = λ x. x.correct < 2 ^ x.p.n in
    let most : correct_of p ≤ p.p.n = correct_most p (is_absent p.attack) in
    subst P (sym same) (mask_fits (correct_of p) p.p.n most)
