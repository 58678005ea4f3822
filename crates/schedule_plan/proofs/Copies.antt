-- The copies of a command go to different replicas.
use Rattle.std.proofs.Common.{◌≡◌, ◌≢◌, ℕ, ◌+◌, ◌-◌, ◌%◌, ◌<◌, ◌≤◌, ◌==◌, Bool, true, false, min, refl, sym, ◌∙◌, ap, inl, inr, arith, if◌then◌else◌}
use Rattle.std.proofs.lemmas.Bool.{cases_lt}
use Rattle.std.proofs.lemmas.Nat.{mod_below}
use Rattle.std.proofs.Math.Nat.{add-mod_left, mod-add-mod, mod-eq_of_lt}
use Rattle.ritas_base.specs.Numbers.{IsSession}
use Rattle.ritas_base.specs.Slots.{is_atomic}
use Rattle.ritas_base.specs.declared.plan.Plan.{Plan}
use Rattle.world_model.specs.declared.player.Player.{Player}
use Rattle.world_model.specs.declared.player.Player.TheVariants.{Correct, Face}
use Rattle.world_model.specs.Players.{Step, Give, Go, Carry, Throw}
use Rattle.schedule_plan.specs.Plans.{correct_of}
use Rattle.schedule_plan.specs.Inputs.{copies_of, copy_at}
use Rattle.schedule_plan.proofs.Planned.{some_correct}

-- fewer than a whole round behind a turn it is another's
apart : (m r d : ℕ) → 0 < d → d < m → r < m → (r + d) % m ≢ r
apart m r d some below first same = elim (cases_lt (r + d) m) [
  | inl within ↦ let here : r + d ≡ r = sym (mod-eq_of_lt within) ∙ same in absurd (omega (arith, here, some))
  | inr beyond ↦
      let left : r + d - m < m = omega (arith, beyond, below, first) in
      let whole : r + d ≡ m + (r + d - m) = omega (arith, beyond) in
      let here : r + d - m ≡ r = sym (ap (λ (x : ℕ). x % m) whole ∙ add-mod_left m (r + d - m) ∙ mod-eq_of_lt left) ∙ same in
      absurd (omega (arith, here, below, beyond))
]

turns_apart : (m k i j : ℕ) → i < j → j < m → (k + i) % m ≢ (k + j) % m
turns_apart m k i j order below same =
    let first = mod_below (k + i) m (omega (arith, below)) in
    let whole : k + j ≡ k + i + (j - i) = omega (arith, order) in
    apart m ((k + i) % m) (j - i) (omega (arith, order)) (omega (arith, order, below)) first
    (mod-add-mod (k + i) m (j - i) ∙ ap (λ (x : ℕ). x % m) (sym whole) ∙ sym same)

-- no more copies than correct replicas
few_copies : (p : Plan) → IsSession p.p → copies_of p ≤ correct_of p
few_copies p session = go (is_atomic p.mode.root)
  where
    go : (b : Bool) → (if b then min p.copies (correct_of p) else 1) ≤ correct_of p
    go true = omega arith
    go false = let some = (some_correct p session).0 in omega (arith, some)

-- to whom an input comes, where it comes to a correct replica
abbrev at_of : Player → ℕ
at_of (Correct i) = i
at_of (Face a) = 0

abbrev receiver : Step → ℕ
receiver (Give x value) = at_of x
receiver (Go x) = 0
receiver (Carry x y m) = 0
receiver (Throw from to rest) = 0

pub copies_law : (p : Plan) (k i j : ℕ) → IsSession p.p → i < j → j < copies_of p → copy_at p k i ≢ copy_at p k j
copies_law p k i j session order below same =
    let few = few_copies p session in
    turns_apart (correct_of p) k i j order (omega (arith, few, below)) (ap receiver same)
