-- The root services of atomic broadcast are two.
use Rattle.std.specs.Prelude.{◌≡◌, ℕ, true, ◌==◌}
use Rattle.std.proofs.Common.{sym, subst, inl, inr}
use Rattle.std.proofs.lemmas.Bool.{or_cases, eqb-true}
use Rattle.ritas_base.specs.Slots.{is_atomic}
use Rattle.layer_api.specs.Service.{Orders}
use Rattle.layer_api.specs.PurposeLaws.{order_of}
use Rattle.ordered_rounds.specs.Box.{RoundRules, RoundLaws}

-- what holds of both holds of each
pub by_root : (P : ℕ → Type 0) → P 6 → P 7 → (root : ℕ) → is_atomic root ≡ true → P root
by_root P six seven root atomic =
    elim (or_cases (root == 6) (root == 7) atomic) [ inl e ↦ subst P (sym (eqb-true root 6 e)) six | inr e ↦ subst P (sym (eqb-true root 7 e)) seven ]

-- that of rounds is one of them
pub atomic_root : (v : RoundRules) → RoundLaws v → is_atomic v.root ≡ true
atomic_root v laws = order_of v.root (Orders v.rounds) laws.purpose
