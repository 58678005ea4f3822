-- A command that wasn't delivered has no line.
use Rattle.std.proofs.Common.{◌≡◌, ℕ, List, [], Option, Some, None, true, refl}
use Rattle.std.specs.Option.{is_some}
use Rattle.schedule_replay.specs.Report.{out_line}

pub silent : (origin num : ℕ) (out : Option (List ℕ)) → (is_some out ≡ true → ⊥) → out_line origin num out ≡ []
silent origin num None not = refl
silent origin num (Some v) not = absurd (not refl)
