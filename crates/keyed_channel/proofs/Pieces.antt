-- A text that is fed in pieces, behind a pad.
use Rattle.std.specs.Prelude.{◌≡◌, ℕ, List, ◌++◌}
use Rattle.std.proofs.Common.{◌∙◌, ap, append_assoc}

pub pieces3 : (p a b c t : List ℕ) → a ++ b ++ c ≡ t → p ++ a ++ b ++ c ≡ p ++ t
pieces3 p a b c t same = ap (λ l. l ++ c) (append_assoc p a b) ∙ append_assoc p (a ++ b) c ∙ ap (λ l. p ++ l) same
