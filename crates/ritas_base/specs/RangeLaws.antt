-- Numbers that follow one another.
use Rattle.std.specs.Prelude.{◌≡◌, ℕ, ◌+◌, List, [], ◌∷◌, ◌++◌}
use Rattle.std.proofs.Common.{ap, arith, zero, suc}
use Rattle.std.specs.List.{range_with_len}

-- one number more comes last
pub range_more : (a n j : ℕ) → a + n ≡ j → range_with_len a (suc n) ≡ range_with_len a n ++ j ∷ []
range_more a zero j e = let same : a ≡ j = omega (arith, e) in ap (λ (x : ℕ). x ∷ []) same
range_more a (suc n) j e = let next : a + 1 + n ≡ j = omega (arith, e) in ap (λ (l : List ℕ). a ∷ l) (range_more (a + 1) n j next)
