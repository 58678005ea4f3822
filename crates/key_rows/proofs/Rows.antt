-- Texts of one more number.
use Rattle.std.specs.Prelude.{◌≡◌, ℕ, ◌+◌, List, [], ◌∷◌, ◌++◌}
use Rattle.std.specs.List.{flat_map, range_with_len}
use Rattle.std.proofs.Common.{zero, suc, sym, ◌∙◌, ap, arith}
use Rattle.std.proofs.lemmas.List.{flat_map_more}

range_more : (n a j : ℕ) → a + n ≡ j → range_with_len a (suc n) ≡ range_with_len a n ++ j ∷ []
range_more zero a j e = let same : a ≡ j = omega (arith, e) in ap (λ (k : ℕ). k ∷ []) same
range_more (suc n) a j e = ap (λ (l : List ℕ). a ∷ l) (range_more n (a + 1) j (omega (arith, e)))

-- the text of the number that follows
pub text_more : (text : ℕ → List ℕ) (n : ℕ) → flat_map text (range_with_len 0 (n + 1)) ≡ flat_map text (range_with_len 0 n) ++ text n
text_more text n =
    let next : n + 1 ≡ suc n = omega arith in
    rw next (ap (flat_map text) (range_more n 0 n (omega arith)) ∙ sym (flat_map_more text [] (range_with_len 0 n) n))
