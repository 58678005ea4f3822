-- Lanes that are the same: their bytes differ nowhere, and two lists are the same where their fronts and their rests are.
use Rattle.std.specs.Prelude.{◌≡◌, ℕ, ◌+◌, ◌*◌, ◌%◌, ◌^◌, ◌≤◌, Bool, true, false, not, ◌==◌, ◌&&◌, cond, List, [], ◌∷◌, length, take, drop, map, refl}
use Rattle.std.proofs.Common.{◌∙◌, sym, ap, arith, zero, suc, w8, nat_eq}
use Rattle.std.specs.Str.{bytes_eq}
use Rattle.std.proofs.lemmas.Bool.{ne_eqb}
use Rattle.std.specs.Simd.Lanes.{zip2, mask_l, top}
use Rattle.std.proofs.lemmas.Simd.{mask_l-mod, tops_compared, length-zip2}

abbrev differ : ℕ → ℕ → Bool
differ a b = not (nat_eq a b)

even : (m : ℕ) (b : Bool) → (m == 0) ≡ b → (0 + 2 * m == 0) ≡ b
even zero b h = h
even (suc m) b h = ne_eqb (0 + 2 * suc m) 0 (λ e. omega arith) ∙ (sym (ne_eqb (suc m) 0 (λ e. omega arith)) ∙ h)

odd : (m : ℕ) → (1 + 2 * m == 0) ≡ false
odd m = ne_eqb (1 + 2 * m) 0 (λ e. omega arith)

by_first : (b rest : Bool) (m : ℕ) → (m == 0) ≡ rest → (cond (not b) 1 0 + 2 * m == 0) ≡ (b && rest)
by_first true rest m h = even m rest h
by_first false rest m h = odd m

none_differs : (xs ys : List ℕ) → length xs ≡ length ys → (mask_l (zip2 differ xs ys) == 0) ≡ bytes_eq xs ys
none_differs [] [] same = refl
none_differs [] (y ∷ ys) same = absurd (omega arith)
none_differs (x ∷ xs) [] same = absurd (omega arith)
none_differs (x ∷ xs) (y ∷ ys) same = by_first (nat_eq x y) (bytes_eq xs ys) (mask_l (zip2 differ xs ys)) (none_differs xs ys (omega arith))

-- no bit of `to_bitmask` of `simd_ne` is set exactly where the lanes are the same
pub same_lanes : (xs ys : List ℕ) → length xs ≡ 16 → length ys ≡ 16
    → (mask_l (map (top 7) (zip2 (λ a b. cond (differ a b) 255 0) xs ys)) % 2 ^ 64 == 0) ≡ bytes_eq xs ys
same_lanes xs ys long long2 =
    let same : length xs ≡ length ys = omega arith in
    ap (λ (ms : List Bool). mask_l ms % 2 ^ 64 == 0) (tops_compared w8 differ xs ys)
    ∙ ap (λ (m : ℕ). m == 0) (mask_l-mod (zip2 differ xs ys) 64 (omega (arith, length-zip2 differ xs ys same)))
    ∙ none_differs xs ys same

pub same_halves : (n : ℕ) (xs ys : List ℕ) → length xs ≡ length ys
    → (bytes_eq (take n xs) (take n ys) && bytes_eq (drop n xs) (drop n ys)) ≡ bytes_eq xs ys
same_halves zero xs ys same = refl
same_halves (suc n) [] [] same = refl
same_halves (suc n) [] (y ∷ ys) same = absurd (omega arith)
same_halves (suc n) (x ∷ xs) [] same = absurd (omega arith)
same_halves (suc n) (x ∷ xs) (y ∷ ys) same = and_first (nat_eq x y) _ _ _ (same_halves n xs ys (omega arith))
  where
    and_first : (b p q r : Bool) → (p && q) ≡ r → ((b && p) && q) ≡ (b && r)
    and_first true p q r h = h
    and_first false p q r h = refl
