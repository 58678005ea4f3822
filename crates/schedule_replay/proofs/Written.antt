-- Lines that are written one after the other.
use Rattle.std.proofs.Common.{◌≡◌, ℕ, zero, suc, ◌+◌, ◌≤◌, ◌<◌, Bool, true, false, cond, List, [], ◌∷◌, ◌++◌, filter, refl, sym, ap, ◌∙◌, append_assoc, inl, inr, arith}
use Rattle.std.specs.List.{flat_map, range_with_len}
use Rattle.std.proofs.lemmas.List.{append-nil}
use Rattle.std.proofs.lemmas.Bool.{cases_Bool, cond-true, cond-false}

-- one line more
pub lines_more : (line : ℕ → List ℕ) (n a j : ℕ) → a + n ≡ j → flat_map line (range_with_len a (suc n)) ≡ flat_map line (range_with_len a n) ++ line j
lines_more line zero a j e = let same : a ≡ j = omega (arith, e) in append-nil (line a) ∙ ap line same
lines_more line (suc n) a j e =
    let next : a + 1 + n ≡ j = omega (arith, e) in
    ap (λ (l : List ℕ). line a ++ l) (lines_more line n (a + 1) j next) ∙ sym (append_assoc (line a) (flat_map line (range_with_len (a + 1) n)) (line j))

pub lines_next : (line : ℕ → List ℕ) (n : ℕ) → flat_map line (range_with_len 0 (n + 1)) ≡ flat_map line (range_with_len 0 n) ++ line n
lines_next line n = let next : n + 1 ≡ suc n = omega arith in rw next (lines_more line n 0 n (omega arith))

-- a text that has the lines so far, and then the next one
pub written_next : (old before now : List ℕ) (line : ℕ → List ℕ) (n : ℕ) → before ≡ old ++ flat_map line (range_with_len 0 n) → now ≡ before ++ line n
    → now ≡ old ++ flat_map line (range_with_len 0 (n + 1))
written_next old before now line n so_far more =
    more ∙ (ap (λ (l : List ℕ). l ++ line n) so_far
    ∙ (append_assoc old (flat_map line (range_with_len 0 n)) (line n) ∙ ap (λ (l : List ℕ). old ++ l) (sym (lines_next line n))))

quiet_lines : (line : ℕ → List ℕ) (n a : ℕ) → ((j : ℕ) → a ≤ j → j < a + n → line j ≡ []) → flat_map line (range_with_len a n) ≡ []
quiet_lines line zero a quiet = refl
quiet_lines line (suc n) a quiet =
    rw (quiet a (omega arith) (omega arith)) (quiet_lines line n (a + 1) (λ j above below. quiet j (omega (arith, above)) (omega (arith, below))))

-- lines of which none comes from a place on
pub lines_end : (line : ℕ → List ℕ) (m k a : ℕ) → m ≤ k → ((j : ℕ) → a + m ≤ j → j < a + k → line j ≡ []) → flat_map line (range_with_len a k) ≡ flat_map line (range_with_len a m)
lines_end line zero k a le quiet = quiet_lines line k a (λ j above below. quiet j (omega (arith, above)) below)
lines_end line (suc m) zero a le quiet = absurd (omega (arith, le))
lines_end line (suc m) (suc k) a le quiet =
    ap (λ (l : List ℕ). line a ++ l) (lines_end line m k (a + 1) (omega (arith, le)) (λ j above below. quiet j (omega (arith, above)) (omega (arith, below))))

-- the lines of those that are chosen
abbrev pub chosen : (ℕ → Bool) → (ℕ → List ℕ) → ℕ → List ℕ
chosen p line j = cond (p j) (line j) []

pub chosen_in : (p : ℕ → Bool) (line : ℕ → List ℕ) (j : ℕ) → p j ≡ true → chosen p line j ≡ line j
chosen_in p line j passes = cond-true (p j) (line j) [] passes

pub chosen_out : (p : ℕ → Bool) (line : ℕ → List ℕ) (j : ℕ) → p j ≡ false → chosen p line j ≡ []
chosen_out p line j fails = cond-false (p j) (line j) [] fails

pub lines_chosen : (p : ℕ → Bool) (line : ℕ → List ℕ) (xs : List ℕ) → flat_map line (filter p xs) ≡ flat_map (chosen p line) xs
lines_chosen p line [] = refl
lines_chosen p line (x ∷ xs) =
    elim (cases_Bool (p x)) [
      | inl passes ↦
          ap (flat_map line) (cond-true (p x) (x ∷ filter p xs) (filter p xs) passes)
          ∙ (ap (λ (l : List ℕ). line x ++ l) (lines_chosen p line xs) ∙ ap (λ (l : List ℕ). l ++ flat_map (chosen p line) xs) (sym (cond-true (p x) (line x) [] passes)))
      | inr fails ↦
          ap (flat_map line) (cond-false (p x) (x ∷ filter p xs) (filter p xs) fails)
          ∙ (lines_chosen p line xs ∙ ap (λ (l : List ℕ). l ++ flat_map (chosen p line) xs) (sym (cond-false (p x) (line x) [] fails)))
    ]
