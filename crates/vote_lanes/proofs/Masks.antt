-- The mask of the rows so far, with one row more.
use Rattle.std.specs.Prelude.{◌≡◌, ◌≢◌, ℕ, ◌+◌, ◌*◌, ◌<◌, ◌≤◌, ◌%◌, ◌^◌, Bool, true, false, ◌==◌, ◌&&◌, nat_lt, List, bit_or, refl}
use Rattle.std.proofs.Common.{◌∙◌, sym, ap, inl, inr, arith}
use Rattle.std.specs.Int.{bit_at, w32}
use Rattle.std.proofs.lemmas.Bool.{cases_eq, eq-eqb, lt-ltb, le-ltb}
use Rattle.std.proofs.lemmas.Nat.Bits.{bit_at_set_same, bit_at_set_other}

-- the mask has exactly those places before n that pass
abbrev pub IsMaskBefore : (ℕ → Bool) → ℕ → ℕ → Type 0
IsMaskBefore passes n mask = (i : ℕ) → (bit_at mask i == 1) ≡ (nat_lt i n && passes i)

elsewhere : (passes : ℕ → Bool) (n i : ℕ) → i ≢ n → (nat_lt i n && passes i) ≡ (nat_lt i (n + 1) && passes i)
elsewhere passes n i other = ap (λ (b : Bool). b && passes i) (grind arith)

here : (passes : ℕ → Bool) (n i : ℕ) → i ≡ n → (nat_lt i (n + 1) && passes i) ≡ passes n
here passes n i same = ap (λ (b : Bool). b && passes i) (lt-ltb i (n + 1) (omega arith)) ∙ ap passes same

pub mask_with : (passes : ℕ → Bool) (n mask : ℕ) → n < 32 → passes n ≡ true → IsMaskBefore passes n mask
    → IsMaskBefore passes (n + 1) (bit_or mask (1 * 2 ^ n % 2 ^ 32))
mask_with passes n mask within named before i =
    elim (cases_eq i n) [
      | inl same ↦
          ap (λ (k : ℕ). bit_at (bit_or mask (1 * 2 ^ n % 2 ^ 32)) k == 1) same
          ∙ eq-eqb (bit_at (bit_or mask (1 * 2 ^ n % 2 ^ 32)) n) 1 (bit_at_set_same w32 mask n within)
          ∙ sym (here passes n i same ∙ named)
      | inr other ↦ ap (λ (b : ℕ). b == 1) (bit_at_set_other w32 mask n within i other) ∙ before i ∙ elsewhere passes n i other
    ]

none_before : (b : Bool) (n i : ℕ) → i ≡ n → (nat_lt i n && b) ≡ false
none_before b n i same = ap (λ (c : Bool). c && b) (le-ltb i n (omega arith))

pub mask_without : (passes : ℕ → Bool) (n mask : ℕ) → passes n ≡ false → IsMaskBefore passes n mask → IsMaskBefore passes (n + 1) mask
mask_without passes n mask unnamed before i =
    elim (cases_eq i n) [
      | inl same ↦ before i ∙ none_before (passes i) n i same ∙ sym (here passes n i same ∙ unnamed)
      | inr other ↦ before i ∙ elsewhere passes n i other
    ]
