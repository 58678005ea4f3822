-- Reading bytes that came in pieces.
use Rattle.std.proofs.Common.{◌≡◌, ℕ, zero, suc, ◌+◌, ◌<◌, ◌≤◌, List, [], ◌∷◌, ◌++◌, length, take, drop, Ok, Err, refl, sym, ap, ◌∙◌, append_assoc, arith, inl, inr, length-append, length-take}
use Rattle.std.proofs.lemmas.Bool.{lt-ltb, le-ltb, cases_lt}
use Rattle.std.proofs.lemmas.List.{take_at, take-append-drop}
use Rattle.schedule_file.specs.declared.fault.FileFault.TheVariants.{Trailing, Truncated, TooLong}
use Rattle.schedule_file.specs.FileBytes.{limit, byte_at, bytes_at, end_at}
use Rattle.schedule_file.proofs.FileSpells.{bytes_spells}

-- a byte is there where the file should end
pub trailing_at : (at : ℕ) (bytes left : List ℕ) → 0 < length bytes → at < limit → end_at (record { at = at; rest = bytes ++ left }) ≡ Err (Trailing at)
unfolding end_at
trailing_at at [] left some low = absurd (omega arith)
trailing_at at (b ∷ bytes) left some low = rw (lt-ltb at limit low) refl

-- the front of a buffer whose part from i on was written
pub filled : (i k : ℕ) (xs ys post : List ℕ) → i ≤ length xs → k ≤ length ys → take (i + k) (take i xs ++ (ys ++ post)) ≡ take i xs ++ take k ys
filled i k xs ys post le fits =
    let parts : take i xs ++ (ys ++ post) ≡ (take i xs ++ take k ys) ++ (drop k ys ++ post) =
    ap (λ (t : List ℕ). take i xs ++ (t ++ post)) (sym (take-append-drop k ys)) ∙ simp append_assoc in
    let long : length (take i xs ++ take k ys) ≡ i + k =
    omega (arith, length-append (take i xs) (take k ys), length-take i xs, length-take k ys) in
    ap (take (i + k)) parts ∙ take_at (take i xs ++ take k ys) (drop k ys ++ post) (i + k) long

-- bytes that are held are read
pub held_read : (n at : ℕ) (bytes left : List ℕ) → n ≤ length bytes → at + n ≤ limit
    → bytes_at n (record { at = at; rest = bytes ++ left }) ≡ Ok (take n bytes, record { at = at + n; rest = drop n bytes ++ left })
held_read n at bytes left fits low =
    let long : length (take n bytes) ≡ n = omega (arith, length-take n bytes) in
    let whole : bytes ++ left ≡ take n bytes ++ (drop n bytes ++ left) = ap (λ (t : List ℕ). t ++ left) (sym (take-append-drop n bytes)) ∙ append_assoc (take n bytes) (drop n bytes) left in
    let read = (bytes_spells n).again at (take n bytes) (take n bytes) (drop n bytes ++ left) (refl, long) (omega (arith, long)) in
    rw (whole, read, long) refl

-- the file ends in the bytes
pub cut_short : (n at : ℕ) (rest : List ℕ) → length rest < n → at + length rest ≤ limit → bytes_at n (record { at = at; rest = rest }) ≡ Err (Truncated (at + length rest))
unfolding bytes_at byte_at
cut_short zero at rest few low = absurd (omega arith)
cut_short (suc n) at [] few low = let here : at + 0 ≡ at = omega arith in rw here refl
cut_short (suc n) at (b ∷ rest) few low =
    let below : at < limit = omega (arith, low) in
    let place : at + suc (length rest) ≡ at + 1 + length rest = omega arith in
    rw (lt-ltb at limit below, cut_short n (at + 1) rest (omega (arith, few)) (omega (arith, low)), place) refl

-- the bytes reach behind the limit
pub past_limit : (n at : ℕ) (rest : List ℕ) → at ≤ limit → limit < at + n → limit < at + length rest → bytes_at n (record { at = at; rest = rest }) ≡ Err TooLong
unfolding bytes_at byte_at
past_limit zero at rest within far long = absurd (omega arith)
past_limit (suc n) at [] within far long = absurd (omega (arith, long))
past_limit (suc n) at (b ∷ rest) within far long =
    elim (cases_lt at limit) [
      | inl below ↦ rw (lt-ltb at limit below, past_limit n (at + 1) rest (omega (arith, below)) (omega (arith, far)) (omega (arith, long))) refl
      | inr le ↦ rw (le-ltb at limit le) refl
    ]
