-- A length is read as it was written, and written as it was read.
use Rattle.std.proofs.Common.{◌≡◌, ℕ, zero, suc, ◌<◌, ◌≤◌, ◌^◌, List, [], ◌∷◌, ◌++◌, length, take, refl, arith}
use Rattle.std.proofs.lemmas.Nat.{be_bytes_2, be_bytes_4, from_be_bytes-to_be_bytes_2, from_be_bytes-to_be_bytes_4}
use Rattle.ritas_base.specs.Bytes.{IsBytes}
use Rattle.record_file.specs.Form.{width_of, length_in, length_text}
use Rattle.record_file.specs.declared.form.LengthWidth.{LengthWidth}
use Rattle.record_file.specs.declared.form.LengthWidth.TheVariants.{Two, Four}

pub length-length_text : (w : LengthWidth) (n : ℕ) → length (length_text w n) ≡ width_of w
length-length_text Two n = refl
length-length_text Four n = refl

pub length_in-length_text : (w : LengthWidth) (n : ℕ) (rest : List ℕ) → n < 256 ^ width_of w → length_in w (length_text w n ++ rest) ≡ n
length_in-length_text Two n rest lt = from_be_bytes-to_be_bytes_2 n lt
length_in-length_text Four n rest lt = from_be_bytes-to_be_bytes_4 n lt

two_fit : (a b : ℕ) → a < 256 → b < 256 → IsBytes (a ∷ b ∷ [])
two_fit a b lt_a lt_b zero = lt_a
two_fit a b lt_a lt_b (suc zero) = lt_b
two_fit a b lt_a lt_b (suc (suc i)) = omega arith

four_fit : (a b c d : ℕ) → a < 256 → b < 256 → c < 256 → d < 256 → IsBytes (a ∷ b ∷ c ∷ d ∷ [])
four_fit a b c d lt_a lt_b lt_c lt_d zero = lt_a
four_fit a b c d lt_a lt_b lt_c lt_d (suc zero) = lt_b
four_fit a b c d lt_a lt_b lt_c lt_d (suc (suc i)) = two_fit c d lt_c lt_d i

pub length_text-length_in : (w : LengthWidth) (bytes : List ℕ) → width_of w ≤ length bytes → IsBytes bytes → length_text w (length_in w bytes) ≡ take (width_of w) bytes
length_text-length_in Two [] le fits = absurd (omega (arith, le))
length_text-length_in Two (a ∷ []) le fits = absurd (omega (arith, le))
length_text-length_in Two (a ∷ b ∷ rest) le fits = be_bytes_2 (a ∷ b ∷ []) _ refl (two_fit a b (fits 0) (fits 1)) refl
length_text-length_in Four [] le fits = absurd (omega (arith, le))
length_text-length_in Four (a ∷ []) le fits = absurd (omega (arith, le))
length_text-length_in Four (a ∷ b ∷ []) le fits = absurd (omega (arith, le))
length_text-length_in Four (a ∷ b ∷ c ∷ []) le fits = absurd (omega (arith, le))
length_text-length_in Four (a ∷ b ∷ c ∷ d ∷ rest) le fits = be_bytes_4 (a ∷ b ∷ c ∷ d ∷ []) _ refl (four_fit a b c d (fits 0) (fits 1) (fits 2) (fits 3)) refl

pub length_in-below : (w : LengthWidth) (bytes : List ℕ) → IsBytes bytes → length_in w bytes < 256 ^ width_of w
length_in-below Two bytes fits = omega (arith, fits 0, fits 1)
length_in-below Four bytes fits = omega (arith, fits 0, fits 1, fits 2, fits 3)
