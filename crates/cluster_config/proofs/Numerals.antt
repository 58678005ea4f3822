-- A numeral is a printed number.
use Rattle.std.proofs.Common.{◌≡◌, ◌↔◌, ℕ, zero, suc, ◌+◌, ◌-◌, ◌*◌, ◌^◌, ◌<◌, ◌≤◌, ◌==◌, Bool, true, false, nat_lt, List, [], ◌∷◌, length, get_or, Some, None, refl, sym, ◌∙◌, ap, arith, rules, if◌then◌else◌}
use Rattle.std.specs.Char.{is_ascii_digit}
use Rattle.std.specs.Fmt.{decimal}
use Rattle.std.specs.Str.{all_ascii_digits}
use Rattle.std.proofs.lemmas.Bool.{and_parts, ltb-true, lt-ltb, eqb-true, eq-eqb}
use Rattle.std.proofs.lemmas.Fmt.{decimal_digit, decimal-digits_value, digits_decimal, digits_value-decimal, first_decimal}
use Rattle.std.proofs.lemmas.Str.Parse.{IsNumeralModel, numerals_by_fold}
use Rattle.cluster_config.specs.Values.{number_from, numeral}
use Rattle.cluster_config.proofs.Fields.{empty_is}

abbrev read_on : ℕ → List ℕ → ℕ
read_on n [] = n
read_on n (b ∷ bs) = read_on (n * 10 + (b - 48)) bs

abbrev AreDigits : List ℕ → Type 0
AreDigits bs = all_ascii_digits bs ≡ true

own : IsNumeralModel AreDigits (read_on 0)
own = numerals_by_fold _ (search rules) read_on (search rules)

rises : (n : ℕ) (bs : List ℕ) → n ≤ read_on n bs
rises n [] = omega arith
rises n (b ∷ bs) = let more = rises (n * 10 + (b - 48)) bs in omega arith

-- ---- digits that are read
record AreRead (n : ℕ) (bs : List ℕ) (x : ℕ) : Type 0 where
  digits : AreDigits bs
  value : read_on n bs ≡ x
  fits : x < 2 ^ 64

digits_read : (n : ℕ) (bs : List ℕ) (x : ℕ) → n < 2 ^ 64 → number_from n bs ≡ Some x → AreRead n bs x
digits_read n [] x low e = let same : n ≡ x = cc in record { digits = refl; value = same; fits = omega arith }
digits_read n (b ∷ bs) x low e =
    go (λ within f. digits_read (n * 10 + (b - 48)) bs x within f) (is_ascii_digit b) refl (nat_lt (n * 10 + (b - 48)) (2 ^ 64)) refl e
  where
    go : (n * 10 + (b - 48) < 2 ^ 64 → number_from (n * 10 + (b - 48)) bs ≡ Some x → AreRead (n * 10 + (b - 48)) bs x)
        → (d : Bool) → is_ascii_digit b ≡ d → (l : Bool) → nat_lt (n * 10 + (b - 48)) (2 ^ 64) ≡ l
        → (if d then (if l then number_from (n * 10 + (b - 48)) bs else None) else None) ≡ Some x → AreRead n (b ∷ bs) x
    go others true is true within f =
        let more = others (ltb-true (n * 10 + (b - 48)) (2 ^ 64) within) f in
        record { digits = rw is more.digits; value = more.value; fits = more.fits }
    go others true is false within f = absurd cc
    go others false is l within f = absurd cc

digits_again : (n : ℕ) (bs : List ℕ) → AreDigits bs → read_on n bs < 2 ^ 64 → number_from n bs ≡ Some (read_on n bs)
digits_again n [] digits low = refl
digits_again n (b ∷ bs) digits low =
    let parts = and_parts (is_ascii_digit b) (all_ascii_digits bs) digits in
    let more = rises (n * 10 + (b - 48)) bs in
    let within : nat_lt (n * 10 + (b - 48)) (2 ^ 64) ≡ true = lt-ltb (n * 10 + (b - 48)) (2 ^ 64) (omega arith) in
    rw (parts.0, within) (digits_again (n * 10 + (b - 48)) bs parts.1 low)

-- ---- numerals
printed : (text : List ℕ) (n : ℕ) → numeral text ≡ Some n → (n < 2 ^ 64) × (text ≡ decimal n)
printed [] n e = absurd cc
printed (b ∷ bs) n e = go (b == 48) refl (length bs == 0) refl e
  where
    go : (z : Bool) → (b == 48) ≡ z → (l : Bool) → (length bs == 0) ≡ l → (if z then (if l then Some 0 else None) else number_from 0 (b ∷ bs)) ≡ Some n
        → (n < 2 ^ 64) × (b ∷ bs ≡ decimal n)
    go true is true alone f =
        let zeroed : 0 ≡ n = cc in
        let first : b ≡ 48 = eqb-true b 48 is in
        let nothing : bs ≡ [] = empty_is bs alone in
        let written : b ∷ bs ≡ decimal 0 = rw (first, nothing, decimal_digit 0 (omega arith)) refl in
        (omega arith, written ∙ ap decimal zeroed)
    go true is false alone f = absurd cc
    go false is l alone f =
        let read = digits_read 0 (b ∷ bs) n (omega arith) f in
        let leading : b ≡ 48 → length (b ∷ bs) ≡ 1 = λ first. let same : (b == 48) ≡ true = eq-eqb b 48 first in absurd (let both = sym is ∙ same in cc) in
        let within : read_on 0 (b ∷ bs) < 2 ^ 64 = omega (arith, read.value, read.fits) in
        let written : decimal (read_on 0 (b ∷ bs)) ≡ b ∷ bs = decimal-digits_value own (b ∷ bs) read.digits (omega arith) leading within in
        (read.fits, sym written ∙ ap decimal read.value)

record IsPrinted (text : List ℕ) (n : ℕ) : Type 0 where
  digits : AreDigits text
  value : read_on 0 text ≡ n
  first : 48 < get_or text 0 0

read_from : (text : List ℕ) (n : ℕ) → n < 2 ^ 64 → IsPrinted text n → numeral text ≡ Some n
read_from [] n low is = absurd (let first : 48 < 0 = is.first in omega arith)
read_from (b ∷ bs) n low is = go (b == 48) refl
  where
    go : (z : Bool) → (b == 48) ≡ z → (if z then (if length bs == 0 then Some 0 else None) else number_from 0 (b ∷ bs)) ≡ Some n
    go true same = absurd (let first : 48 < b = is.first in let zeroed = eqb-true b 48 same in omega arith)
    go false other = digits_again 0 (b ∷ bs) is.digits (omega (arith, is.value)) ∙ ap Some is.value

read : (text : List ℕ) (n : ℕ) → n < 2 ^ 64 → text ≡ decimal n → numeral text ≡ Some n
read text zero low same = rw (same, decimal_digit 0 (omega arith)) refl
read text (suc m) low same = read_from text (suc m) low (record {
  digits = rw same (digits_decimal own (suc m) low);
  value = rw same (digits_value-decimal own (suc m) low);
  first = rw same (first_decimal (suc m) (omega arith) low);
})

pub numeral_is : (text : List ℕ) (n : ℕ) → (numeral text ≡ Some n) ↔ ((n < 2 ^ 64) × (text ≡ decimal n))
numeral_is text n = (printed text n, λ is. read text n is.0 is.1)
