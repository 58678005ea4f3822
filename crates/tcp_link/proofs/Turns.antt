-- The clients that give a message in a turn are the first ones of all, or all where they are few.
use Rattle.std.proofs.Common.{◌≡◌, ◌≤◌, ℕ, Bool, true, false, nat_le, min, List, ◌++◌, length, take, drop, refl, arith}
use Rattle.std.proofs.lemmas.Bool.Decides.{nat_tests}
use Rattle.std.proofs.lemmas.List.{take-append-drop, take_all, drop_all}

few_due : {X : Type 0} (m : ℕ) (xs : List X) (is_few : Bool) → nat_le (length xs) m ≡ is_few → take (min (length xs) m) xs ≡ take m xs
few_due m xs true few =
    let short : length xs ≤ m = grind (arith, nat_tests, few) in
    let all : min (length xs) m ≡ length xs = omega (arith, short) in
    rw (all, take_all (length xs) xs (omega arith), take_all m xs short) refl
few_due m xs false many =
    let long : m ≤ length xs = grind (arith, nat_tests, many) in
    let some : min (length xs) m ≡ m = omega (arith, long) in
    rw some refl

few_left : {X : Type 0} (m : ℕ) (xs : List X) (is_few : Bool) → nat_le (length xs) m ≡ is_few → drop (min (length xs) m) xs ≡ drop m xs
few_left m xs true few =
    let short : length xs ≤ m = grind (arith, nat_tests, few) in
    let all : min (length xs) m ≡ length xs = omega (arith, short) in
    rw (all, drop_all (length xs) xs (omega arith), drop_all m xs short) refl
few_left m xs false many =
    let long : m ≤ length xs = grind (arith, nat_tests, many) in
    let some : min (length xs) m ≡ m = omega (arith, long) in
    rw some refl

pub due_in_turn : {X : Type 0} (m d : ℕ) (xs : List X) → take (min (length xs) m) xs ≡ take m (take d xs ++ drop d xs)
due_in_turn m d xs = rw (take-append-drop d xs) (few_due m xs (nat_le (length xs) m) refl)

pub left_in_turn : {X : Type 0} (m d : ℕ) (xs : List X) → drop (min (length xs) m) xs ≡ drop m (take d xs ++ drop d xs)
left_in_turn m d xs = rw (take-append-drop d xs) (few_left m xs (nat_le (length xs) m) refl)
