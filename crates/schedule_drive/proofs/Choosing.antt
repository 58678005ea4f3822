-- How many flags of a row are open, and which is the n-th.
use Rattle.std.proofs.Common.{◌≡◌, ℕ, zero, suc, ◌+◌, ◌<◌, ◌≤◌, Bool, true, false, not, List, [], ◌∷◌, ◌++◌, length, take, filter, map, cond, Option, Some, get_or, set, refl, sym, ◌∙◌, ap, if◌then◌else◌, add-one, arith}
use Rattle.std.proofs.Math.Bool.{beq}
use Rattle.std.specs.List.{slice_get}
use Rattle.schedule_drive.specs.Choices.{open_in, open_all, IsNth}

pub open_append : (xs ys : List Bool) → open_in (xs ++ ys) ≡ open_in xs + open_in ys
open_append [] ys = omega arith
open_append (true ∷ xs) ys = let more = open_append xs ys in omega (arith, more)
open_append (false ∷ xs) ys = open_append xs ys

pub open_most : (bs : List Bool) → open_in bs ≤ length bs
open_most [] = omega arith
open_most (true ∷ bs) = let more = open_most bs in omega (arith, more)
open_most (false ∷ bs) = let more = open_most bs in omega (arith, more)

pub turned_on : (bs : List Bool) (i : ℕ) (d : Bool) → i < length bs → get_or bs i d ≡ false → open_in (set bs i true) ≡ open_in bs + 1
turned_on [] i d below is = absurd (omega (arith, below))
turned_on (true ∷ bs) zero d below is = absurd cc
turned_on (false ∷ bs) zero d below is = omega arith
turned_on (true ∷ bs) (suc i) d below is = let more = turned_on bs i d (omega (arith, below)) is in omega (arith, more)
turned_on (false ∷ bs) (suc i) d below is = turned_on bs i d (omega (arith, below)) is

pub turned_off : (bs : List Bool) (i : ℕ) (d : Bool) → i < length bs → get_or bs i d ≡ true → open_in (set bs i false) + 1 ≡ open_in bs
turned_off [] i d below is = absurd (omega (arith, below))
turned_off (true ∷ bs) zero d below is = omega arith
turned_off (false ∷ bs) zero d below is = absurd cc
turned_off (true ∷ bs) (suc i) d below is = let more = turned_off bs i d (omega (arith, below)) is in omega (arith, more)
turned_off (false ∷ bs) (suc i) d below is = turned_off bs i d (omega (arith, below)) is

pub take_open : (bs : List Bool) (i : ℕ) (d : Bool) → i < length bs → get_or bs i d ≡ true → open_in (take (i + 1) bs) ≡ open_in (take i bs) + 1
take_open [] i d below is = absurd (omega (arith, below))
take_open (true ∷ bs) zero d below is = refl
take_open (false ∷ bs) zero d below is = absurd cc
take_open (true ∷ bs) (suc i) d below is = rw (add-one (suc i)) (let more = rw (add-one i) at (take_open bs i d (omega (arith, below)) is) in omega (arith, more))
take_open (false ∷ bs) (suc i) d below is = rw (add-one (suc i)) (rw (add-one i) at (take_open bs i d (omega (arith, below)) is))

pub take_shut : (bs : List Bool) (i : ℕ) (d : Bool) → i < length bs → get_or bs i d ≡ false → open_in (take (i + 1) bs) ≡ open_in (take i bs)
take_shut [] i d below is = absurd (omega (arith, below))
take_shut (true ∷ bs) zero d below is = absurd cc
take_shut (false ∷ bs) zero d below is = refl
take_shut (true ∷ bs) (suc i) d below is = rw (add-one (suc i)) (let more = rw (add-one i) at (take_shut bs i d (omega (arith, below)) is) in omega (arith, more))
take_shut (false ∷ bs) (suc i) d below is = rw (add-one (suc i)) (rw (add-one i) at (take_shut bs i d (omega (arith, below)) is))

-- ---- which choice that is

-- the n-th element that passes
first_kept : {X : Type 0} (x : X) (xs : List X) (n : ℕ) (b : Bool) → Some b ≡ Some true → n ≡ 0 → slice_get (cond b (x ∷ xs) xs) n ≡ Some x
first_kept x xs n true e none = ap (slice_get (x ∷ xs)) none
first_kept x xs n false e none = absurd cc

later_kept : {X : Type 0} (x : X) (xs : List X) (n k : ℕ) (o : Option X) (b : Bool) → n ≡ (if b then suc k else k) → slice_get xs k ≡ o → slice_get (cond b (x ∷ xs) xs) n ≡ o
later_kept x xs n k o true many e = ap (slice_get (x ∷ xs)) many ∙ e
later_kept x xs n k o false many e = ap (slice_get xs) many ∙ e

pub nth_kept : {X : Type 0} (test : X → Bool) (xs : List X) (n i : ℕ) → IsNth (map test xs) n i → slice_get (filter test xs) n ≡ slice_get xs i
nth_kept test [] n i is = refl
nth_kept test (x ∷ xs) n zero is = first_kept x (filter test xs) n (test x) is.is_open (sym is.before)
nth_kept test (x ∷ xs) n (suc i) is =
    later_kept x (filter test xs) n (open_in (take i (map test xs))) (slice_get xs i) (test x) (sym is.before)
    (nth_kept test xs (open_in (take i (map test xs))) i (record { is_open = is.is_open; before = refl }))

one_kept : {X : Type 0} (x : X) (xs : List X) (k : ℕ) (b : Bool) → k ≡ length xs → (if b then suc k else k) ≡ length (cond b (x ∷ xs) xs)
one_kept x xs k true e = ap suc e
one_kept x xs k false e = e

pub open_kept : {X : Type 0} (test : X → Bool) (xs : List X) → open_in (map test xs) ≡ length (filter test xs)
open_kept test [] = refl
open_kept test (x ∷ xs) = one_kept x (filter test xs) (open_in (map test xs)) (test x) (open_kept test xs)

-- ---- a flag is turned

other_flag : (a b : Bool) → not (beq a b) ≡ true → a ≡ not b
other_flag true true e = absurd cc
other_flag true false e = refl
other_flag false true e = refl
other_flag false false e = absurd cc

-- to open
pub now_open : (bs : List Bool) (i : ℕ) (flag old : Bool) → i < length bs → old ≡ get_or bs i old → not (beq old flag) ≡ true → flag ≡ true → open_in (set bs i flag) ≡ open_in bs + 1
now_open bs i flag old below read apart is =
    ap (λ b. open_in (set bs i b)) is ∙ turned_on bs i old below (sym read ∙ other_flag old flag apart ∙ ap not is)

-- and away from it
pub now_shut : (bs : List Bool) (i : ℕ) (flag old : Bool) → i < length bs → old ≡ get_or bs i old → not (beq old flag) ≡ true → flag ≡ false → open_in (set bs i flag) + 1 ≡ open_in bs
now_shut bs i flag old below read apart is =
    ap (λ b. open_in (set bs i b) + 1) is ∙ turned_off bs i old below (sym read ∙ other_flag old flag apart ∙ ap not is)

-- ---- some rows

pub take_all_open : (rows : List (List Bool)) (i : ℕ) (row : List Bool) → slice_get rows i ≡ Some row → open_all (take (i + 1) rows) ≡ open_all (take i rows) + open_in row
take_all_open [] i row is = absurd cc
take_all_open (first ∷ rows) zero row is = let here : Some first ≡ Some row = is in let e : first ≡ row = cc in let same = ap open_in e in omega (arith, same)
take_all_open (first ∷ rows) (suc i) row is =
    rw (add-one (suc i)) (let more = rw (add-one i) at (take_all_open rows i row is) in omega (arith, more))
