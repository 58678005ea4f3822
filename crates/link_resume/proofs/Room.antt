-- What is left where the oldest frames make room.
use Rattle.std.specs.Prelude.{◌≡◌, ℕ, ◌+◌, nat_le, true, false, List, [], ◌∷◌, refl}
use Rattle.std.proofs.Common.{sym, subst}
use Rattle.std.proofs.lemmas.Bool.{cond-true, cond-false}
use Rattle.link_resume.specs.declared.kept.Kept.{Kept}
use Rattle.link_resume.specs.Lists.{bytes_in, room_within}

-- where there is room all stay
pub all_fit : (most size : ℕ) (xs : List Kept) → nat_le (bytes_in xs + size) most ≡ true → room_within most size xs ≡ xs
all_fit most size [] fits = refl
all_fit most size (x ∷ xs) fits = cond-true (nat_le (bytes_in (x ∷ xs) + size) most) (x ∷ xs) (room_within most size xs) fits

-- where there is none the oldest goes
first_goes : (most size : ℕ) (x : Kept) (xs : List Kept) → nat_le (bytes_in (x ∷ xs) + size) most ≡ false
    → room_within most size (x ∷ xs) ≡ room_within most size xs
first_goes most size x xs full = cond-false (nat_le (bytes_in (x ∷ xs) + size) most) (x ∷ xs) (room_within most size xs) full

pub oldest_goes : (most size : ℕ) (x : Kept) (xs all : List Kept) → all ≡ x ∷ xs → nat_le (bytes_in all + size) most ≡ false
    → room_within most size xs ≡ room_within most size all
oldest_goes most size x xs all is full =
    rw is (sym (first_goes most size x xs (subst (λ (l : List Kept). nat_le (bytes_in l + size) most ≡ false) is full)))
