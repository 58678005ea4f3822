-- The bytes of each peer's frames within the limit.
use Rattle.std.specs.Prelude.{◌≡◌, ℕ, ◌+◌, ◌<◌, ◌≤◌, nat_le, Bool, List, [], ◌∷◌, ◌++◌, length, slice_set, slice_index_or, Option, Some, None, refl}
use Rattle.std.proofs.Common.{sym, ap, subst, arith, inl, inr}
use Rattle.std.proofs.lemmas.Bool.{cases_Bool, cond-true, cond-false, leb-true, le-leb}
use Rattle.std.proofs.lemmas.List.Elements.{All-set}
use Rattle.std.proofs.lemmas.List.Sums.{sum_by-append, sum_by-cons}
use Rattle.link_resume.specs.declared.kept.Kept.{Kept}
use Rattle.link_resume.specs.Lanes.{AreWithin}
use Rattle.link_resume.specs.Lists.{bytes_in, IsWithin, room_within, room_for}

-- fewer bytes are within it too
pub fewer_within : (limit : Option ℕ) (a b : ℕ) → a ≤ b → IsWithin limit b → IsWithin limit a
fewer_within None a b less within = refl
fewer_within (Some most) a b less within = le-leb a most (omega (arith, less, leb-true b most within))

-- another list of one peer
pub one_within : (limit : Option ℕ) (lists : List (List Kept)) (peer : ℕ) (now : List Kept) → AreWithin limit lists → IsWithin limit (bytes_in now)
    → AreWithin limit (slice_set lists peer now)
one_within limit lists peer now all within = All-set (λ (kept : List Kept). IsWithin limit (bytes_in kept)) lists peer now within all

-- one that has no more bytes
pub less_within : (limit : Option ℕ) (lists : List (List Kept)) (peer : ℕ) (old now : List Kept) → AreWithin limit lists → peer < length lists
    → old ≡ slice_index_or lists peer old → bytes_in now ≤ bytes_in old → AreWithin limit (slice_set lists peer now)
less_within limit lists peer old now all here is less =
    one_within limit lists peer now all
    (fewer_within limit (bytes_in now) (bytes_in old) less (subst (λ (l : List Kept). IsWithin limit (bytes_in l)) (sym is) (all peer old here)))

room_is_less : (most size : ℕ) (xs : List Kept) → bytes_in (room_within most size xs) ≤ bytes_in xs
room_is_less most size [] = omega arith
room_is_less most size (x ∷ xs) =
    let whole : bytes_in (x ∷ xs) ≡ length x.frame + bytes_in xs = sum_by-cons (λ (y : Kept). length y.frame) x xs in
    let test : Bool = nat_le (bytes_in (x ∷ xs) + size) most in
    elim (cases_Bool test) [
      | inl fits ↦
          let e = ap bytes_in (cond-true test (x ∷ xs) (room_within most size xs) fits) in omega (arith, e)
      | inr full ↦
          let e = ap bytes_in (cond-false test (x ∷ xs) (room_within most size xs) full) in
          omega (arith, e, whole, room_is_less most size xs)
    ]

pub room_has_less : (limit : Option ℕ) (size : ℕ) (xs : List Kept) → bytes_in (room_for limit size xs) ≤ bytes_in xs
room_has_less None size xs = omega arith
room_has_less (Some most) size xs = room_is_less most size xs

pub push_bytes : (xs : List Kept) (k : Kept) → bytes_in (xs ++ k ∷ []) ≡ bytes_in xs + length k.frame
push_bytes xs k = let sum = sum_by-append (λ (y : Kept). length y.frame) xs (k ∷ []) in omega (arith, sum)
