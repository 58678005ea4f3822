-- Members of lists, by their test and by equality.
use Rattle.std.proofs.Common.{◌≡◌, ℕ, zero, suc, Bool, true, false, cond, List, [], ◌∷◌, ◌++◌, filter, reverse, Some, refl, sym, subst, inl, inr}
use Rattle.std.specs.List.{list_any, slice_get}
use Rattle.std.proofs.lemmas.List.{reverse-append}
use Rattle.std.specs.Str.{bytes_eq}
use Rattle.std.proofs.lemmas.Bool.{or_cases}
use Rattle.std.proofs.lemmas.Slice.Eq.{bytes_eq-Decides}
use Rattle.layer_api.specs.HasLaws.{has_either}
use Rattle.layer_api.specs.Runs.{Has}

pub bytes_listed : (frames : List (List ℕ)) (bytes : List ℕ) → list_any (bytes_eq bytes) frames ≡ true → Has frames bytes
bytes_listed [] bytes e = absurd (cc)
bytes_listed (x ∷ frames) bytes e = elim (or_cases (bytes_eq bytes x) (list_any (bytes_eq bytes) frames) e) [
  | inl here ↦ inl (sym ((bytes_eq-Decides bytes x).0 here))
  | inr there ↦ inr (bytes_listed frames bytes there)
]

has_kept : {X : Type 0} (test : X → Bool) (b : Bool) (y : X) (xs ys : List X) (x : X) → test y ≡ b → (Has ys x → Has xs x × (test x ≡ true)) →
    Has (cond b (y ∷ ys) ys) x → Has (y ∷ xs) x × (test x ≡ true)
has_kept test true y xs ys x passes rest (inl e) = (inl e, subst (λ z. test z ≡ true) e passes)
has_kept test true y xs ys x passes rest (inr there) = let more = rest there in (inr more.0, more.1)
has_kept test false y xs ys x passes rest there = let more = rest there in (inr more.0, more.1)

-- what passes is there, and passes
pub has_passing : {X : Type 0} (test : X → Bool) (xs : List X) (x : X) → Has (filter test xs) x → Has xs x × (test x ≡ true)
has_passing test [] x here = elim here [ ]
has_passing test (y ∷ xs) x here = has_kept test (test y) y xs (filter test xs) x refl (has_passing test xs x) here

-- what is in a reversed list, or at a place of one, is in the list
pub reverse_listed : {X : Type 0} (xs : List X) (x : X) → Has (reverse xs) x → Has xs x
reverse_listed [] x there = absurd there
reverse_listed {X} (y ∷ xs) x there =
    let split : reverse (y ∷ xs) ≡ reverse xs ++ y ∷ [] = reverse-append (y ∷ []) xs in
    elim (has_either (reverse xs) (y ∷ []) x (subst (λ (l : List X). Has l x) split there)) [
      | inl a ↦ inr (reverse_listed xs x a)
      | inr last ↦ elim last [ inl e ↦ inl e | inr none ↦ absurd none ]
    ]

pub got_listed : {X : Type 0} (xs : List X) (m : ℕ) (x : X) → slice_get xs m ≡ Some x → Has xs x
got_listed [] m x e = absurd cc
got_listed (y ∷ xs) zero x e = inl (let same : Some y ≡ Some x = e in cc)
got_listed (y ∷ xs) (suc m) x e = inr (got_listed xs m x e)
