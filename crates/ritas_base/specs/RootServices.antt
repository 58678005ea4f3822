-- The root services and their numbers, from 1 to 7.
use Rattle.std.specs.Prelude.{◌≡◌, ℕ, Bool, true, false, ◌==◌, Option, Some, None, if◌then◌else◌, refl}
use Rattle.std.proofs.Common.{sym, ◌∙◌, ap}
use Rattle.std.proofs.lemmas.Bool.{eqb-true}
use Rattle.ritas_base.specs.declared.root_service.RootService.{RootService}
use Rattle.ritas_base.specs.declared.root_service.RootService.TheVariants.{Reliable, Echo, Binary, MultiValued, Vector, Atomic, Direct}

abbrev pub root_number : RootService → ℕ
root_number Reliable = 1
root_number Echo = 2
root_number Binary = 3
root_number MultiValued = 4
root_number Vector = 5
root_number Atomic = 6
root_number Direct = 7

-- the greatest number
abbrev pub most_root : ℕ
most_root = 7

-- the root service of a number
abbrev pub root_service : ℕ → Option RootService
root_service root =
    if root == 1 then Some Reliable
    else if root == 2 then Some Echo
    else if root == 3 then Some Binary
    else if root == 4 then Some MultiValued
    else if root == 5 then Some Vector
    else if root == 6 then Some Atomic
    else if root == 7 then Some Direct
    else None

-- ---- each has a number of its own

pub number_of_service : (s : RootService) → root_service (root_number s) ≡ Some s
number_of_service Reliable = refl
number_of_service Echo = refl
number_of_service Binary = refl
number_of_service MultiValued = refl
number_of_service Vector = refl
number_of_service Atomic = refl
number_of_service Direct = refl

-- and what has a service has its number
pub service_of_number : (root : ℕ) (s : RootService) → root_service root ≡ Some s → root ≡ root_number s
service_of_number root s e =
    go 1 Reliable refl (go 2 Echo refl (go 3 Binary refl (go 4 MultiValued refl (go 5 Vector refl (go 6 Atomic refl (go 7 Direct refl (λ q. absurd cc))))))) e
  where
    go : {rest : Option RootService} (k : ℕ) (x : RootService) → root_number x ≡ k → (rest ≡ Some s → root ≡ root_number s)
        → (if root == k then Some x else rest) ≡ Some s → root ≡ root_number s
    go {rest = rest} k x number later e = by_test (root == k) refl e
      where
        by_test : (b : Bool) → (root == k) ≡ b → (if b then Some x else rest) ≡ Some s → root ≡ root_number s
        by_test true here e = let same : x ≡ s = cc in eqb-true root k here ∙ (sym number ∙ ap root_number same)
        by_test false other e = later e
