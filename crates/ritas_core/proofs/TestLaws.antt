-- Tests of two tests, and a fact for an outcome.
use Rattle.std.proofs.Common.{◌≡◌, Bool, true, false, ◌&&◌, ◌||◌, Result, Ok, Err, OnOk, OnErr, refl}

pub left_false : (a b : Bool) → (a || b) ≡ false → a ≡ false
left_false true b h = cc
left_false false b h = refl

pub right_false : (a b : Bool) → (a || b) ≡ false → b ≡ false
right_false true b h = cc
right_false false b h = h

pub left_true : (a b : Bool) → (a && b) ≡ true → a ≡ true
left_true true b h = refl
left_true false b h = cc

pub right_true : (a b : Bool) → (a && b) ≡ true → b ≡ true
right_true true b h = h
right_true false b h = cc

pub and_false : (a : Bool) → (a && false) ≡ false
and_false true = refl
and_false false = refl

pub or_flip : (a b : Bool) → (a || b) ≡ (b || a)
or_flip true true = refl
or_flip true false = refl
or_flip false true = refl
or_flip false false = refl

pub on_err_here : {A E P : Type 0} (r : Result A E) → P → OnErr r P
on_err_here (Ok x) p = tt
on_err_here (Err e) p = p

-- a fact for each outcome, from the equation that says which it is
pub on_ok_by : {A E P : Type 0} (r : Result A E) → ((x : A) → r ≡ Ok x → P) → OnOk r P
on_ok_by (Ok x) p = p x refl
on_ok_by (Err e) p = tt

pub on_err_by : {A E P : Type 0} (r : Result A E) → ((e : E) → r ≡ Err e → P) → OnErr r P
on_err_by (Ok x) p = tt
on_err_by (Err e) p = p e refl
