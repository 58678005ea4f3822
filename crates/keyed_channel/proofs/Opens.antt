-- What opens, by the tests that need no key and then by the tag.
use Rattle.std.specs.Prelude.{◌≡◌, ℕ, Bool, true, false, not, List, [], ◌∷◌, ◌++◌, Option, Some, None, Ok, Err, refl, if◌then◌else◌}
use Rattle.std.specs.Option.{option_or}
use Rattle.std.proofs.Common.{sym, ◌∙◌, ap}
use Rattle.keyed_channel.specs.KeyRow.{KeyRow}
use Rattle.ritas_base.specs.Places.{first_failed}
use Rattle.keyed_channel.specs.Frames.{plain_tests, is_tagged, plain_fault, opening, opening_but, Opening, opening_parts}
use Rattle.keyed_channel.specs.declared.frame.OpenFault.{OpenFault}
use Rattle.keyed_channel.specs.declared.frame.OpenFault.TheVariants.{Short, Long, Version, NotMine, NoSuchReplica, BadTag}

-- ---- the tests that need no key

abbrev pub five : Bool → Bool → Bool → Bool → Bool → Option OpenFault
five a b c d e = first_failed ((a, Short) ∷ (b, Long) ∷ (c, Version) ∷ (d, NotMine) ∷ (e, NoSuchReplica) ∷ [])

pub five_pass : (a b c d e : Bool) → a ≡ true → b ≡ true → c ≡ true → d ≡ true → e ≡ true → five a b c d e ≡ None
five_pass a b c d e pa pb pc pd pe = rw (pa, pb, pc, pd, pe)

pub too_long : (a b c d e : Bool) → a ≡ true → b ≡ false → five a b c d e ≡ Some Long
too_long a b c d e pa pb = rw (pa, pb)

-- ---- the test of the tag, behind them

abbrev last_test : Bool → Option OpenFault
last_test b = if b then None else Some BadTag

first_more : (tests : List (Bool × OpenFault)) (b : Bool) → first_failed (tests ++ (b, BadTag) ∷ []) ≡ option_or (first_failed tests) (last_test b)
first_more [] b = refl
first_more ((true, fault) ∷ tests) b = first_more tests b
first_more ((false, fault) ∷ tests) b = refl

by_tests : (k : KeyRow) (bytes : List ℕ) (plain : Option OpenFault) (b : Bool) → plain_fault k bytes ≡ plain → is_tagged k bytes ≡ b
    → opening k bytes ≡ opening_but (option_or plain (last_test b)) (opening_parts bytes)
unfolding opening
by_tests k bytes plain b p t =
    ap (λ o. opening_but o (opening_parts bytes))
    (first_more (plain_tests k bytes) (is_tagged k bytes) ∙ ap (λ o. option_or o (last_test (is_tagged k bytes))) p ∙ ap (λ x. option_or plain (last_test x)) t)

pub opening_plain : (k : KeyRow) (bytes : List ℕ) (fault : OpenFault) → plain_fault k bytes ≡ Some fault → opening k bytes ≡ Err fault
opening_plain k bytes fault p = by_tests k bytes (Some fault) (is_tagged k bytes) p refl

pub opening_untagged : (k : KeyRow) (bytes : List ℕ) → plain_fault k bytes ≡ None → is_tagged k bytes ≡ false → opening k bytes ≡ Err BadTag
opening_untagged k bytes p t = by_tests k bytes None false p t

pub opening_tagged : (k : KeyRow) (bytes : List ℕ) → plain_fault k bytes ≡ None → is_tagged k bytes ≡ true → opening k bytes ≡ Ok (opening_parts bytes)
opening_tagged k bytes p t = by_tests k bytes None true p t

-- what opened passed every test
abbrev WasOpened : KeyRow → List ℕ → Opening → Type 0
WasOpened k bytes o = (plain_fault k bytes ≡ None) × (is_tagged k bytes ≡ true) × (opening_parts bytes ≡ o)

was_opened : (k : KeyRow) (bytes : List ℕ) (o : Opening) (plain : Option OpenFault) (b : Bool) → plain_fault k bytes ≡ plain → is_tagged k bytes ≡ b
    → opening_but (option_or plain (last_test b)) (opening_parts bytes) ≡ Ok o → WasOpened k bytes o
was_opened k bytes o None true p t h = (p, t, cc)
was_opened k bytes o None false p t h = cc
was_opened k bytes o (Some fault) b p t h = cc

pub opening_ok : (k : KeyRow) (bytes : List ℕ) (o : Opening) → opening k bytes ≡ Ok o
    → (plain_fault k bytes ≡ None) × (is_tagged k bytes ≡ true) × (opening_parts bytes ≡ o)
opening_ok k bytes o h =
    was_opened k bytes o (plain_fault k bytes) (is_tagged k bytes) refl refl
    (sym (by_tests k bytes (plain_fault k bytes) (is_tagged k bytes) refl refl) ∙ h)

-- ---- what the code tests

pub false_from_not : (b x : Bool) → x ≡ not b → x ≡ true → b ≡ false
false_from_not true x e h = cc
false_from_not false x e h = refl

pub true_from_not : (b x : Bool) → x ≡ not b → x ≡ false → b ≡ true
true_from_not true x e h = refl
true_from_not false x e h = cc
